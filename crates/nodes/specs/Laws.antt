-- What follows the name in a node and its bytes determine each other. Assumes nothing.
use Rattle.std.specs.Prelude.{◌≡◌, ℕ, zero, suc, ◌+◌, ◌-◌, ◌^◌, ◌<◌, ◌≤◌, Bool, true, false, cond, ◌&&◌, List, [], ◌∷◌, ◌++◌, length, drop, Ok, Err, Result, ◌==◌, nat_le, refl}
use Rattle.std.proofs.Common.{sym, ap, subst, ◌∙◌, append-nil, ⊎_elim, arith, length-append}
use Rattle.std.proofs.lemmas.List.{drop_all}
use Rattle.std.proofs.lemmas.Bool.{cases_eq, cond-true, cond-false, cond_both, and_parts, and_from, le-leb, leb-true, eq-eqb, eqb-true, ne_eqb}
use Rattle.digest.specs.Digests.{Value}
use Rattle.hash.specs.Text.{hash_of, text_of}
use Rattle.hash.proofs.Inverse.{text_length, text_is_read_back, text_is_the_only_one}
use Rattle.texts.specs.Names.{is_target}
use Rattle.texts.specs.Utf8.{is_text}
use Rattle.wire.specs.Fields.{Piece, field_at, field_bytes}
use Rattle.wire.specs.Numbers.{form, number_at}
use Rattle.wire.specs.Refusals.{Refusal, refused, next}
use Rattle.wire.proofs.Fieldings.{went_on, passed, numbered, number_back, fielded, field_back}
use Rattle.wire.proofs.Finding.{not_ok, same_ok}
use Rattle.wire.proofs.Forms.{form-length}
use Rattle.nodes.specs.Digests.{size_then, hash_then, digest_at, digest_bytes}
use Rattle.nodes.specs.Endings.{ended, bounded, last_number, last_bytes}
use Rattle.nodes.specs.Kinds.{FileValue, file_reads, file_writes, directory_reads, directory_writes, target_at, judged_target, link_reads, link_finds, link_writes, SoundDigest, SoundFile, SoundLink}

pub ended_all : {A : Type 0} (v : A) (p : ℕ) (rest : List ℕ) (x : A) → ended v p rest ≡ Ok x → (rest ≡ []) × (v ≡ x)
ended_all v p [] x e = (refl, same_ok e)
ended_all v p (b ∷ bs) x e = absurd (not_ok e)

-- a link

pub link_accepts : (p : ℕ) (bs x : List ℕ) → link_reads p bs ≡ Ok x → (link_writes x ≡ bs) × SoundLink x
link_accepts p bs x e =
    let field = went_on (field_at 0x12 p bs) judged_target x e in
    let y = field.0 in
    let text = passed (is_text y.text) _ _ x field.2 in
    let target = passed (is_target y.text) _ _ x text.1 in
    let end = ended_all y.text (y.place + length y.text) y.rest x target.1 in
    let whole : link_writes y.text ≡ bs = sym (append-nil (link_writes y.text)) ∙ ap (λ l. link_writes y.text ++ l) (sym end.0) ∙ sym (fielded 0x12 p bs y field.1).bytes in
    subst (λ t. (link_writes t ≡ bs) × SoundLink t) end.1 (whole, (text.0, target.0))

judged_then : (text target : Bool) (p : ℕ) (r : Result (List ℕ) Refusal)
    → cond text (cond target r (refused 19 p)) (refused 15 p) ≡ next {A = Unit {0}} (cond text (cond target (Ok tt) (refused 19 p)) (refused 15 p)) (λ _. r)
judged_then true true p r = refl
judged_then true false p r = refl
judged_then false target p r = refl

-- a target is judged before the end behind it
pub judged_target_is : (x : Piece) → judged_target x ≡ next (target_at x.place x.text) (λ _. ended x.text (x.place + length x.text) x.rest)
judged_target_is x = judged_then (is_text x.text) (is_target x.text) x.place (ended x.text (x.place + length x.text) x.rest)

-- the field of any target, alone
link_field : (p : ℕ) (t : List ℕ) → length t < 2 ^ 63 → field_at 0x12 p (link_writes t) ≡ Ok (record { text = t; place = p + 1 + length (form (length t)); rest = [] })
link_field p t h = ap (field_at 0x12 p) (sym (append-nil (link_writes t))) ∙ field_back 0x12 p t [] h

pub link_judges : (p : ℕ) (t : List ℕ) → length t < 2 ^ 63 → link_reads p (link_writes t) ≡ next (target_at (p + 1 + length (form (length t))) t) (λ _. Ok t)
link_judges p t h = ap (λ r. next r judged_target) (link_field p t h) ∙ judged_target_is (record { text = t; place = p + 1 + length (form (length t)); rest = [] })

target_fits : (x : List ℕ) → SoundLink x → length x < 2 ^ 63
target_fits x s =
    let sizes = and_parts (nat_le 1 (length x) && nat_le (length x) 4096) _ s.1 in
    let short = leb-true (length x) 4096 (and_parts (nat_le 1 (length x)) _ sizes.0).1 in
    omega arith

pub link_returns : (p : ℕ) (x : List ℕ) → SoundLink x → link_reads p (link_writes x) ≡ Ok x
link_returns p x s = link_judges p x (target_fits x s) ∙ ap (λ r. next r (λ _. Ok x)) (cond-true (is_text x) _ _ s.0 ∙ cond-true (is_target x) _ _ s.1)

pub link_kept : (p : ℕ) (bs x : List ℕ) → link_reads p bs ≡ Ok x → link_finds p bs ≡ Ok x
link_kept p bs x e =
    let wrote = link_accepts p bs x e in
    ap (link_finds p) (sym wrote.0) ∙ ap (λ r. next r (λ y. Ok y.text)) (link_field p x (target_fits x wrote.1))

-- a last number

last_accepts : (tag most p : ℕ) (bs : List ℕ) (n : ℕ) → last_number tag most p bs ≡ Ok n → (last_bytes tag n ≡ bs) × (n ≤ most)
last_accepts tag most p [] n e = let z : 0 ≡ n = same_ok e in (cond-true (n == 0) _ _ (eq-eqb n 0 (sym z)), omega arith)
last_accepts tag most p (b ∷ bs) n e =
    let tagged = passed (b == tag) _ _ n e in
    let number = went_on (number_at (p + 1) bs) (bounded most (p + 1) bs) n tagged.1 in
    let m = number.0.0 in
    let k = number.0.1 in
    let inside = passed (nat_le 1 m && nat_le m most) _ _ n number.2 in
    let tests = and_parts (nat_le 1 m) (nat_le m most) inside.0 in
    let low = leb-true 1 m tests.0 in
    let high = leb-true m most tests.1 in
    let end = ended_all m (p + 1 + k) (drop k bs) n inside.1 in
    let whole : form m ≡ bs = sym (append-nil (form m)) ∙ ap (λ l. form m ++ l) (sym end.0) ∙ sym (numbered (p + 1) bs number.0 number.1).2 in
    let some : m ≡ 0 → ⊥ = λ z. omega arith in
    let bytes : last_bytes tag m ≡ b ∷ bs = cond-false (m == 0) _ _ (ne_eqb m 0 some) ∙ (λ i. sym (eqb-true b tag tagged.0) i ∷ whole i) in
    subst (λ j. (last_bytes tag j ≡ b ∷ bs) × (j ≤ most)) end.1 (bytes, high)

last_returns : (tag most p n : ℕ) → n ≤ most → most < 2 ^ 63 → last_number tag most p (last_bytes tag n) ≡ Ok n
last_returns tag most p n high fits =
    ⊎_elim
    (λ z. ap (last_number tag most p) (cond-true (n == 0) _ _ (eq-eqb n 0 z)) ∙ ap Ok (sym z))
    (λ some.
    ap (last_number tag most p) (cond-false (n == 0) _ _ (ne_eqb n 0 some))
    ∙ cond-true (tag == tag) _ _ (eq-eqb tag tag refl)
    ∙ ap (λ r. next r (bounded most (p + 1) (form n))) (ap (number_at (p + 1)) (sym (append-nil (form n))) ∙ number_back (p + 1) n [] (omega arith))
    ∙ cond-true (nat_le 1 n && nat_le n most) _ _ (and_from _ _ (le-leb 1 n (omega arith)) (le-leb n most high))
    ∙ ap (ended n (p + 1 + length (form n))) (drop_all (length (form n)) (form n) (omega arith)))
    (cases_eq n 0)

pub last_length : (tag n : ℕ) → length (last_bytes tag n) ≤ 11
last_length tag n = cond_both (n == 0) _ _ (λ l. length l ≤ 11) (λ none. omega arith) (λ some. omega (arith, form-length n))

-- a Digest message

sized : (x : Piece) (h : Result (List ℕ) ℕ) (v : Value) → size_then x h ≡ Ok v → (h ≡ Ok v.hash) × (last_number 0x10 (2 ^ 63 - 1) (x.place + length x.text) x.rest ≡ Ok v.size)
sized x (Err n) v e = absurd (not_ok e)
sized x (Ok ws) v e =
    let last = went_on (last_number 0x10 (2 ^ 63 - 1) (x.place + length x.text) x.rest) _ v e in
    let same = same_ok last.2 in
    (ap (λ w. Ok w.hash) same, last.1 ∙ ap (λ w. Ok w.size) same)

digest_accepts : (p : ℕ) (bs : List ℕ) (v : Value) → digest_at p bs ≡ Ok v → (digest_bytes v ≡ bs) × SoundDigest v
digest_accepts p bs v e =
    let field = went_on (field_at 0x0A p bs) hash_then v e in
    let x = field.0 in
    let parts = sized x (hash_of x.text) v field.2 in
    let text = text_is_the_only_one x.text v.hash parts.0 in
    let last = last_accepts 0x10 (2 ^ 63 - 1) (x.place + length x.text) x.rest v.size parts.1 in
    let most = last.1 in
    ((λ i. field_bytes 0x0A (text.1 i) ++ last.0 i) ∙ sym (fielded 0x0A p bs x field.1).bytes, (text.0, omega arith))

module _ (v : Value) (s : SoundDigest v) where
  digest_returns : (p : ℕ) → digest_at p (digest_bytes v) ≡ Ok v
  digest_returns p =
      let text = text_of v.hash in
      let long = text_length v.hash s.0 in
      let size = s.1 in
      let x : Piece = record { text = text; place = p + 1 + length (form (length text)); rest = last_bytes 0x10 v.size } in
      ap (λ r. next r hash_then) (field_back 0x0A p text (last_bytes 0x10 v.size) (omega arith))
      ∙ ap (size_then x) (text_is_read_back v.hash s.0)
      ∙ ap (λ r. next r (λ n. Ok (record { hash = v.hash; size = n }))) (last_returns 0x10 (2 ^ 63 - 1) (x.place + length text) v.size (omega arith) (omega arith))

  digest_fits : length (digest_bytes v) < 2 ^ 63
  digest_fits =
      let text = text_of v.hash in
      let long = text_length v.hash s.0 in
      let number = form-length (length text) in
      let last = last_length 0x10 v.size in
      let whole = length-append (field_bytes 0x0A text) (last_bytes 0x10 v.size) in
      omega (arith, length-append (form (length text)) text)

  -- a field of such a message, and what goes on behind it
  nested : {A : Type 0} (g : ℕ → List ℕ → Value → Result A Refusal) (p : ℕ) (rest : List ℕ)
      → next (field_at 0x12 p (field_bytes 0x12 (digest_bytes v) ++ rest)) (λ x. next (digest_at x.place x.text) (g (x.place + length x.text) x.rest))
      ≡ g (p + 1 + length (form (length (digest_bytes v))) + length (digest_bytes v)) rest v
  nested g p rest =
      let at = p + 1 + length (form (length (digest_bytes v))) in
      ap (λ r. next r (λ x. next (digest_at x.place x.text) (g (x.place + length x.text) x.rest))) (field_back 0x12 p (digest_bytes v) rest digest_fits)
      ∙ ap (λ r. next r (g (at + length (digest_bytes v)) rest)) (digest_returns at)

-- a directory

pub directory_accepts : (p : ℕ) (bs : List ℕ) (v : Value) → directory_reads p bs ≡ Ok v → (directory_writes v ≡ bs) × SoundDigest v
directory_accepts p bs v e =
    let field = went_on (field_at 0x12 p bs) _ v e in
    let x = field.0 in
    let digest = went_on (digest_at x.place x.text) _ v field.2 in
    let end = ended_all digest.0 (x.place + length x.text) x.rest v digest.2 in
    let d = digest_accepts x.place x.text v (digest.1 ∙ ap Ok end.1) in
    (sym (append-nil (directory_writes v)) ∙ (λ i. field_bytes 0x12 (d.0 i) ++ sym end.0 i) ∙ sym (fielded 0x12 p bs x field.1).bytes, d.1)

pub directory_returns : (p : ℕ) (v : Value) → SoundDigest v → directory_reads p (directory_writes v) ≡ Ok v
directory_returns p v s = ap (directory_reads p) (sym (append-nil (directory_writes v))) ∙ nested v s (λ q bs w. ended w q bs) p []

-- a file

marked : (n : ℕ) → n ≤ 1 → cond (n == 1) (0x20 ∷ 0x01 ∷ []) [] ≡ last_bytes 0x20 n
unfolding form
marked zero h = refl
marked (suc zero) h = refl
marked (suc (suc n)) h = absurd (omega arith)

pub file_accepts : (p : ℕ) (bs : List ℕ) (v : FileValue) → file_reads p bs ≡ Ok v → (file_writes v ≡ bs) × SoundFile v
file_accepts p bs v e =
    let field = went_on (field_at 0x12 p bs) _ v e in
    let x = field.0 in
    let digest = went_on (digest_at x.place x.text) _ v field.2 in
    let last = went_on (last_number 0x20 1 (x.place + length x.text) x.rest) _ v digest.2 in
    let d = digest_accepts x.place x.text digest.0 digest.1 in
    let l = last_accepts 0x20 1 (x.place + length x.text) x.rest last.0 last.1 in
    let mark : cond (last.0 == 1) (0x20 ∷ 0x01 ∷ []) [] ≡ x.rest = marked last.0 l.1 ∙ l.0 in
    subst (λ w. (file_writes w ≡ bs) × SoundFile w) (same_ok last.2) ((λ i. field_bytes 0x12 (d.0 i) ++ mark i) ∙ sym (fielded 0x12 p bs x field.1).bytes, d.1)

pub file_returns : (p : ℕ) (v : FileValue) → SoundFile v → file_reads p (file_writes v) ≡ Ok v
file_returns p v s = go v.executable
  where
    back : (n : ℕ) → n ≤ 1 → file_reads p (file_writes (record { digest = v.digest; executable = (n == 1) })) ≡ Ok (record { digest = v.digest; executable = (n == 1) })
    back n h =
        ap (λ l. file_reads p (field_bytes 0x12 (digest_bytes v.digest) ++ l)) (marked n h)
        ∙ nested v.digest s (λ q bs w. next (last_number 0x20 1 q bs) (λ n. Ok (record { digest = w; executable = (n == 1) }))) p (last_bytes 0x20 n)
        ∙ ap (λ r. next r (λ n. Ok (record { digest = v.digest; executable = (n == 1) }))) (last_returns 0x20 1 _ n h (omega arith))

    go : (b : Bool) → file_reads p (file_writes (record { digest = v.digest; executable = b })) ≡ Ok (record { digest = v.digest; executable = b })
    go true = back 1 (omega arith)
    go false = back 0 (omega arith)
