-- A node that was found at a place of a message. Assumes nothing.
use Rattle.std.proofs.Common.{◌≡◌, ℕ, ◌+◌, ◌-◌, ◌≤◌, List, length, get_or, take, drop, Some, None, Ok, Err, Result, IfOk, sym, refl, ap, ◌∙◌, subst, ⊎_elim, arith, length-take}
use Rattle.std.proofs.lemmas.List.{drop_all, drop-take, take-take, get_or-drop}
use Rattle.std.proofs.lemmas.Bool.{cases_lt}
use Rattle.std.proofs.lemmas.Result.{err_from_is_err_and}
use Rattle.std.specs.Result.{result_ok, IsErrAnd}
use Rattle.wire.specs.declared.field.Span.{Span}
use Rattle.wire.specs.Fields.{Piece, field_at, spanned}
use Rattle.wire.specs.Numbers.{form}
use Rattle.wire.specs.declared.fault.ReadFault.{ReadFault}
use Rattle.wire.specs.Refusals.{Refusal, refusal_of, reported, next}
use Rattle.wire.proofs.Fieldings.{fielded, field_back}
use Rattle.wire.proofs.Finding.{Found, found, not_ok}
use Rattle.nodes.specs.Kinds.{part}
use Rattle.directory.specs.Regions.{Front, front_of}

-- a field's text and what follows are the same wherever it stands
elsewhere : (t p q : ℕ) (bs : List ℕ) (x : Piece) → field_at t p bs ≡ Ok x → field_at t q bs ≡ Ok (record { text = x.text; place = q + 1 + length (form (length x.text)); rest = x.rest })
elsewhere t p q bs x e = let f = fielded t p bs x e in ap (field_at t q) f.bytes ∙ field_back t q x.text x.rest f.bound

-- and so is that there is none
no_field : (t p q : ℕ) (bs : List ℕ) (e : Refusal) → Err e ≡ spanned (field_at t p bs) → None ≡ result_ok (field_at t q bs)
no_field t p q bs e n = go (field_at t q bs) refl
  where
    go : (r : Result Piece Refusal) → field_at t q bs ≡ r → None ≡ result_ok r
    go (Err d) is = refl
    go (Ok x) is = absurd (not_ok (n ∙ ap spanned (elsewhere t q p bs x is)))

-- a field that was read under a tag
pub found_under : (t u p : ℕ) (m : List ℕ) (s : Span) → Ok s ≡ spanned (field_at u p (drop p m)) → u ≡ t → Found t p m s
found_under t u p m s e same = found t p m s (e ∙ ap (λ k. spanned (field_at k p (drop p m))) same)

-- the refusal that a `?` returns
pub refused_by : {A : Type 0} (r : Result A ReadFault) (f : ReadFault) → IsErrAnd r (λ e. e ≡ f) → r ≡ Err f
refused_by r f h = let p = err_from_is_err_and r h in p.1 ∙ ap Err p.2

-- what a reader of a span answered, as the span alone or nothing
pub read_none : (r : Result Span ReadFault) (x : Result Span Refusal) → None ≡ result_ok r → reported r ≡ x → (e : Refusal) × (Err e ≡ x)
read_none (Ok s) x n h = absurd (cc)
read_none (Err f) x n h = (refusal_of f, h)

pub read_some : (r : Result Span ReadFault) (x : Result Span Refusal) (s : Span) (P : Span → Type 0) → Some s ≡ result_ok r → reported r ≡ x → IfOk r P → (Ok s ≡ x) × P s
read_some (Ok t) x s P n h w = let same : t ≡ s = cc in (ap Ok (sym same) ∙ h, subst P same w)
read_some (Err f) x s P n h w = absurd (cc)

stopped : {A B : Type 0} (r : Result A Refusal) (f : A → Result B Refusal) → None ≡ result_ok r → None ≡ result_ok (next r f)
stopped (Err e) f n = refl
stopped (Ok x) f n = absurd (let z : ◌≡◌ {A = ℕ} 0 1 = cc in omega arith)

abbrev named : Piece → Result Front Refusal
named x = next (field_at 0x0A 0 x.text) (λ y. Ok (record { name = y.text; rest = x.rest }))

-- what is behind a place in a message that is cut
pub behind-cut : (m : List ℕ) (e p : ℕ) → drop p (take e m) ≡ take (e - p) (drop p m)
behind-cut m e p =
    ⊎_elim
    (λ h.
    let size = length-take e m in
    let none : e - p ≡ 0 = omega arith in
    drop_all p (take e m) (omega arith) ∙ sym (ap (λ n. take n (drop p m)) none))
    (λ h. let whole : e ≡ p + (e - p) = omega arith in ap (λ n. drop p (take n m)) whole ∙ drop-take p (e - p) m)
    (cases_lt e p)

-- a part of it is one of the whole
pub cut-part : (m : List ℕ) (e : ℕ) (s : Span) → s.end ≤ e → part (take e m) s ≡ part m s
cut-part m e s h = ap (take (s.end - s.start)) (behind-cut m e s.start) ∙ take-take (s.end - s.start) (e - s.start) (drop s.start m) (omega arith)

-- what goes on inside a field that was found, with where it ends and where its text is
pub in_field : {A : Type 0} (t p : ℕ) (m : List ℕ) (s : Span) → Found t p m s → (go : ℕ → ℕ → List ℕ → Result A Refusal)
    → next (field_at t p (drop p m)) (λ x. go (x.place + length x.text) x.place x.text) ≡ go s.end s.start (drop s.start (take s.end m))
in_field t p m s f go =
    ap (λ r. next r (λ x. go (x.place + length x.text) x.place x.text)) f.is ∙ (λ i. go (sym f.end i) (sym f.start i) (sym (behind-cut m s.end s.start ∙ f.text) i))

module _ (p : ℕ) (m : List ℕ) where
  tagged : front_of (drop p m) ≡ next (field_at (get_or m p 0) 0 (drop p m)) named
  tagged = let e : p + 0 ≡ p = omega arith in ap (λ t. next (field_at t 0 (drop p m)) named) (get_or-drop p m 0 0 ∙ ap (λ n. get_or m n 0) e)

  module _ (s : Span) (f : Found (get_or m p 0) p m s) where
    opened : front_of (drop p m) ≡ next (field_at 0x0A 0 (drop s.start (take s.end m))) (λ y. Ok (record { name = y.text; rest = drop s.end m }))
    opened =
        let body : drop s.start (take s.end m) ≡ f.piece.text = behind-cut m s.end s.start ∙ f.text in
        tagged ∙ ap (λ r. next r named) (elsewhere (get_or m p 0) p 0 (drop p m) f.piece f.is)
        ∙ (λ i. next (field_at 0x0A 0 (sym body i)) (λ y. Ok (record { name = y.text; rest = sym f.rest i })))

    pub nameless : (e : Refusal) → Err e ≡ spanned (field_at 0x0A s.start (drop s.start (take s.end m))) → None ≡ result_ok (front_of (drop p m))
    nameless e n =
        let body = drop s.start (take s.end m) in
        stopped (field_at 0x0A 0 body) (λ y. Ok (record { name = y.text; rest = drop s.end m })) (no_field 0x0A s.start 0 body e n) ∙ ap result_ok (sym opened)

    pub node_found : (n : Span) → Found 0x0A s.start (take s.end m) n → n.end ≤ s.end → Some (record { name = part m n; rest = drop s.end m }) ≡ result_ok (front_of (drop p m))
    node_found n g l =
        let body = drop s.start (take s.end m) in
        let text : g.piece.text ≡ part m n = sym g.text ∙ cut-part m s.end n l in
        sym (ap result_ok (opened ∙ ap (λ r. next r (λ y. Ok (record { name = y.text; rest = drop s.end m }))) (elsewhere 0x0A s.start 0 body g.piece g.is)
        ∙ (λ i. Ok (record { name = text i; rest = drop s.end m }))))
