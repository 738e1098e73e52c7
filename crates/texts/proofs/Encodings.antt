-- The nine patterns are those of UTF-8. Assumes nothing.
use Rattle.std.proofs.Common.{◌≡◌, ℕ, zero, suc, ◌+◌, ◌-◌, ◌*◌, ◌/◌, ◌%◌, ◌<◌, ◌≤◌, true, leb, ◌⊎◌, List, [], ◌∷◌, ◌++◌, length, IsUtf8, sym, refl, subst, inl, inr, ⊎_elim, arith}
use lib.Utf8.{scalar, scalars, scalar_cases, encode, encodes}
use Rattle.std.proofs.str.Laws.{Follows, one, two, three, four}
use Rattle.std.proofs.str.Valid.{of_one, of_two, of_three, of_four}
use Rattle.std.proofs.lemmas.Bool.{false≢true, cases_lt, cases_eq, and_parts, leb-true, cond_both}
use Rattle.std.proofs.lemmas.Str.{IsUtf8-append, IsUtf8-nil}
use Rattle.std.proofs.lemmas.Bool.Decides.{nat_tests}
use Rattle.texts.specs.Utf8.{range, Due, behind, goes_on, is_text, TextsAreUtf8}

-- what the first byte says of what is due
data Lead (a : ℕ) : ℕ → ℕ → ℕ → Type 0 where
  single : a < 128 → Lead a 0 0x80 0xBF
  double : (194 ≤ a) × (a < 224) → Lead a 1 0x80 0xBF
  triple : {low high : ℕ} → (224 ≤ a) × (a < 240) → (a ≡ 224 → 160 ≤ low) → (a ≡ 237 → high < 160) → 128 ≤ low → high < 192 → Lead a 2 low high
  quadruple : {low high : ℕ} → (240 ≤ a) × (a < 245) → (a ≡ 240 → 144 ≤ low) → (a ≡ 244 → high < 144) → 128 ≤ low → high < 192 → Lead a 3 low high
  none : Lead a 1 1 0

in_range : (low high b : ℕ) → range low high b ≡ true → (low ≤ b) × (b ≤ high)
in_range low high b e = let p = and_parts (leb low b) (leb b high) e in (leb-true low b p.0, leb-true b high p.1)

follows : (b : ℕ) → range 0x80 0xBF b ≡ true → Follows b
follows b e = let p = in_range 0x80 0xBF b e in (p.0, omega arith)

module _ (a : ℕ) where
  abbrev Leads : Due → Type 0
  Leads d = Lead a d.count d.low d.high

  lead : Leads (behind a)
  lead =
      cond_both (range 0x00 0x7F a) _ _ Leads (λ e. let i = in_range 0x00 0x7F a e in single (omega arith))
      (λ _. cond_both (range 0xC2 0xDF a) _ _ Leads (λ e. let i = in_range 0xC2 0xDF a e in double (omega arith, omega arith))
      (λ _. cond_both (range 0xE0 0xE0 a) _ _ Leads (λ e. let i = in_range 0xE0 0xE0 a e in triple (omega arith, omega arith) (λ z. omega arith) (λ z. omega arith) (omega arith) (omega arith))
      (λ _. cond_both (range 0xE1 0xEC a) _ _ Leads (λ e. let i = in_range 0xE1 0xEC a e in triple (omega arith, omega arith) (λ z. omega arith) (λ z. omega arith) (omega arith) (omega arith))
      (λ _. cond_both (range 0xED 0xED a) _ _ Leads (λ e. let i = in_range 0xED 0xED a e in triple (omega arith, omega arith) (λ z. omega arith) (λ z. omega arith) (omega arith) (omega arith))
      (λ _. cond_both (range 0xEE 0xEF a) _ _ Leads (λ e. let i = in_range 0xEE 0xEF a e in triple (omega arith, omega arith) (λ z. omega arith) (λ z. omega arith) (omega arith) (omega arith))
      (λ _. cond_both (range 0xF0 0xF0 a) _ _ Leads (λ e. let i = in_range 0xF0 0xF0 a e in quadruple (omega arith, omega arith) (λ z. omega arith) (λ z. omega arith) (omega arith) (omega arith))
      (λ _. cond_both (range 0xF1 0xF3 a) _ _ Leads (λ e. let i = in_range 0xF1 0xF3 a e in quadruple (omega arith, omega arith) (λ z. omega arith) (λ z. omega arith) (omega arith) (omega arith))
      (λ _. cond_both (range 0xF4 0xF4 a) _ _ Leads (λ e. let i = in_range 0xF4 0xF4 a e in quadruple (omega arith, omega arith) (λ z. omega arith) (λ z. omega arith) (omega arith) (omega arith))
      (λ _. none)))))))))

-- a character, and what stands behind it
record Split (bs : List ℕ) : Type 0 where
  char : List ℕ
  rest : List ℕ
  whole : IsUtf8 char
  parts : char ++ rest ≡ bs
  shorter : length rest < length bs
  text : goes_on rest 0 0x80 0xBF ≡ true

split : (a : ℕ) (bs : List ℕ) {n low high : ℕ} → Lead a n low high → goes_on bs n low high ≡ true → Split (a ∷ bs)
split a bs (single h) e = record { char = a ∷ []; rest = bs; whole = of_one (a ∷ []) 0 (omega arith) h; parts = refl; shorter = omega arith; text = e }
split a [] (double h) e = absurd (false≢true e)
split a (b ∷ bs) (double h) e =
    let p = and_parts (range 0x80 0xBF b) _ e in
    let whole = of_two (a ∷ b ∷ []) 0 (omega arith) h (follows b p.0) in
    record { char = a ∷ b ∷ []; rest = bs; whole = whole; parts = refl; shorter = omega arith; text = p.1 }
split a [] (triple h p q f g) e = absurd (false≢true e)
split a (b ∷ []) (triple h p q f g) e = absurd (false≢true (and_parts (range _ _ b) _ e).1)
split a (b ∷ c ∷ bs) (triple {low} {high} h p q f g) e =
    let r = and_parts (range low high b) _ e in
    let t = and_parts (range 0x80 0xBF c) _ r.1 in
    let i = in_range low high b r.0 in
    let v = (a - 224) * 4096 + (b - 128) * 64 + (c - 128) in
    let j = follows c t.0 in
    let large : 2048 ≤ v = ⊎_elim (λ z. let k = p z in omega arith) (λ z. omega arith) (cases_eq a 224) in
    let no_surrogate : (v < 55296) ⊎ (57344 ≤ v) =
    ⊎_elim (λ z. inl (let k = q z in omega arith)) (λ z. ⊎_elim (λ l. inl (omega arith)) (λ l. inr (omega arith)) (cases_lt a 237)) (cases_eq a 237) in
    let whole = of_three (a ∷ b ∷ c ∷ []) 0 (omega arith) h (omega arith, omega arith) j large no_surrogate in
    record { char = a ∷ b ∷ c ∷ []; rest = bs; whole = whole; parts = refl; shorter = omega arith; text = t.1 }
split a [] (quadruple h p q f g) e = absurd (false≢true e)
split a (b ∷ []) (quadruple h p q f g) e = absurd (false≢true (and_parts (range _ _ b) _ e).1)
split a (b ∷ c ∷ []) (quadruple h p q f g) e = absurd (false≢true (and_parts (range 0x80 0xBF c) _ (and_parts (range _ _ b) _ e).1).1)
split a (b ∷ c ∷ d ∷ bs) (quadruple {low} {high} h p q f g) e =
    let r = and_parts (range low high b) _ e in
    let t = and_parts (range 0x80 0xBF c) _ r.1 in
    let u = and_parts (range 0x80 0xBF d) _ t.1 in
    let i = in_range low high b r.0 in
    let v = (a - 240) * 64 + (b - 128) in
    let large : 16 ≤ v = ⊎_elim (λ z. let k = p z in omega arith) (λ z. omega arith) (cases_eq a 240) in
    let small : v < 272 = ⊎_elim (λ z. let k = q z in omega arith) (λ z. omega arith) (cases_eq a 244) in
    let whole = of_four (a ∷ b ∷ c ∷ d ∷ []) 0 (omega arith) h.0 (omega arith, omega arith) (follows c t.0) (follows d u.0) (large, small) in
    record { char = a ∷ b ∷ c ∷ d ∷ []; rest = bs; whole = whole; parts = refl; shorter = omega arith; text = u.1 }
split a [] none e = absurd (false≢true e)
split a (b ∷ bs) none e = let i = in_range 1 0 b (and_parts (range 1 0 b) _ e).0 in absurd (omega arith)

is_utf8 : (k : ℕ) (bs : List ℕ) → length bs ≤ k → goes_on bs 0 0x80 0xBF ≡ true → IsUtf8 bs
is_utf8 k [] l e = IsUtf8-nil
is_utf8 zero (a ∷ bs) l e = absurd (omega arith)
is_utf8 (suc k) (a ∷ bs) l e =
    let s = split a bs (lead a) e in
    let short = s.shorter in
    subst IsUtf8 s.parts (IsUtf8-append s.char s.rest s.whole (is_utf8 k s.rest (omega arith) s.text))

module _ (rest : List ℕ) (text : goes_on rest 0 0x80 0xBF ≡ true) where
  to_one : (a : ℕ) → a < 128 → goes_on (a ∷ rest) 0 0x80 0xBF ≡ true
  to_one a h = grind (arith, nat_tests)

  to_two : (a b : ℕ) → 194 ≤ a → a < 224 → Follows b → goes_on (a ∷ b ∷ rest) 0 0x80 0xBF ≡ true
  to_two a b h i j = grind (arith, nat_tests)

  to_three : (a b c : ℕ) → 224 ≤ a → a < 240 → (a ≡ 224 → 160 ≤ b) → (a ≡ 237 → b < 160) → Follows b → Follows c → goes_on (a ∷ b ∷ c ∷ rest) 0 0x80 0xBF ≡ true
  to_three a b c h i p q f g = grind (arith, nat_tests)

  to_four : (a b c d : ℕ) → 240 ≤ a → a < 245 → (a ≡ 240 → 144 ≤ b) → (a ≡ 244 → b < 144) → Follows b → Follows c → Follows d → goes_on (a ∷ b ∷ c ∷ d ∷ rest) 0 0x80 0xBF ≡ true
  to_four a b c d h i p q f g j = grind (arith, nat_tests)

  one_more : (c : ℕ) → (c < 55296) ⊎ ((57344 ≤ c) × (c < 1114112)) → goes_on (encode c ++ rest) 0 0x80 0xBF ≡ true
  one_more c s =
      let top : c < 1114112 = ⊎_elim (λ l. omega arith) (λ l. l.1) s in
      let Text : List ℕ → Type 0 = λ e. goes_on (e ++ rest) 0 0x80 0xBF ≡ true in
      ⊎_elim
      (λ l. subst Text (sym (one c l)) (to_one c l))
      (λ l. ⊎_elim
      (λ m. subst Text (sym (two c l m)) (to_two (192 + c / 64) (128 + c % 64) (omega arith) (omega arith) (omega arith, omega arith)))
      (λ m. ⊎_elim
      (λ n.
      let gap : 224 + c / 4096 ≡ 237 → 128 + (c / 64) % 64 < 160 = λ z. ⊎_elim (λ v. omega arith) (λ v. omega arith) s in
      subst Text (sym (three c m n))
      (to_three (224 + c / 4096) (128 + (c / 64) % 64) (128 + c % 64) (omega arith) (omega arith) (λ z. omega arith) gap (omega arith, omega arith) (omega arith, omega arith)))
      (λ n.
      subst Text (sym (four c n))
      (to_four (240 + c / 262144) (128 + (c / 4096) % 64) (128 + (c / 64) % 64) (128 + c % 64) (omega arith) (omega arith) (λ z. omega arith) (λ z. omega arith) (omega arith, omega arith) (omega arith, omega arith) (omega arith, omega arith)))
      (cases_lt c 65536))
      (cases_lt c 2048))
      (cases_lt c 128)

is_text_lem : (cs : List ℕ) → scalars cs ≡ true → goes_on (encodes cs) 0 0x80 0xBF ≡ true
is_text_lem [] s = refl
is_text_lem (c ∷ cs) s = let t = and_parts (scalar c) (scalars cs) s in one_more (encodes cs) (is_text_lem cs t.1) c (scalar_cases c t.0)

pub texts_are_utf8 : TextsAreUtf8
unfolding is_text
texts_are_utf8 bs = (is_utf8 (length bs) bs (omega arith), λ u. subst (λ l. is_text l ≡ true) u.1.1 (is_text_lem u.0 u.1.0))
