-- A number and its form determine each other. Assumes nothing.
use Rattle.std.proofs.Common.{◌≡◌, ℕ, max, zero, suc, ◌+◌, ◌-◌, ◌*◌, ◌/◌, ◌%◌, ◌^◌, ◌<◌, ◌≤◌, eqb, ltb, List, [], ◌∷◌, ◌++◌, length, drop, Some, None, Option, sym, refl, ap, ◌∙◌, subst, ⊎_elim, arith, length-append}
use Rattle.std.proofs.lemmas.Nat.{pow-add, pow_pos, div_below}
use Rattle.std.proofs.Math.Pow.{pow_mono}
use Rattle.std.proofs.Math.Nat.{le-div_iff_mul-le}
use Rattle.std.proofs.lemmas.Bool.{cases_lt, cases_eq, eq-eqb, ne_eqb, cond-true, cond-false, cond_both, lt-ltb, le-ltb}
use Rattle.wire.specs.Numbers.{form_in, form, onto, front_in, front, NumberIsReadBack, FormIsTheOnlyOne}
use Rattle.wire.proofs.Groups.{pow_group}

-- the cases of a form, and of reading one

pub form_small : (m n : ℕ) → n < 128 → form_in m n ≡ n ∷ []
form_small zero n h = refl
form_small (suc m) n h = cond-true (ltb n 128) _ _ (lt-ltb n 128 h)

pub form_large : (m n : ℕ) → 128 ≤ n → form_in (suc m) n ≡ (128 + n % 128) ∷ form_in m (n / 128)
form_large m n h = cond-false (ltb n 128) _ _ (le-ltb n 128 h)

form_in-length : (m n : ℕ) → length (form_in m n) ≤ m + 1
form_in-length zero n = omega arith
form_in-length (suc m) n = cond_both (ltb n 128) _ _ (λ l. length l ≤ suc m + 1) (λ low. omega arith) (λ high. omega (arith, form_in-length m (n / 128)))

pub form-length : (n : ℕ) → length (form n) ≤ 10
unfolding form
form-length n = form_in-length 9 n

pub pow_more : (k : ℕ) → 2 ^ (7 * suc k) ≡ 2 ^ (7 * k) * 128
pow_more k = let s : suc k ≡ k + 1 = omega arith in ap (λ j. 2 ^ (7 * j)) s ∙ pow_group k

-- the length of a form, by the powers of two that its number lies between
form_in-groups : (k m n : ℕ) → k ≤ m → 2 ^ (7 * k) ≤ n → n < 2 ^ (7 * (k + 1)) → length (form_in m n) ≡ k + 1
form_in-groups zero m n room low high = ap length (form_small m n high) ∙ omega arith
form_in-groups (suc k) zero n room low high = absurd (omega arith)
form_in-groups (suc k) (suc m) n room low high =
    let one = pow_more k in
    let p = pow_group (suc k) in
    let q = pow_pos (7 * k) in
    let e : 7 * suc k ≡ 7 * (k + 1) = omega arith in
    let same = ap (λ j. 2 ^ j) e in
    let above : 2 ^ (7 * k) ≤ n / 128 = (le-div_iff_mul-le {k = 128} {x = 2 ^ (7 * k)} {y = n} (omega arith)).1 (omega arith) in
    let below = div_below n 128 (2 ^ (7 * (k + 1))) (omega arith) (omega arith) in
    ap length (form_large m n (omega arith)) ∙ ap suc (form_in-groups k m (n / 128) (omega arith) above below) ∙ omega arith

pub form-bits : (n l : ℕ) → l < 64 → 2 ^ l ≤ max n 1 → max n 1 < 2 * 2 ^ l → l / 7 + 1 ≡ length (form n)
unfolding form
form-bits zero l h low high = ⊎_elim (λ z. omega arith) (λ z. let p = pow_mono {i = 1} {j = l} z in absurd (omega arith)) (cases_lt l 1)
form-bits (suc n) l h low high =
    let k = l / 7 in
    let more : 2 ^ (l + 1) ≡ 2 ^ l * 2 = pow-add 2 l 1 in
    let lower = pow_mono {i = 7 * k} {j = l} (omega arith) in
    let upper = pow_mono {i = l + 1} {j = 7 * (k + 1)} (omega arith) in
    sym (form_in-groups k 9 (suc n) (omega arith) (omega arith) (omega arith))

front_low : (k b : ℕ) (bs : List ℕ) → b < 128 → front_in (suc k) (b ∷ bs) ≡ Some (b, 1)
front_low k b bs h = cond-true (ltb b 128) _ _ (lt-ltb b 128 h)

front_high : (k b : ℕ) (bs : List ℕ) → 128 ≤ b → b < 256 → front_in (suc k) (b ∷ bs) ≡ onto (b - 128) (front_in k bs)
front_high k b bs h l = cond-false (ltb b 128) _ _ (le-ltb b 128 h) ∙ cond-true (ltb b 256) _ _ (lt-ltb b 256 l)

-- what is written is read back

back_small : (k m n : ℕ) (rest : List ℕ) → n < 128 → front_in (suc k) (form_in m n ++ rest) ≡ Some (n, length (form_in m n))
back_small k m n rest h = subst (λ e. front_in (suc k) (e ++ rest) ≡ Some (n, length e)) (sym (form_small m n h)) (front_low k n rest h)

regrouped : (n l : ℕ) → 128 ≤ n → onto (128 + n % 128 - 128) (Some (n / 128, l)) ≡ Some (n, suc l)
regrouped n l h =
    let some : n / 128 ≡ 0 → ⊥ = λ z. omega arith in
    let value : 128 + n % 128 - 128 + 128 * (n / 128) ≡ n = omega arith in
    let more : l + 1 ≡ suc l = omega arith in
    cond-false (eqb (n / 128) 0) _ _ (ne_eqb _ _ some) ∙ (λ i. Some (value i, more i))

back : (k m n : ℕ) (rest : List ℕ) → k ≤ m → n < 2 ^ (7 * (k + 1)) → front_in (suc k) (form_in m n ++ rest) ≡ Some (n, length (form_in m n))
back zero m n rest room low = back_small zero m n rest low
back (suc k) zero n rest room low = absurd (omega arith)
back (suc k) (suc m) n rest room low =
    ⊎_elim (back_small (suc k) (suc m) n rest)
    (λ h.
    let p = pow_group (suc k) in
    let e : 7 * suc k ≡ 7 * (k + 1) = omega arith in
    let q = ap (λ j. 2 ^ j) e in
    let less = div_below n 128 (2 ^ (7 * (k + 1))) (omega arith) (omega arith) in
    subst (λ e. front_in (suc (suc k)) (e ++ rest) ≡ Some (n, length e)) (sym (form_large m n h))
    (front_high (suc k) (128 + n % 128) (form_in m (n / 128) ++ rest) (omega arith) (omega arith)
    ∙ ap (onto (128 + n % 128 - 128)) (back k m (n / 128) rest (omega arith) less) ∙ regrouped n _ h))
    (cases_lt n 128)

pub number_is_read_back : NumberIsReadBack
unfolding front form
number_is_read_back n rest h = back 8 9 n rest (omega arith) (omega arith)

-- what is read is a form

-- x is a number of at most k groups with its count, and bs begins with its form
Formed : ℕ → ℕ → (ℕ × ℕ) → List ℕ → Type 0
Formed m k x bs = (x.0 < 2 ^ (7 * k)) × (x.1 ≡ length (form_in m x.0)) × (bs ≡ form_in m x.0 ++ drop x.1 bs)

not_some : {x : ℕ × ℕ} → ◌≡◌ {A = Option (ℕ × ℕ)} None (Some x) → ⊥
not_some e = let z : ◌≡◌ {A = ℕ} 0 1 = cc in omega arith

same_some : {x y : ℕ × ℕ} → ◌≡◌ {A = Option (ℕ × ℕ)} (Some x) (Some y) → x ≡ y
same_some e = cc

formed_low : (k m b : ℕ) (bs : List ℕ) → b < 128 → Formed m (suc k) (b, 1) (b ∷ bs)
unfolding Formed
formed_low k m b bs h =
    let e = form_small m b h in
    let one = pow_more k in
    let p = pow_pos (7 * k) in
    (omega arith, sym (ap length e), ap (λ l. l ++ bs) (sym e))

formed_high : (k m b : ℕ) (bs : List ℕ) (y : ℕ × ℕ) → 128 ≤ b → b < 256 → 0 < y.0 → Formed m k y bs → Formed (suc m) (suc k) (b - 128 + 128 * y.0, y.1 + 1) (b ∷ bs)
unfolding Formed
formed_high k m b bs y h l some f =
    let n = b - 128 + 128 * y.0 in
    let one = pow_more k in
    let low : n % 128 ≡ b - 128 = omega arith in
    let high : n / 128 ≡ y.0 = omega arith in
    let e : form_in (suc m) n ≡ b ∷ form_in m y.0 = form_large m n (omega arith) ∙ (λ i. (128 + low i) ∷ form_in m (high i)) ∙ ap (λ d. d ∷ form_in m y.0) (omega arith) in
    let s : y.1 + 1 ≡ suc y.1 = omega arith in (
      omega (arith, f.0),
      s ∙ ap suc f.1 ∙ sym (ap length e),
      ap (λ l. b ∷ l) f.2 ∙ ap (λ j. b ∷ form_in m y.0 ++ drop j (b ∷ bs)) (sym s) ∙ ap (λ l. l ++ drop (y.1 + 1) (b ∷ bs)) (sym e),
    )

formed_onto : (k m b : ℕ) (bs : List ℕ) (x : ℕ × ℕ) (o : Option (ℕ × ℕ)) → 128 ≤ b → b < 256 → onto (b - 128) o ≡ Some x → ((y : ℕ × ℕ) → o ≡ Some y → Formed m k y bs) → Formed (suc m) (suc k) x (b ∷ bs)
formed_onto k m b bs x None h l e f = absurd (not_some e)
formed_onto k m b bs x (Some y) h l e f =
    ⊎_elim
    (λ z. absurd (not_some (sym (cond-true (eqb y.0 0) _ _ (eq-eqb _ _ z)) ∙ e)))
    (λ z. subst (λ x. Formed (suc m) (suc k) x (b ∷ bs)) (same_some (sym (cond-false (eqb y.0 0) _ _ (ne_eqb _ _ z)) ∙ e)) (formed_high k m b bs y h l (omega arith) (f y refl)))
    (cases_eq y.0 0)

formed : (k m : ℕ) (bs : List ℕ) (x : ℕ × ℕ) → k ≤ m → front_in k bs ≡ Some x → Formed m k x bs
formed zero m bs x r e = absurd (not_some e)
formed (suc k) m [] x r e = absurd (not_some e)
formed (suc k) zero (b ∷ bs) x r e = absurd (omega arith)
formed (suc k) (suc m) (b ∷ bs) x r e =
    ⊎_elim
    (λ low. subst (λ x. Formed (suc m) (suc k) x (b ∷ bs)) (same_some (sym (front_low k b bs low) ∙ e)) (formed_low k (suc m) b bs low))
    (λ high. ⊎_elim
    (λ byte. formed_onto k m b bs x (front_in k bs) high byte (sym (front_high k b bs high byte) ∙ e) (λ y. formed k m bs y (omega arith)))
    (λ wide. absurd (not_some (sym (cond-false (ltb b 128) _ _ (le-ltb b 128 high) ∙ cond-false (ltb b 256) _ _ (le-ltb b 256 wide)) ∙ e)))
    (cases_lt b 256))
    (cases_lt b 128)

pub form_is_the_only_one : FormIsTheOnlyOne
unfolding front form Formed
form_is_the_only_one bs n k e = formed 9 9 bs (n, k) (omega arith) e

-- a number takes no more bytes than there are
pub taken_within : (bs : List ℕ) (n k : ℕ) → front bs ≡ Some (n, k) → k ≤ length bs
taken_within bs n k e =
    let f = form_is_the_only_one bs n k e in
    let l = ap length f.2 ∙ length-append (form n) (drop k bs) in
    omega arith
