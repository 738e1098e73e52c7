-- A number read group by group. Assumes nothing.
use Rattle.std.proofs.Common.{◌≡◌, ℕ, suc, ◌+◌, ◌-◌, ◌*◌, ◌%◌, ◌^◌, ◌<◌, ◌≤◌, cond, ◌&&◌, eqb, ltb, List, ◌∷◌, length, get_or, drop, Some, None, Option, sym, refl, ap, ◌∙◌, mul_assoc, mul_comm, add-mul, arith}
use lib.Bits.{bit_and, bit_or}
use Rattle.std.proofs.lemmas.Nat.{pow-add, and_mask, shl_whole, or_comm, or_shifted, mul-le}
use Rattle.std.proofs.lemmas.List.{drop_more, drop_all}
use Rattle.std.proofs.lemmas.Bool.{cond-true, cond-false, lt-ltb, le-ltb}
use Rattle.std.proofs.lemmas.Bool.Decides.{nat_tests}
use Rattle.wire.specs.Numbers.{onto, front_in, front}

pub pow_group : (k : ℕ) → 2 ^ (7 * (k + 1)) ≡ 2 ^ (7 * k) * 128
pow_group k = let e : 7 * (k + 1) ≡ 7 * k + 7 = omega arith in ap (λ n. 2 ^ n) e ∙ pow-add 2 (7 * k) 7

-- what the groups still to be read make of i groups that are read, of the value v
abbrev pub under : ℕ → ℕ → Option (ℕ × ℕ) → Option (ℕ × ℕ)
under i v None = None
under i v (Some x) = cond (ltb 0 i && eqb x.0 0) None (Some (v + x.0 * 2 ^ (7 * i), x.1 + i))

product : (d x p : ℕ) → (d + 128 * x) * p ≡ d * p + x * (p * 128)
product d x p =
    let e : (128 * x) * p ≡ x * (p * 128) = ap (λ n. n * p) (mul_comm 128 x) ∙ mul_assoc x 128 p ∙ ap (λ n. x * n) (mul_comm 128 p) in
    add-mul d (128 * x) p ∙ ap (λ n. d * p + n) e

under_more : (i v d : ℕ) (o : Option (ℕ × ℕ)) → under i v (onto d o) ≡ under (i + 1) (v + d * 2 ^ (7 * i)) o
under_more i v d None = refl
under_more i v d (Some x) =
    let p = pow_group i in
    let q = product d x.0 (2 ^ (7 * i)) in
    grind (arith, nat_tests)

under_none : (o : Option (ℕ × ℕ)) → o ≡ under 0 0 o
under_none None = refl
under_none (Some x) =
    let value : x.0 ≡ 0 + x.0 * 2 ^ (7 * 0) = omega arith in
    let taken : x.1 ≡ x.1 + 0 = omega arith in
    λ i. Some (value i, taken i)

pub low_bits : (b : ℕ) → 128 ≤ b → b < 256 → bit_and b 127 ≡ b - 128
low_bits b h l = let e = and_mask b 7 in omega arith

-- a group at its place, above the groups already read
pub or_group : (v d i : ℕ) → v < 2 ^ (7 * i) → d < 128 → i < 9 → bit_or v ((d * 2 ^ (7 * i)) % 2 ^ 64) ≡ v + d * 2 ^ (7 * i)
or_group v d i h l m =
    let whole : (d * 2 ^ (7 * i)) % 2 ^ 64 ≡ d * 2 ^ (7 * i) = shl_whole d 7 (7 * i) 64 l (omega arith) in
    let sum = or_shifted d (7 * i) v h in
    ap (bit_or v) whole ∙ or_comm v (d * 2 ^ (7 * i)) ∙ sum ∙ omega arith

pub group_below : (v d i : ℕ) → v < 2 ^ (7 * i) → d < 128 → v + d * 2 ^ (7 * i) < 2 ^ (7 * (i + 1))
group_below v d i h l =
    let p = pow_group i in
    let m = mul-le (d + 1) (2 ^ (7 * i)) 128 (2 ^ (7 * i)) (omega arith) (omega arith) in
    let e = add-mul d 1 (2 ^ (7 * i)) in
    omega (arith, mul_comm 128 (2 ^ (7 * i)))

-- i groups of bs are read, of the value v
abbrev pub Reading : List ℕ → ℕ → ℕ → Type 0
Reading bs i v = front bs ≡ under i v (front_in (9 - i) (drop i bs))

pub reading-none : (bs : List ℕ) → Reading bs 0 0
unfolding front
reading-none bs = under_none (front_in 9 bs)

pub reading_nine : (bs : List ℕ) (i v : ℕ) → i ≡ 9 → Reading bs i v → None ≡ front bs
reading_nine bs i v e so_far = let z : 9 - i ≡ 0 = omega arith in sym (so_far ∙ ap (λ k. under i v (front_in k (drop i bs))) z)

module _ (bs : List ℕ) (i v : ℕ) (few : i < 9) (so_far : Reading bs i v) where
  left : 9 - i ≡ suc (9 - (i + 1))
  left = omega arith

  pub cut_off : length bs ≤ i → None ≡ front bs
  cut_off past = sym (so_far ∙ ap (λ k. under i v (front_in k (drop i bs))) left ∙ ap (λ l. under i v (front_in (suc (9 - (i + 1))) l)) (drop_all i bs past))

  here : i < length bs → front bs ≡ under i v (front_in (suc (9 - (i + 1))) (get_or bs i 0 ∷ drop (i + 1) bs))
  here on = so_far ∙ ap (λ k. under i v (front_in k (drop i bs))) left ∙ ap (λ l. under i v (front_in (suc (9 - (i + 1))) l)) (drop_more bs i 0 on)

  last_group : i < length bs → get_or bs i 0 < 128 → front bs ≡ under i v (Some (get_or bs i 0, 1))
  last_group on low = here on ∙ ap (under i v) (cond-true (ltb (get_or bs i 0) 128) _ _ (lt-ltb (get_or bs i 0) 128 low))

  pub not_shortest : i < length bs → get_or bs i 0 ≡ 0 → 0 < i → None ≡ front bs
  not_shortest on none late =
      let low : get_or bs i 0 < 128 = omega arith in
      let e = last_group on low in
      grind (arith, nat_tests)

  pub whole : i < length bs → get_or bs i 0 < 128 → (0 < i → 0 < get_or bs i 0) → Some (v + get_or bs i 0 * 2 ^ (7 * i), i + 1) ≡ front bs
  whole on low some =
      let e = last_group on low in
      grind (arith, nat_tests)

  pub reading_more : i < length bs → 128 ≤ get_or bs i 0 → get_or bs i 0 < 256 → Reading bs (i + 1) (v + (get_or bs i 0 - 128) * 2 ^ (7 * i))
  reading_more on high byte =
      let b = get_or bs i 0 in
      let rest = front_in (9 - (i + 1)) (drop (i + 1) bs) in
      here on ∙ ap (under i v) (cond-false (ltb b 128) _ _ (le-ltb b 128 high) ∙ cond-true (ltb b 256) _ _ (lt-ltb b 256 byte)) ∙ under_more i v (b - 128) rest
