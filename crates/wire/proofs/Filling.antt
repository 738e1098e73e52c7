-- The form of a number filled byte by byte. Assumes nothing.
use Rattle.std.proofs.Common.{◌≡◌, ℕ, zero, suc, ◌+◌, ◌-◌, ◌*◌, ◌/◌, ◌%◌, ◌^◌, ◌<◌, ◌≤◌, List, [], ◌∷◌, ◌++◌, length, get_or, take, drop, set, sym, refl, ap, ◌∙◌, subst, arith, length-drop}
use lib.Bits.{bit_and, bit_or}
use Rattle.std.proofs.lemmas.List.{drop_more, take_all, take_more, take_more_set}
use Rattle.std.proofs.lemmas.Nat.{div_below, pow_pos, and_mask, or_comm, or_shifted}
use Rattle.wire.specs.Numbers.{form_in, form}
use Rattle.wire.proofs.Forms.{form_small, form_large, pow_more}

pub group_byte : (n : ℕ) → bit_or (bit_and n 127) 128 ≡ 128 + n % 128
group_byte n =
    let m : bit_and n 127 ≡ n % 128 = and_mask n 7 in
    ap (λ k. bit_or k 128) m ∙ or_comm (n % 128) 128 ∙ or_shifted 1 7 (n % 128) (omega arith)

-- i bytes of a part are those of the form of n, and rest is what the others give
pub record Filling (n : ℕ) (part : List ℕ) (i rest : ℕ) : Type 0 where
  pub small : rest < 2 ^ (7 * suc (9 - i))
  pub same : take i part ≡ take i (form n)
  pub ahead : i < length (form n) → drop i (form n) ≡ form_in (9 - i) rest

pub filling_none : (n : ℕ) (part : List ℕ) → n < 2 ^ 64 → Filling n part 0 n
unfolding form
filling_none n part h = record { small = omega arith; same = refl; ahead = λ _. refl }

module _ (n : ℕ) (part : List ℕ) (i rest : ℕ) (f : Filling n part i rest) (long : length part ≡ length (form n)) (here : i < length part) where
  on : get_or (form n) i 0 ∷ drop (i + 1) (form n) ≡ form_in (9 - i) rest
  on = sym (drop_more (form n) i 0 (omega arith)) ∙ f.ahead (omega arith)

  put : (b : ℕ) → b ≡ get_or (form n) i 0 → take (i + 1) (set part i b) ≡ take (i + 1) (form n)
  put b e = take_more_set part i b here ∙ (λ j. f.same j ++ e j ∷ []) ∙ sym (take_more (form n) i 0 (omega arith))

  less : rest / 128 < 2 ^ (7 * suc (9 - (i + 1)))
  less = less_in (9 - i) refl f.small
    where
      less_in : (k : ℕ) → 9 - i ≡ k → rest < 2 ^ (7 * suc k) → rest / 128 < 2 ^ (7 * suc (9 - (i + 1)))
      less_in zero e s = let p = pow_pos (7 * suc (9 - (i + 1))) in omega arith
      less_in (suc k) e s =
          let j : 9 - (i + 1) ≡ k = omega arith in
          let p = pow_more (suc k) in
          subst (λ j. rest / 128 < 2 ^ (7 * suc j)) (sym j) (div_below rest 128 (2 ^ (7 * suc k)) (omega arith) (omega arith))

  pub filling_last : rest < 128 → Filling n (set part i rest) (i + 1) (rest / 128)
  filling_last h =
      let e : get_or (form n) i 0 ∷ drop (i + 1) (form n) ≡ rest ∷ [] = on ∙ form_small (9 - i) rest h in
      let head : rest ≡ get_or (form n) i 0 = cc in
      let tail : drop (i + 1) (form n) ≡ [] = cc in
      let none = ap length tail ∙ refl in
      let size = length-drop (i + 1) (form n) in
      record { small = less; same = put rest head; ahead = λ l. absurd (omega arith) }

  pub filling_more : 128 ≤ rest → Filling n (set part i (128 + rest % 128)) (i + 1) (rest / 128)
  filling_more h =
      let k = 9 - (i + 1) in
      let more : 9 - i ≡ suc k = not_last (9 - i) refl f.small in
      let e : get_or (form n) i 0 ∷ drop (i + 1) (form n) ≡ (128 + rest % 128) ∷ form_in k (rest / 128) = on ∙ ap (λ j. form_in j rest) more ∙ form_large k rest h in
      let head : 128 + rest % 128 ≡ get_or (form n) i 0 = cc in
      record { small = less; same = put (128 + rest % 128) head; ahead = λ l. cc }
    where
      not_last : (k : ℕ) → 9 - i ≡ k → rest < 2 ^ (7 * suc k) → 9 - i ≡ suc (9 - (i + 1))
      not_last zero e s = absurd (omega arith)
      not_last (suc k) e s = omega arith

-- a part of which all bytes are filled is the form
pub filling_all : (n : ℕ) (part : List ℕ) (i rest : ℕ) → Filling n part i rest → length part ≡ length (form n) → i ≡ length part → part ≡ form n
filling_all n part i rest f long all = sym (take_all i part (omega arith)) ∙ f.same ∙ take_all i (form n) (omega arith)
