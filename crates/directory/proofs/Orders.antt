-- The order of names. Assumes nothing.
use Rattle.std.proofs.Common.{◌≡◌, ℕ, true, false, List, [], ◌∷◌, sym, refl, ◌∙◌, subst, ⊎_elim, true≢false, arith}
use mathlib.Core.Bool.{false≢true}
use Rattle.std.proofs.lemmas.Slice.Eq.{bytes_eq-Decides}
use Rattle.std.proofs.lemmas.Bool.{cases_Bool}
use Rattle.std.proofs.lemmas.Bool.Decides.{nat_tests}
use Rattle.texts.specs.Order.{before}
use Rattle.std.specs.Str.{bytes_eq as same}

pub before_trans : (a b c : List ℕ) → before a b ≡ true → before b c ≡ true → before a c ≡ true
before_trans [] [] c p q = q
before_trans [] (y ∷ b) [] p q = absurd (false≢true q)
before_trans [] (y ∷ b) (z ∷ c) p q = refl
before_trans (x ∷ a) [] c p q = absurd (false≢true p)
before_trans (x ∷ a) (y ∷ b) [] p q = absurd (false≢true q)
before_trans (x ∷ a) (y ∷ b) (z ∷ c) p q = let more = before_trans a b c in grind (arith, nat_tests)

pub before_irrefl : (a : List ℕ) → before a a ≡ false
before_irrefl [] = refl
before_irrefl (x ∷ a) = let more = before_irrefl a in grind (arith, nat_tests)

pub before_total : (a b : List ℕ) → before a b ≡ false → before b a ≡ false → a ≡ b
before_total [] [] p q = refl
before_total [] (y ∷ b) p q = absurd (true≢false p)
before_total (x ∷ a) [] p q = absurd (true≢false q)
before_total (x ∷ a) (y ∷ b) p q = let more = before_total a b in let here : x ≡ y = grind (arith, nat_tests) in let rest : a ≡ b = grind (arith, nat_tests) in cc

-- a name is not the one that stands before it
pub before_other : (a b : List ℕ) → before a b ≡ true → same b a ≡ false
before_other a b p =
    ⊎_elim (λ e. absurd (true≢false (sym (subst (λ t. before a t ≡ true) ((bytes_eq-Decides b a).0 e) p) ∙ before_irrefl a))) (λ e. e) (cases_Bool (same b a))

pub below_other : (a b : List ℕ) → before a b ≡ true → same a b ≡ false
below_other a b p =
    ⊎_elim (λ e. absurd (true≢false (sym (subst (λ t. before a t ≡ true) (sym ((bytes_eq-Decides a b).0 e)) p) ∙ before_irrefl a))) (λ e. e) (cases_Bool (same a b))

-- of two names one is before the other, or they are the same
pub before_else : (a b : List ℕ) → before a b ≡ false → same b a ≡ false → before b a ≡ true
before_else a b p d =
    ⊎_elim (λ e. e) (λ e. absurd (true≢false (sym ((bytes_eq-Decides b a).1 (sym (before_total a b p e))) ∙ d))) (cases_Bool (before b a))
