-- Numbers: seven bits to a byte, the lowest group first, the top bit set on all bytes but the last.
use Rattle.std.specs.Prelude.{◌≡◌, ℕ, zero, suc, ◌+◌, ◌-◌, ◌*◌, ◌/◌, ◌%◌, ◌^◌, ◌<◌, cond, List, [], ◌∷◌, ◌++◌, length, drop, Some, None, Ok, Option, Result, ◌==◌, nat_lt}
use Rattle.wire.specs.Refusals.{Refusal, refused}

-- the shortest form of a number, of at most k + 1 bytes
abbrev pub form_in : ℕ → ℕ → List ℕ
form_in zero n = n ∷ []
form_in (suc k) n = cond (nat_lt n 0x80) (n ∷ []) ((0x80 + n % 0x80) ∷ form_in k (n / 0x80))

-- the form of a number below 2^70; one below 2^63 takes at most nine bytes
unfoldable pub form : ℕ → List ℕ
form n = form_in 9 n

-- a group in front of the groups above it, which in the shortest form are not all zero
abbrev pub onto : ℕ → Option (ℕ × ℕ) → Option (ℕ × ℕ)
onto group None = None
onto group (Some x) = cond (x.0 == 0) None (Some (group + 0x80 * x.0, x.1 + 1))

-- the number at the front, in its shortest form of at most k bytes, and how many bytes it takes
abbrev pub front_in : ℕ → List ℕ → Option (ℕ × ℕ)
front_in zero bs = None
front_in (suc k) [] = None
front_in (suc k) (b ∷ bs) = cond (nat_lt b 0x80) (Some (b, 1)) (cond (nat_lt b 0x100) (onto (b - 0x80) (front_in k bs)) None)

-- of at most nine bytes
unfoldable pub front : List ℕ → Option (ℕ × ℕ)
front bs = front_in 9 bs

-- the number that stands at the place p in front of bs, or the refusal 12 there
abbrev pub or_refused : ℕ → Option (ℕ × ℕ) → Result (ℕ × ℕ) Refusal
or_refused p None = refused 12 p
or_refused p (Some x) = Ok x

abbrev pub number_at : ℕ → List ℕ → Result (ℕ × ℕ) Refusal
number_at p bs = or_refused p (front bs)

-- a number below 2^63 is read back from its form, whatever follows
abbrev pub NumberIsReadBack : Type 0
NumberIsReadBack = (n : ℕ) (rest : List ℕ) → n < 2 ^ 63 → front (form n ++ rest) ≡ Some (n, length (form n))

-- what is read is a number below 2^63 in its form, so that no number has two forms
abbrev pub FormIsTheOnlyOne : Type 0
FormIsTheOnlyOne = (bs : List ℕ) (n k : ℕ) → front bs ≡ Some (n, k) → (n < 2 ^ 63) × (k ≡ length (form n)) × (bs ≡ form n ++ drop k bs)
