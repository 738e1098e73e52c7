-- How a message ends.
use Rattle.std.specs.Prelude.{ℕ, ◌+◌, cond, ◌&&◌, List, [], ◌∷◌, drop, Ok, Result, ◌==◌, nat_le}
use Rattle.wire.specs.Numbers.{form, number_at}
use Rattle.wire.specs.Refusals.{Refusal, refused, next}

-- nothing may follow: 13 at what does
abbrev pub ended : {A : Type 0} → A → ℕ → List ℕ → Result A Refusal
ended x p [] = Ok x
ended x p (b ∷ bs) = refused 13 p

-- a number from 1 to `most` that stands at p: 13 for another
abbrev pub bounded : ℕ → ℕ → List ℕ → ℕ × ℕ → Result ℕ Refusal
bounded most p bs n = cond (nat_le 1 n.0 && nat_le n.0 most) (ended n.0 (p + n.1) (drop n.1 bs)) (refused 13 p)

-- a last field, of a tag and such a number, or 0 where the message ends: 13 for another tag
abbrev pub last_number : ℕ → ℕ → ℕ → List ℕ → Result ℕ Refusal
last_number tag most p [] = Ok 0
last_number tag most p (b ∷ bs) = cond (b == tag) (next (number_at (p + 1) bs) (bounded most (p + 1) bs)) (refused 13 p)

-- the bytes of such a field
abbrev pub last_bytes : ℕ → ℕ → List ℕ
last_bytes tag n = cond (n == 0) [] (tag ∷ form n)
