-- The schedules of four blocks side by side, and the words that rows hold. Only private functions cite this file.
use Rattle.std.specs.Prelude.{◌≡◌, ℕ, ◌-◌, List, [], map, slice_index_or}
use Rattle.std.specs.Fn.{FnReturnsAt, Shared}
use Rattle.std.specs.Borrow.{Bor}
use Rattle.std.specs.Simd.Lanes.{zip2}
use Rattle.hash.specs.Bytes.{word}
use Rattle.sha256.specs.Sha256.{plus, σ₀, σ₁}

-- each call of f, at a reference, gives what h gives
abbrev pub Reads : {F T : Type 0} → Shared F (Bor T × Unit {0}) ℕ → F → (T → ℕ) → Type 0
Reads {F} {T} g f h = (x : T) (r : ℕ) → FnReturnsAt g f x r → r ≡ h x

-- the words t of four blocks
abbrev pub word_row : List (List ℕ) → ℕ → List ℕ
word_row blocks t = map (λ block. word block t) blocks

-- the words t of their schedules, from the rows before
abbrev pub next_row : List (List ℕ) → ℕ → List ℕ
next_row w t = zip2 plus (zip2 plus (zip2 plus (map σ₁ (slice_index_or w (t - 2) [])) (slice_index_or w (t - 7) [])) (map σ₀ (slice_index_or w (t - 15) []))) (slice_index_or w (t - 16) [])
