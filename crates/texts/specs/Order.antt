-- The order of names.
use Rattle.std.specs.Prelude.{ℕ, Bool, true, false, cond, List, [], ◌∷◌, nat_lt}

-- byte by byte, a prefix before its extension
abbrev pub before : List ℕ → List ℕ → Bool
before [] [] = false
before [] (y ∷ ys) = true
before (x ∷ xs) [] = false
before (x ∷ xs) (y ∷ ys) = cond (nat_lt x y) true (cond (nat_lt y x) false (before xs ys))
