-- The names of nodes and the targets of links.
use Rattle.std.specs.Prelude.{ℕ, Bool, true, false, not, ◌&&◌, List, [], ◌∷◌, length, ◌==◌, nat_le}

-- whether a byte stands nowhere in a text
abbrev pub lacks : ℕ → List ℕ → Bool
lacks x [] = true
lacks x (b ∷ bs) = not (b == x) && lacks x bs

-- whether a text is one or two dots
abbrev pub is_dots : List ℕ → Bool
is_dots [] = false
is_dots (a ∷ []) = a == 0x2E
is_dots (a ∷ b ∷ []) = a == 0x2E && b == 0x2E
is_dots (a ∷ b ∷ c ∷ bs) = false

-- a name has 1 to 255 bytes, no 00 and no 2F, and is not one or two dots
abbrev pub is_name : List ℕ → Bool
is_name t = (nat_le 1 (length t) && nat_le (length t) 255) && (not (is_dots t) && (lacks 0x00 t && lacks 0x2F t))

-- a target has 1 to 4,096 bytes and no 00
abbrev pub is_target : List ℕ → Bool
is_target t = (nat_le 1 (length t) && nat_le (length t) 4096) && lacks 0x00 t
