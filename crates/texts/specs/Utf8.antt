-- Text in UTF-8, by the nine patterns of bytes that a character can have.
use Rattle.std.specs.Prelude.{◌≡◌, ℕ, zero, suc, Bool, true, false, cond, ◌&&◌, List, [], ◌∷◌, take, Some, None, Option, IsUtf8, nat_le}

-- whether a byte is one of low to high
abbrev pub range : ℕ → ℕ → ℕ → Bool
range low high b = nat_le low b && nat_le b high

-- what is due behind the first byte of a character: so many bytes, the next of them from low to high, the others from 80 to BF
pub record Due : Type 0 where
  pub count : ℕ
  pub low : ℕ
  pub high : ℕ

abbrev pub due : ℕ → ℕ → ℕ → Due
due n l h = record { count = n; low = l; high = h }

-- the nine patterns by their first byte, and no byte for any other
abbrev pub behind : ℕ → Due
behind a =
    cond (range 0x00 0x7F a) (due 0 0x80 0xBF)
    (cond (range 0xC2 0xDF a) (due 1 0x80 0xBF)
    (cond (range 0xE0 0xE0 a) (due 2 0xA0 0xBF)
    (cond (range 0xE1 0xEC a) (due 2 0x80 0xBF)
    (cond (range 0xED 0xED a) (due 2 0x80 0x9F)
    (cond (range 0xEE 0xEF a) (due 2 0x80 0xBF)
    (cond (range 0xF0 0xF0 a) (due 3 0x90 0xBF)
    (cond (range 0xF1 0xF3 a) (due 3 0x80 0xBF)
    (cond (range 0xF4 0xF4 a) (due 3 0x80 0x8F)
    -- no byte is at least 1 and at most 0
    (due 1 1 0)))))))))

-- whether bytes go on as is due, and then with whole characters to their end
abbrev pub goes_on : List ℕ → ℕ → ℕ → ℕ → Bool
goes_on [] zero low high = true
goes_on [] (suc n) low high = false
goes_on (a ∷ bs) zero low high = goes_on bs (behind a).count (behind a).low (behind a).high
goes_on (b ∷ bs) (suc n) low high = range low high b && goes_on bs n 0x80 0xBF

-- how many bytes the character at the front takes, if there is one
abbrev pub char_width : List ℕ → Option ℕ
char_width [] = None
char_width (a ∷ bs) = cond (goes_on (take (behind a).count bs) (behind a).count (behind a).low (behind a).high) (Some (suc (behind a).count)) None

-- whether bytes are text
unfoldable pub is_text : List ℕ → Bool
is_text bs = goes_on bs 0 0x80 0xBF

-- these are the bytes that encode some characters in UTF-8, and no others
abbrev pub TextsAreUtf8 : Type 0
TextsAreUtf8 = (bs : List ℕ) → (is_text bs ≡ true → IsUtf8 bs) × (IsUtf8 bs → is_text bs ≡ true)
