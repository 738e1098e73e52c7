-- The text of a hash: 64 characters from 0-9 and a-f, the high half of each byte first.
use Rattle.std.specs.Prelude.{◌≡◌, ℕ, ◌+◌, ◌-◌, ◌*◌, ◌/◌, ◌%◌, ◌^◌, ◌<◌, Bool, true, cond, ◌&&◌, ◌||◌, List, [], ◌∷◌, length, Ok, Err, Result, ◌==◌, nat_le, nat_lt, slice_index}
use Rattle.std.specs.List.{flat_map}
use Rattle.hash.specs.Bytes.{bytes_of, words_of}

-- the character of a number below 16: 0-9, then a-f
abbrev pub hex_digit : ℕ → ℕ
hex_digit n = cond (nat_lt n 10) (0x30 + n) (0x61 + (n - 10))

-- a byte in two characters, its high half first
abbrev pub hex_pair : ℕ → List ℕ
hex_pair b = hex_digit (b / 16) ∷ hex_digit (b % 16) ∷ []

-- the text of a hash
abbrev pub text_of : List ℕ → List ℕ
text_of words = flat_map hex_pair (bytes_of words)

-- whether a character is one of 0-9 and a-f
abbrev pub is_hex : ℕ → Bool
is_hex c = (nat_le 0x30 c && nat_le c 0x39) || (nat_le 0x61 c && nat_le c 0x66)

abbrev pub every_hex : List ℕ → Bool
every_hex [] = true
every_hex (c ∷ cs) = is_hex c && every_hex cs

-- whether a text is the text of a hash
abbrev pub is_hash_text : List ℕ → Bool
is_hash_text t = length t == 64 && every_hex t

-- the number of such a character
abbrev pub hex_value : ℕ → ℕ
hex_value c = cond (nat_le c 0x39) (c - 0x30) (c - 0x61 + 10)

-- the bytes that pairs of characters spell
abbrev pub spelled : List ℕ → List ℕ
spelled [] = []
spelled (x ∷ []) = []
spelled (x ∷ y ∷ t) = (hex_value x * 16 + hex_value y) ∷ spelled t

-- the hash of a text, as its words; any other text is refused
abbrev pub hash_of : List ℕ → Result (List ℕ) ℕ
hash_of t = cond (is_hash_text t) (Ok (words_of (spelled t))) (Err 2)

-- eight words of 32 bits
abbrev pub IsHash : List ℕ → Type 0
IsHash ws = (length ws ≡ 8) × ((i : ℕ) → slice_index ws i < 2 ^ 32)

-- each hash has a text, which is read as that hash
abbrev pub TextIsReadBack : Type 0
TextIsReadBack = (ws : List ℕ) → IsHash ws → hash_of (text_of ws) ≡ Ok ws

-- each text that is read is the text of its hash, so that no hash has two texts
abbrev pub TextIsTheOnlyOne : Type 0
TextIsTheOnlyOne = (t ws : List ℕ) → hash_of t ≡ Ok ws → IsHash ws × (text_of ws ≡ t)
