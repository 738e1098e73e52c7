-- A hash is 32 bytes, held as eight words.
use Rattle.std.specs.Prelude.{ℕ, ◌+◌, ◌*◌, ◌/◌, ◌%◌, List, [], ◌∷◌, slice_index}
use Rattle.std.specs.List.{flat_map}

-- the i-th word of a byte string, most significant byte first
abbrev pub word : List ℕ → ℕ → ℕ
word m i = slice_index m (4 * i) * 16777216 + slice_index m (4 * i + 1) * 65536 + slice_index m (4 * i + 2) * 256 + slice_index m (4 * i + 3)

-- the four bytes of a word, most significant first
abbrev pub four : ℕ → List ℕ
four w = (w / 16777216 % 256) ∷ (w / 65536 % 256) ∷ (w / 256 % 256) ∷ (w % 256) ∷ []

-- the words of 32 bytes
abbrev pub words_of : List ℕ → List ℕ
words_of m = word m 0 ∷ word m 1 ∷ word m 2 ∷ word m 3 ∷ word m 4 ∷ word m 5 ∷ word m 6 ∷ word m 7 ∷ []

-- the bytes of words
abbrev pub bytes_of : List ℕ → List ℕ
bytes_of ws = flat_map four ws
