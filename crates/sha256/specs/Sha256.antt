-- SHA-256 of a byte string as FIPS 180-4 defines it, in its order; the numbers in brackets are its sections.
use Rattle.std.specs.Prelude.{ℕ, zero, suc, ◌+◌, ◌-◌, ◌*◌, ◌/◌, ◌%◌, ◌^◌, cond, List, [], ◌∷◌, ◌++◌, length, take, drop, replicate, bit_and, bit_or, bit_xor, nat_lt, slice_index}
use Rattle.hash.specs.Bytes.{word}
use Rattle.sha256.specs.declared.state.State.{State}

-- Words are numbers below 2^32. Their sums wrap there (3.2).
abbrev pub plus : ℕ → ℕ → ℕ
plus x y = (x + y) % 2 ^ 32

-- ROTR^n, SHR^n and the complement (2.2.2, 3.2)
abbrev pub rotr : ℕ → ℕ → ℕ
rotr n x = bit_or (x / 2 ^ n) (x * 2 ^ (32 - n) % 2 ^ 32)

abbrev pub shr : ℕ → ℕ → ℕ
shr n x = x / 2 ^ n

abbrev pub complement : ℕ → ℕ
complement x = 2 ^ 32 - 1 - x

-- The six functions (4.1.2)
abbrev pub ch : ℕ → ℕ → ℕ → ℕ
ch x y z = bit_xor (bit_and x y) (bit_and (complement x) z)

abbrev pub maj : ℕ → ℕ → ℕ → ℕ
maj x y z = bit_xor (bit_xor (bit_and x y) (bit_and x z)) (bit_and y z)

abbrev pub Σ₀ : ℕ → ℕ
Σ₀ x = bit_xor (bit_xor (rotr 2 x) (rotr 13 x)) (rotr 22 x)

abbrev pub Σ₁ : ℕ → ℕ
Σ₁ x = bit_xor (bit_xor (rotr 6 x) (rotr 11 x)) (rotr 25 x)

abbrev pub σ₀ : ℕ → ℕ
σ₀ x = bit_xor (bit_xor (rotr 7 x) (rotr 18 x)) (shr 3 x)

abbrev pub σ₁ : ℕ → ℕ
σ₁ x = bit_xor (bit_xor (rotr 17 x) (rotr 19 x)) (shr 10 x)

-- The constants K (4.2.2)
abbrev pub K : List ℕ
K =
    0x428a2f98 ∷ 0x71374491 ∷ 0xb5c0fbcf ∷ 0xe9b5dba5 ∷ 0x3956c25b ∷ 0x59f111f1 ∷ 0x923f82a4 ∷ 0xab1c5ed5 ∷
    0xd807aa98 ∷ 0x12835b01 ∷ 0x243185be ∷ 0x550c7dc3 ∷ 0x72be5d74 ∷ 0x80deb1fe ∷ 0x9bdc06a7 ∷ 0xc19bf174 ∷
    0xe49b69c1 ∷ 0xefbe4786 ∷ 0x0fc19dc6 ∷ 0x240ca1cc ∷ 0x2de92c6f ∷ 0x4a7484aa ∷ 0x5cb0a9dc ∷ 0x76f988da ∷
    0x983e5152 ∷ 0xa831c66d ∷ 0xb00327c8 ∷ 0xbf597fc7 ∷ 0xc6e00bf3 ∷ 0xd5a79147 ∷ 0x06ca6351 ∷ 0x14292967 ∷
    0x27b70a85 ∷ 0x2e1b2138 ∷ 0x4d2c6dfc ∷ 0x53380d13 ∷ 0x650a7354 ∷ 0x766a0abb ∷ 0x81c2c92e ∷ 0x92722c85 ∷
    0xa2bfe8a1 ∷ 0xa81a664b ∷ 0xc24b8b70 ∷ 0xc76c51a3 ∷ 0xd192e819 ∷ 0xd6990624 ∷ 0xf40e3585 ∷ 0x106aa070 ∷
    0x19a4c116 ∷ 0x1e376c08 ∷ 0x2748774c ∷ 0x34b0bcb5 ∷ 0x391c0cb3 ∷ 0x4ed8aa4a ∷ 0x5b9cca4f ∷ 0x682e6ff3 ∷
    0x748f82ee ∷ 0x78a5636f ∷ 0x84c87814 ∷ 0x8cc70208 ∷ 0x90befffa ∷ 0xa4506ceb ∷ 0xbef9a3f7 ∷ 0xc67178f2 ∷ []

-- The fewest zero bytes that bring n bytes and the byte 80 to 56 modulo 64 (5.1.1)
abbrev pub zeros : ℕ → ℕ
zeros n = (119 - n % 64) % 64

-- the byte 80 and z zero bytes
abbrev pub marked : ℕ → List ℕ
marked z = 0x80 ∷ replicate z 0

-- a number in eight bytes, most significant first
abbrev pub eight : ℕ → List ℕ
eight n =
    (n / 72057594037927936 % 256) ∷ (n / 281474976710656 % 256) ∷ (n / 1099511627776 % 256) ∷ (n / 4294967296 % 256) ∷
    (n / 16777216 % 256) ∷ (n / 65536 % 256) ∷ (n / 256 % 256) ∷ (n % 256) ∷ []

-- what follows a message of n bytes, the last eight bytes being its length in bits
unfoldable pub padding : ℕ → List ℕ
padding n = marked (zeros n) ++ eight (8 * n)

unfoldable pub padded : List ℕ → List ℕ
padded m = m ++ padding (length m)

-- The i-th block of 64 bytes (5.2.1)
abbrev pub block : List ℕ → ℕ → List ℕ
block m i = take 64 (drop (64 * i) m)

-- The first hash value (5.3.3)
abbrev pub H₀ : State
H₀ = record {
  a = 0x6a09e667;
  b = 0xbb67ae85;
  c = 0x3c6ef372;
  d = 0xa54ff53a;
  e = 0x510e527f;
  f = 0x9b05688c;
  g = 0x1f83d9ab;
  h = 0x5be0cd19;
}

-- The word t of the message schedule, from the words before it (6.2.2, step 1)
abbrev pub next : List ℕ → ℕ → ℕ
next w t = plus (plus (plus (σ₁ (slice_index w (t - 2))) (slice_index w (t - 7))) (σ₀ (slice_index w (t - 15)))) (slice_index w (t - 16))

abbrev pub entry : List ℕ → ℕ → List ℕ → ℕ
entry m t w = cond (nat_lt t 16) (word m t) (next w t)

-- the first t words of the schedule of the block m
unfoldable pub schedule : List ℕ → ℕ → List ℕ
schedule m zero = []
schedule m (suc t) = schedule m t ++ entry m t (schedule m t) ∷ []

-- The working variables after one round more (6.2.2, step 3)
abbrev pub T₁ : State → ℕ → ℕ → ℕ
T₁ s k w = plus (plus (plus (plus s.h (Σ₁ s.e)) (ch s.e s.f s.g)) k) w

abbrev pub T₂ : State → ℕ
T₂ s = plus (Σ₀ s.a) (maj s.a s.b s.c)

abbrev pub round : State → ℕ → ℕ → State
round s k w = record {
  a = plus (T₁ s k w) (T₂ s);
  b = s.a;
  c = s.b;
  d = s.c;
  e = plus s.d (T₁ s k w);
  f = s.e;
  g = s.f;
  h = s.g;
}

-- the working variables after t rounds, from the hash value s (6.2.2, step 2)
unfoldable pub rounds : State → List ℕ → ℕ → State
rounds s w zero = s
rounds s w (suc t) = round (rounds s w t) (slice_index K t) (slice_index w t)

-- The next hash value (6.2.2, step 4)
abbrev pub sum : State → State → State
sum s r = record {
  a = plus s.a r.a;
  b = plus s.b r.b;
  c = plus s.c r.c;
  d = plus s.d r.d;
  e = plus s.e r.e;
  f = plus s.f r.f;
  g = plus s.g r.g;
  h = plus s.h r.h;
}

unfoldable pub compressed : State → List ℕ → State
compressed s m = sum s (rounds s (schedule m 64) 64)

-- the hash value after the first n blocks of m, from s
unfoldable pub absorbed : State → List ℕ → ℕ → State
absorbed s m zero = s
absorbed s m (suc n) = compressed (absorbed s m n) (block m n)

-- The hash: the eight words of the last hash value (6.2.2)
abbrev pub words : State → List ℕ
words s = s.a ∷ s.b ∷ s.c ∷ s.d ∷ s.e ∷ s.f ∷ s.g ∷ s.h ∷ []

unfoldable pub sha256 : List ℕ → List ℕ
sha256 m = words (absorbed H₀ (padded m) (length (padded m) / 64))
