-- What the definitions of SHA-256 must give.
use Rattle.std.specs.Prelude.{◌≡◌, ℕ, ◌+◌, ◌*◌, ◌%◌, ◌^◌, ◌<◌, ◌≤◌, List, [], ◌∷◌, length}
use Rattle.hash.specs.Text.{IsHash}
use Rattle.sha256.specs.Sha256.{K, H₀, words, zeros, padded, sha256}

-- no bytes hash to e3b0c442…, and 61 62 63 to ba7816bf…
abbrev pub Examples : Type 0
Examples =
    (sha256 [] ≡ 0xe3b0c442 ∷ 0x98fc1c14 ∷ 0x9afbf4c8 ∷ 0x996fb924 ∷ 0x27ae41e4 ∷ 0x649b934c ∷ 0xa495991b ∷ 0x7852b855 ∷ [])
    × (sha256 (0x61 ∷ 0x62 ∷ 0x63 ∷ []) ≡ 0xba7816bf ∷ 0x8f01cfea ∷ 0x414140de ∷ 0x5dae2223 ∷ 0xb00361a3 ∷ 0x96177a9c ∷ 0xb410ff61 ∷ 0xf20015ad ∷ [])

-- the zeros bring the length to 56 modulo 64, and no fewer do
abbrev pub FewestZeros : Type 0
FewestZeros = (n : ℕ) → ((n + 1 + zeros n) % 64 ≡ 56) × ((z : ℕ) → (n + 1 + z) % 64 ≡ 56 → zeros n ≤ z)

-- a padded message is a number of whole blocks
abbrev pub WholeBlocks : Type 0
WholeBlocks = (m : List ℕ) → length (padded m) % 64 ≡ 0

-- every result is eight words of 32 bits
abbrev pub Hashes : Type 0
Hashes = (m : List ℕ) → IsHash (sha256 m)

-- k is the first 32 bits behind the point of the e-th root of p, and n is what stands before the point
abbrev pub RootBits : ℕ → ℕ → ℕ → ℕ → Type 0
RootBits e p k n = ((n * 2 ^ 32 + k) ^ e ≤ p * 2 ^ (32 * e)) × (p * 2 ^ (32 * e) < (n * 2 ^ 32 + k + 1) ^ e)

-- such are the constants of the primes, one by one
abbrev pub Roots : ℕ → List ℕ → List ℕ → Type 0
Roots e ps [] = Unit {0}
Roots e [] (k ∷ ks) = ⊥
Roots e (p ∷ ps) (k ∷ ks) = ((n : ℕ) × RootBits e p k n) × Roots e ps ks

-- the first 64 primes
abbrev pub primes : List ℕ
primes =
    2 ∷ 3 ∷ 5 ∷ 7 ∷ 11 ∷ 13 ∷ 17 ∷ 19 ∷ 23 ∷ 29 ∷ 31 ∷ 37 ∷ 41 ∷ 43 ∷ 47 ∷ 53 ∷
    59 ∷ 61 ∷ 67 ∷ 71 ∷ 73 ∷ 79 ∷ 83 ∷ 89 ∷ 97 ∷ 101 ∷ 103 ∷ 107 ∷ 109 ∷ 113 ∷ 127 ∷ 131 ∷
    137 ∷ 139 ∷ 149 ∷ 151 ∷ 157 ∷ 163 ∷ 167 ∷ 173 ∷ 179 ∷ 181 ∷ 191 ∷ 193 ∷ 197 ∷ 199 ∷ 211 ∷ 223 ∷
    227 ∷ 229 ∷ 233 ∷ 239 ∷ 241 ∷ 251 ∷ 257 ∷ 263 ∷ 269 ∷ 271 ∷ 277 ∷ 281 ∷ 283 ∷ 293 ∷ 307 ∷ 311 ∷ []

-- K are cube roots, the first hash value square roots, of primes (4.2.2, 5.3.3)
abbrev pub ConstantsAreRoots : Type 0
ConstantsAreRoots = Roots 3 primes K × Roots 2 primes (words H₀)
