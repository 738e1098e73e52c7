-- A digest is a hash and a size.
use Rattle.std.specs.Prelude.{ℕ, ◌^◌, cond, List, ◌∷◌, ◌++◌, length, ℤ, pos, negsuc, Ok, Err, decimal, Result, nat_lt}
use Rattle.hash.specs.Text.{hash_of, text_of}
use Rattle.sha256.specs.Faults.{hashed}
use Rattle.digest.specs.declared.digest.Digest.{Digest}

-- a digest as a value: the words of its hash, and its size
pub record Value : Type 0 where
  pub hash : List ℕ
  pub size : ℕ

abbrev pub value_of : Digest → Value
value_of d = record { hash = d.hash.words; size = d.size }

-- a size from 0 to 2^63 - 1, or the refusal 3
abbrev pub size_of : ℤ → Result ℕ ℕ
size_of (pos n) = cond (nat_lt n (2 ^ 63)) (Ok n) (Err 3)
size_of (negsuc n) = Err 3

-- a hash and a size, or the first refusal of the two
abbrev pub both : Result (List ℕ) ℕ → Result ℕ ℕ → Result Value ℕ
both (Err n) size = Err n
both (Ok ws) (Err n) = Err n
both (Ok ws) (Ok n) = Ok (record { hash = ws; size = n })

-- the digest of a hash text and a size
abbrev pub named : List ℕ → ℤ → Result Value ℕ
named text size = both (hash_of text) (size_of size)

-- the digest of a byte string: its SHA-256 hash and its length
abbrev pub digest_of : List ℕ → Result Value ℕ
digest_of m = both (hashed m) (Ok (length m))

-- a digest in print: the text of its hash, a space, its size in decimal
abbrev pub printed : Value → List ℕ
printed v = text_of v.hash ++ (0x20 ∷ decimal v.size)
