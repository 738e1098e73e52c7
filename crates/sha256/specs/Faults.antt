-- What hashing answers, and the numbers of its refusals.
use Rattle.std.specs.Prelude.{ℕ, cond, List, length, Ok, Err, Result, nat_le}
use Rattle.hash.specs.declared.hash.Hash.{Hash}
use Rattle.sha256.specs.Sha256.{sha256}
use Rattle.sha256.specs.declared.fault.Sha256Fault.{Sha256Fault}
use Rattle.sha256.specs.declared.fault.Sha256Fault.TheVariants.{TooLong}

-- 5: more than 16,777,216 bytes
abbrev pub number : Sha256Fault → ℕ
number TooLong = 5

-- an answer by its words, a refusal by its number
abbrev pub reported : Result Hash Sha256Fault → Result (List ℕ) ℕ
reported (Ok h) = Ok h.words
reported (Err f) = Err (number f)

-- the hash of a byte string that is not too long
abbrev pub hashed : List ℕ → Result (List ℕ) ℕ
hashed m = cond (nat_le (length m) 16777216) (Ok (sha256 m)) (Err 5)
