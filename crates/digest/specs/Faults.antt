-- The numbers of the refusals.
use Rattle.std.specs.Prelude.{ℕ, Ok, Err, Result}
use Rattle.digest.specs.Digests.{Value, value_of}
use Rattle.digest.specs.declared.digest.Digest.{Digest}
use Rattle.digest.specs.declared.fault.DigestFault.{DigestFault}
use Rattle.digest.specs.declared.fault.DigestFault.TheVariants.{HashText, Size, Length}
use Rattle.hash.specs.Faults.{number as text_number}
use Rattle.sha256.specs.Faults.{number as length_number}

-- 3: a size that is negative or above 2^63 - 1; the others are those of the layer below
abbrev pub number : DigestFault → ℕ
number (HashText f) = text_number f
number Size = 3
number (Length f) = length_number f

-- an answer by its value, a refusal by its number
abbrev pub reported : Result Digest DigestFault → Result Value ℕ
reported (Ok d) = Ok (value_of d)
reported (Err f) = Err (number f)
