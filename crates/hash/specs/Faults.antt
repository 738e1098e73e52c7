-- The numbers of the refusals.
use Rattle.std.specs.Prelude.{ℕ, List, Ok, Err, Result}
use Rattle.hash.specs.declared.fault.HashTextFault.{HashTextFault}
use Rattle.hash.specs.declared.fault.HashTextFault.TheVariants.{NotHashText}
use Rattle.hash.specs.declared.hash.Hash.{Hash}

-- 2: a text that is not 64 of the characters 0-9 and a-f
abbrev pub number : HashTextFault → ℕ
number NotHashText = 2

-- an answer by its words, a refusal by its number
abbrev pub reported : Result Hash HashTextFault → Result (List ℕ) ℕ
reported (Ok h) = Ok h.words
reported (Err f) = Err (number f)
