-- What fetching answers, and what it leaves in the buffer.
use Rattle.std.specs.Prelude.{ℕ, cond, List, ◌++◌, length, drop, replicate, Ok, Err, Result, nat_lt}
use Rattle.sources.specs.declared.fault.SourceFault.{SourceFault}
use Rattle.sources.specs.declared.fault.SourceFault.TheVariants.{NoRoom, Missing, Damaged}
use Rattle.sources.specs.Held.{Held, Nothing, Spoiled, Bytes}

-- the number of each refusal
abbrev pub number : SourceFault → ℕ
number NoRoom = 8
number Missing = 10
number Damaged = 11

-- an answer as it is, a refusal by its number
abbrev pub reported : {A : Type 0} → Result A SourceFault → Result A ℕ
reported (Ok x) = Ok x
reported (Err f) = Err (number f)

-- what is told of what a source holds
abbrev pub told : Held → Result (Unit {0}) ℕ
told Nothing = Err 10
told Spoiled = Err 11
told (Bytes bs) = Ok tt

-- what becomes of the buffer: the bytes at its front, or for a spoiled blob of that size as many zeros
abbrev pub put : Held → ℕ → List ℕ → List ℕ
put Nothing size buffer = buffer
put Spoiled size buffer = replicate size 0 ++ drop size buffer
put (Bytes bs) size buffer = bs ++ drop size buffer

-- 8 where the size exceeds the buffer, and then nothing changes
abbrev pub fetched : Held → ℕ → List ℕ → Result (Unit {0}) ℕ
fetched held size buffer = cond (nat_lt (length buffer) size) (Err 8) (told held)

abbrev pub after : Held → ℕ → List ℕ → List ℕ
after held size buffer = cond (nat_lt (length buffer) size) buffer (put held size buffer)
