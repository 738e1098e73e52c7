-- What the writer refuses: a number and the place of a byte.
use Rattle.std.specs.Prelude.{Ok, Err, Result}
use Rattle.wire.specs.Refusals.{Refusal, refusal_of}
use Rattle.wire.specs.Writing.{write_number}
use Rattle.writer.specs.declared.fault.WriterFault.{WriterFault}
use Rattle.writer.specs.declared.fault.WriterFault.TheVariants.{Read, Write}

-- the number and the place of each case: those of reading, or 8 at the place 0
abbrev pub writer_refusal : WriterFault → Refusal
writer_refusal (Read f) = refusal_of f
writer_refusal (Write f) = record { number = write_number f; place = 0 }

-- an answer as it is, a refusal by its number and place
abbrev pub answer : {A : Type 0} → Result A WriterFault → Result A Refusal
answer (Ok x) = Ok x
answer (Err f) = Err (writer_refusal f)
