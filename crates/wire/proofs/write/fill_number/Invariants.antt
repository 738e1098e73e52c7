use Rattle.wire.proofs.Filling.{Filling}
use Rattle.wire.proofs.write.fill_number.Given as goal

abbrev pub invariant-loop-byte : goal.invariant-loop-byte
invariant-loop-byte l = Filling l.value l.part l.byte-index l.rest
