use Rattle.std.proofs.Common.{◌*◌, ◌^◌, ◌<◌}
use Rattle.wire.proofs.Groups.{Reading}
use Rattle.wire.proofs.number.number_in_front.Given as goal

abbrev pub invariant-loop-i : goal.invariant-loop-i
invariant-loop-i l = (l.value < 2 ^ (7 * l.i)) × Reading l.bytes l.i l.value
