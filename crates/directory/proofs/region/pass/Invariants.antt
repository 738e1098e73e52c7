use Rattle.std.proofs.Common.{◌≡◌, ◌-◌, length, drop}
use Rattle.directory.specs.Regions.{names_up_to, past}
use Rattle.directory.proofs.region.pass.Given as goal

abbrev pub invariant-loop-other : goal.invariant-loop-other
invariant-loop-other l = past l.name (names_up_to (length l.message) (drop l.initial.at l.nodes)) ≡ past l.name (names_up_to (length l.message) (drop l.at l.nodes))

abbrev pub decreases-loop-other : goal.decreases-loop-other
decreases-loop-other l = length l.nodes - l.at
