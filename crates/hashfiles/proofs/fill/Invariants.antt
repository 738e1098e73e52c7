use Rattle.std.proofs.Common.{◌-◌, ◌≤◌, length}
use Rattle.hashfiles.proofs.fill.Given as goal

abbrev pub invariant-loop-more : goal.invariant-loop-more
invariant-loop-more l = l.n ≤ length l.buffer

abbrev pub decreases-loop-more : goal.decreases-loop-more
decreases-loop-more l = length l.buffer - l.n
