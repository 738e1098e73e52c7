use Rattle.std.proofs.Common.{◌≡◌, ◌+◌, ◌*◌, take, fold}
use Rattle.sha256.specs.Sha256.{compressed}
use Rattle.sha256.proofs.Rows.{Ready}
use Rattle.sha256.proofs.state.State.absorb_four.Given as goal

abbrev pub invariant-loop-i : goal.invariant-loop-i
invariant-loop-i l = Ready l.self l.blocks l.w l.s (4 * l.i)

abbrev pub invariant-loop-j : goal.invariant-loop-j
invariant-loop-j l = Ready l.self l.blocks l.w l.s (4 * l.i + l.j)

abbrev pub invariant-loop-i-2 : goal.invariant-loop-i-2
invariant-loop-i-2 l = Ready l.self l.blocks l.w l.s (4 * l.i)

abbrev pub invariant-loop-j-2 : goal.invariant-loop-j-2
invariant-loop-j-2 l = Ready l.self l.blocks l.w l.s (4 * l.i + l.j)

abbrev pub invariant-loop-lane : goal.invariant-loop-lane
invariant-loop-lane l = l.s ≡ fold compressed l.fn.self (take l.lane-counter l.blocks)
