use Rattle.std.proofs.Common.{◌≡◌, take, fold}
use Rattle.sha256.specs.Sha256.{compressed}
use Rattle.sha256.proofs.state.State.absorb.Given as goal

abbrev pub invariant-loop-four : goal.invariant-loop-four
invariant-loop-four l = l.s ≡ fold (fold compressed) l.fn.self (take l.four-index l.fours)

abbrev pub invariant-loop-block : goal.invariant-loop-block
invariant-loop-block l = l.s ≡ fold compressed l.initial.s (take l.block-index l.others)
