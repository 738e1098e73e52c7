use Rattle.std.proofs.Common.{◌+◌, ◌*◌, get_or, rules, arith}
use Rattle.sha256.proofs.Rows.{ready_none, ready_first, ready_next, all_rows, first-absorbed, lane-absorbed}
use Rattle.sha256.proofs.state.State.absorb_four.Goals as goal

pub loop-i-init : goal.loop-i-init
loop-i-init c = ready_none c.args.self c.args.blocks.now c.told-blocks

pub loop-j-preserved : goal.loop-j-preserved
loop-j-preserved c =
    ready_first c.args.self c.args.blocks.now c.loop-j.w c.loop-j.s (4 * c.loop-i.i + c.loop-j.j) c.loop-j.invariant (omega arith) c.word_row-row.result c.round-s.result _
    c.round-s.ensures (omega arith) (omega arith) c.word_row-row.ensures

pub loop-j-2-preserved : goal.loop-j-2-preserved
loop-j-2-preserved c =
    ready_next c.args.self c.args.blocks.now c.loop-j-2.w c.loop-j-2.s (4 * c.loop-i-2.i + c.loop-j-2.j) c.loop-j-2.invariant (omega arith) c.next_row-row.result c.round-s-in-loop-j-2.result _
    c.round-s-in-loop-j-2.ensures (omega arith) (omega (arith, c.loop-i-2.auto.i)) c.next_row-row.ensures

pub loop-lane-init : goal.loop-lane-init
loop-lane-init c =
    let all = all_rows c.args.self c.args.blocks.now c.loop-i-2.w c.loop-i-2.s (4 * c.loop-i-2.i) (omega arith) c.loop-i-2.invariant in
    first-absorbed c.args.self c.args.blocks.now c.loop-i-2.w c.loop-i-2.s all c.plus-s.result c.plus-s.ensures

pub loop-lane-preserved : goal.loop-lane-preserved
loop-lane-preserved c =
    let all = all_rows c.args.self c.args.blocks.now c.loop-i-2.w c.loop-i-2.s (4 * c.loop-i-2.i) (omega arith) c.loop-i-2.invariant in
    lane-absorbed c.args.self c.args.blocks.now c.loop-i-2.w c.loop-i-2.s all c.args.self c.loop-lane.lane-counter c.loop-lane.s c.mix-s.result c.loop-lane-test.true c.loop-lane.invariant
    (c.mix-s.ensures (λ row. get_or row c.loop-lane.lane-counter 0) (λ x r k. search rules))
