use Rattle.std.proofs.Common.{◌*◌, ◌^◌, ◌<◌, ◌≤◌, max, arith}
use Rattle.wire.proofs.Forms.{form-bits}
use Rattle.wire.proofs.write.number_length.Goals as goal

pub returns-clause-value : goal.returns-clause-value
returns-clause-value c =
    let n = c.args.value in
    let l = c.ilog2.result in
    let most = c.max.ensures in
    let low : 2 ^ l ≤ max n 1 = omega arith in
    let high : max n 1 < 2 * 2 ^ l = omega arith in
    form-bits n l c.ilog2.ensures.bound low high
