use Rattle.std.proofs.Common.{arith}
use Rattle.directory.proofs.Joining.{at, part_followed, part_ended}
use Rattle.directory.proofs.reader.read_part.Goals as goal

pub returns-then-end-bytes : goal.returns-then-end-bytes
returns-then-end-bytes c =
    let m = c.args.bytes.now in
    part_followed m (omega arith) c.args.part _ (at m (omega arith) c.args.part _ c.in_ok-sections.ensures) c.if-end-bytes.true

pub returns : goal.returns
returns c =
    let m = c.args.bytes.now in
    part_ended m (omega arith) c.args.part _ (at m (omega arith) c.args.part _ c.in_ok-sections.ensures) c.if-end-bytes.false
