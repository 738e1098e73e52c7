use Rattle.std.proofs.Common.{rules}
use Rattle.sha256.proofs.Rows.{rotr_of_row}
use Rattle.sha256.proofs.lanes.row_rotr.Goals as goal

pub returns : goal.returns
returns c = rotr_of_row c.args.n c.args.x (search rules)
