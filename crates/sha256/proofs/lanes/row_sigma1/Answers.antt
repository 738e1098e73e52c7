use Rattle.std.proofs.Common.{rules}
use Rattle.sha256.proofs.Rows.{sigma_of_row}
use Rattle.sha256.proofs.lanes.row_sigma1.Goals as goal

pub returns : goal.returns
returns c = sigma_of_row 17 19 10 c.args.x c.row_rotr.result c.row_rotr-2.result (search rules) c.row_rotr.ensures c.row_rotr-2.ensures
