use Rattle.std.proofs.Common.{sym, ap}
use Rattle.std.proofs.lemmas.List.{drop_more}
use Rattle.nodes.specs.Endings.{ended}
use Rattle.nodes.proofs.ending.read_end.Goals as goal

pub returns-then-at-message : goal.returns-then-at-message
returns-then-at-message c = sym (ap (ended tt c.args.at) (drop_more c.args.message.now c.args.at 0 c.if-at-message.true))
