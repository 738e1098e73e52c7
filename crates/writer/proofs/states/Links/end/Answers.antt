use Rattle.writer.proofs.Rounds.{nodes_taken_are_read_back, nodes_read_give_the_same_bytes}
use Rattle.writer.proofs.states.Links.end.Goals as goal

pub returns-clause-taken : goal.returns-clause-taken
returns-clause-taken c = nodes_taken_are_read_back

pub returns-clause-same : goal.returns-clause-same
returns-clause-same c = nodes_read_give_the_same_bytes
