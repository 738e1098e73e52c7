use Rattle.std.proofs.Common.{sym, ap}
use Rattle.nodes.specs.Values.{verdict}
use Rattle.nodes.specs.Laws.{file_returns}
use Rattle.nodes.proofs.file.kind.FileNodeNodeKind.judge_rest.Goals as goal

pub returns : goal.returns
returns c = sym (ap verdict (file_returns c.args._start _ c.digest_is_sound.ensures))
