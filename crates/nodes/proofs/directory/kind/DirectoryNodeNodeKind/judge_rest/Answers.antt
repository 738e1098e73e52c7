use Rattle.std.proofs.Common.{sym, ap}
use Rattle.nodes.specs.Values.{verdict}
use Rattle.nodes.specs.Laws.{directory_returns}
use Rattle.nodes.proofs.directory.kind.DirectoryNodeNodeKind.judge_rest.Goals as goal

pub returns : goal.returns
returns c = sym (ap verdict (directory_returns c.args._start _ c.digest_is_sound.ensures))
