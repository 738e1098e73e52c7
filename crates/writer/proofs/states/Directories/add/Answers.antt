use Rattle.writer.proofs.Growth.{directories_grow}
use Rattle.writer.proofs.states.Directories.add.Goals as goal

pub add-requires : goal.add-requires
add-requires c = directories_grow
