use Rattle.writer.proofs.Growth.{files_grow}
use Rattle.writer.proofs.states.Files.add.Goals as goal

pub add-requires : goal.add-requires
add-requires c = files_grow
