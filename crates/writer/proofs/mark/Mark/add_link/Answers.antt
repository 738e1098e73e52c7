use Rattle.writer.proofs.Growth.{links_grow}
use Rattle.writer.proofs.mark.Mark.add_link.Goals as goal

pub add-requires : goal.add-requires
add-requires c = links_grow
