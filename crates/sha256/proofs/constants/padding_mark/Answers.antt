use Rattle.sha256.proofs.Endings.{marked_front}
use Rattle.sha256.proofs.constants.padding_mark.Goals as goal

pub returns : goal.returns
returns c = marked_front c.args.zeros c.requires
