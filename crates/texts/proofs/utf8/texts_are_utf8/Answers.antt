use Rattle.texts.proofs.Encodings.{texts_are_utf8}
use Rattle.texts.proofs.utf8.texts_are_utf8.Goals as goal

pub returns : goal.returns
returns c = texts_are_utf8
