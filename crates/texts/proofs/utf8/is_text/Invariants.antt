use Rattle.std.proofs.Common.{◌≡◌, length}
use Rattle.texts.specs.Utf8.{is_text}
use Rattle.texts.proofs.utf8.is_text.Given as goal

abbrev pub invariant-loop-width : goal.invariant-loop-width
invariant-loop-width l = is_text l.text ≡ is_text l.rest

abbrev pub decreases-loop-width : goal.decreases-loop-width
decreases-loop-width l = length l.rest
