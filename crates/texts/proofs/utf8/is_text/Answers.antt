use Rattle.std.proofs.Common.{sym, ap, ◌∙◌, subst}
use Rattle.std.proofs.lemmas.List.{take_rest}
use Rattle.texts.specs.Utf8.{is_text}
use Rattle.texts.proofs.Characters.{Front, front, ascii_is_text}
use Rattle.texts.proofs.utf8.is_text.Goals as goal

pub returns-then-is_ascii : goal.returns-then-is_ascii
returns-then-is_ascii c = sym (ascii_is_text _ c.if-is_ascii.ensures.cases)

pub loop-width-preserved : goal.loop-width-preserved
loop-width-preserved c =
    let rest = c.loop-width.rest.now in
    let here = subst (Front rest) (sym c.in-Some.ensures) (front rest) in
    c.loop-width.invariant ∙ here.0 ∙ sym (ap is_text (take_rest rest c.in-Some.width))

pub returns : goal.returns
returns c =
    let rest = c.loop-width.rest.now in
    c.is_empty.ensures ∙ sym (c.loop-width.invariant ∙ subst (Front rest) (sym c.in_default.ensures) (front rest))
