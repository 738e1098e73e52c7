use Rattle.std.proofs.Common.{true, ◌&&◌, ◌∙◌, rules, tests}
use Rattle.std.proofs.lemmas.Iterator.{YieldsList-from_slice}
use Rattle.std.proofs.lemmas.Iterator.Consumers.{fold_from_yields_List}
use Rattle.hash.specs.Text.{is_hex}
use Rattle.hash.proofs.Arrays.{every_folded}
use Rattle.hash.proofs.text.every_hex.Goals as goal

pub returns : goal.returns
returns c =
    fold_from_yields_List _ (λ every c. every && is_hex c) true _ c.fold.ensures.ran (YieldsList-from_slice c.args.text.now cc) (λ a x b q k. search (rules, tests))
    ∙ every_folded true c.args.text.now
