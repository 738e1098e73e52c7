use Rattle.wire.proofs.Finding.{found}
use Rattle.nodes.proofs.Judging.{name_not_text, not_a_name, a_name}
use Rattle.nodes.proofs.name.read_name.Goals as goal

pub returns-then-not-is_text-clause-value : goal.returns-then-not-is_text-clause-value
returns-then-not-is_text-clause-value c =
    name_not_text c.args.start c.args.message.now _ (found 0x0A _ _ _ c.in_ok-name.ensures.value) c.if-not-is_text.ensures

pub returns-then-not-is_name-clause-value : goal.returns-then-not-is_name-clause-value
returns-then-not-is_name-clause-value c =
    not_a_name c.args.start c.args.message.now _ (found 0x0A _ _ _ c.in_ok-name.ensures.value) c.if-not-is_text.ensures c.if-not-is_name.ensures

pub returns-clause-value : goal.returns-clause-value
returns-clause-value c =
    a_name c.args.start c.args.message.now _ (found 0x0A _ _ _ c.in_ok-name.ensures.value) c.if-not-is_text.ensures c.if-not-is_name.ensures
