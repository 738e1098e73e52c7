use Rattle.std.proofs.Common.{Ok, sym, ap, ◌∙◌}
use Rattle.wire.specs.Refusals.{next}
use Rattle.wire.proofs.Finding.{found}
use Rattle.nodes.proofs.link.kind.LinkNodeNodeKind.find_rest.Goals as goal

pub returns-clause-value : goal.returns-clause-value
returns-clause-value c =
    let f = found 0x12 c.args.start c.args.message.now _ c.in_ok-read_field.ensures.value in
    ap Ok f.text ∙ sym (ap (λ r. next r (λ x. Ok x.text)) f.is)
