use Rattle.std.proofs.Common.{length, ap, ◌∙◌}
use Rattle.nodes.specs.Kinds.{link_writes}
use Rattle.nodes.proofs.link.kind.LinkNodeNodeKind.rest_length.Goals as goal

pub returns-clause-value : goal.returns-clause-value
returns-clause-value c =
    c.field_length.ensures.value 0x12 ∙ ap (λ t. length (link_writes t)) c.part_of.ensures
