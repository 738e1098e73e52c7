use Rattle.std.proofs.Common.{◌+◌, ◌-◌, ◌^◌, min, sym, ap, ◌∙◌, length-append}
use Rattle.wire.specs.Fields.{field_bytes}
use Rattle.nodes.proofs.node.NewNode.message_length.Goals as goal

pub returns : goal.returns
returns g c =
    let name = c.field_length.ensures.value 0x0A in
    let rest = c.rest_length.ensures.value in
    c.saturating_add.ensures
    ∙ ap (λ n. min n (2 ^ 64 - 1)) ((λ i. name i + rest i) ∙ sym (length-append (field_bytes 0x0A c.args.self.now.name.now) (g.K.NodeKind.writes (g.K.NodeKind.rest_in c.args.self.now.text.now c.args.self.now.rest.now))))
