use Rattle.std.proofs.Common.{◌+◌, ◌∙◌, length, sym, length-append}
use Rattle.digest.specs.Digests.{value_of}
use Rattle.wire.specs.Fields.{field_bytes}
use Rattle.nodes.specs.Digests.{digest_bytes}
use Rattle.nodes.proofs.file.kind.FileNodeNodeKind.rest_length.Goals as goal

pub returns-clause-value : goal.returns-clause-value
returns-clause-value c =
    (λ i. c.digest_field_length.ensures.value 0x12 i + length (c.mark.ensures i)) ∙ sym (length-append (field_bytes 0x12 (digest_bytes (value_of c.args.self.now.digest))) _)
