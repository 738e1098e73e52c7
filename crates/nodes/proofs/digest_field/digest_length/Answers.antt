use Rattle.std.proofs.Common.{◌≡◌, length, ap, ◌∙◌, arith, length-append}
use Rattle.hash.specs.Text.{text_of}
use Rattle.wire.specs.Fields.{field_bytes}
use Rattle.nodes.specs.Endings.{last_bytes}
use Rattle.nodes.proofs.digest_field.digest_length.Goals as goal

pub returns-clause-value : goal.returns-clause-value
returns-clause-value c =
    let text = text_of c.args.digest.now.hash.words in
    let hash : c.field_length.result ≡ length (field_bytes 0x0A text) = c.field_length.ensures.value 0x0A ∙ ap (λ t. length (field_bytes 0x0A t)) c.to_text.ensures.value in
    omega (arith, hash, c.last_number_length.ensures.value 0x10, length-append (field_bytes 0x0A text) (last_bytes 0x10 c.args.digest.now.size))
