use Rattle.std.proofs.Common.{◌-◌, ◌%◌, ◌++◌, ap, ◌∙◌, append_assoc}
use Rattle.sha256.specs.Sha256.{padding, marked}
use Rattle.sha256.proofs.padding.last_blocks.Goals as goal

pub returns : goal.returns
unfolding padding
returns c =
    let rest = c.args.rest.now in
    let mark = c.padding_mark-mark.result.now in
    let bits = c.to_be_bytes-bits.result in
    let one = rw c.unwrap.ensures at c.try_extend_from_slice.ensures.ok in
    let two = rw c.unwrap-2.ensures at c.try_extend_from_slice-2.ensures.ok in
    let three = rw c.unwrap-3.ensures at c.try_extend_from_slice-3.ensures.ok in
    three ∙ ap (λ l. l ++ bits) (two ∙ ap (λ l. l ++ mark) (one ∙ ap (λ l. l ++ rest) c.new-blocks.ensures)) ∙ append_assoc rest mark bits
    ∙ ap (λ l. rest ++ (l ++ bits)) (c.padding_mark-mark.ensures ∙ ap (λ n. marked ((119 - n) % 64)) c.requires.rest)
    ∙ ap (λ l. rest ++ (marked ((119 - c.args.total % 64) % 64) ++ l)) c.to_be_bytes-bits.ensures
