use Rattle.std.proofs.Common.{◌/◌, [], get_or, w32, ap, ◌∙◌}
use Rattle.std.specs.Int.{from_be_bytes}
use Rattle.std.specs.Simd.{first_chunks}
use Rattle.hash.proofs.Arrays.{in_chunk}
use Rattle.sha256.proofs.Absorbing.{word_in_chunk}
use Rattle.sha256.proofs.schedule.block_word.Goals as goal

pub returns : goal.returns
returns c =
    let m = c.args.block.now in
    let i = c.args.i in
    c.from_be_bytes.ensures
    ∙ ap (λ l. from_be_bytes w32 (get_or l i [])) c.as_chunks.ensures.front
    ∙ ap (λ n. from_be_bytes w32 (get_or (first_chunks 4 (n / 4) m) i [])) c.told-block
    ∙ word_in_chunk m (get_or (first_chunks 4 16 m) i []) i (λ j h. in_chunk 4 16 m i j 0 c.requires h)
