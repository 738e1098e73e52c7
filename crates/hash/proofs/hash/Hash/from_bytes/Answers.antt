use Rattle.std.proofs.Common.{rules, tests}
use Rattle.hash.specs.Bytes.{word}
use Rattle.hash.proofs.Arrays.{made, in_chunk}
use Rattle.hash.proofs.Inverse.{words_by}
use Rattle.hash.proofs.hash.Hash.from_bytes.Goals as goal

pub returns : goal.returns
returns c =
    let bytes = c.args.bytes.now in
    words_by bytes c.from_fn.result c.from_fn.ensures.items.long (made _ _ (word bytes) 8 (λ i y q l k. search (rules, tests, in_chunk)) c.from_fn.result 0 c.from_fn.ensures.items)
