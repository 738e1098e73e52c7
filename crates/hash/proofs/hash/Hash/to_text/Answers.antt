use Rattle.std.proofs.Common.{◌≡◌, ◌+◌, ◌-◌, ◌*◌, ◌<◌, length, get_or, sym, ap, ◌∙◌, arith}
use Rattle.std.proofs.lemmas.List.{take_all}
use Rattle.std.specs.List.{flat_map}
use Rattle.hash.specs.Bytes.{bytes_of}
use Rattle.hash.specs.Text.{hex_pair}
use Rattle.hash.proofs.Inverse.{text_is_read_back}
use Rattle.hash.proofs.Parts.{length-written, written_more}
use Rattle.hash.proofs.hash.Hash.to_text.Goals as goal

pub loop-i-preserved : goal.loop-i-preserved
loop-i-preserved c =
    let i = c.loop-i.i in
    let bytes = bytes_of c.args.self.now.words in
    let out = c.loop-i.text in
    let part = c.copy_from_slice.new.self in
    let is : part ≡ hex_pair (get_or bytes i 0) = c.copy_from_slice.ensures.after ∙ c.hex_pair.ensures ∙ ap (λ l. hex_pair (get_or l i 0)) c.to_bytes-bytes.ensures in
    let long : length part ≡ 2 = ap length is in
    let all = ap length c.to_bytes-bytes.ensures in
    let here : i < length bytes = omega arith in (
      length-written out part (2 * i) (2 * i + 2 - 2 * i) (omega (arith, c.loop-i.invariant.0)) (omega arith) ∙ c.loop-i.invariant.0,
      written_more hex_pair bytes out part i (2 * i) (2 * (i + 1)) (2 * i + 2 - 2 * i) c.loop-i.invariant.1 is here (omega (arith, c.loop-i.invariant.0)) (omega arith),
    )

pub returns : goal.returns
returns c =
    let i = c.loop-i.i in
    let bytes = bytes_of c.args.self.now.words in
    let all = ap length c.to_bytes-bytes.ensures in
    record {
      value =
          sym (take_all (2 * i) c.loop-i.text (omega (arith, c.loop-i.invariant.0))) ∙ c.loop-i.invariant.1
          ∙ ap (flat_map hex_pair) (take_all i bytes (omega arith));
      texts = text_is_read_back;
    }
