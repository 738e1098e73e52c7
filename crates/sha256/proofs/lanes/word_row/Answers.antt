use Rattle.std.proofs.Common.{◌≡◌, length, map, rules, sym, ap, ◌∙◌}
use Rattle.std.proofs.lemmas.List.{length-map}
use Rattle.std.proofs.lemmas.Simd.{map-map}
use Rattle.hash.specs.Bytes.{word}
use Rattle.hash.proofs.Arrays.{mapped}
use Rattle.sha256.proofs.lanes.word_row.Goals as goal

pub returns : goal.returns
returns c =
    let t = c.args.t in
    let refs = c.each_ref.result in
    let long : length refs ≡ 4 = sym (length-map refs (λ r. r.now)) ∙ ap length c.each_ref.ensures.items ∙ c.told-blocks in
    mapped _ _ (λ r. word r.now t) (λ x y q k. search rules) refs c.map.result 4 long c.map.ensures.items
    ∙ sym (map-map (λ block. word block t) (λ r. r.now) refs) ∙ ap (map (λ block. word block t)) c.each_ref.ensures.items
