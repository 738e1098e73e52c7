use Rattle.std.proofs.Common.{ap, ◌∙◌, rules, tests, arith}
use Rattle.std.specs.List.{flat_map}
use Rattle.hash.specs.Bytes.{four}
use Rattle.hash.proofs.Arrays.{mapped, flattened}
use Rattle.hash.proofs.hash.Hash.to_bytes.Goals as goal

pub returns : goal.returns
returns c =
    c.copy_from_slice.ensures.after ∙ c.as_flattened.ensures.value
    ∙ ap (flat_map (λ x. x)) (mapped _ _ four (λ x y q k. search (rules, tests)) _ _ 8 (omega arith) c.map.ensures.items) ∙ flattened four c.args.self.now.words
