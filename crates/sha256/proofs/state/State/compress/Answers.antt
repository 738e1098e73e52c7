use Rattle.std.proofs.Common.{rules, ap, ◌∙◌}
use Rattle.std.proofs.lemmas.List.{map-id}
use Rattle.sha256.specs.Sha256.{compressed, rounds, sum}
use Rattle.sha256.proofs.state.State.compress.Goals as goal

pub returns : goal.returns
unfolding compressed
returns c =
    c.mix.ensures (λ x. x) (λ x r k. search rules)
    ∙ ap (λ ws. sum c.args.self (rounds c.args.self ws 64)) (map-id c.schedule.result ∙ c.schedule.ensures)
