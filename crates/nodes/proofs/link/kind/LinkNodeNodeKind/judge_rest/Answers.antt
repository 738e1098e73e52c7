use Rattle.std.proofs.Common.{◌≡◌, ◌+◌, Ok, Err, Result, sym, refl, ap, ◌∙◌, arith}
use Rattle.wire.specs.Refusals.{Refusal, next}
use Rattle.nodes.specs.Kinds.{link_reads, link_writes, target_at}
use Rattle.nodes.specs.Values.{verdict}
use Rattle.nodes.specs.Laws.{link_judges}
use Rattle.nodes.proofs.link.kind.LinkNodeNodeKind.judge_rest.Goals as goal

verdict_is : {V : Type 0} (r : Result (Unit {0}) Refusal) (x : V) → verdict (next r (λ _. Ok x)) ≡ r
verdict_is (Ok u) x = refl
verdict_is (Err e) x = refl

pub returns : goal.returns
returns c =
    let t = c.part_of-target.result.now in
    let p = c.args.start in
    c.judge_target.ensures
    ∙ ap (λ k. target_at (p + 1 + k) t) c.number_length.ensures.value
    ∙ sym (ap (λ y. verdict (link_reads p (link_writes y))) (sym c.part_of-target.ensures) ∙ ap verdict (link_judges p t (omega arith)) ∙ verdict_is (target_at _ t) t)
