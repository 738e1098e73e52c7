use Rattle.std.proofs.Common.{◌≡◌, false, [], take, drop, sym, refl, ap, ◌∙◌}
use Rattle.std.proofs.lemmas.Bool.{cond-true, cond-false}
use Rattle.std.specs.Str.{bytes_eq as same}
use Rattle.directory.specs.Regions.{names_in, past, met}
use Rattle.directory.proofs.Seeking.{none_here, one_here, sought}
use Rattle.directory.proofs.region.pass.Goals as goal
use Rattle.directory.proofs.region.pass.Goals.{Then-not-precedes, In_default}

-- a name that does not stand before the one sought was found
stopped : (c : Then-not-precedes) → (names_in c.args.message.now (record { start = c.loop-other.at; end = c.min-end.result }) ≡ past c.args.name.now (names_in c.args.message.now c.args.region))
    × (same c.args.name.now c.in-Some.other.now ≡ met c.args.name.now (names_in c.args.message.now c.args.region))
stopped c =
    let m = c.args.message.now in
    let e = c.min-end.result in
    let here = one_here m e c.loop-other.at c.in-Some.other.now (drop c.in-Some.behind (take e m)) c.in-Some.ensures.value in
    sought m c.args.name.now c.args.region e c.loop-other.at c.min-end.ensures c.loop-other.invariant _ here (cond-false _ _ _ (sym c.if-not-precedes.ensures))

pub returns-then-eq-clause-met : goal.returns-then-eq-clause-met
returns-then-eq-clause-met c = c.if-eq.ensures ∙ (stopped (goal.at.returns-then-eq-clause-met c).Then-not-precedes).1

pub returns-else-eq-clause-left : goal.returns-else-eq-clause-left
returns-else-eq-clause-left c = (stopped (goal.at.returns-else-eq-clause-left c).Then-not-precedes).0

pub returns-else-eq-clause-met : goal.returns-else-eq-clause-met
returns-else-eq-clause-met c = c.if-eq.ensures ∙ (stopped (goal.at.returns-else-eq-clause-met c).Then-not-precedes).1

pub loop-other-preserved : goal.loop-other-preserved
loop-other-preserved c =
    let m = c.args.message.now in
    let e = c.min-end.result in
    c.loop-other.invariant ∙ ap (past c.args.name.now) (one_here m e c.loop-other.at c.in-Some.other.now (drop c.in-Some.behind (take e m)) c.in-Some.ensures.value) ∙ cond-true _ _ _ (sym c.if-not-precedes.ensures)

-- no node was found
ended : (c : In_default) → (names_in c.args.message.now (record { start = c.loop-other.at; end = c.min-end.result }) ≡ past c.args.name.now (names_in c.args.message.now c.args.region))
    × (false ≡ met c.args.name.now (names_in c.args.message.now c.args.region))
ended c =
    let m = c.args.message.now in
    let e = c.min-end.result in
    sought m c.args.name.now c.args.region e c.loop-other.at c.min-end.ensures c.loop-other.invariant [] (none_here m e c.loop-other.at c.in_default.ensures.value) refl

pub returns-in_default-clause-left : goal.returns-in_default-clause-left
returns-in_default-clause-left c = (ended (goal.at.returns-in_default-clause-left c).In_default).0

pub returns-in_default-clause-met : goal.returns-in_default-clause-met
returns-in_default-clause-met c = (ended (goal.at.returns-in_default-clause-met c).In_default).1
