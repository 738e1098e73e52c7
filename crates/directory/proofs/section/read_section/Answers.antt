use Rattle.std.proofs.Common.{◌≡◌, ℕ, ◌-◌, true, List, [], length, take, drop, Ok, sym, ap, ◌∙◌, subst, arith}
use Rattle.texts.specs.Order.{before}
use Rattle.wire.specs.declared.field.Span.{Span}
use Rattle.wire.specs.Refusals.{reported}
use Rattle.nodes.specs.Kinds.{part}
use Rattle.directory.specs.Directories.{files_at, directories_at}
use Rattle.directory.specs.Regions.{names_in, past}
use Rattle.directory.specs.Sections.{among, section}
use Rattle.directory.specs.Steps.{met_in, earlier_names, ends}
use Rattle.directory.proofs.Places.{refused_by}
use Rattle.directory.proofs.Ascents.{Passed, passed_none, passed_on}
use Rattle.directory.proofs.Sectioning.{met-both, extent_alike, tagged, untagged, stop_at, refused_here, one_more}
use Rattle.directory.proofs.section.read_section.Given as given
use Rattle.directory.proofs.section.read_section.Goals as goal
use Rattle.directory.proofs.section.read_section.Goals.{In-loop-progress}

-- no name at all
no_name : (m : List ℕ) (p : ℕ) → part m (record { start = p; end = p }) ≡ []
no_name m p = let z : p - p ≡ 0 = omega arith in ap (λ k. take k (drop p m)) z

-- the test on what is left of the earlier sections is the one on all their names
alike : (g : given.Over) (c : In-loop-progress g) (name : List ℕ) → before (part c.args.bytes.now c.loop-progress.progress.1.0) name ≡ true
    → met_in c.args.bytes.now c.loop-progress.progress.1.1.0 name ≡ among name (earlier_names c.args.bytes.now c.args.before)
alike g c name b = let i = c.loop-progress.invariant in met-both _ name _ _ _ _ i.6 i.7 b

pub loop-progress-init : goal.loop-progress-init
loop-progress-init g c =
    let k = g.K.NodeKind in
    let m = c.args.bytes.now in
    let p = c.args.start in
    let e = no_name m p in
    let z = ap length e in
    let left : (all now : Span) → now ≡ all → Passed (part m (record { start = p; end = p })) (names_in m all) (names_in m all) → Passed (part m (record { start = p; end = p })) (names_in m all) (names_in m now) =
    λ all now is h. subst (λ s. Passed (part m (record { start = p; end = p })) (names_in m all) (names_in m s)) (sym is) h in
    (length (drop p m), [], omega arith, omega arith, omega arith, omega arith, left (files_at c.args.before) _ c.files_span-files.ensures (passed_none _ [] _ c.requires.0), left (directories_at c.args.before) _ c.directories_span-directories.ensures (passed_none _ [] _ c.requires.1), ap (λ t. ends (section k.code k.reads (λ n. among n (earlier_names m c.args.before)) (length (drop p m)) (record { text = t; place = p; rest = [] }) p (drop p m))) (sym e))

pub returns-in_err-progress : goal.returns-in_err-progress
returns-in_err-progress g c =
    let k = g.K.NodeKind in
    let i = c.loop-progress.invariant in
    let m = c.args.bytes.now in
    let prev = part m c.loop-progress.progress.1.0 in
    let t = tagged m c.loop-progress.progress.0 k.code _ c.tag-tag.ensures c.get.result c.get.ensures.lookup c.loop-progress-test.ensures in
    let said = c.in_err-progress.ensures.value ∙ extent_alike prev _ _ (alike g (goal.at.returns-in_err-progress g c).In-loop-progress) k.code k.reads c.loop-progress.progress.0 (drop c.loop-progress.progress.0 m) in
    ap reported (refused_by _ _ c.from_residual.ensures.1)
    ∙ sym (i.8 ∙ refused_here k.code k.reads _ m c.loop-progress.progress.0 i.0 _ t.0 t.1 i.4 _ (sym said))

pub loop-progress-preserved : goal.loop-progress-preserved
loop-progress-preserved g c =
    let k = g.K.NodeKind in
    let i = c.loop-progress.invariant in
    let m = c.args.bytes.now in
    let prev = part m c.loop-progress.progress.1.0 in
    let t = tagged m c.loop-progress.progress.0 k.code _ c.tag-tag.ensures c.get.result c.get.ensures.lookup c.loop-progress-test.ensures in
    let e = c.in_ok-progress.ensures in
    let said = e.value ∙ extent_alike prev _ _ (alike g (goal.at.loop-progress-preserved g c).In-loop-progress) k.code k.reads c.loop-progress.progress.0 (drop c.loop-progress.progress.0 m) in
    let o = one_more k.code k.reads _ m c.loop-progress.progress.0 i.0 _ t.0 t.1 i.4 _ (sym said) in
    let on : (all left now : List (List ℕ)) → Passed prev all left → now ≡ past (part m c.in_ok-progress.progress.last) left → Passed (part m c.in_ok-progress.progress.last) all now =
    λ all left now h q. subst (Passed _ all) (sym q) (passed_on prev _ all left h o.above) in
    (i.0 - 1, o.rest, c.in_ok-progress.progress.ordered, c.in_ok-progress.progress.behind, o.fewer, o.long, on _ _ _ i.6 e.passed.0, on _ _ _ i.7 e.passed.1, i.8 ∙ o.onward)

pub returns : goal.returns
returns g c =
    let k = g.K.NodeKind in
    let i = c.loop-progress.invariant in
    let last = c.loop-progress.progress.1.0 in
    ap (λ e. Ok (record { last = record { start = last.start; end = e }; end = c.loop-progress.progress.0 })) (sym i.5)
    ∙ sym (i.8 ∙ stop_at k.code k.reads _ c.args.bytes.now c.loop-progress.progress.0 i.0 _ (untagged c.args.bytes.now c.loop-progress.progress.0 k.code _ c.tag-tag.ensures c.get.result c.get.ensures.lookup c.loop-progress-test.ensures))
