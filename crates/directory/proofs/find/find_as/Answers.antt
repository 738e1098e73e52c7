use Rattle.std.proofs.Common.{◌≡◌, ◌≤◌, take, drop, Ok, sym, ap, ◌∙◌, arith, length-take}
use Rattle.std.proofs.lemmas.List.{take-append-drop}
use Rattle.wire.proofs.Finding.{found}
use Rattle.directory.specs.Items.{found_of}
use Rattle.directory.proofs.Places.{found_under, refused_by}
use Rattle.directory.proofs.Located.{name_refused, rest_refused, node_found}
use Rattle.directory.proofs.find.find_as.Given as given
use Rattle.directory.proofs.find.find_as.Goals as goal
use Rattle.directory.proofs.find.find_as.Goals.{In_ok-name}

-- the name ends within its node
inner : (g : given.Over) (c : In_ok-name g) → c.in_ok-name.name.end ≤ c.in_ok-start.field-0.end
inner g c =
    let n = c.in_ok-name.ensures.within in
    let l = length-take c.in_ok-start.field-0.end c.args.bytes.now in
    omega arith

pub returns-in_err-name-clause-value : goal.returns-in_err-name-clause-value
returns-in_err-name-clause-value g c item =
    let k = g.K.NodeKind in
    let m = c.args.bytes.now in
    let f = found_under _ _ _ _ c.in_ok-start.field-0 c.in_ok-start.ensures.value c.tag.ensures in
    ap (found_of k.rest_in item m) (refused_by _ _ c.from_residual-in_err-name.ensures.1) ∙ name_refused k.code k.finds item c.args.place m _ f _ c.in_err-name.ensures.value

pub returns-in_err-kind-clause-value : goal.returns-in_err-kind-clause-value
returns-in_err-kind-clause-value g c item =
    let k = g.K.NodeKind in
    let m = c.args.bytes.now in
    let f = found_under _ _ _ _ c.in_ok-start.field-0 c.in_ok-start.ensures.value c.tag.ensures in
    let i = inner g (goal.at.returns-in_err-kind-clause-value g c).In_ok-name in
    ap (found_of k.rest_in item m) (refused_by _ _ c.from_residual-in_err-kind.ensures.1)
    ∙ rest_refused k.code k.finds item c.args.place m _ f _ (found 0x0A _ _ _ c.in_ok-name.ensures.value) i _ c.in_err-kind.ensures.value

pub returns-clause-value : goal.returns-clause-value
returns-clause-value g c item =
    let k = g.K.NodeKind in
    let m = c.args.bytes.now in
    let e = c.in_ok-start.field-0.end in
    let f = found_under _ _ _ _ c.in_ok-start.field-0 c.in_ok-start.ensures.value c.tag.ensures in
    let i = inner g (goal.at.returns-clause-value g c).In_ok-name in
    let v = c.in_ok-kind.kind in
    let same : k.rest_in m v ≡ k.rest_in (take e m) v = ap (λ l. k.rest_in l v) (sym (take-append-drop e m)) ∙ c.in_ok-kind.ensures.within (drop e m) in
    node_found k.code k.finds item c.args.place m _ f _ (found 0x0A _ _ _ c.in_ok-name.ensures.value) i _ (ap Ok same ∙ c.in_ok-kind.ensures.value)
