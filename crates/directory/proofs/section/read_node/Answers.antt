use Rattle.std.proofs.Common.{◌≡◌, ◌+◌, length, take, drop, ap, ◌∙◌, arith, length-take}
use Rattle.nodes.specs.Kinds.{part}
use Rattle.directory.specs.Steps.{met_in, extent, extent_of}
use Rattle.directory.proofs.Places.{found_under, refused_by}
use Rattle.directory.proofs.Reaching.{part_length, behind_name, name_refused, at_name, order_refused, repeat_refused, rest_refused, rest_read}
use Rattle.directory.proofs.section.read_node.Given as given
use Rattle.directory.proofs.section.read_node.Goals as goal
use Rattle.directory.proofs.section.read_node.Goals.{In_ok-name}

pub returns-in_err-name-clause-value : goal.returns-in_err-name-clause-value
returns-in_err-name-clause-value g c =
    let f = found_under _ _ _ _ c.in_ok-start.field-0 c.in_ok-start.ensures.value c.tag.ensures in
    ap extent_of (refused_by _ _ c.from_residual-in_err-name.ensures.1) ∙ name_refused _ g.K.NodeKind.reads _ _ _ _ _ f _ c.in_err-name.ensures.value

-- the node, by what is answered of its name
named : (g : given.Over) (c : In_ok-name g)
    → behind_name g.K.NodeKind.reads (met_in c.args.bytes.now c.args.progress.earlier) (part c.args.bytes.now c.args.progress.last) c.in_ok-start.field-0.end (record {
      text = part c.args.bytes.now c.in_ok-name.name;
      place = c.in_ok-name.name.start;
      rest = drop c.in_ok-name.name.end (take c.in_ok-start.field-0.end c.args.bytes.now);
    })
    ≡ extent g.K.NodeKind.code g.K.NodeKind.reads (met_in c.args.bytes.now c.args.progress.earlier) (part c.args.bytes.now c.args.progress.last) c.args.progress.at (drop c.args.progress.at c.args.bytes.now)
named g c =
    let n = c.in_ok-name.ensures in
    let w = n.within in
    let l = length-take c.in_ok-start.field-0.end c.args.bytes.now in
    at_name _ g.K.NodeKind.reads _ _ _ _ _ (found_under _ _ _ _ c.in_ok-start.field-0 c.in_ok-start.ensures.value c.tag.ensures) c.in_ok-name.name n.value (omega arith)

pub returns-then-not-precedes-clause-value : goal.returns-then-not-precedes-clause-value
returns-then-not-precedes-clause-value g c = order_refused g.K.NodeKind.reads _ _ _ _ c.if-not-precedes.ensures ∙ named g (goal.at.returns-then-not-precedes-clause-value g c).In_ok-name

pub returns-in_default-clause-value : goal.returns-in_default-clause-value
returns-in_default-clause-value g c = repeat_refused g.K.NodeKind.reads _ _ _ _ c.if-not-precedes.ensures c.in_default.ensures.met ∙ named g (goal.at.returns-in_default-clause-value g c).In_ok-name

-- how long the name is
long : (g : given.Over) (c : In_ok-name g) → c.in_ok-name.name.start + length (part c.args.bytes.now c.in_ok-name.name) ≡ c.in_ok-name.name.end
long g c =
    let w = c.in_ok-name.ensures.within in
    let v = c.in_ok-start.ensures.within in
    let l = length-take c.in_ok-start.field-0.end c.args.bytes.now in
    part_length c.args.bytes.now c.in_ok-name.name w.1 (omega arith)

pub returns-in_err-read_rest-clause-value : goal.returns-in_err-read_rest-clause-value
returns-in_err-read_rest-clause-value g c =
    let n = (goal.at.returns-in_err-read_rest-clause-value g c).In_ok-name in
    ap extent_of (refused_by _ _ c.from_residual-in_err-read_rest.ensures.1)
    ∙ rest_refused g.K.NodeKind.reads _ _ _ _ c.if-not-precedes.ensures c.in-Some.ensures.met _ (long g n) _ c.in_err-read_rest.ensures.value ∙ named g n

pub returns-clause-value : goal.returns-clause-value
returns-clause-value g c =
    let n = (goal.at.returns-clause-value g c).In_ok-name in
    rest_read g.K.NodeKind.reads _ _ _ _ c.if-not-precedes.ensures c.in-Some.ensures.met _ (long g n) _ c.in_ok-read_rest.ensures.value ∙ named g n
