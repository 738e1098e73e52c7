use Rattle.std.proofs.Common.{get_or, ap, ◌∙◌, arith, length-take}
use Rattle.std.specs.Option.{option_map}
use Rattle.wire.proofs.Finding.{Found, found}
use Rattle.directory.specs.Regions.{front_in}
use Rattle.directory.proofs.Places.{found_under, read_none, read_some, nameless, node_found}
use Rattle.directory.proofs.region.node_front.Goals as goal
use Rattle.directory.proofs.region.node_front.Goals.{In_ok-node}

-- the node's field
node : (c : In_ok-node) → Found (get_or c.args.message.now c.args.at 0) c.args.at c.args.message.now c.in_ok-node.node
node c = found_under _ _ _ _ _ (read_some _ _ _ _ c.in_ok-node.ensures.value c.read_field.ensures.value c.read_field.ensures.within).0 (c.in_ok-tag.ensures.lookup.3.1 0)

pub returns-in_err-name-clause-value : goal.returns-in_err-name-clause-value
returns-in_err-name-clause-value c =
    let e = read_none _ _ c.in_err-name.ensures.value c.read_field-2.ensures.value in
    ap (option_map (front_in c.args.message.now)) c.from_residual-in_err-name.ensures
    ∙ nameless c.args.at c.args.message.now c.in_ok-node.node (node (goal.at.returns-in_err-name-clause-value c).In_ok-node) e.0 e.1

pub returns-clause-value : goal.returns-clause-value
returns-clause-value c =
    let n = read_some _ _ c.in_ok-name.name _ c.in_ok-name.ensures.value c.read_field-2.ensures.value c.read_field-2.ensures.within in
    let inside = n.1 in
    let size = length-take c.in_ok-node.node.end c.args.message.now in
    node_found c.args.at c.args.message.now c.in_ok-node.node (node (goal.at.returns-clause-value c).In_ok-node) c.in_ok-name.name (found _ _ _ _ n.0) (omega arith)
