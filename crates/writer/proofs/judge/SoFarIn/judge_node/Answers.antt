use Rattle.std.proofs.Common.{◌≡◌, ℕ, ◌+◌, ◌≤◌, List, ◌++◌, length, Err, ap, ◌∙◌, arith, length-append}
use Rattle.std.proofs.lemmas.Result.{err_from_is_err_and}
use Rattle.wire.specs.Fields.{field_bytes}
use Rattle.wire.specs.Numbers.{form}
use Rattle.wire.specs.Refusals.{reported, refusal_of}
use Rattle.nodes.specs.Kinds.{part as text_at}
use Rattle.nodes.specs.Nodes.{node_bytes}
use Rattle.writer.specs.Growing.{inside}
use Rattle.writer.specs.Judging.{met_before}
use Rattle.writer.proofs.Saying.{name_refused, rest_decides}
use Rattle.writer.proofs.judge.SoFarIn.judge_node.Goals as goal

-- what the node takes
record Lengths (m name w : List ℕ) (code a b : ℕ) : Type 0 where
  body : a + b ≡ length (field_bytes 0x0A name ++ w)
  whole : length m + 1 + length (form (length (field_bytes 0x0A name ++ w))) + (a + b) ≤ 16777216
  inner : a ≡ 1 + length (form (length name)) + length name

lengths : (m name w : List ℕ) (code a b : ℕ) → a ≡ length (field_bytes 0x0A name) → b ≡ length w → length (m ++ node_bytes code name w) ≤ 16777216 → Lengths m name w code a b
lengths m name w code a b is_a is_b h =
    let x = field_bytes 0x0A name ++ w in
    let body = length-append (field_bytes 0x0A name) w in
    let all = length-append m (node_bytes code name w) in
    let node = length-append (form (length x)) x in
    let field = length-append (form (length name)) name in
    record { body = omega arith; whole = omega arith; inner = omega arith }

-- the place of the name, as the code counts it
module _ (m name w : List ℕ) (code a b j k : ℕ) (l : Lengths m name w code a b) (is_j : j ≡ length (form (a + b))) (is_k : k ≡ length (form (length name))) where
  placed_at : length m + 1 + j + 1 + k ≡ inside (length m) (field_bytes 0x0A name ++ w) + 1 + length (form (length name))
  placed_at = let first : j ≡ length (form (length (field_bytes 0x0A name ++ w))) = is_j ∙ ap (λ n. length (form n)) l.body in omega arith

  fits : length m + 1 + j + 1 + k + length name ≤ 16777216
  fits =
      let first : j ≡ length (form (length (field_bytes 0x0A name ++ w))) = is_j ∙ ap (λ n. length (form n)) l.body in
      let whole = l.whole in
      let inner = l.inner in
      omega arith

pub returns-in_err-judge_name : goal.returns-in_err-judge_name
returns-in_err-judge_name g c =
    let p = err_from_is_err_and c.from_residual.result c.from_residual.ensures.1 in
    let k = g.K.NodeKind in
    let m = c.args.self.now.bytes.now in
    let name = c.args.node.now.name.now in
    let w = k.writes (k.rest_in c.args.node.now.text.now c.args.node.now.rest.now) in
    let l = lengths m name w k.code _ _ (c.field_length.ensures.value 10) c.rest_length.ensures.value c.requires in
    let at = placed_at m name w k.code _ _ _ _ l c.number_length.ensures.value c.number_length-2.ensures.value in
    ap reported p.1 ∙ ap (λ f. Err (refusal_of f)) p.2
    ∙ name_refused k.code k.reads (met_before m c.args.self.now.part c.args.self.now.so_far.sections) (text_at m c.args.self.now.so_far.last) _ name w (omega arith) _ _ at c.in_err-judge_name.ensures

pub returns : goal.returns
returns g c =
    let k = g.K.NodeKind in
    let m = c.args.self.now.bytes.now in
    let name = c.args.node.now.name.now in
    let w = k.writes (k.rest_in c.args.node.now.text.now c.args.node.now.rest.now) in
    let l = lengths m name w k.code _ _ (c.field_length.ensures.value 10) c.rest_length.ensures.value c.requires in
    let at = placed_at m name w k.code _ _ _ _ l c.number_length.ensures.value c.number_length-2.ensures.value in
    c.judge_rest.ensures
    ∙ rest_decides k.code k.reads (met_before m c.args.self.now.part c.args.self.now.so_far.sections) (text_at m c.args.self.now.so_far.last) _ name w (omega arith) _ at c.in_ok-judge_name.ensures
