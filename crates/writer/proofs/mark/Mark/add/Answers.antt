use Rattle.std.proofs.Common.{◌≡◌, ℕ, ◌+◌, ◌≤◌, true, List, ◌++◌, length, take, Ok, Err, Result, sym, ap, ◌∙◌, arith, length-append}
use Rattle.std.proofs.lemmas.List.{length-take-le}
use Rattle.std.proofs.lemmas.Bool.{cond-true, leb-true, eqb-true}
use Rattle.std.proofs.lemmas.Result.{err_from_is_err_and}
use Rattle.wire.specs.Writing.{has_room, ending}
use Rattle.nodes.specs.Nodes.{message_of, bytes_of}
use Rattle.nodes.specs.Values.{verdict}
use Rattle.directory.specs.declared.part.Part.{Part}
use Rattle.directory.specs.declared.part.SoFar.{SoFar}
use Rattle.writer.specs.declared.mark.Mark.{Mark}
use Rattle.writer.specs.Faults.{answer, writer_refusal}
use Rattle.writer.specs.Marks.{marked_in, checked}
use Rattle.writer.specs.States.{buffer_after, state_after}
use Rattle.writer.proofs.Adding.{judged, kept, added-refused, added_taken}
use Rattle.writer.proofs.mark.Mark.add.Goals as goal

-- the bytes so far with the node fit the buffer
fits : (buffer node : List ℕ) (used : ℕ) → used ≤ length buffer → length buffer ≤ 16777216 → has_room buffer used node ≡ true → length (take used buffer ++ node) ≤ 16777216
fits buffer node used low small room =
    let l = length-append (take used buffer) node in
    let t = length-take-le used buffer low in
    let r = leb-true (used + length node) (length buffer) room in
    omega arith

module _ (p : Part) (k : Mark) (buffer node : List ℕ) (so : SoFar) (e : Ok so ≡ checked (marked_in p k) buffer) (room : true ≡ has_room buffer k.used node) where
  small : length (take k.used buffer ++ node) ≤ 16777216
  small =
      let is = eqb-true (length buffer) k.long (kept (marked_in p k) buffer so e).0 in
      let within = k.within in
      let bound = k.small in
      fits buffer node k.used (omega arith) (omega arith) (sym room)

pub returns-in_err-judge_node : goal.returns-in_err-judge_node
returns-in_err-judge_node g c =
    let k = g.K.NodeKind in
    let p = c.args.part in
    let s = marked_in p c.args.self.now in
    let b = c.args.buffer.now in
    let body = message_of k.writes k.rest_in c.args.node.now in
    let node = bytes_of k.code k.writes k.rest_in c.args.node.now in
    let e = c.in_ok-so_far.ensures in
    let room = c.if-not-fits.ensures in
    let said = c.in_err-judge_node.ensures ∙ judged p k.code k.reads c.requires (take c.args.self.now.used b) body c.in_ok-so_far.so_far (kept s b _ e).1 (small p c.args.self.now b node _ e room) in
    let r = added-refused s b node _ e (sym room) _ said in
    let from = err_from_is_err_and c.from_residual-in_err-judge_node.result c.from_residual-in_err-judge_node.ensures.1 in
    record {
      answer = ap answer from.1 ∙ ap (λ f. Err (writer_refusal f)) from.2 ∙ sym (ap verdict r);
      state = sym (ap (state_after s) r);
      buffer = sym (ap (buffer_after s b node) r);
    }

-- a node that fits is written
written_at : (buffer node : List ℕ) (used end : ℕ) → true ≡ has_room buffer used node → Ok end ≡ ending buffer used node → end ≡ used + length node
written_at buffer node used end room e = let w : ◌≡◌ {A = Result ℕ ℕ} (Ok end) (Ok (used + length node)) = e ∙ cond-true (has_room buffer used node) _ _ (sym room) in cc

pub returns : goal.returns
returns g c =
    let k = g.K.NodeKind in
    let p = c.args.part in
    let s = marked_in p c.args.self.now in
    let b = c.args.buffer.now in
    let body = message_of k.writes k.rest_in c.args.node.now in
    let node = bytes_of k.code k.writes k.rest_in c.args.node.now in
    let e = c.in_ok-so_far.ensures in
    let room = c.if-not-fits.ensures in
    let said = c.in_ok-judge_node.ensures ∙ judged p k.code k.reads c.requires (take c.args.self.now.used b) body c.in_ok-so_far.so_far (kept s b _ e).1 (small p c.args.self.now b node _ e room) in
    let r = added_taken s b node _ e (sym room) said in
    record {
      answer = sym (ap verdict r);
      state = ap (λ n. state_after s (Ok n)) (written_at b node c.args.self.now.used _ room c.in_ok-self.ensures.answer) ∙ sym (ap (state_after s) r);
      buffer = c.in_ok-self.ensures.buffer ∙ cond-true (has_room b c.args.self.now.used node) _ _ (sym room) ∙ sym (ap (buffer_after s b node) r);
    }
