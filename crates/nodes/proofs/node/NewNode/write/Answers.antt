use Rattle.std.proofs.Common.{◌≡◌, ℕ, ◌+◌, ◌-◌, ◌^◌, ◌<◌, ◌≤◌, true, List, [], ◌++◌, length, min, sym, ap, ◌∙◌, arith, length-append}
use Rattle.wire.specs.Fields.{field_bytes}
use Rattle.wire.specs.Numbers.{form}
use Rattle.wire.specs.Writing.{after, has_room}
use Rattle.nodes.specs.Nodes.{node_bytes}
use Rattle.nodes.proofs.Composing.{field_long, field_written}
use Rattle.std.proofs.lemmas.Bool.{leb-true}
use Rattle.nodes.proofs.node.NewNode.write.Goals as goal

-- a node that fits has a message whose length can be told, and room part by part
record Fits (e name w : List ℕ) (s tag long : ℕ) : Type 0 where
  told : long ≡ length (field_bytes 0x0A name ++ w)
  room : s + (1 + length (form long) + length (field_bytes 0x0A name) + length w + 0) ≤ length e

fitting : (e name w : List ℕ) (s tag long : ℕ) → length e < 2 ^ 64 - 1 → true ≡ has_room e s (node_bytes tag name w) → long ≡ min (length (field_bytes 0x0A name ++ w)) (2 ^ 64 - 1) → Fits e name w s tag long
fitting e name w s tag long below fits is =
    let m = field_bytes 0x0A name ++ w in
    let room = leb-true (s + length (node_bytes tag name w)) (length e) (sym fits) in
    let f = length-append (form (length m)) m in
    let told : long ≡ length m = omega arith in
    record { told = told; room = omega (arith, field_long tag name w long told) }

pub returns-clause-buffer : goal.returns-clause-buffer
returns-clause-buffer g c =
    let e = c.args.buffer.now in
    let s = c.args.start in
    let name = c.args.self.now.name.now in
    let w = g.K.NodeKind.writes (g.K.NodeKind.rest_in c.args.self.now.text.now c.args.self.now.rest.now) in
    let f = fitting e name w s g.K.NodeKind.code c.message_length.result (omega arith) c.if-not-fits.ensures c.message_length.ensures in
    let p =
    field_written e s c.tag.result name w [] _ f.told f.room
    _ _ c.in_ok-name_at.ensures.buffer c.in_ok-name_at.ensures.answer _ _ c.in_ok-rest_at.ensures.buffer c.in_ok-rest_at.ensures.answer in
    c.write_rest.ensures.buffer ∙ p.1 ∙ ap (λ t. after e s (node_bytes t name w)) c.tag.ensures
