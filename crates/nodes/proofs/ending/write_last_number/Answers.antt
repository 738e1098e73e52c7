use Rattle.std.proofs.Common.{◌≡◌, ℕ, ◌∷◌, length, eqb, ap, ◌∙◌, arith}
use Rattle.std.proofs.lemmas.Bool.{cond-false, ne_eqb}
use Rattle.wire.specs.Numbers.{form}
use Rattle.nodes.specs.Endings.{last_bytes}
use Rattle.wire.proofs.Placing.{there_is_room}
use Rattle.nodes.proofs.ending.write_last_number.Goals as goal

some : (tag n : ℕ) → (n ≡ 0 → ⊥) → last_bytes tag n ≡ tag ∷ form n
some tag n h = cond-false (eqb n 0) _ _ (ne_eqb n 0 h)

pub bounds-buffer-start : goal.bounds-buffer-start
bounds-buffer-start c =
    let room = there_is_room _ _ _ c.in_ok-end_of.ensures in
    let count : c.last_number_length.result ≡ length (c.args.tag ∷ form c.args.number) = c.last_number_length.ensures.value c.args.tag ∙ ap length (some c.args.tag c.args.number c.if-number-eq0.false) in
    omega arith
