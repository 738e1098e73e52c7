use Rattle.std.proofs.Common.{◌≡◌, ℕ, ◌+◌, ◌/◌, ◌<◌, length, set, sym, ◌∙◌, subst, arith}
use Rattle.wire.specs.Numbers.{form}
use Rattle.wire.proofs.Filling.{Filling, group_byte, filling_none, filling_last, filling_more, filling_all}
use Rattle.wire.proofs.write.fill_number.Goals as goal
use Rattle.wire.proofs.write.fill_number.Goals.{then-rest-lt128, else-rest-lt128}

pub loop-byte-init : goal.loop-byte-init
loop-byte-init c = filling_none _ _ (omega arith)

pub loop-byte-preserved : goal.loop-byte-preserved
loop-byte-preserved c =
    let l = c.loop-byte in
    let n = c.args.value in
    let long : length l.part ≡ length (form n) = l.auto.part ∙ c.requires in
    let here : l.byte-index < length l.part = omega arith in
    let Next = λ (b : ℕ). Filling n (set l.part l.byte-index b) (l.byte-index + 1) (l.rest / 128) in
    elim c.if-rest-lt128.branch [
      | then-rest-lt128 w ↦ subst Next (sym w.byte-is) (filling_last _ _ _ _ l.invariant long here w.if-rest-lt128.true)
      | else-rest-lt128 w ↦ subst Next (sym (w.byte-is ∙ group_byte l.rest)) (filling_more _ _ _ _ l.invariant long here w.if-rest-lt128.false)
    ]

pub returns : goal.returns
returns c =
    let l = c.loop-byte in
    let all : l.byte-index ≡ length l.part = omega arith in
    filling_all _ _ _ _ l.invariant (l.auto.part ∙ c.requires) all
