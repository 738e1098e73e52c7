use Rattle.std.proofs.Common.{◌≡◌, ℕ, ◌+◌, ◌-◌, ◌*◌, ◌%◌, ◌^◌, ◌<◌, ◌≤◌, List, length, get_or, Some, ap, sym, ◌∙◌, subst, ⊎_elim, arith}
use lib.Bits.{bit_and, bit_or}
use Rattle.std.proofs.lemmas.Nat.{and_mask}
use Rattle.wire.specs.Numbers.{front}
use Rattle.wire.proofs.Groups.{Reading, reading-none, reading_nine, reading_more, cut_off, not_shortest, whole, low_bits, or_group, group_below}
use Rattle.wire.proofs.number.number_in_front.Goals as goal

-- the group of a byte below 128 ends the number
last : (bs : List ℕ) (i v b d : ℕ) → v < 2 ^ (7 * i) → Reading bs i v → i < 9 → i < length bs → b ≡ get_or bs i 0 → b < 128 → (0 < i → 0 < get_or bs i 0)
    → d ≡ bit_and b 127 → Some (bit_or v ((d * 2 ^ (7 * i)) % 2 ^ 64), i + 1) ≡ front bs
last bs i v b d small reading few on same low some is =
    let group : d ≡ get_or bs i 0 = is ∙ and_mask b 7 ∙ omega arith in
    let joined : bit_or v ((d * 2 ^ (7 * i)) % 2 ^ 64) ≡ v + get_or bs i 0 * 2 ^ (7 * i) =
    ap (λ n. bit_or v ((n * 2 ^ (7 * i)) % 2 ^ 64)) group ∙ or_group v (get_or bs i 0) i small (omega arith) few in
    ap (λ n. Some (n, i + 1)) joined ∙ whole bs i v few reading on (omega arith) some

pub loop-i-init : goal.loop-i-init
loop-i-init c = (omega arith, reading-none _)

pub returns-in_err-byte : goal.returns-in_err-byte
returns-in_err-byte c = c.from_residual.ensures ∙ cut_off _ _ _ c.loop-i-test.true c.loop-i.invariant.1 c.in_err-byte.ensures.lookup.3

pub returns-then-i-gt0 : goal.returns-then-i-gt0
returns-then-i-gt0 c =
    let at = c.in_ok-byte.ensures.lookup.3 in
    not_shortest _ _ _ c.loop-i-test.true c.loop-i.invariant.1 at.0 (sym (at.1 0) ∙ c.if-byte-eq0.true) c.if-i-gt0.true

pub returns-else-byte-eq0 : goal.returns-else-byte-eq0
returns-else-byte-eq0 c =
    let i = c.loop-i.i in
    let at = c.in_ok-byte.ensures.lookup.3 in
    let same = at.1 0 in
    let some : 0 < i → 0 < get_or c.args.bytes.now i 0 = λ late. ⊎_elim (λ h. omega arith) (λ h. omega arith) c.else-byte-eq0.either in
    last _ i _ _ _ c.loop-i.invariant.0 c.loop-i.invariant.1 c.loop-i-test.true at.0 same c.if-byte-lt128.true some c.from.ensures

pub loop-i-preserved : goal.loop-i-preserved
loop-i-preserved c =
    let bs = c.args.bytes.now in
    let i = c.loop-i.i in
    let b = get_or bs i 0 in
    let at = c.in_ok-byte.ensures.lookup.3 in
    let same = at.1 0 in
    let byte : b < 256 = omega (arith, c.type_inv.bytes i) in
    let high : 128 ≤ b = omega arith in
    let group = c.from.ensures ∙ ap (λ d. bit_and d 127) same ∙ low_bits b high byte in
    let joined = ap (λ d. bit_or c.loop-i.value ((d * 2 ^ (7 * i)) % 2 ^ 64)) group ∙ or_group _ (b - 128) i c.loop-i.invariant.0 (omega arith) c.loop-i-test.true in (
      subst (λ n. n < 2 ^ (7 * (i + 1))) (sym joined) (group_below _ _ i c.loop-i.invariant.0 (omega arith)),
      subst (Reading bs (i + 1)) (sym joined) (reading_more _ i _ c.loop-i-test.true c.loop-i.invariant.1 at.0 high byte),
    )

pub returns : goal.returns
returns c = reading_nine _ c.loop-i.i _ (omega arith) c.loop-i.invariant.1
