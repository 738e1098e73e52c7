use Rattle.std.proofs.Common.{◌≡◌, ℕ, ◌*◌, ◌/◌, ◌<◌, true, [], length, get_or, Ok, sym, ap, ◌∙◌, arith, rules, tests}
use Rattle.std.specs.Simd.{first_chunks}
use Rattle.hash.specs.Bytes.{words_of}
use Rattle.hash.specs.Text.{every_hex}
use Rattle.hash.proofs.Arrays.{pair_value, made, pair_at, spelled_by, accepted}
use Rattle.hash.proofs.Inverse.{text_is_the_only_one}
use Rattle.hash.proofs.hash.Hash.from_text.Goals as goal

pub returns-then-text-ne64-clause-texts : goal.returns-then-text-ne64-clause-texts
returns-then-text-ne64-clause-texts c = text_is_the_only_one

pub returns-clause-answer : goal.returns-clause-answer
returns-clause-answer c =
    let text = c.args.text.now in
    let every : every_hex text ≡ true = sym c.every_hex.ensures ∙ c.if-not-every_hex.false in
    let long : length text ≡ 2 * 32 = c.if-text-ne64.false in
    let half : length text / 2 ≡ 32 = omega arith in
    let pairs = c.as_chunks.result.0.now in
    let are : pairs ≡ first_chunks 2 32 text = c.as_chunks.ensures.front ∙ ap (λ n. first_chunks 2 n text) half in
    let each : (i : ℕ) → i < 32 → get_or c.from_fn.result i 0 ≡ pair_value (get_or pairs i []) =
    made _ _ (λ i. pair_value (get_or pairs i [])) 32 (λ i y q l k. search (rules, tests)) c.from_fn.result 0 c.from_fn.ensures.items in
    let bytes = spelled_by 32 text c.from_fn.result long c.from_fn.ensures.items.long (λ i l. each i l ∙ ap (λ p. pair_value (get_or p i [])) are ∙ pair_at text 32 i every long l) in
    ap Ok (c.from_bytes.ensures ∙ ap words_of bytes) ∙ accepted text c.if-text-ne64.false every

pub returns-clause-texts : goal.returns-clause-texts
returns-clause-texts c = text_is_the_only_one
