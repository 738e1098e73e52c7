use Rattle.std.proofs.Common.{◌≡◌, ◌/◌, ◌≤◌, ◌++◌, length, Ok, sym, ap, ◌∙◌, arith, fold}
use Rattle.std.proofs.lemmas.Bool.{le-leb, cond-true}
use Rattle.std.specs.Simd.{first_chunks}
use Rattle.sha256.specs.Sha256.{H₀, absorbed, compressed, padded, padding, words, sha256}
use Rattle.sha256.proofs.Absorbing.{in_two_parts}
use Rattle.sha256.proofs.message.sha256.Goals as goal

pub returns : goal.returns
unfolding sha256
returns c =
    let m = c.args.message.now in
    let end = c.last_blocks-end.result.items in
    let state : c.absorb-state.result ≡ absorbed H₀ (padded m) (length (padded m) / 64) =
    c.absorb-state.ensures
    ∙ ap (λ s. fold compressed s c.as_chunks-2.result.0.now) (c.absorb.ensures ∙ ap (λ s. fold compressed s c.as_chunks.result.0.now) c.first.ensures)
    ∙ ap (λ l. fold compressed (fold compressed H₀ l) c.as_chunks-2.result.0.now) c.as_chunks.ensures.front
    ∙ ap (fold compressed (fold compressed H₀ (first_chunks 64 (length m / 64) m))) (c.as_chunks-2.ensures.front ∙ ap (λ l. first_chunks 64 (length l / 64) l) c.as_slice.ensures.value)
    ∙ in_two_parts m end (c.last_blocks-end.ensures ∙ ap (λ l. l ++ padding (length m)) c.as_chunks.ensures.back) in
    let small : length m ≤ 16777216 = omega arith in
    ap Ok (c.into.ensures ∙ ap words state) ∙ sym (cond-true _ _ _ (le-leb (length m) 16777216 small))
