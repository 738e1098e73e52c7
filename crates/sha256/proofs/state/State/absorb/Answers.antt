use Rattle.std.proofs.Common.{◌≡◌, ◌*◌, ◌/◌, ◌++◌, length, take, drop, fold, sym, ap, ◌∙◌, arith}
use Rattle.std.proofs.lemmas.List.{take_all, take-append-drop}
use Rattle.std.proofs.lemmas.List.Sums.{fold-append}
use Rattle.sha256.specs.Sha256.{compressed}
use Rattle.sha256.proofs.Absorbing.{fold-chunks}
use Rattle.sha256.proofs.state.State.absorb.Goals as goal

pub returns : goal.returns
returns c =
    let s = c.args.self in
    let blocks = c.args.blocks.now in
    let k = length blocks / 4 in
    let fours = c.as_chunks.result.0.now in
    let others = c.as_chunks.result.1.now in
    let at : k * 4 ≡ 4 * k = omega arith in
    c.loop-block.invariant
    ∙ ap (fold compressed c.loop-four.s) (take_all c.loop-block.block-index others (omega arith) ∙ c.as_chunks.ensures.back)
    ∙ ap (λ v. fold compressed v (drop (k * 4) blocks))
    (c.loop-four.invariant ∙ ap (fold (fold compressed) s) (take_all c.loop-four.four-index fours (omega arith) ∙ c.as_chunks.ensures.front) ∙ fold-chunks 4 compressed s k blocks)
    ∙ sym (fold-append compressed s (take (4 * k) blocks) (drop (k * 4) blocks))
    ∙ ap (λ e. fold compressed s (take (4 * k) blocks ++ drop e blocks)) at
    ∙ ap (fold compressed s) (take-append-drop (4 * k) blocks)
