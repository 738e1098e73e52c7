use Rattle.std.proofs.Common.{Err, ap, ◌∙◌}
use Rattle.std.proofs.lemmas.Result.{err_from_is_err_and}
use Rattle.wire.specs.Refusals.{refusal_of}
use Rattle.wire.proofs.Finding.{found}
use Rattle.nodes.specs.Digests.{reported_digest}
use Rattle.nodes.proofs.Digesting.{no_hash, no_size, a_digest}
use Rattle.nodes.proofs.digest_message.read_digest.Goals as goal

pub returns-in_default : goal.returns-in_default
returns-in_default c = no_hash c.args.start c.args.message.now _ (found 0x0A _ _ _ c.in_ok-first.ensures.value) c.from_text.result c.from_text.ensures.answer c.in_default.not-Ok

pub returns-in_err-size : goal.returns-in_err-size
returns-in_err-size c =
    let p = err_from_is_err_and c.from_residual-in_err-size.result c.from_residual-in_err-size.ensures.1 in
    ap reported_digest p.1 ∙ ap (λ f. Err (refusal_of f)) p.2
    ∙ no_size c.args.start c.args.message.now _ (found 0x0A _ _ _ c.in_ok-first.ensures.value) _ c.in-Ok.ensures.answer _ c.in_err-size.ensures.value

pub returns : goal.returns
returns c = a_digest c.args.start c.args.message.now _ (found 0x0A _ _ _ c.in_ok-first.ensures.value) _ c.in-Ok.ensures.answer _ c.in_ok-size.ensures.value
