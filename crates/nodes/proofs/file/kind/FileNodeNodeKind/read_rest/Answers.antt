use Rattle.std.proofs.Common.{eqb, Ok, Err, sym, ap, ◌∙◌}
use Rattle.std.proofs.lemmas.Result.{err_from_is_err_and}
use Rattle.digest.specs.Digests.{value_of}
use Rattle.wire.specs.Refusals.{refusal_of, next}
use Rattle.wire.proofs.Finding.{found}
use Rattle.nodes.specs.Kinds.{file_value}
use Rattle.nodes.specs.Values.{valued}
use Rattle.nodes.proofs.Nesting.{file_refused, file_ends}
use Rattle.nodes.proofs.file.kind.FileNodeNodeKind.read_rest.Goals as goal

pub returns-in_err-digest-clause-value : goal.returns-in_err-digest-clause-value
returns-in_err-digest-clause-value c =
    let p = err_from_is_err_and c.from_residual-in_err-digest.result c.from_residual-in_err-digest.ensures.1 in
    ap (valued file_value c.args.message.now) p.1 ∙ ap (λ f. Err (refusal_of f)) p.2
    ∙ file_refused c.args.start c.args.message.now _ (found 0x12 _ _ _ c.in_ok-first.ensures.value) c.in_ok-first.ensures.within.1 _ c.in_err-digest.ensures

pub returns-in_err-mark-clause-value : goal.returns-in_err-mark-clause-value
returns-in_err-mark-clause-value c =
    let p = err_from_is_err_and c.from_residual-in_err-mark.result c.from_residual-in_err-mark.ensures.1 in
    let is = file_ends c.args.start c.args.message.now _ (found 0x12 _ _ _ c.in_ok-first.ensures.value) c.in_ok-first.ensures.within.1 _ c.in_ok-digest.ensures in
    ap (valued file_value c.args.message.now) p.1 ∙ ap (λ f. Err (refusal_of f)) p.2
    ∙ ap (λ r. next r (λ n. Ok (record { digest = value_of c.in_ok-digest.digest; executable = eqb n 1 }))) c.in_err-mark.ensures.value ∙ sym is

pub returns-clause-value : goal.returns-clause-value
returns-clause-value c =
    let is = file_ends c.args.start c.args.message.now _ (found 0x12 _ _ _ c.in_ok-first.ensures.value) c.in_ok-first.ensures.within.1 _ c.in_ok-digest.ensures in
    ap (λ r. next r (λ n. Ok (record { digest = value_of c.in_ok-digest.digest; executable = eqb n 1 }))) c.in_ok-mark.ensures.value ∙ sym is
