use Rattle.std.proofs.Common.{Err, sym, ap, ◌∙◌}
use Rattle.std.proofs.lemmas.Result.{err_from_is_err_and}
use Rattle.wire.specs.Refusals.{refusal_of}
use Rattle.wire.proofs.Finding.{found}
use Rattle.nodes.specs.Kinds.{directory_value}
use Rattle.nodes.specs.Values.{valued}
use Rattle.nodes.proofs.Lasts.{ended-refused, ended_well}
use Rattle.nodes.proofs.Nesting.{directory_refused, directory_ends}
use Rattle.nodes.proofs.directory.kind.DirectoryNodeNodeKind.read_rest.Goals as goal

pub returns-in_err-digest-clause-value : goal.returns-in_err-digest-clause-value
returns-in_err-digest-clause-value c =
    let p = err_from_is_err_and c.from_residual-in_err-digest.result c.from_residual-in_err-digest.ensures.1 in
    ap (valued directory_value c.args.message.now) p.1 ∙ ap (λ f. Err (refusal_of f)) p.2
    ∙ directory_refused c.args.start c.args.message.now _ (found 0x12 _ _ _ c.in_ok-first.ensures.value) c.in_ok-first.ensures.within.1 _ c.in_err-digest.ensures

pub returns-in_err-read_end-clause-value : goal.returns-in_err-read_end-clause-value
returns-in_err-read_end-clause-value c =
    let p = err_from_is_err_and c.from_residual-in_err-read_end.result c.from_residual-in_err-read_end.ensures.1 in
    let is = directory_ends c.args.start c.args.message.now _ (found 0x12 _ _ _ c.in_ok-first.ensures.value) c.in_ok-first.ensures.within.1 _ c.in_ok-digest.ensures in
    ap (valued directory_value c.args.message.now) p.1 ∙ ap (λ f. Err (refusal_of f)) p.2 ∙ ended-refused _ _ _ _ c.in_err-read_end.ensures ∙ sym is

pub returns-clause-value : goal.returns-clause-value
returns-clause-value c =
    let is = directory_ends c.args.start c.args.message.now _ (found 0x12 _ _ _ c.in_ok-first.ensures.value) c.in_ok-first.ensures.within.1 _ c.in_ok-digest.ensures in
    ended_well _ _ _ c.in_ok-read_end.ensures ∙ sym is
