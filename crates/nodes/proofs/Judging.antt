-- Names and targets, judged where they lie. Assumes nothing.
use Rattle.std.proofs.Common.{◌≡◌, ℕ, true, false, List, drop, IfOk, Ok, Err, Result, sym, ap, ◌∙◌, subst}
use Rattle.std.proofs.lemmas.Bool.{cond-true, cond-false}
use Rattle.texts.specs.Names.{is_name, is_target}
use Rattle.texts.specs.Utf8.{is_text}
use Rattle.wire.specs.declared.fault.ReadFault.{ReadFault}
use Rattle.wire.specs.declared.field.Span.{Span}
use Rattle.wire.specs.Fields.{spanned}
use Rattle.wire.specs.Refusals.{Refusal, refused, next}
use Rattle.wire.proofs.Finding.{Found}
use Rattle.nodes.specs.Kinds.{part, target_at, judged_target, link_reads}
use Rattle.nodes.specs.Endings.{ended}
use Rattle.nodes.specs.Laws.{judged_target_is}
use Rattle.nodes.specs.Names.{judged_name, name_at}

-- a refusal at a span's start is one at the field's place
refused_at : {A : Type 0} (n tag p : ℕ) (m : List ℕ) (s : Span) (f : Found tag p m s) → ◌≡◌ {A = Result A Refusal} (refused n s.start) (refused n f.piece.place)
refused_at n tag p m s f = ap (refused n) f.start

module _ (p : ℕ) (m : List ℕ) (s : Span) (f : Found 0x0A p m s) where
  named : spanned (name_at p (drop p m)) ≡ spanned (judged_name f.piece)
  named = ap (λ r. spanned (next r judged_name)) f.is

  pub name_not_text : false ≡ is_text (part m s) → refused 15 s.start ≡ spanned (name_at p (drop p m))
  name_not_text h = refused_at 15 0x0A p m s f ∙ sym (named ∙ ap spanned (cond-false (is_text f.piece.text) _ _ (sym (h ∙ ap is_text f.text))))

  module _ (h : true ≡ is_text (part m s)) where
    pub not_a_name : false ≡ is_name (part m s) → refused 16 s.start ≡ spanned (name_at p (drop p m))
    not_a_name n =
        refused_at 16 0x0A p m s f
        ∙ sym (named ∙ ap spanned (cond-true (is_text f.piece.text) _ _ (sym (h ∙ ap is_text f.text)) ∙ cond-false (is_name f.piece.text) _ _ (sym (n ∙ ap is_name f.text))))

    pub a_name : true ≡ is_name (part m s) → Ok s ≡ spanned (name_at p (drop p m))
    a_name n =
        (λ i. Ok (record { start = f.start i; end = f.end i }))
        ∙ sym (named ∙ ap spanned (cond-true (is_text f.piece.text) _ _ (sym (h ∙ ap is_text f.text)) ∙ cond-true (is_name f.piece.text) _ _ (sym (n ∙ ap is_name f.text))))

module _ (p : ℕ) (m : List ℕ) (s : Span) (f : Found 0x12 p m s) where
  linked : link_reads p (drop p m) ≡ judged_target f.piece
  linked = ap (λ r. next r judged_target) f.is

  pub target_not_text : false ≡ is_text (part m s) → refused 15 s.start ≡ link_reads p (drop p m)
  target_not_text h = refused_at 15 0x12 p m s f ∙ sym (linked ∙ cond-false (is_text f.piece.text) _ _ (sym (h ∙ ap is_text f.text)))

  module _ (h : true ≡ is_text (part m s)) where
    pub not_a_target : false ≡ is_target (part m s) → refused 19 s.start ≡ link_reads p (drop p m)
    not_a_target n =
        refused_at 19 0x12 p m s f
        ∙ sym (linked ∙ cond-true (is_text f.piece.text) _ _ (sym (h ∙ ap is_text f.text)) ∙ cond-false (is_target f.piece.text) _ _ (sym (n ∙ ap is_target f.text)))

    pub a_target : true ≡ is_target (part m s) → link_reads p (drop p m) ≡ ended (part m s) s.end (drop s.end m)
    a_target n =
        linked ∙ cond-true (is_text f.piece.text) _ _ (sym (h ∙ ap is_text f.text)) ∙ cond-true (is_target f.piece.text) _ _ (sym (n ∙ ap is_target f.text))
        ∙ (λ i. ended (sym f.text i) (sym f.end i) (sym f.rest i))

  -- the target by itself, and then the end behind it
  judged : link_reads p (drop p m) ≡ next (target_at s.start (part m s)) (λ _. ended (part m s) s.end (drop s.end m))
  judged = linked ∙ judged_target_is f.piece ∙ (λ i. next (target_at (sym f.start i) (sym f.text i)) (λ _. ended (sym f.text i) (sym f.end i) (sym f.rest i)))

  pub target_refused : (r : Refusal) → Err r ≡ target_at s.start (part m s) → Err r ≡ link_reads p (drop p m)
  target_refused r e = sym (judged ∙ ap (λ x. next x (λ _. ended (part m s) s.end (drop s.end m))) (sym e))

  pub target_taken : Ok tt ≡ target_at s.start (part m s) → link_reads p (drop p m) ≡ ended (part m s) s.end (drop s.end m)
  target_taken e = judged ∙ ap (λ x. next x (λ _. ended (part m s) s.end (drop s.end m))) (sym e)

-- nothing more is said of a refusal
pub none : {A : Type 0} (P : A → Type 0) (r : Result A ReadFault) (f : ReadFault) → r ≡ Err f → IfOk r P
none P r f e = subst (λ x. IfOk x P) (sym e) tt
