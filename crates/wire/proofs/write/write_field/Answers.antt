use Rattle.std.proofs.Common.{◌≡◌, ℕ, ◌+◌, ◌≤◌, List, [], ◌∷◌, length, set, Ok, Err, sym, refl, ap, ◌∙◌, arith, length-append}
use Rattle.std.proofs.lemmas.Result.{err_from_is_err_and}
use Rattle.wire.specs.Fields.{field_bytes}
use Rattle.wire.specs.Numbers.{form}
use Rattle.wire.specs.Writing.{write_number, told, behind, written, ending, after}
use Rattle.wire.proofs.Placing.{fits, no_room, there_is_room, there_is_none, set-written, then_fits}
use Rattle.wire.proofs.write.write_field.Goals as goal

-- the text's length, behind the tag
module _ (e : List ℕ) (s t : ℕ) (text : List ℕ) (room : s + length (field_bytes t text) ≤ length e) where
  abbrev number : List ℕ
  number = form (length text)

  head : (ending (set e s t) (s + 1) number ≡ Ok (s + length (t ∷ number))) × (after (set e s t) (s + 1) number ≡ written e s (t ∷ number))
  head = then_fits e s (t ∷ []) number (omega (arith, length-append number text)) _ _ (set-written e s t (omega arith)) refl

  not_refused : {n : ℕ} → Err n ≡ ending (set e s t) (s + 1) number → ⊥
  not_refused d = let z : ◌≡◌ {A = ℕ} 0 1 = cc (d, head.0) in omega arith

pub returns-in_err-end_of-clause-answer : goal.returns-in_err-end_of-clause-answer
returns-in_err-end_of-clause-answer c =
    let p = err_from_is_err_and c.from_residual.result c.from_residual.ensures.1 in
    ap told p.1 ∙ ap (λ f. Err (write_number f)) p.2 ∙ c.in_err-end_of.ensures ∙ ap (behind c.args.buffer.now c.args.start) (c.field_length-taken.ensures.value c.args.tag)

pub returns-in_err-end_of-clause-buffer : goal.returns-in_err-end_of-clause-buffer
returns-in_err-end_of-clause-buffer c =
    let long = c.field_length-taken.ensures.value c.args.tag in
    let none = there_is_none _ _ _ c.in_err-end_of.ensures in
    sym (no_room c.args.buffer.now c.args.start (field_bytes c.args.tag c.args.text.now) (omega arith)).1

pub bounds-buffer-start : goal.bounds-buffer-start
bounds-buffer-start c = omega (arith, c.field_length-taken.ensures.value 0, there_is_room _ _ _ c.in_ok-end_of.ensures)

pub returns-in_err-behind-clause-buffer : goal.returns-in_err-behind-clause-buffer
returns-in_err-behind-clause-buffer c =
    let room = c.field_length-taken.ensures.value c.args.tag in
    absurd (not_refused c.args.buffer.now c.args.start c.args.tag c.args.text.now (omega (arith, there_is_room _ _ _ c.in_ok-end_of.ensures)) c.in_err-behind.ensures.answer)

pub returns-clause-buffer : goal.returns-clause-buffer
returns-clause-buffer c =
    let e = c.args.buffer.now in
    let s = c.args.start in
    let t = c.args.tag in
    let text = c.args.text.now in
    let number = form (length text) in
    let room : s + length (field_bytes t text) ≤ length e = omega (arith, c.field_length-taken.ensures.value t, there_is_room _ _ _ c.in_ok-end_of.ensures) in
    let first = c.in_ok-behind.ensures in
    let p = head e s t text room in
    let here : c.in_ok-behind.behind ≡ s + length (t ∷ number) = cc (p.0, first.answer) in
    let q = then_fits e s (t ∷ number) text (omega (arith, length-append number text)) _ _ (first.buffer ∙ p.1) here in
    let whole = fits e s (field_bytes t text) room in
    c.write_bytes.ensures.buffer ∙ q.1 ∙ sym whole.1
