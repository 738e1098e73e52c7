-- What a reader says of a node that is written behind the bytes so far. Assumes nothing.
use Rattle.std.proofs.Common.{◌≡◌, ℕ, ◌+◌, ◌^◌, ◌<◌, Bool, true, false, cond, List, ◌++◌, length, Ok, Err, Result, sym, refl, ap, ◌∙◌}
use Rattle.texts.specs.Names.{is_name}
use Rattle.texts.specs.Order.{before}
use Rattle.texts.specs.Utf8.{is_text}
use Rattle.wire.specs.Fields.{Piece, field_bytes}
use Rattle.wire.specs.Numbers.{form}
use Rattle.wire.specs.Refusals.{Refusal, next}
use Rattle.wire.proofs.Fieldings.{field_back}
use Rattle.nodes.specs.Names.{judged_name}
use Rattle.nodes.specs.Values.{verdict}
use Rattle.directory.specs.Sections.{Named, placed, node_at}
use Rattle.writer.specs.Judging.{name_said}

-- a test that both make
module _ {A B : Type 0} (b : Bool) (r : Result A Refusal) (s : Result (Unit {0}) Refusal) (e : Refusal) (f : A → Result B Refusal) (g : Unit {0} → Result (Unit {0}) Refusal) (h : verdict (next r f) ≡ next s g) where
  tested : verdict (next (cond b r (Err e)) f) ≡ next (cond b s (Err e)) g
  tested = go b
    where
      go : (c : Bool) → verdict (next (cond c r (Err e)) f) ≡ next (cond c s (Err e)) g
      go true = h
      go false = refl

  untested : verdict (next (cond b (Err e) r) f) ≡ next (cond b (Err e) s) g
  untested = go b
    where
      go : (c : Bool) → verdict (next (cond c (Err e) r) f) ≡ next (cond c (Err e) s) g
      go true = refl
      go false = h

kept : {A B : Type 0} (r : Result A Refusal) (f : A → B) → verdict (next r (λ x. Ok (f x))) ≡ verdict r
kept (Ok x) f = refl
kept (Err e) f = refl

-- a node is said what its name is said, and then its rest
module _ {V : Type 0} (code : ℕ) (reads : ℕ → List ℕ → Result V Refusal) (taken : List ℕ → Bool) (prev : List ℕ) (q : ℕ) (name w : List ℕ) (small : length name < 2 ^ 63) where
  abbrev at : ℕ
  at = q + 1 + length (form (length name))

  abbrev x : Piece
  x = record { text = name; place = at; rest = w }

  abbrev valued : Piece → Result (Named V) Refusal
  valued y = next (reads (y.place + length y.text) y.rest) (λ v. Ok (record { name = y; value = v }))

  abbrev judging : Piece → Result (Named V) Refusal
  judging y = next (placed prev taken y) valued

  pub said : verdict (node_at code reads taken prev q (field_bytes 0x0A name ++ w)) ≡ next (name_said taken prev at name) (λ _. verdict (reads (at + length name) w))
  said =
      ap (λ r. verdict (next (next r judged_name) judging)) (field_back 0x0A q name w small)
      ∙ tested (is_text name) _ _ _ judging _
      (tested (is_name name) (Ok x) _ _ judging _
      (tested (before prev name) _ _ _ valued _
      (untested (taken name) (Ok x) (Ok tt) _ valued _ (kept (reads (at + length name) w) (λ v. record { name = x; value = v })))))

  pub name_refused : (p : ℕ) (r : Refusal) → p ≡ at → Err r ≡ name_said taken prev p name → Err r ≡ verdict (node_at code reads taken prev q (field_bytes 0x0A name ++ w))
  name_refused p r is e = sym (said ∙ ap (λ s. next s (λ _. verdict (reads (at + length name) w))) (ap (λ i. name_said taken prev i name) (sym is) ∙ sym e))

  pub rest_decides : (p : ℕ) → p ≡ at → Ok tt ≡ name_said taken prev p name → verdict (reads (p + length name) w) ≡ verdict (node_at code reads taken prev q (field_bytes 0x0A name ++ w))
  rest_decides p is e =
      ap (λ i. verdict (reads (i + length name) w)) is
      ∙ sym (said ∙ ap (λ s. next s (λ _. verdict (reads (at + length name) w))) (ap (λ i. name_said taken prev i name) (sym is) ∙ sym e))
