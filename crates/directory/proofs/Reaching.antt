-- A node read where it lies. Assumes nothing.
use Rattle.std.proofs.Common.{◌≡◌, ℕ, ◌+◌, ◌-◌, ◌≤◌, Bool, true, false, List, length, take, drop, Ok, Err, Result, sym, refl, ap, ◌∙◌, arith, length-drop}
use Rattle.std.proofs.lemmas.List.{length-take-le}
use Rattle.std.proofs.lemmas.Bool.{cond-true, cond-false}
use Rattle.texts.specs.Names.{is_name}
use Rattle.texts.specs.Order.{before}
use Rattle.texts.specs.Utf8.{is_text}
use Rattle.wire.specs.declared.field.Span.{Span}
use Rattle.wire.specs.Fields.{Piece, field_at, span_of, spanned}
use Rattle.wire.specs.Refusals.{Refusal, refused, next}
use Rattle.wire.proofs.Fieldings.{went_on, passed}
use Rattle.wire.proofs.Finding.{not_ok, same_ok, Found, found}
use Rattle.nodes.specs.Kinds.{part}
use Rattle.nodes.specs.Names.{name_at, judged_name}
use Rattle.directory.specs.Sections.{Named, placed, node_at}
use Rattle.directory.specs.Steps.{Extent, extent}
use Rattle.directory.proofs.Located.{unspanned}
use Rattle.directory.proofs.Places.{cut-part, in_field}

-- how long a part is
pub part_length : (m : List ℕ) (s : Span) → s.start ≤ s.end → s.end ≤ length m → s.start + length (part m s) ≡ s.end
part_length m s h l =
    let d = length-drop s.start m in
    let k = length-take-le (s.end - s.start) (drop s.start m) (omega arith) in
    omega arith

-- a name that was read is its field
pub name_field : (p : ℕ) (bs : List ℕ) (y : Piece) → name_at p bs ≡ Ok y → field_at 0x0A p bs ≡ Ok y
name_field p bs y e =
    let w = went_on (field_at 0x0A p bs) judged_name y e in
    let x = w.0 in
    w.1 ∙ (passed (is_name x.text) (Ok x) _ y (passed (is_text x.text) _ _ y w.2).1).1

-- the name at a span of the message m
record NameFound (p : ℕ) (m : List ℕ) (n : Span) : Type 0 where
  is : name_at p (drop p m) ≡ Ok (record { text = part m n; place = n.start; rest = drop n.end m })

name_found : (p : ℕ) (m : List ℕ) (n : Span) → Ok n ≡ spanned (name_at p (drop p m)) → NameFound p m n
name_found p m n e = go (name_at p (drop p m)) refl e
  where
    go : (r : Result Piece Refusal) → name_at p (drop p m) ≡ r → Ok n ≡ spanned r → NameFound p m n
    go (Err d) is f = absurd (not_ok (sym f))
    go (Ok y) is f =
        let field = name_field p (drop p m) y is in
        let l = found 0x0A p m n (f ∙ sym (ap spanned field)) in
        let same : l.piece ≡ y = same_ok (sym l.is ∙ field) in
        record { is = is ∙ sym (ap Ok same) ∙ (λ i. Ok (record { text = sym l.text i; place = sym l.start i; rest = sym l.rest i })) }

-- what is answered of a name behind the name prev, in a node that ends at e
module _ {V : Type 0} (reads : ℕ → List ℕ → Result V Refusal) (taken : List ℕ → Bool) (prev : List ℕ) (e : ℕ) where
  abbrev ending : Named V → Result Extent Refusal
  ending n = Ok (record { name = span_of n.name; end = e })

  abbrev judging : Piece → Result (Named V) Refusal
  judging x = next (placed prev taken x) (λ y. next (reads (y.place + length y.text) y.rest) (λ v. Ok (record { name = y; value = v })))

  unfoldable pub behind_name : Piece → Result Extent Refusal
  behind_name x = next (judging x) ending

  module _ (x : Piece) where
    as_placed : (r : Result Piece Refusal) → placed prev taken x ≡ r → behind_name x ≡ next (next r (λ y. next (reads (y.place + length y.text) y.rest) (λ v. Ok (record { name = y; value = v })))) ending
    unfolding behind_name
    as_placed r = ap (λ r. next (next r (λ y. next (reads (y.place + length y.text) y.rest) (λ v. Ok (record { name = y; value = v })))) ending)

    pub order_refused : false ≡ before prev x.text → refused 17 x.place ≡ behind_name x
    order_refused b = sym (as_placed _ (cond-false (before prev x.text) _ _ (sym b)))

    module _ (above : true ≡ before prev x.text) where
      pub repeat_refused : true ≡ taken x.text → refused 18 x.place ≡ behind_name x
      repeat_refused b = sym (as_placed _ (cond-true (before prev x.text) _ _ (sym above) ∙ cond-true (taken x.text) _ _ (sym b)))

      module _ (free : false ≡ taken x.text) (q : ℕ) (long : x.place + length x.text ≡ q) where
        at_rest : behind_name x ≡ next (next (reads q x.rest) (λ v. Ok (record { name = x; value = v }))) ending
        at_rest =
            as_placed _ (cond-true (before prev x.text) _ _ (sym above) ∙ cond-false (taken x.text) _ _ (sym free))
            ∙ ap (λ p. next (next (reads p x.rest) (λ v. Ok (record { name = x; value = v }))) ending) long

        pub rest_refused : (r : Refusal) → Err r ≡ reads q x.rest → Err r ≡ behind_name x
        rest_refused r h = sym (at_rest ∙ ap (λ y. next (next y (λ v. Ok (record { name = x; value = v }))) ending) (sym h))

        pub rest_read : (v : V) → Ok v ≡ reads q x.rest → Ok (record { name = record { start = x.place; end = q }; end = e }) ≡ behind_name x
        rest_read v h =
            sym (at_rest ∙ ap (λ y. next (next y (λ v. Ok (record { name = x; value = v }))) ending) (sym h)
            ∙ ap (λ p. Ok (record { name = record { start = x.place; end = p }; end = e })) long)

-- the node whose field is at s
module _ {V : Type 0} (t : ℕ) (reads : ℕ → List ℕ → Result V Refusal) (taken : List ℕ → Bool) (prev : List ℕ) (m : List ℕ) (at : ℕ) (s : Span) (f : Found t at m s) where
  abbrev cut : List ℕ
  cut = take s.end m

  at_field : extent t reads taken prev at (drop at m) ≡ next (next (name_at s.start (drop s.start cut)) (judging reads taken prev s.end)) (ending reads taken prev s.end)
  at_field = in_field t at m s f (λ e q bs. next (node_at t reads taken prev q bs) (ending reads taken prev e))

  pub name_refused : (r : Refusal) → Err r ≡ spanned (name_at s.start (drop s.start cut)) → Err r ≡ extent t reads taken prev at (drop at m)
  name_refused r e = sym (at_field ∙ ap (λ x. next (next x (judging reads taken prev s.end)) (ending reads taken prev s.end)) (unspanned r (name_at s.start (drop s.start cut)) e))

  -- and whose name is at n
  pub at_name : (n : Span) → Ok n ≡ spanned (name_at s.start (drop s.start cut)) → n.end ≤ s.end
      → behind_name reads taken prev s.end (record { text = part m n; place = n.start; rest = drop n.end cut }) ≡ extent t reads taken prev at (drop at m)
  unfolding behind_name
  at_name n g b =
      sym (at_field ∙ ap (λ x. next (next x (judging reads taken prev s.end)) (ending reads taken prev s.end)) (name_found s.start cut n g).is
      ∙ ap (λ x. behind_name reads taken prev s.end (record { text = x; place = n.start; rest = drop n.end cut })) (cut-part m s.end n b))
