-- A node found where it lies. Assumes nothing.
use Rattle.std.proofs.Common.{◌≡◌, ℕ, ◌+◌, ◌<◌, ◌≤◌, List, ◌∷◌, length, get_or, take, drop, Ok, Err, Result, sym, ap, ◌∙◌}
use Rattle.std.proofs.lemmas.List.{drop_more}
use Rattle.std.specs.Result.{MatchResult, IsOkAnd}
use Rattle.wire.specs.declared.fault.ReadFault.{ReadFault}
use Rattle.wire.specs.declared.field.Span.{Span}
use Rattle.wire.specs.Fields.{Piece, field_at, span_of, spanned}
use Rattle.wire.specs.Refusals.{Refusal, next}
use Rattle.wire.proofs.Finding.{not_ok, Found}
use Rattle.nodes.specs.Kinds.{part}
use Rattle.directory.specs.declared.find.FoundNode.{FoundNode}
use Rattle.directory.specs.declared.find.Kind.{Kind}
use Rattle.directory.specs.Items.{Item, Found as FoundItem, found_as, found_at, found_in, found_of}
use Rattle.directory.specs.Sections.{Node}
use Rattle.directory.proofs.Places.{cut-part, in_field}

pub unspanned : (r : Refusal) (x : Result Piece Refusal) → Err r ≡ spanned x → x ≡ Err r
unspanned r (Ok y) e = absurd (not_ok e)
unspanned r (Err d) e = cc

-- the node whose field is at s
module _ {V : Type 0} (t : ℕ) (finds : ℕ → List ℕ → Result V Refusal) (item : Node V → Item) (p : ℕ) (m : List ℕ) (s : Span) (f : Found t p m s) where
  abbrev cut : List ℕ
  cut = take s.end m

  abbrev behind : ℕ → Piece → Result FoundItem Refusal
  behind e y = next (finds (y.place + length y.text) y.rest) (λ v. Ok (record { item = item (record { name = y.text; rest = v }); name = span_of y; end = e }))

  at_field : found_as t finds item p (drop p m) ≡ next (field_at 0x0A s.start (drop s.start cut)) (behind s.end)
  at_field = in_field t p m s f (λ e q bs. next (field_at 0x0A q bs) (behind e))

  pub name_refused : (r : Refusal) → Err r ≡ spanned (field_at 0x0A s.start (drop s.start cut)) → Err r ≡ found_as t finds item p (drop p m)
  name_refused r e = sym (at_field ∙ ap (λ x. next x (behind s.end)) (unspanned r _ e))

  -- and whose name is at n
  module _ (n : Span) (g : Found 0x0A s.start (take s.end m) n) (b : n.end ≤ s.end) where
    abbrev ending : V → Result FoundItem Refusal
    ending v = Ok (record { item = item (record { name = part m n; rest = v }); name = n; end = s.end })

    at_name : found_as t finds item p (drop p m) ≡ next (finds n.end (drop n.end cut)) ending
    at_name =
        at_field
        ∙ ap (λ r. next r (behind s.end)) g.is
        ∙ (λ i. next (finds (sym g.end i) (sym g.rest i)) (λ v. Ok (record { item = item (record { name = (sym g.text ∙ cut-part m s.end n b) i; rest = v }); name = record { start = sym g.start i; end = sym g.end i }; end = s.end })))

    pub rest_refused : (r : Refusal) → Err r ≡ finds n.end (drop n.end cut) → Err r ≡ found_as t finds item p (drop p m)
    rest_refused r e = sym (at_name ∙ ap (λ x. next x ending) (sym e))

    pub node_found : (v : V) → Ok v ≡ finds n.end (drop n.end cut) → ending v ≡ found_as t finds item p (drop p m)
    node_found v e = sym (at_name ∙ ap (λ x. next x ending) (sym e))

-- a node of any kind, by what stands at p
module _ (p : ℕ) (m : List ℕ) where
  -- a kind's tag tells it
  pub told : {V : Type 0} (t : ℕ) (finds : ℕ → List ℕ → Result V Refusal) (item : Node V → Item) → ((bs : List ℕ) → found_as t finds item p (t ∷ bs) ≡ found_at p (t ∷ bs))
      → p < length m → get_or m p 0 ≡ t → found_as t finds item p (drop p m) ≡ found_at p (drop p m)
  told t finds item tells h e =
      let front : drop p m ≡ t ∷ drop (p + 1) m = drop_more m p 0 h ∙ ap (λ b. b ∷ drop (p + 1) m) e in
      ap (found_as t finds item p) front ∙ tells (drop (p + 1) m) ∙ sym (ap (found_at p) front)

-- what is found of one kind, as a node of any
pub mapped : {K V : Type 0} (value : List ℕ → K → V) (item : Node V → Item) (m : List ℕ) (r : Result (FoundNode K) ReadFault) (s : Result (FoundNode Kind) ReadFault) (P : FoundNode K → FoundNode Kind → Type 0)
    → MatchResult r (λ x. IsOkAnd s (P x)) (λ e. s ≡ Err e)
    → ((x : FoundNode K) (y : FoundNode Kind) → P x y → found_in m (Ok y) ≡ found_of value item m (Ok x))
    → found_in m s ≡ found_of value item m r
mapped value item m (Err e) s P h same = ap (found_in m) h
mapped value item m (Ok x) (Ok y) P h same = same x y h
mapped value item m (Ok x) (Err e) P h same = absurd h
