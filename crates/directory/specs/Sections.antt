-- A section: nodes of one kind, one behind the other, whose names ascend.
use Rattle.std.specs.Prelude.{ℕ, zero, suc, ◌+◌, Bool, false, cond, ◌||◌, List, [], ◌∷◌, length, Ok, Result, ◌==◌}
use Rattle.std.specs.Str.{bytes_eq}
use Rattle.texts.specs.Order.{before}
use Rattle.wire.specs.declared.field.Span.{Span}
use Rattle.wire.specs.Fields.{Piece, field_at, span_of}
use Rattle.wire.specs.Refusals.{Refusal, refused, next}
use Rattle.nodes.specs.Names.{name_at}

-- whether a text is one of these
abbrev pub among : List ℕ → List (List ℕ) → Bool
among t [] = false
among t (n ∷ ns) = bytes_eq t n || among t ns

-- a node: its name, and what follows the name
pub record Node (V : Type 0) : Type 0 where
  pub name : List ℕ
  pub rest : V

abbrev pub names : {V : Type 0} → List (Node V) → List (List ℕ)
names [] = []
names (n ∷ ns) = n.name ∷ names ns

-- a name stands above the one before it in its section, else 17, and no earlier section has it, else 18
abbrev pub placed : List ℕ → (List ℕ → Bool) → Piece → Result Piece Refusal
placed prev taken x = cond (before prev x.text) (cond (taken x.text) (refused 18 x.place) (Ok x)) (refused 17 x.place)

-- a node that was read: its name, and the value of what follows
pub record Named (V : Type 0) : Type 0 where
  pub name : Piece
  pub value : V

-- a section that was read: its nodes, where the last name is, and the place and the bytes behind the section
pub record Section (V : Type 0) : Type 0 where
  pub nodes : List (Node V)
  pub last : Span
  pub place : ℕ
  pub rest : List ℕ

-- one node more in front
abbrev pub onto : {V : Type 0} → Named V → Section V → Result (Section V) Refusal
onto n s = Ok (record { nodes = record { name = n.name.text; rest = n.value } ∷ s.nodes; last = s.last; place = s.place; rest = s.rest })

-- no node behind the name prev, at p in front of bs
abbrev pub nothing : {V : Type 0} → Piece → ℕ → List ℕ → Result (Section V) Refusal
nothing prev p bs = Ok (record { nodes = []; last = span_of prev; place = p; rest = bs })

module _ {V : Type 0} (tag : ℕ) (reads : ℕ → List ℕ → Result V Refusal) (taken : List ℕ → Bool) where
  -- the message of a node, at p, behind the name prev: its name, judged whole, and then the rest
  abbrev pub node_at : List ℕ → ℕ → List ℕ → Result (Named V) Refusal
  node_at prev p body =
      next (name_at p body) (λ x. next (placed prev taken x) (λ y. next (reads (y.place + length y.text) y.rest) (λ v. Ok (record { name = y; value = v }))))

  -- the nodes, at most k, at p in front of bs, behind the name prev
  abbrev pub section : ℕ → Piece → ℕ → List ℕ → Result (Section V) Refusal
  section zero prev p bs = nothing prev p bs
  section (suc k) prev p [] = nothing prev p []
  section (suc k) prev p (b ∷ bs) =
      cond (b == tag)
      (next (field_at tag p (b ∷ bs)) (λ x. next (node_at prev.text x.place x.text) (λ n. next (section k n.name (x.place + length x.text) x.rest) (onto n))))
      (nothing prev p (b ∷ bs))

-- before a section's first name stands the empty one, which is below every name
abbrev pub nobody : ℕ → Piece
nobody p = record { text = []; place = p; rest = [] }

-- the section at p in front of bs, where earlier sections have these names; a node takes a byte at least
abbrev pub section_at : {V : Type 0} → ℕ → (ℕ → List ℕ → Result V Refusal) → List (List ℕ) → ℕ → List ℕ → Result (Section V) Refusal
section_at tag reads earlier p bs = section tag reads (λ t. among t earlier) (length bs) (nobody p) p bs
