-- The names in a part of a message that holds nodes of any kind.
use Rattle.std.specs.Prelude.{◌≡◌, ℕ, zero, suc, Bool, true, false, cond, List, [], ◌∷◌, length, drop, Ok, Err, Result, slice_index}
use Rattle.std.specs.Borrow.{Bor}
use Rattle.texts.specs.Order.{before}
use Rattle.wire.specs.declared.field.Span.{Span}
use Rattle.wire.specs.Fields.{field_at}
use Rattle.wire.specs.Refusals.{Refusal, next}
use Rattle.nodes.specs.Kinds.{part}
use Rattle.std.specs.Str.{bytes_eq as same}

-- the node at the front, of any tag: its name, which is the field 0A, and what follows the node
pub record Front : Type 0 where
  pub name : List ℕ
  pub rest : List ℕ

abbrev pub front_of : List ℕ → Result Front Refusal
front_of bs = next (field_at (slice_index bs 0) 0 bs) (λ x. next (field_at 0x0A 0 x.text) (λ y. Ok (record { name = y.text; rest = x.rest })))

-- the node of this name that ends there in a message
abbrev pub front_in : List ℕ → Bor (List ℕ) × ℕ → Front
front_in m n = record { name = n.0.now; rest = drop n.1 m }

-- the names of the nodes that stand one behind the other, at most k, up to what is no node
abbrev pub name_then : (List ℕ → List (List ℕ)) → Result Front Refusal → List (List ℕ)
name_then more (Ok x) = x.name ∷ more x.rest
name_then more (Err e) = []

abbrev pub names_up_to : ℕ → List ℕ → List (List ℕ)
names_up_to zero bs = []
names_up_to (suc k) bs = name_then (names_up_to k) (front_of bs)

-- the names in a part of a message
abbrev pub names_in : List ℕ → Span → List (List ℕ)
names_in m s = names_up_to (length m) (part m s)

-- names that ascend, above the name prev
abbrev pub Ascending : List ℕ → List (List ℕ) → Type 0
Ascending prev [] = Unit {0}
Ascending prev (n ∷ ns) = (before prev n ≡ true) × Ascending n ns

-- the names that are left once those before a name are passed
abbrev pub past : List ℕ → List (List ℕ) → List (List ℕ)
past name [] = []
past name (n ∷ ns) = cond (before n name) (past name ns) (n ∷ ns)

-- whether a name is met then, which in ascending names is to be one of them
abbrev pub first : List ℕ → List (List ℕ) → Bool
first name [] = false
first name (n ∷ ns) = same name n

abbrev pub met : List ℕ → List (List ℕ) → Bool
met name ns = first name (past name ns)
