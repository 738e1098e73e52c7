-- The nodes of a Directory, one behind the other, found by their places.
use Rattle.std.specs.Prelude.{◌≡◌, ℕ, zero, suc, ◌+◌, cond, List, [], ◌∷◌, ◌++◌, length, take, drop, Ok, Err, Result, ◌==◌}
use Rattle.digest.specs.Digests.{Value}
use Rattle.wire.specs.declared.fault.ReadFault.{ReadFault}
use Rattle.wire.specs.declared.field.Span.{Span}
use Rattle.wire.specs.Fields.{field_at, span_of}
use Rattle.wire.specs.Refusals.{Refusal, refusal_of, refused, next}
use Rattle.nodes.specs.Kinds.{FileValue, file_reads, directory_reads, link_finds, link_places, file_value, directory_value, link_value, part}
use Rattle.directory.specs.declared.find.Kind.{Kind}
use Rattle.directory.specs.declared.find.Kind.TheVariants.{File, Directory, Link}
use Rattle.directory.specs.declared.find.FoundNode.{FoundNode}
use Rattle.directory.specs.Canonical.{nodes_of}
use Rattle.directory.specs.Directories.{Nodes, directory_of, answered}
use Rattle.directory.specs.Sections.{Node}

-- a node of some kind
pub data Item : Type 0 where
  file : Node FileValue → Item
  directory : Node Value → Item
  link : Node (List ℕ) → Item

-- a node that was found: what it is, where its name is, and where it ends
pub record Found : Type 0 where
  pub item : Item
  pub name : Span
  pub end : ℕ

-- a node of a tag at p in front of bs, by its fields alone: texts are not judged again
abbrev pub found_as : {V : Type 0} → ℕ → (ℕ → List ℕ → Result V Refusal) → (Node V → Item) → ℕ → List ℕ → Result Found Refusal
found_as tag finds item p bs =
    next (field_at tag p bs) (λ x. next (field_at 0x0A x.place x.text) (λ y. next (finds (y.place + length y.text) y.rest) (λ v.
    Ok (record { item = item (record { name = y.text; rest = v }); name = span_of y; end = x.place + length x.text }))))

-- a node of any kind, by its tag: 13 for another
abbrev pub found_at : ℕ → List ℕ → Result Found Refusal
found_at p [] = refused 13 p
found_at p (b ∷ bs) =
    cond (b == 0x0A) (found_as 0x0A file_reads file p (b ∷ bs))
    (cond (b == 0x12) (found_as 0x12 directory_reads directory p (b ∷ bs))
    (cond (b == 0x1A) (found_as 0x1A link_finds link p (b ∷ bs)) (refused 13 p)))

-- what a reader answers of it, by values in the message m
abbrev pub item_of : List ℕ → Span → Kind → Item
item_of m name (File n) = file (record { name = part m name; rest = file_value m n })
item_of m name (Directory n) = directory (record { name = part m name; rest = directory_value m n })
item_of m name (Link n) = link (record { name = part m name; rest = link_value m n })

abbrev pub found_in : List ℕ → Result (FoundNode Kind) ReadFault → Result Found Refusal
found_in m (Ok n) = Ok (record { item = item_of m n.name n.kind; name = n.name; end = n.end })
found_in m (Err f) = Err (refusal_of f)

-- and the place of a link's target: its field stands behind the name, in the node
abbrev pub TargetIn : List ℕ → FoundNode Kind → Kind → Type 0
TargetIn m n (File x) = Unit {0}
TargetIn m n (Directory x) = Unit {0}
TargetIn m n (Link x) = link_places n.name.end (drop n.name.end (take n.end m)) x

abbrev pub TargetPlace : List ℕ → FoundNode Kind → Type 0
TargetPlace m n = TargetIn m n n.kind

-- what a reader of one kind answers, whose values in a message are these
abbrev pub found_of : {K V : Type 0} → (List ℕ → K → V) → (Node V → Item) → List ℕ → Result (FoundNode K) ReadFault → Result Found Refusal
found_of value item m (Ok n) = Ok (record { item = item (record { name = part m n.name; rest = value m n.kind }); name = n.name; end = n.end })
found_of value item m (Err f) = Err (refusal_of f)

-- the nodes found from p on, at most k, each where the one before it ends
abbrev pub item_then : (ℕ → List Item) → Result Found Refusal → List Item
item_then more (Ok x) = x.item ∷ more x.end
item_then more (Err e) = []

abbrev pub items_from : List ℕ → ℕ → ℕ → List Item
items_from m zero p = []
items_from m (suc k) p = item_then (items_from m k) (found_at p (drop p m))

-- the nodes of a Directory, in their order
abbrev pub each : {V : Type 0} → (Node V → Item) → List (Node V) → List Item
each item [] = []
each item (n ∷ ns) = item n ∷ each item ns

abbrev pub items_of : Nodes → List Item
items_of d = each file d.files ++ (each directory d.directories ++ each link d.links)

-- going through an accepted Directory from its first byte finds the nodes that were read, in their order
abbrev pub NodesReadAreFound : Type 0
NodesReadAreFound = (m : List ℕ) (d : Nodes) → answered nodes_of (directory_of m) ≡ Ok d → items_from m (length m) 0 ≡ items_of d
