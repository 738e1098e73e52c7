-- How reading goes on behind the bytes so far.
use Rattle.std.specs.Prelude.{◌≡◌, ℕ, ◌+◌, ◌≤◌, List, [], ◌++◌, length, Ok, Result}
use Rattle.wire.specs.Fields.{field_bytes}
use Rattle.wire.specs.Numbers.{form}
use Rattle.wire.specs.Refusals.{Refusal}
use Rattle.nodes.specs.Kinds.{part}
use Rattle.nodes.specs.Values.{verdict}
use Rattle.directory.specs.declared.part.Part.{Part}
use Rattle.directory.specs.declared.part.Part.TheVariants.{Files, Directories, Links}
use Rattle.directory.specs.Directories.{Nodes, Reading, part_of}
use Rattle.directory.specs.Sections.{names, among, node_at}

-- the names of the sections before a part
abbrev pub earlier_of : Part → Nodes → List (List ℕ)
earlier_of Files d = []
earlier_of Directories d = names d.files
earlier_of Links d = names d.files ++ names d.directories

-- where a message begins whose field begins at p
abbrev pub inside : ℕ → List ℕ → ℕ
inside p body = p + 1 + length (form (length body))

-- a field of a part's own tag behind bytes that were read is judged as a node behind the last name
abbrev pub Grows : {V : Type 0} → Part → ℕ → (ℕ → List ℕ → Result V Refusal) → Type 0
Grows p code reads =
    (m body : List ℕ) (r : Reading)
    → part_of p m ≡ Ok r
    → length (m ++ field_bytes code body) ≤ 16777216
    → verdict (part_of p (m ++ field_bytes code body)) ≡ verdict (node_at code reads (λ t. among t (earlier_of p r.nodes)) (part m r.last) (inside (length m) body) body)
