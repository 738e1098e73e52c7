-- What the reader's own functions promise each other.
use Rattle.std.specs.Prelude.{◌≡◌, ℕ, ◌+◌, Bool, ◌||◌, List, [], ◌++◌, length, Ok, Err, Result}
use Rattle.wire.specs.declared.fault.ReadFault.{ReadFault}
use Rattle.wire.specs.declared.field.Span.{Span}
use Rattle.wire.specs.Fields.{Piece, field_at, span_of}
use Rattle.wire.specs.Refusals.{Refusal, refusal_of, next}
use Rattle.directory.specs.declared.reader.Reached.{Reached}
use Rattle.directory.specs.declared.progress.Progress.{Progress}
use Rattle.directory.specs.declared.region.Earlier.{Earlier}
use Rattle.directory.specs.declared.part.Sections.{Sections}
use Rattle.directory.specs.declared.section.SectionEnd.{SectionEnd}
use Rattle.directory.specs.Directories.{files_at, directories_at, Reading}
use Rattle.directory.specs.Regions.{names_in, Ascending, past, met}
use Rattle.directory.specs.Sections.{Named, Section, node_at}

-- whether a name is met in the earlier sections
abbrev pub met_in : List ℕ → Earlier → List ℕ → Bool
met_in m e name = met name (names_in m e.files) || met name (names_in m e.directories)

-- the earlier sections once the names before a name are passed
abbrev pub PassedTo : List ℕ → List ℕ → Earlier → Earlier → Type 0
PassedTo m name e now = (names_in m now.files ≡ past name (names_in m e.files)) × (names_in m now.directories ≡ past name (names_in m e.directories))

-- where a node's name is, and where the node ends
pub record Extent : Type 0 where
  pub name : Span
  pub end : ℕ

abbrev pub extent_of : Result Progress ReadFault → Result Extent Refusal
extent_of (Ok c) = Ok (record { name = c.last; end = c.at })
extent_of (Err f) = Err (refusal_of f)

module _ {V : Type 0} (tag : ℕ) (reads : ℕ → List ℕ → Result V Refusal) (taken : List ℕ → Bool) where
  abbrev pub extent_in : Piece → Named V → Result Extent Refusal
  extent_in x n = Ok (record { name = span_of n.name; end = x.place + length x.text })

  abbrev pub extent : List ℕ → ℕ → List ℕ → Result Extent Refusal
  extent prev p bs = next (field_at tag p bs) (λ x. next (node_at tag reads taken prev x.place x.text) (extent_in x))

-- where a section's last name is, and where the section ends
abbrev pub end_of : {V : Type 0} → Section V → SectionEnd
end_of s = record { last = s.last; end = s.place }

abbrev pub ends : {V : Type 0} → Result (Section V) Refusal → Result SectionEnd Refusal
ends (Ok s) = Ok (end_of s)
ends (Err e) = Err e

-- where the sections read so far are, and where the latest ends
abbrev pub reached_of : Reading → Reached
reached_of r = record { sections = r.sections; latest = record { last = r.last; end = r.place } }

-- the names in both
abbrev pub earlier_names : List ℕ → Sections → List (List ℕ)
earlier_names m s = names_in m (files_at s) ++ names_in m (directories_at s)

-- in both they ascend
abbrev pub Sorted : List ℕ → Sections → Type 0
Sorted m s = Ascending [] (names_in m (files_at s)) × Ascending [] (names_in m (directories_at s))
