-- A Directory: a section of files, of directories and of links.
use Rattle.std.specs.Prelude.{ℕ, cond, List, [], ◌++◌, length, Ok, Err, Result, nat_le}
use Rattle.digest.specs.Digests.{Value}
use Rattle.wire.specs.declared.field.Span.{Span}
use Rattle.wire.specs.Refusals.{Refusal, refused, next}
use Rattle.nodes.specs.Endings.{ended}
use Rattle.nodes.specs.Kinds.{FileValue, file_reads, directory_reads, link_reads}
use Rattle.directory.specs.declared.part.Part.{Part}
use Rattle.directory.specs.declared.part.Part.TheVariants.{Files, Directories, Links}
use Rattle.directory.specs.declared.part.Sections.{Sections}
use Rattle.directory.specs.declared.part.SoFar.{SoFar}
use Rattle.directory.specs.Sections.{Node, Section, names, section_at}

-- where the files and the directories are
abbrev pub files_at : Sections → Span
files_at s = record { start = 0; end = s.directories }

abbrev pub directories_at : Sections → Span
directories_at s = record { start = s.directories; end = s.links }

-- the nodes of a Directory
pub record Nodes : Type 0 where
  pub files : List (Node FileValue)
  pub directories : List (Node Value)
  pub links : List (Node (List ℕ))

-- what was read up to some section: the nodes, where the sections begin, the last name of the latest, and the place and the bytes behind it
pub record Reading : Type 0 where
  pub nodes : Nodes
  pub sections : Sections
  pub last : Span
  pub place : ℕ
  pub rest : List ℕ

-- the files, tag 0A, from the message's first byte on
abbrev pub with_files : Section FileValue → Reading
with_files s = record {
  nodes = record { files = s.nodes; directories = []; links = [] };
  sections = record { directories = s.place; links = s.place };
  last = s.last;
  place = s.place;
  rest = s.rest;
}

abbrev pub files_in : List ℕ → Result Reading Refusal
files_in m = next (section_at 0x0A file_reads [] 0 m) (λ s. Ok (with_files s))

-- the directories, tag 12, behind the files
abbrev pub with_directories : Reading → Section Value → Reading
with_directories r s = record {
  nodes = record { files = r.nodes.files; directories = s.nodes; links = [] };
  sections = record { directories = r.place; links = s.place };
  last = s.last;
  place = s.place;
  rest = s.rest;
}

abbrev pub directories_in : Reading → Result Reading Refusal
directories_in r = next (section_at 0x12 directory_reads (names r.nodes.files) r.place r.rest) (λ s. Ok (with_directories r s))

-- the links, tag 1A, behind the directories
abbrev pub with_links : Reading → Section (List ℕ) → Reading
with_links r s = record {
  nodes = record { files = r.nodes.files; directories = r.nodes.directories; links = s.nodes };
  sections = record { directories = r.sections.directories; links = r.place };
  last = s.last;
  place = s.place;
  rest = s.rest;
}

abbrev pub links_in : Reading → Result Reading Refusal
links_in r = next (section_at 0x1A link_reads (names r.nodes.files ++ names r.nodes.directories) r.place r.rest) (λ s. Ok (with_links r s))

-- the sections up to one of them
abbrev pub up_to : Part → List ℕ → Result Reading Refusal
up_to Files m = files_in m
up_to Directories m = next (files_in m) directories_in
up_to Links m = next (next (files_in m) directories_in) links_in

-- nothing may follow: 13 at what does
abbrev pub closed : Reading → Result Reading Refusal
closed r = ended r r.place r.rest

-- a Directory that goes no further than one of its sections: 5 where it has more than 16,777,216 bytes
abbrev pub part_of : Part → List ℕ → Result Reading Refusal
part_of part m = cond (nat_le (length m) 16777216) (next (up_to part m) closed) (refused 5 0)

-- a whole Directory
abbrev pub directory_of : List ℕ → Result Reading Refusal
directory_of m = part_of Links m

-- what a reader answers of it
abbrev pub so_far_of : Reading → SoFar
so_far_of r = record { sections = r.sections; last = r.last }

abbrev pub sections_of : Reading → Sections
sections_of r = r.sections

abbrev pub answered : {A : Type 0} → (Reading → A) → Result Reading Refusal → Result A Refusal
answered f (Ok r) = Ok (f r)
answered f (Err e) = Err e
