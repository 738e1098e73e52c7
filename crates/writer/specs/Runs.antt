-- A whole run of the writer over a buffer that nothing else touches.
use Rattle.std.specs.Prelude.{◌≡◌, ℕ, ◌≤◌, List, [], ◌∷◌, length, take, Ok, Err, Result}
use Rattle.wire.specs.Refusals.{Refusal}
use Rattle.nodes.specs.Kinds.{file_writes, directory_writes, link_writes, SoundFile, SoundDigest}
use Rattle.nodes.specs.Nodes.{node_bytes}
use Rattle.directory.specs.declared.part.Part.TheVariants.{Files, Directories, Links}
use Rattle.directory.specs.Canonical.{encoding, nodes_of}
use Rattle.directory.specs.Directories.{Nodes, directory_of, answered}
use Rattle.directory.specs.Sections.{Node}
use Rattle.writer.specs.States.{State, on_to, ended, added, state_after, buffer_after}

-- where a run stands: the writer, the buffer, and the nodes taken in the part at hand
pub record Run (V : Type 0) : Type 0 where
  pub state : State
  pub buffer : List ℕ
  pub taken : List (Node V)

-- the nodes that were taken: one more in front where the call was not refused
abbrev pub taken_if : {V : Type 0} → Node V → Result ℕ Refusal → List (Node V) → List (Node V)
taken_if n (Ok used) ns = n ∷ ns
taken_if n (Err e) ns = ns

-- a part's calls: the nodes asked for, in order, some of them refused
abbrev pub adds : {V : Type 0} → ℕ → (V → List ℕ) → List (Node V) → State → List ℕ → Run V
adds tag writes [] s buffer = record { state = s; buffer = buffer; taken = [] }
adds tag writes (n ∷ ns) s buffer =
    let node = node_bytes tag n.name (writes n.rest) in
    let answer = added s buffer node in
    let more = adds tag writes ns (state_after s answer) (buffer_after s buffer node answer) in
    record { state = more.state; buffer = more.buffer; taken = taken_if n answer more.taken }

-- a whole run: files, directories and links asked for
pub record Whole : Type 0 where
  pub state : State
  pub buffer : List ℕ
  pub taken : Nodes

abbrev pub whole : Nodes → List ℕ → Whole
whole asked buffer =
    let f = adds 0x0A file_writes asked.files (record { part = Files; used = 0; long = length buffer }) buffer in
    let d = adds 0x12 directory_writes asked.directories (on_to Directories f.state) f.buffer in
    let l = adds 0x1A link_writes asked.links (on_to Links d.state) d.buffer in
    record { state = l.state; buffer = l.buffer; taken = record { files = f.taken; directories = d.taken; links = l.taken } }

-- every digest that can exist can be written
abbrev pub AllSound : {V : Type 0} → (V → Type 0) → List (Node V) → Type 0
AllSound Sound [] = Unit {0}
AllSound Sound (n ∷ ns) = Sound n.rest × AllSound Sound ns

pub record DigestsExist (d : Nodes) : Type 0 where
  pub files : AllSound SoundFile d.files
  pub directories : AllSound SoundDigest d.directories

-- whatever nodes are asked for, the run ends with the count of its bytes, which are the encoding of the nodes taken and are read as these
pub record Ended (w : Whole) : Type 0 where
  pub count : ended w.state w.buffer ≡ Ok w.state.used
  pub bytes : take w.state.used w.buffer ≡ encoding w.taken
  pub read : answered nodes_of (directory_of (take w.state.used w.buffer)) ≡ Ok w.taken

abbrev pub NodesTakenAreReadBack : Type 0
NodesTakenAreReadBack = (asked : Nodes) (buffer : List ℕ) → DigestsExist asked → length buffer ≤ 16777216 → Ended (whole asked buffer)

-- the nodes read from a Directory are all taken where there is room, and give the same bytes
abbrev pub NodesReadGiveTheSameBytes : Type 0
NodesReadGiveTheSameBytes =
    (m : List ℕ) (d : Nodes) (buffer : List ℕ)
    → answered nodes_of (directory_of m) ≡ Ok d
    → length m ≤ length buffer
    → length buffer ≤ 16777216
    → ((whole d buffer).taken ≡ d) × (ended (whole d buffer).state (whole d buffer).buffer ≡ Ok (length m)) × (take (length m) (whole d buffer).buffer ≡ m)
