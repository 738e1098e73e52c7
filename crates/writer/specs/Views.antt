-- The three states of the writer, as its state.
use Rattle.std.specs.Prelude.{◌≡◌, ℕ, List, [], Ok, Err, Result}
use Rattle.wire.specs.Refusals.{Refusal}
use Rattle.nodes.specs.declared.directory.DirectoryNode.{DirectoryNode}
use Rattle.nodes.specs.declared.file.FileNode.{FileNode}
use Rattle.nodes.specs.Kinds.{file_writes, file_value, directory_writes, directory_value, link_writes}
use Rattle.nodes.specs.Nodes.{node_bytes}
use Rattle.directory.specs.declared.part.Part.TheVariants.{Files as FilesPart, Directories as DirectoriesPart, Links as LinksPart}
use Rattle.writer.specs.declared.fault.WriterFault.{WriterFault}
use Rattle.writer.specs.declared.states.Files.{Files}
use Rattle.writer.specs.declared.states.Directories.{Directories}
use Rattle.writer.specs.declared.states.Links.{Links}
use Rattle.writer.specs.Faults.{writer_refusal}
use Rattle.writer.specs.Marks.{marked_in}
use Rattle.writer.specs.States.{State}

abbrev pub files_state : Files → State
files_state w = marked_in FilesPart w.mark

abbrev pub directories_state : Directories → State
directories_state w = marked_in DirectoriesPart w.mark

abbrev pub links_state : Links → State
links_state w = marked_in LinksPart w.mark

-- what starting answers
abbrev pub begun : Result Files WriterFault → Result State Refusal
begun (Ok w) = Ok (files_state w)
begun (Err f) = Err (writer_refusal f)

-- what ending answers, and the writer that a refusal gives back
abbrev pub finished : Result ℕ (Links × WriterFault) → Result ℕ Refusal
finished (Ok n) = Ok n
finished (Err x) = Err (writer_refusal x.1)

abbrev pub GivenBack : Links → Result ℕ (Links × WriterFault) → Type 0
GivenBack w (Ok n) = Unit {0}
GivenBack w (Err x) = links_state x.0 ≡ links_state w

-- the bytes of the nodes that are added
abbrev pub file_bytes : List ℕ → FileNode → List ℕ
file_bytes name n = node_bytes 0x0A name (file_writes (file_value [] n))

abbrev pub directory_bytes : List ℕ → DirectoryNode → List ℕ
directory_bytes name n = node_bytes 0x12 name (directory_writes (directory_value [] n))

abbrev pub link_bytes : List ℕ → List ℕ → List ℕ
link_bytes name target = node_bytes 0x1A name (link_writes target)
