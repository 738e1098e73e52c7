-- The canonical form of a Directory, as a relation between lists of nodes and bytes.
use Rattle.std.specs.Prelude.{◌≡◌, ℕ, ◌≤◌, true, false, List, [], ◌∷◌, ◌++◌, length, Ok}
use Rattle.texts.specs.Names.{is_name}
use Rattle.texts.specs.Order.{before}
use Rattle.texts.specs.Utf8.{is_text}
use Rattle.nodes.specs.Kinds.{file_writes, directory_writes, link_writes, SoundFile, SoundDigest, SoundLink}
use Rattle.nodes.specs.Nodes.{node_bytes}
use Rattle.directory.specs.Directories.{Nodes, Reading, directory_of, answered}
use Rattle.directory.specs.Sections.{Node, names, among}

-- the bytes of a section: its nodes, one behind the other
abbrev pub section_bytes : {V : Type 0} → ℕ → (V → List ℕ) → List (Node V) → List ℕ
section_bytes tag writes [] = []
section_bytes tag writes (n ∷ ns) = node_bytes tag n.name (writes n.rest) ++ section_bytes tag writes ns

-- the encoding of a Directory: its files, directories and links
abbrev pub encoding : Nodes → List ℕ
encoding d = section_bytes 0x0A file_writes d.files ++ (section_bytes 0x12 directory_writes d.directories ++ section_bytes 0x1A link_writes d.links)

-- a name that may stand behind the name prev, where earlier sections have these names
abbrev pub GoodName : List (List ℕ) → List ℕ → List ℕ → Type 0
GoodName earlier prev name = (is_text name ≡ true) × (is_name name ≡ true) × (before prev name ≡ true) × (among name earlier ≡ false)

-- nodes that keep the rules of a section: each has a good name, above the one before it, and a sound value
abbrev pub GoodSection : {V : Type 0} → (V → Type 0) → List (List ℕ) → List ℕ → List (Node V) → Type 0
GoodSection Sound earlier prev [] = Unit {0}
GoodSection Sound earlier prev (n ∷ ns) = GoodName earlier prev n.name × Sound n.rest × GoodSection Sound earlier n.name ns

-- nodes that keep all rules of a Directory
pub record Canonical (d : Nodes) : Type 0 where
  pub files : GoodSection SoundFile [] [] d.files
  pub directories : GoodSection SoundDigest (names d.files) [] d.directories
  pub links : GoodSection SoundLink (names d.files ++ names d.directories) [] d.links
  pub small : length (encoding d) ≤ 16777216

abbrev pub nodes_of : Reading → Nodes
nodes_of r = r.nodes

-- bytes are accepted only where they are the encoding of nodes that keep all rules, which are the nodes read,
abbrev pub OnlyCanonicalIsAccepted : Type 0
OnlyCanonicalIsAccepted = (m : List ℕ) (d : Nodes) → answered nodes_of (directory_of m) ≡ Ok d → Canonical d × (encoding d ≡ m)

-- and the encoding of nodes that keep all rules is accepted, and read as these nodes
abbrev pub CanonicalIsReadBack : Type 0
CanonicalIsReadBack = (d : Nodes) → Canonical d → answered nodes_of (directory_of (encoding d)) ≡ Ok d

-- different nodes have different encodings
abbrev pub OneEncodingOneDirectory : Type 0
OneEncodingOneDirectory = (d e : Nodes) → Canonical d → Canonical e → encoding d ≡ encoding e → d ≡ e
