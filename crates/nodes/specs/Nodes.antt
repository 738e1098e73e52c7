-- A node: a tag, and a message of the name and what follows it.
use Rattle.std.specs.Prelude.{ℕ, List, ◌++◌}
use Rattle.wire.specs.Fields.{field_bytes}
use Rattle.nodes.specs.declared.node.NewNode.{NewNode}

-- the bytes of a node, by its tag, its name and the bytes of what follows
abbrev pub node_bytes : ℕ → List ℕ → List ℕ → List ℕ
node_bytes tag name rest = field_bytes tag (field_bytes 0x0A name ++ rest)

-- a node that is to be written: its message and its bytes, of a kind by its tag, its writing and its values
abbrev pub message_of : {K V : Type 0} → (V → List ℕ) → (List ℕ → K → V) → NewNode K → List ℕ
message_of writes rest_in n = field_bytes 0x0A n.name.now ++ writes (rest_in n.text.now n.rest.now)

abbrev pub bytes_of : {K V : Type 0} → ℕ → (V → List ℕ) → (List ℕ → K → V) → NewNode K → List ℕ
bytes_of code writes rest_in n = node_bytes code n.name.now (writes (rest_in n.text.now n.rest.now))
