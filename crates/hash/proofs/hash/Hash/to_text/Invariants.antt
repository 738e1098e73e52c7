use Rattle.std.proofs.Common.{◌≡◌, ◌*◌, length, take}
use Rattle.std.specs.List.{flat_map}
use Rattle.hash.specs.Bytes.{bytes_of}
use Rattle.hash.specs.Text.{hex_pair}
use Rattle.hash.proofs.hash.Hash.to_text.Given as goal

abbrev pub invariant-loop-i : goal.invariant-loop-i
invariant-loop-i l = (length l.text ≡ 64) × (take (2 * l.i) l.text ≡ flat_map hex_pair (take l.i (bytes_of l.self.words)))
