-- What follows the name in the three kinds of node.
use Rattle.std.specs.Prelude.{◌≡◌, ℕ, ◌+◌, ◌-◌, ◌^◌, ◌<◌, Bool, true, cond, List, [], ◌∷◌, ◌++◌, length, take, drop, Ok, Result, ◌==◌}
use Rattle.digest.specs.Digests.{Value, value_of}
use Rattle.hash.specs.Text.{IsHash}
use Rattle.texts.specs.Names.{is_target}
use Rattle.texts.specs.Utf8.{is_text}
use Rattle.wire.specs.declared.field.Span.{Span}
use Rattle.wire.specs.Fields.{Piece, field_at, field_bytes, spanned}
use Rattle.wire.specs.Refusals.{Refusal, refused, next}
use Rattle.nodes.specs.Digests.{digest_at, digest_bytes}
use Rattle.nodes.specs.Endings.{ended, last_number}
use Rattle.nodes.specs.declared.directory.DirectoryNode.{DirectoryNode}
use Rattle.nodes.specs.declared.file.FileNode.{FileNode}
use Rattle.nodes.specs.declared.link.LinkNode.{LinkNode}

-- the part of a message behind a span
abbrev pub part : List ℕ → Span → List ℕ
part m s = take (s.end - s.start) (drop s.start m)

-- a file: tag 12 and a Digest, then tag 20 and the number 1 if it is executable, else nothing
pub record FileValue : Type 0 where
  pub digest : Value
  pub executable : Bool

abbrev pub file_reads : ℕ → List ℕ → Result FileValue Refusal
file_reads p bs =
    next (field_at 0x12 p bs) (λ x. next (digest_at x.place x.text) (λ v.
    next (last_number 0x20 1 (x.place + length x.text) x.rest) (λ n. Ok (record { digest = v; executable = (n == 1) }))))

abbrev pub file_writes : FileValue → List ℕ
file_writes v = field_bytes 0x12 (digest_bytes v.digest) ++ cond v.executable (0x20 ∷ 0x01 ∷ []) []

-- a directory: tag 12 and a Digest
abbrev pub directory_reads : ℕ → List ℕ → Result Value Refusal
directory_reads p bs = next (field_at 0x12 p bs) (λ x. next (digest_at x.place x.text) (λ v. ended v (x.place + length x.text) x.rest))

abbrev pub directory_writes : Value → List ℕ
directory_writes v = field_bytes 0x12 (digest_bytes v)

-- the target t at p: 15 where it is not text, 19 where it breaks its rule
abbrev pub target_at : ℕ → List ℕ → Result (Unit {0}) Refusal
target_at p t = cond (is_text t) (cond (is_target t) (Ok tt) (refused 19 p)) (refused 15 p)

-- a link: tag 12 and a target, 15 where it is not text, 19 where it breaks its rule
abbrev pub judged_target : Piece → Result (List ℕ) Refusal
judged_target x =
    cond (is_text x.text) (cond (is_target x.text) (ended x.text (x.place + length x.text) x.rest) (refused 19 x.place)) (refused 15 x.place)

abbrev pub link_reads : ℕ → List ℕ → Result (List ℕ) Refusal
link_reads p bs = next (field_at 0x12 p bs) judged_target

-- the target by its field alone, where neither it nor the end is judged again
abbrev pub link_finds : ℕ → List ℕ → Result (List ℕ) Refusal
link_finds p bs = next (field_at 0x12 p bs) (λ x. Ok x.text)

-- where a link's target is: the text of the field 12
abbrev pub link_places : ℕ → List ℕ → LinkNode → Type 0
link_places p bs n = spanned (field_at 0x12 p bs) ≡ Ok n.target

abbrev pub link_writes : List ℕ → List ℕ
link_writes target = field_bytes 0x12 target

-- the values of nodes that were read from the message m
abbrev pub file_value : List ℕ → FileNode → FileValue
file_value m n = record { digest = value_of n.digest; executable = n.executable }

abbrev pub directory_value : List ℕ → DirectoryNode → Value
directory_value m n = value_of n.digest

abbrev pub link_value : List ℕ → LinkNode → List ℕ
link_value m n = part m n.target

-- the values that can be written: a hash and a size that a digest can have; a target
abbrev pub SoundDigest : Value → Type 0
SoundDigest v = IsHash v.hash × (v.size < 2 ^ 63)

abbrev pub SoundFile : FileValue → Type 0
SoundFile v = SoundDigest v.digest

abbrev pub SoundLink : List ℕ → Type 0
SoundLink t = (is_text t ≡ true) × (is_target t ≡ true)
