-- The message of a Digest: 0A and the hash text, then 10 and the size unless it is zero.
use Rattle.std.specs.Prelude.{ℕ, ◌+◌, ◌-◌, ◌^◌, List, ◌++◌, length, Ok, Err, Result}
use Rattle.hash.specs.Text.{hash_of, text_of}
use Rattle.digest.specs.Digests.{Value, value_of}
use Rattle.digest.specs.declared.digest.Digest.{Digest}
use Rattle.wire.specs.declared.fault.ReadFault.{ReadFault}
use Rattle.wire.specs.Fields.{Piece, field_at, field_bytes}
use Rattle.wire.specs.Refusals.{Refusal, refused, refusal_of, next}
use Rattle.nodes.specs.Endings.{last_number, last_bytes}

-- what follows a hash text: 14 where it is none; the size is a last field, tag 10, of a number that is not zero
abbrev pub size_then : Piece → Result (List ℕ) ℕ → Result Value Refusal
size_then x (Err n) = refused 14 x.place
size_then x (Ok ws) = next (last_number 0x10 (2 ^ 63 - 1) (x.place + length x.text) x.rest) (λ n. Ok (record { hash = ws; size = n }))

abbrev pub hash_then : Piece → Result Value Refusal
hash_then x = size_then x (hash_of x.text)

abbrev pub digest_at : ℕ → List ℕ → Result Value Refusal
digest_at p bs = next (field_at 0x0A p bs) hash_then

-- the bytes of a Digest message
abbrev pub digest_bytes : Value → List ℕ
digest_bytes v = field_bytes 0x0A (text_of v.hash) ++ last_bytes 0x10 v.size

-- an answer by its value, a refusal by its number and place
abbrev pub reported_digest : Result Digest ReadFault → Result Value Refusal
reported_digest (Ok d) = Ok (value_of d)
reported_digest (Err f) = Err (refusal_of f)
