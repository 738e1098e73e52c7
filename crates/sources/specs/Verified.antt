-- What the verifying source means, by what the source below it means.
use Rattle.std.specs.Prelude.{◌≡◌, ℕ, Bool, false, cond, ◌&&◌, List, Ok, Err, Result, ◌==◌}
use Rattle.std.specs.Str.{bytes_eq as same}
use Rattle.digest.specs.Digests.{Value, digest_of}
use Rattle.sources.specs.Held.{Held, Nothing, Spoiled, Bytes}

-- whether an answer is this digest
abbrev pub answers : Result Value ℕ → Value → Bool
answers (Ok v) d = v.size == d.size && same v.hash d.hash
answers (Err n) d = false

-- whether bytes have this digest, which more than 16,777,216 bytes never have
abbrev pub has : List ℕ → Value → Bool
has bs d = answers (digest_of bs) d

-- bytes of another digest become spoiled; the rest is as below
abbrev pub verified : Value → Held → Held
verified d Nothing = Nothing
verified d Spoiled = Spoiled
verified d (Bytes bs) = cond (has bs d) (Bytes bs) Spoiled

-- the bytes that a verifying source means have the digest asked for, whatever lies below
abbrev pub BytesHaveTheDigestAskedFor : Type 0
BytesHaveTheDigestAskedFor = (d : Value) (below : Held) (bs : List ℕ) → verified d below ≡ Bytes bs → digest_of bs ≡ Ok d

-- the true bytes below are the bytes above
abbrev pub TrueBytesAreKept : Type 0
TrueBytesAreKept = (d : Value) (bs : List ℕ) → digest_of bs ≡ Ok d → verified d (Bytes bs) ≡ Bytes bs
