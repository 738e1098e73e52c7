-- What a source means for a digest: nothing, a spoiled blob, or bytes.
use Rattle.std.specs.Prelude.{ℕ, List}

pub data Held : Type 0 where
  Nothing : Held
  Spoiled : Held
  Bytes : List ℕ → Held
