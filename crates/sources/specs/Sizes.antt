-- The verifying source's bytes are as many as the digest's size, since those below are.
use Rattle.std.specs.Prelude.{◌≡◌, ℕ, Bool, true, false, cond, List, length}
use Rattle.std.proofs.Common.{arith}
use Rattle.digest.specs.Digests.{Value}
use Rattle.sources.specs.Held.{Held, Nothing, Spoiled, Bytes}
use Rattle.sources.specs.Verified.{has, verified}

pub verified_sized : (d : Value) (below : Held) → ((bs : List ℕ) → below ≡ Bytes bs → length bs ≡ d.size) → (bs : List ℕ) → verified d below ≡ Bytes bs → length bs ≡ d.size
verified_sized d Nothing h bs e = let z : ◌≡◌ {A = ℕ} 0 1 = cc in absurd (omega arith)
verified_sized d Spoiled h bs e = let z : ◌≡◌ {A = ℕ} 0 1 = cc in absurd (omega arith)
verified_sized d (Bytes cs) h bs e = go (has cs d) e
  where
    go : (t : Bool) → cond t (Bytes cs) Spoiled ≡ Bytes bs → length bs ≡ d.size
    go true e = h bs e
    go false e = let z : ◌≡◌ {A = ℕ} 0 1 = cc in absurd (omega arith)
