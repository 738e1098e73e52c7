-- A source of three bytes that are listed under some digest, theirs or not.
use Rattle.std.specs.Prelude.{◌≡◌, ℕ, Bool, true, false, cond, ◌&&◌, List, length, Ok, ◌==◌, refl}
use Rattle.std.proofs.Common.{ap, ◌∙◌, sym, arith}
use Rattle.std.proofs.lemmas.Bool.{eqb-true}
use Rattle.digest.specs.Digests.{Value}
use Rattle.sources.specs.Held.{Held, Nothing, Bytes}
use Rattle.sources.specs.Verified.{answers}

abbrev pub listed : Value → List ℕ → Value → Held
listed under bytes d = cond (answers (Ok under) d && length bytes == d.size) (Bytes bytes) Nothing

pub listed_sized : (under : Value) (bytes : List ℕ) (d : Value) (bs : List ℕ) → listed under bytes d ≡ Bytes bs → length bs ≡ d.size
listed_sized under bytes d bs e = go (answers (Ok under) d) (length bytes == d.size) (eqb-true (length bytes) d.size) e
  where
    go : (s t : Bool) → (t ≡ true → length bytes ≡ d.size) → cond (s && t) (Bytes bytes) Nothing ≡ Bytes bs → length bs ≡ d.size
    go true true h e = let same : bytes ≡ bs = cc in sym (ap length same) ∙ h refl
    go true false h e = let z : ◌≡◌ {A = ℕ} 0 1 = cc in absurd (omega arith)
    go false t h e = let z : ◌≡◌ {A = ℕ} 0 1 = cc in absurd (omega arith)
