-- The mark that begins a padding. Assumes nothing.
use Rattle.std.proofs.Common.{◌≡◌, ℕ, suc, ◌+◌, ◌<◌, ◌∷◌, length, take, sym, ap, ◌∙◌, add-one, arith}
use lib.ListN.{length-replicate}
use Rattle.std.proofs.lemmas.List.{take-replicate}
use Rattle.sha256.specs.Sha256.{marked}

pub length_marked : (z : ℕ) → length (marked z) ≡ z + 1
length_marked z = ap suc (length-replicate z 0) ∙ sym (add-one z)

pub marked_front : (z : ℕ) → z < 64 → take (z + 1) (marked 63) ≡ marked z
marked_front z h = ap (λ k. take k (marked 63)) (add-one z) ∙ ap (λ l. 0x80 ∷ l) (take-replicate z 63 0 (omega arith))
