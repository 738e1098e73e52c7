-- Digests with one hash and one size are one digest. Assumes nothing.
use Rattle.std.proofs.Common.{◌≡◌, ℕ, ◌^◌, ◌<◌, ap, ◌∙◌, subst}
use native.Mathlib.Bridge.{le_prop}
use Rattle.hash.specs.declared.hash.Hash.{Hash}
use Rattle.digest.specs.declared.digest.Digest.{Digest}

abbrev made : (hash : Hash) (size : ℕ) → size < 2 ^ 63 → Digest
made hash size b = record { hash = hash; size = size; bounded = b }

pub same_digest : (d e : Digest) → d.hash ≡ e.hash → d.size ≡ e.size → d ≡ e
same_digest d e p q =
    let P : ℕ → Type 0 = λ n. (b : n < 2 ^ 63) → made e.hash d.size d.bounded ≡ made e.hash n b in
    ap (λ h. made h d.size d.bounded) p ∙ subst P q (λ b. ap (made e.hash d.size) (le_prop d.bounded b)) e.bounded
