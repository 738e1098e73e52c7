-- A Digest message, read where it lies. Assumes nothing.
use Rattle.std.proofs.Common.{◌≡◌, ℕ, ◌-◌, ◌^◌, List, drop, Ok, Err, Result, sym, refl, ap, ◌∙◌}
use Rattle.hash.specs.Faults.{reported}
use Rattle.hash.specs.Text.{hash_of}
use Rattle.hash.specs.declared.fault.HashTextFault.{HashTextFault}
use Rattle.hash.specs.declared.hash.Hash.{Hash}
use Rattle.wire.specs.declared.field.Span.{Span}
use Rattle.wire.specs.Refusals.{Refusal, refused, next}
use Rattle.wire.proofs.Finding.{Found}
use Rattle.nodes.specs.Digests.{size_then, hash_then, digest_at}
use Rattle.nodes.specs.Endings.{last_number}
use Rattle.nodes.specs.Kinds.{part}

module _ (p : ℕ) (m : List ℕ) (s : Span) (f : Found 0x0A p m s) where
  digested : digest_at p (drop p m) ≡ size_then f.piece (hash_of (part m s))
  digested = ap (λ r. next r hash_then) f.is ∙ ap (λ t. size_then f.piece (hash_of t)) (sym f.text)

  pub no_hash : (r : Result Hash HashTextFault) → reported r ≡ hash_of (part m s) → ((h : Hash) → r ≡ Ok h → ⊥) → refused 14 s.start ≡ digest_at p (drop p m)
  no_hash (Ok h) e not_ok = absurd (not_ok h refl)
  no_hash (Err x) e not_ok = ap (refused 14) f.start ∙ sym (digested ∙ ap (size_then f.piece) (sym e))

  module _ (ws : List ℕ) (e : Ok ws ≡ hash_of (part m s)) where
    sized : digest_at p (drop p m) ≡ next (last_number 0x10 (2 ^ 63 - 1) s.end (drop s.end m)) (λ n. Ok (record { hash = ws; size = n }))
    sized =
        digested ∙ ap (size_then f.piece) (sym e)
        ∙ (λ i. next (last_number 0x10 (2 ^ 63 - 1) (sym f.end i) (sym f.rest i)) (λ n. Ok (record { hash = ws; size = n })))

    pub no_size : (r : Refusal) → Err r ≡ last_number 0x10 (2 ^ 63 - 1) s.end (drop s.end m) → Err r ≡ digest_at p (drop p m)
    no_size r d = sym (sized ∙ ap (λ x. next x (λ n. Ok (record { hash = ws; size = n }))) (sym d))

    pub a_digest : (n : ℕ) → Ok n ≡ last_number 0x10 (2 ^ 63 - 1) s.end (drop s.end m) → Ok (record { hash = ws; size = n }) ≡ digest_at p (drop p m)
    a_digest n d = sym (sized ∙ ap (λ x. next x (λ n. Ok (record { hash = ws; size = n }))) (sym d))
