-- A Digest message inside a node's message. Assumes nothing.
use Rattle.std.proofs.Common.{◌≡◌, ℕ, ◌+◌, ◌-◌, ◌≤◌, eqb, List, length, take, drop, Ok, Err, Result, sym, ap, ◌∙◌, arith}
use Rattle.std.proofs.lemmas.List.{drop-take}
use Rattle.digest.specs.Digests.{Value}
use Rattle.wire.specs.declared.field.Span.{Span}
use Rattle.wire.specs.Refusals.{Refusal, next}
use Rattle.wire.proofs.Finding.{Found}
use Rattle.nodes.specs.Digests.{digest_at}
use Rattle.nodes.specs.Endings.{ended, last_number}
use Rattle.nodes.specs.Kinds.{part, FileValue, file_reads, directory_reads}

-- the message cut at a span's end, from its start on
pub cut-part : (m : List ℕ) (s : Span) → s.start ≤ s.end → drop s.start (take (s.end - 0) m) ≡ part m s
cut-part m s h =
    let e : s.end - 0 ≡ s.start + (s.end - s.start) = omega arith in
    ap (λ n. drop s.start (take n m)) e ∙ drop-take s.start (s.end - s.start) m

module _ (p : ℕ) (m : List ℕ) (s : Span) (f : Found 0x12 p m s) (h : s.start ≤ s.end) where
  same : digest_at f.piece.place f.piece.text ≡ digest_at s.start (drop s.start (take (s.end - 0) m))
  same = sym ((λ i. digest_at (f.start i) ((cut-part m s h ∙ f.text) i)))

  module _ {A : Type 0} (g : ℕ → List ℕ → Value → Result A Refusal) where
    behind : next (digest_at f.piece.place f.piece.text) (g (f.piece.place + length f.piece.text) f.piece.rest)
        ≡ next (digest_at s.start (drop s.start (take (s.end - 0) m))) (g s.end (drop s.end m))
    behind = λ i. next (same i) (g (sym f.end i) (sym f.rest i))

  abbrev marked : ℕ → List ℕ → Value → Result FileValue Refusal
  marked q bs v = next (last_number 0x20 1 q bs) (λ n. Ok (record { digest = v; executable = eqb n 1 }))

  directory_is : directory_reads p (drop p m) ≡ next (digest_at s.start (drop s.start (take (s.end - 0) m))) (λ v. ended v s.end (drop s.end m))
  directory_is = ap (λ r. next r (λ x. next (digest_at x.place x.text) (λ v. ended v (x.place + length x.text) x.rest))) f.is ∙ behind (λ q bs v. ended v q bs)

  file_is : file_reads p (drop p m) ≡ next (digest_at s.start (drop s.start (take (s.end - 0) m))) (marked s.end (drop s.end m))
  file_is = ap (λ r. next r (λ x. next (digest_at x.place x.text) (marked (x.place + length x.text) x.rest))) f.is ∙ behind marked

  pub directory_refused : (r : Refusal) → Err r ≡ digest_at s.start (drop s.start (take (s.end - 0) m)) → Err r ≡ directory_reads p (drop p m)
  directory_refused r d = sym (directory_is ∙ ap (λ x. next x (λ v. ended v s.end (drop s.end m))) (sym d))

  pub directory_ends : (v : Value) → Ok v ≡ digest_at s.start (drop s.start (take (s.end - 0) m)) → directory_reads p (drop p m) ≡ ended v s.end (drop s.end m)
  directory_ends v d = directory_is ∙ ap (λ x. next x (λ v. ended v s.end (drop s.end m))) (sym d)

  pub file_refused : (r : Refusal) → Err r ≡ digest_at s.start (drop s.start (take (s.end - 0) m)) → Err r ≡ file_reads p (drop p m)
  file_refused r d = sym (file_is ∙ ap (λ x. next x (marked s.end (drop s.end m))) (sym d))

  pub file_ends : (v : Value) → Ok v ≡ digest_at s.start (drop s.start (take (s.end - 0) m)) → file_reads p (drop p m) ≡ next (last_number 0x20 1 s.end (drop s.end m)) (λ n. Ok (record { digest = v; executable = eqb n 1 }))
  file_ends v d = file_is ∙ ap (λ x. next x (marked s.end (drop s.end m))) (sym d)
