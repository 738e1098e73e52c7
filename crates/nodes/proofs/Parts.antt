-- Parts written into a buffer one behind the other, where there is room for all. Assumes nothing.
use Rattle.std.proofs.Common.{◌≡◌, ℕ, ◌+◌, ◌<◌, ◌≤◌, List, [], ◌∷◌, ◌++◌, length, set, Ok, Err, sym, refl, ap, ◌∙◌, arith, length-append}
use Rattle.wire.specs.Writing.{written, ending, after}
use Rattle.wire.proofs.Placing.{fits, set-written, then_fits}

-- x is written from s on, and what comes next stands at `at`
pub record Stands (e : List ℕ) (s : ℕ) (x e₁ : List ℕ) (at : ℕ) : Type 0 where
  pub bytes : e₁ ≡ written e s x
  pub behind : at ≡ s + length x

-- a first byte
pub begun : (e : List ℕ) (s b : ℕ) → s < length e → Stands e s (b ∷ []) (set e s b) (s + 1)
begun e s b h = record { bytes = set-written e s b h; behind = refl }

-- y is to follow
module _ (e : List ℕ) (s : ℕ) (x e₁ : List ℕ) (at : ℕ) (so_far : Stands e s x e₁ at) (y : List ℕ) (room : s + length x + length y ≤ length e) where
  goes : (ending e₁ at y ≡ Ok (s + length (x ++ y))) × (after e₁ at y ≡ written e s (x ++ y))
  goes = then_fits e s x y room e₁ at so_far.bytes so_far.behind

  pub not_refused : {k : ℕ} → Err k ≡ ending e₁ at y → ⊥
  not_refused d = let z : ◌≡◌ {A = ℕ} 0 1 = cc (d, goes.0) in omega arith

  pub onward : (e₂ : List ℕ) (at₂ : ℕ) → e₂ ≡ after e₁ at y → Ok at₂ ≡ ending e₁ at y → Stands e s (x ++ y) e₂ at₂
  onward e₂ at₂ is answered = record { bytes = is ∙ goes.1; behind = cc (answered, goes.0) }

  -- the last part, after which the whole stands there
  pub ends : (whole : List ℕ) → x ++ y ≡ whole → (ending e₁ at y ≡ ending e s whole) × (after e₁ at y ≡ after e s whole)
  ends whole is =
      let l = length-append x y in
      let p = fits e s (x ++ y) (omega arith) in
      (goes.0 ∙ sym p.0 ∙ ap (ending e s) is, goes.1 ∙ sym p.1 ∙ ap (after e s) is)
