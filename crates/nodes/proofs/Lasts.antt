-- An end of a message, judged by what is answered of another. Assumes nothing.
use Rattle.std.proofs.Common.{◌≡◌, ℕ, List, [], ◌∷◌, Ok, Err, Result, refl, ap, arith}
use Rattle.wire.specs.Refusals.{Refusal}
use Rattle.nodes.specs.Endings.{ended}

-- an end is one whatever ends

pub ended-refused : {A : Type 0} (x : A) (r : Refusal) (p : ℕ) (bs : List ℕ) → ◌≡◌ {A = Result (Unit {0}) Refusal} (Err r) (ended tt p bs) → ◌≡◌ {A = Result A Refusal} (Err r) (ended x p bs)
ended-refused x r p [] e = absurd (let z : ◌≡◌ {A = ℕ} 0 1 = cc in omega arith)
ended-refused x r p (b ∷ bs) e = let z : r ≡ record { number = 13; place = p } = cc in ap Err z

pub ended_well : {A : Type 0} (x : A) (p : ℕ) (bs : List ℕ) → ◌≡◌ {A = Result (Unit {0}) Refusal} (Ok tt) (ended tt p bs) → ◌≡◌ {A = Result A Refusal} (Ok x) (ended x p bs)
ended_well x p [] e = refl
ended_well x p (b ∷ bs) e = absurd (let z : ◌≡◌ {A = ℕ} 0 1 = cc in omega arith)
