use Rattle.std.proofs.Common.{ap}
use Rattle.std.proofs.lemmas.Bool.Decides.{Decides-eqb}
use Rattle.std.proofs.lemmas.Slice.Eq.{slice_eq-Decides}
use Rattle.hash.proofs.hash.HashPartialEq.eq.Goals as goal

pub returns-clause-decides : goal.returns-clause-decides
returns-clause-decides c =
    let d = slice_eq-Decides Decides-eqb _ _ _ c.eq.ensures in
    (λ t. ap (λ ws. record { words = ws }) (d.0 t), λ e. d.1 (ap (λ h. h.words) e))
