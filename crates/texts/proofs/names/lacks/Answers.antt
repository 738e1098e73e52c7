use Rattle.std.proofs.Common.{◌≡◌, ℕ, Bool, true, false, not, ◌&&◌, ◌||◌, eqb, List, [], ◌∷◌, refl, ap, ◌∙◌}
use Rattle.std.specs.List.{list_any}
use Rattle.texts.specs.Names.{lacks}
use Rattle.texts.proofs.names.lacks.Goals as goal

neither : (a b : Bool) → not (a || b) ≡ (not a && not b)
neither true b = refl
neither false b = refl

none : (x : ℕ) (bs : List ℕ) → not (list_any (λ y. eqb y x) bs) ≡ lacks x bs
none x [] = refl
none x (b ∷ bs) = neither (eqb b x) (list_any (λ y. eqb y x) bs) ∙ ap (λ t. not (eqb b x) && t) (none x bs)

pub returns : goal.returns
returns c = ap not c.contains.ensures.value ∙ none c.args.byte c.args.text.now
