-- A name sought in ascending names. Assumes nothing.
use Rattle.std.proofs.Common.{◌≡◌, ℕ, true, false, ◌||◌, List, [], ◌∷◌, sym, refl, ap, ◌∙◌, ⊎_elim}
use Rattle.std.proofs.lemmas.Bool.{cases_Bool, cond-true, cond-false, cond_both}
use Rattle.texts.specs.Order.{before}
use Rattle.directory.specs.Regions.{Ascending, past, first, met}
use Rattle.std.specs.Str.{bytes_eq as same}
use Rattle.directory.specs.Sections.{among}
use Rattle.directory.proofs.Orders.{before_trans, before_other, below_other, before_else}

-- names that ascend
abbrev pub Ascends : List (List ℕ) → Type 0
Ascends [] = Unit {0}
Ascends (n ∷ ns) = Ascending n ns

pub ascends : (prev : List ℕ) (ns : List (List ℕ)) → Ascending prev ns → Ascends ns
ascends prev [] h = tt
ascends prev (n ∷ ns) h = h.1

-- a first name that is another does not matter
other_head : (name n : List ℕ) (ns : List (List ℕ)) → same name n ≡ false → among name (n ∷ ns) ≡ among name ns
other_head name n ns e = ap (λ t. t || among name ns) e

-- a name below a list's names is none of them
above : (name prev : List ℕ) (ns : List (List ℕ)) → before name prev ≡ true → Ascending prev ns → among name ns ≡ false
above name prev [] b h = refl
above name prev (n ∷ ns) b h =
    let c = before_trans name prev n b h.0 in
    other_head name n ns (below_other name n c) ∙ above name n ns c h.1

module _ (name : List ℕ) where
  among-met : (ns : List (List ℕ)) → Ascends ns → met name ns ≡ among name ns
  among-met [] h = refl
  among-met (n ∷ ns) h =
      ⊎_elim
      (λ b. ap (first name) (cond-true (before n name) _ _ b) ∙ among-met ns (ascends n ns h) ∙ sym (other_head name n ns (before_other n name b)))
      (λ b. ap (first name) (cond-false (before n name) _ _ b) ∙ ⊎_elim
      (λ s. s ∙ sym (ap (λ t. t || among name ns) s))
      (λ s. s ∙ sym (other_head name n ns s ∙ above name n ns (before_else n name b s) h))
      (cases_Bool (same name n)))
      (cases_Bool (before n name))

-- in ascending names, met is among
pub met-among : (name prev : List ℕ) (ns : List (List ℕ)) → Ascending prev ns → met name ns ≡ among name ns
met-among name prev ns h = among-met name ns (ascends prev ns h)

-- names that were passed do not matter to a name that stands behind the one sought
module _ (prev name : List ℕ) (later : before prev name ≡ true) where
  among-past : (ns : List (List ℕ)) → among name (past prev ns) ≡ among name ns
  among-past [] = refl
  among-past (n ∷ ns) =
      ⊎_elim
      (λ b. ap (among name) (cond-true (before n prev) _ _ b) ∙ among-past ns ∙ sym (other_head name n ns (before_other n name (before_trans n prev name b later))))
      (λ b. ap (among name) (cond-false (before n prev) _ _ b))
      (cases_Bool (before n prev))

past_ascends : (name : List ℕ) (ns : List (List ℕ)) → Ascends ns → Ascends (past name ns)
past_ascends name [] h = tt
past_ascends name (n ∷ ns) h = cond_both (before n name) (past name ns) (n ∷ ns) Ascends (λ b. past_ascends name ns (ascends n ns h)) (λ b. h)

-- left holds, of all, the names that stand behind prev, and ascends
pub record Passed (prev : List ℕ) (all left : List (List ℕ)) : Type 0 where
  pub keeps : (name : List ℕ) → before prev name ≡ true → among name left ≡ among name all
  pub ascend : Ascends left

pub passed_none : (prev low : List ℕ) (all : List (List ℕ)) → Ascending low all → Passed prev all all
passed_none prev low all h = record { keeps = λ _ _. refl; ascend = ascends low all h }

module _ (prev name : List ℕ) (all left : List (List ℕ)) (h : Passed prev all left) (b : before prev name ≡ true) where
  pub passed_met : met name left ≡ among name all
  passed_met = among-met name left h.ascend ∙ h.keeps name b

  pub passed_on : Passed name all (past name left)
  passed_on = record {
    keeps = λ k c. among-past name k c left ∙ h.keeps k (before_trans prev name k b c);
    ascend = past_ascends name left h.ascend;
  }
