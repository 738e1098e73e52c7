-- A name sought in a region of nodes. Assumes nothing.
use Rattle.std.proofs.Common.{◌≡◌, ℕ, ◌-◌, ◌≤◌, min, List, [], ◌∷◌, length, take, drop, Some, None, sym, ap, ◌∙◌, ⊎_elim, arith, length-drop, length-take}
use Rattle.std.proofs.lemmas.List.{take_all}
use Rattle.std.proofs.lemmas.Bool.{cases_lt}
use Rattle.std.specs.Result.{result_ok}
use Rattle.wire.specs.declared.field.Span.{Span}
use Rattle.nodes.specs.Kinds.{part}
use Rattle.directory.specs.Regions.{front_of, names_up_to, names_in, past, first, met}
use Rattle.directory.proofs.Fronts.{none_there, one_there}
use Rattle.directory.proofs.Places.{behind-cut}

-- a region of a message, where the message is cut at the region's end
cut_region : (m : List ℕ) (s : Span) (e : ℕ) → e ≡ min s.end (length m) → drop s.start (take e m) ≡ part m s
cut_region m s e h =
    behind-cut m e s.start ∙ ⊎_elim
    (λ l. let same : e ≡ s.end = omega arith in ap (λ n. take (n - s.start) (drop s.start m)) same)
    (λ l. let size = length-drop s.start m in take_all (e - s.start) (drop s.start m) (omega arith) ∙ sym (take_all (s.end - s.start) (drop s.start m) (omega arith)))
    (cases_lt s.end (length m))

-- the names at a place of a message that is cut
module _ (m : List ℕ) (e p : ℕ) where
  few : length (drop p (take e m)) ≤ length m
  few = let a = length-drop p (take e m) in let b = length-take e m in omega arith

  pub none_here : None ≡ result_ok (front_of (drop p (take e m))) → names_up_to (length m) (drop p (take e m)) ≡ []
  none_here = none_there (length m) (drop p (take e m)) few

  pub one_here : (name rest : List ℕ) → Some (record { name = name; rest = rest }) ≡ result_ok (front_of (drop p (take e m))) → names_up_to (length m) (drop p (take e m)) ≡ name ∷ names_up_to (length m) rest
  one_here name rest = one_there (length m) (drop p (take e m)) (record { name = name; rest = rest }) few

-- from a region's start to a place only names before the name were passed
module _ (m name : List ℕ) (s : Span) (e p : ℕ) (ends : e ≡ min s.end (length m))
    (kept : past name (names_up_to (length m) (drop s.start (take e m))) ≡ past name (names_up_to (length m) (drop p (take e m)))) where
  -- and there no name is passed
  pub sought : (ns : List (List ℕ)) → names_up_to (length m) (drop p (take e m)) ≡ ns → past name ns ≡ ns
      → (names_in m (record { start = p; end = e }) ≡ past name (names_in m s)) × (first name ns ≡ met name (names_in m s))
  sought ns here stays =
      let is : ns ≡ past name (names_in m s) = sym (ap (λ l. past name (names_up_to (length m) l)) (sym (cut_region m s e ends)) ∙ kept ∙ ap (past name) here ∙ stays) in
      (ap (names_up_to (length m)) (sym (behind-cut m e p)) ∙ here ∙ is, ap (first name) is)
