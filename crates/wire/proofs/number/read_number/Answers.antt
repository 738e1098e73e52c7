use Rattle.std.proofs.Common.{◌≡◌, ℕ, ◌+◌, ◌≤◌, List, length, drop, Some, None, Err, Option, Bor, IfOk, sym, refl, ap, ◌∙◌, subst, ⊎_elim, arith, length-drop}
use Rattle.std.proofs.lemmas.List.{take_rest, drop_all}
use Rattle.std.specs.Option.{MatchOption, ok_or}
use Rattle.std.specs.Slice.{IsGetRangeResult}
use Rattle.wire.specs.declared.fault.ReadFault.{ReadFault}
use Rattle.wire.specs.Numbers.{front, or_refused}
use Rattle.wire.specs.Refusals.{reported, refusal_of}
use Rattle.wire.proofs.Forms.{taken_within}
use Rattle.wire.proofs.number.read_number.Goals as goal

-- the number in front of what is behind the place, if that is a place
sought : (m : List ℕ) (start : ℕ) (g : Option (Bor (List ℕ))) (a : Option (ℕ × ℕ)) → IsGetRangeResult m start (length m) g
    → MatchOption g (a ≡ None) (λ x. a ≡ front x.now) → (a ≡ front (drop start m)) × ((n k : ℕ) → a ≡ Some (n, k) → start ≤ length m)
unfolding front
sought m start None a lookup h =
    ⊎_elim
    (λ past. (h ∙ sym (ap front (drop_all start m (omega arith))), λ n k e. absurd (let z : ◌≡◌ {A = ℕ} 0 1 = cc in omega arith)))
    (λ past. absurd (omega arith))
    lookup.0
sought m start (Some x) a lookup h = (h ∙ ap front (lookup.0.2 ∙ take_rest m start), λ n k e. lookup.0.0)

-- what an answer that was found, or else a refusal at the place, says of the number there
module _ (m : List ℕ) (start : ℕ) (f : ReadFault) (is : refusal_of f ≡ record { number = 12; place = start }) where
  told : (a : Option (ℕ × ℕ)) → reported (ok_or a f) ≡ or_refused start a
  told None = ap Err is
  told (Some x) = refl

  inside : (a : Option (ℕ × ℕ)) → a ≡ front (drop start m) → ((n k : ℕ) → a ≡ Some (n, k) → start ≤ length m) → IfOk (ok_or a f) (λ x. start + x.1 ≤ length m)
  inside None e h = tt
  inside (Some x) e h =
      let l = length-drop start m in
      let taken = taken_within (drop start m) x.0 x.1 (sym e) in
      let here = h x.0 x.1 refl in
      omega arith

pub returns-clause-value : goal.returns-clause-value
returns-clause-value c = let s = sought c.args.message.now c.args.start c.get.result c.and_then.result c.get.ensures.lookup c.and_then.ensures in
    ap reported c.ok_or.ensures.value ∙ told c.args.message.now c.args.start _ refl c.and_then.result ∙ ap (or_refused c.args.start) s.0

pub returns-clause-within : goal.returns-clause-within
returns-clause-within c =
    let m = c.args.message.now in
    let start = c.args.start in
    let s = sought m start c.get.result c.and_then.result c.get.ensures.lookup c.and_then.ensures in
    subst (λ r. IfOk r (λ x. start + x.1 ≤ length m)) (sym c.ok_or.ensures.value) (inside m start _ refl c.and_then.result s.0 s.1)
