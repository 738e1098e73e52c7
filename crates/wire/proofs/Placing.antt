-- Parts written into a buffer, one behind the other. Assumes nothing.
use Rattle.std.proofs.Common.{◌≡◌, ℕ, suc, Bool, true, false, cond, leb, Result, refl, ◌+◌, ◌<◌, ◌≤◌, List, [], ◌∷◌, ◌++◌, length, take, drop, set, Ok, Err, sym, ap, ◌∙◌, append_assoc, arith, length-append, length-drop}
use Rattle.std.proofs.lemmas.List.{length-take-le, take_at, drop_at, drop-drop, set_split}
use Rattle.std.proofs.lemmas.Bool.{cond-true, cond-false, le-leb, lt-leb, leb-true, leb-false}
use Rattle.wire.specs.Writing.{behind, has_room, written, ending, after}

-- what a writer answers and leaves, of x at s in e
module _ (e : List ℕ) (s : ℕ) (x : List ℕ) where
  pub fits : s + length x ≤ length e → (ending e s x ≡ Ok (s + length x)) × (after e s x ≡ written e s x)
  fits h = (cond-true (has_room e s x) _ _ (le-leb _ _ h), cond-true (has_room e s x) _ _ (le-leb _ _ h))

  pub no_room : length e < s + length x → (ending e s x ≡ Err 8) × (after e s x ≡ e)
  no_room h = (cond-false (has_room e s x) _ _ (lt-leb _ _ h), cond-false (has_room e s x) _ _ (lt-leb _ _ h))

-- what the place behind tells of the room
module _ (e : List ℕ) (s n : ℕ) where
  pub there_is_room : {x : ℕ} → Ok x ≡ behind e s n → s + n ≤ length e
  there_is_room {x} h = go (leb (s + n) (length e)) refl h
    where
      go : (b : Bool) → leb (s + n) (length e) ≡ b → ◌≡◌ {A = Result ℕ ℕ} (Ok x) (cond b (Ok (s + n)) (Err 8)) → s + n ≤ length e
      go true t h = leb-true (s + n) (length e) t
      go false t h = let z : ◌≡◌ {A = ℕ} 0 1 = cc in absurd (omega arith)

  pub there_is_none : {k : ℕ} → Err k ≡ behind e s n → length e < s + n
  there_is_none {k} h = go (leb (s + n) (length e)) refl h
    where
      go : (b : Bool) → leb (s + n) (length e) ≡ b → ◌≡◌ {A = Result ℕ ℕ} (Err k) (cond b (Ok (s + n)) (Err 8)) → length e < s + n
      go true t h = let z : ◌≡◌ {A = ℕ} 0 1 = cc in absurd (omega arith)
      go false t h = leb-false (s + n) (length e) t

pub set-written : (e : List ℕ) (s b : ℕ) → s < length e → set e s b ≡ written e s (b ∷ [])
set-written e s b h = let n : suc s ≡ s + 1 = omega arith in set_split e s b h ∙ ap (λ n. take s e ++ (b ∷ drop n e)) n

-- first x, and then y behind it
module _ (e : List ℕ) (s : ℕ) (x y : List ℕ) (room : s + length x + length y ≤ length e) where
  abbrev front : List ℕ
  front = take s e ++ x

  abbrev back : List ℕ
  back = drop (s + length x) e

  long : length front ≡ s + length x
  long = length-append (take s e) x ∙ ap (λ n. n + length x) (length-take-le s e (omega arith))

  whole : written e s x ≡ front ++ back
  whole = sym (append_assoc (take s e) x back)

  size : s + length x + length y ≡ s + length (x ++ y)
  size = let l = length-append x y in omega arith

  pub written-written : written (written e s x) (s + length x) y ≡ written e s (x ++ y)
  written-written =
      let n = s + length x + length y in
      let taken : take (s + length x) (written e s x) ≡ front = ap (take (s + length x)) whole ∙ take_at front back _ long in
      let dropped : drop n (written e s x) ≡ drop n e =
      sym (drop-drop (length y) (s + length x) (written e s x)) ∙ ap (drop (length y)) (ap (drop (s + length x)) whole ∙ drop_at front back _ long) ∙ drop-drop (length y) (s + length x) e in
      (λ i. taken i ++ (y ++ dropped i)) ∙ append_assoc (take s e) x (y ++ drop n e)
      ∙ ap (λ l. take s e ++ l) (sym (append_assoc x y (drop n e)) ∙ ap (λ k. (x ++ y) ++ drop k e) size)

  pub then_fits : (e₁ : List ℕ) (at : ℕ) → e₁ ≡ written e s x → at ≡ s + length x → (ending e₁ at y ≡ Ok (s + length (x ++ y))) × (after e₁ at y ≡ written e s (x ++ y))
  then_fits e₁ at sofar here =
      let l = ap length (sofar ∙ whole) ∙ length-append front back in
      let p = fits e₁ at y (omega (arith, long, length-drop (s + length x) e)) in
      let q : at + length y ≡ s + length (x ++ y) = omega (arith, size) in
      (p.0 ∙ ap Ok q, p.1 ∙ (λ i. written (sofar i) (here i) y) ∙ written-written)
