-- Where a field that was read lies in its message. Assumes nothing.
use Rattle.std.proofs.Common.{◌≡◌, ℕ, ◌+◌, ◌-◌, ◌<◌, ◌≤◌, eqb, leb, List, ◌∷◌, length, get_or, take, drop, Some, None, Ok, Err, Option, Result, sym, refl, ap, ◌∙◌, subst, ⊎_elim, arith, length-drop}
use Rattle.std.proofs.lemmas.List.{drop_more, drop_all, drop-drop, length-take-le}
use Rattle.std.proofs.lemmas.Bool.{cases_lt, cases_Bool, cond-true, cond-false, leb-true}
use Rattle.wire.specs.declared.field.Span.{Span}
use Rattle.wire.specs.Fields.{Piece, cut, field_at, span_of, spanned}
use Rattle.wire.specs.Numbers.{front, or_refused}
use Rattle.wire.specs.Refusals.{Refusal, next}
use Rattle.wire.proofs.Forms.{taken_within}

pub not_ok : {A : Type 0} {e : Refusal} {x : A} → ◌≡◌ {A = Result A Refusal} (Err e) (Ok x) → ⊥
not_ok p = let z : ◌≡◌ {A = ℕ} 0 1 = cc in omega arith

pub same_ok : {A : Type 0} {x y : A} → ◌≡◌ {A = Result A Refusal} (Ok x) (Ok y) → x ≡ y
same_ok p = cc

-- the field x, whose tag stands at p, is a part of the message m
pub record Lies (p : ℕ) (m : List ℕ) (x : Piece) : Type 0 where
  pub text : x.text ≡ take (length x.text) (drop x.place m)
  pub rest : x.rest ≡ drop (x.place + length x.text) m
  pub behind : p < x.place
  pub within : x.place + length x.text ≤ length m

module _ (p : ℕ) (m : List ℕ) where
  lies_cut : (n k : ℕ) (x : Piece) → p < length m → front (drop (p + 1) m) ≡ Some (n, k) → cut (p + 1) n k (drop k (drop (p + 1) m)) ≡ Ok x → Lies p m x
  lies_cut n k x h d e =
      let tail = drop k (drop (p + 1) m) in
      let is_tail : tail ≡ drop (p + 1 + k) m = drop-drop k (p + 1) m in
      let taken = taken_within (drop (p + 1) m) n k d in
      let long = length-drop (p + 1) m in
      let tail_long : length tail ≡ length m - (p + 1 + k) = ap length is_tail ∙ length-drop (p + 1 + k) m in
      ⊎_elim
      (λ b.
      let enough = leb-true n (length tail) b in
      let size : length (take n tail) ≡ n = length-take-le n tail enough in
      let made : Lies p m (record { text = take n tail; place = p + 1 + k; rest = drop n tail }) = record {
        text = ap (take n) is_tail ∙ ap (λ j. take j (drop (p + 1 + k) m)) (sym size);
        rest = ap (drop n) is_tail ∙ drop-drop n (p + 1 + k) m ∙ ap (λ j. drop (p + 1 + k + j) m) (sym size);
        behind = omega arith;
        within = omega arith;
      } in
      subst (Lies p m) (same_ok (sym (cond-true (leb n (length tail)) _ _ b) ∙ e)) made)
      (λ b. absurd (not_ok (sym (cond-false (leb n (length tail)) _ _ b) ∙ e)))
      (cases_Bool (leb n (length tail)))

  lies_numbered : (x : Piece) (o : Option (ℕ × ℕ)) → p < length m → front (drop (p + 1) m) ≡ o → next (or_refused (p + 1) o) (λ y. cut (p + 1) y.0 y.1 (drop y.1 (drop (p + 1) m))) ≡ Ok x → Lies p m x
  lies_numbered x None h d e = absurd (not_ok e)
  lies_numbered x (Some y) h d e = lies_cut y.0 y.1 x h d e

  lies_tagged : (tag : ℕ) (x : Piece) → p < length m → field_at tag p (get_or m p 0 ∷ drop (p + 1) m) ≡ Ok x → Lies p m x
  lies_tagged tag x h e =
      ⊎_elim
      (λ b. lies_numbered x (front (drop (p + 1) m)) h refl (sym (cond-true (eqb (get_or m p 0) tag) _ _ b) ∙ e))
      (λ b. absurd (not_ok (sym (cond-false (eqb (get_or m p 0) tag) _ _ b) ∙ e)))
      (cases_Bool (eqb (get_or m p 0) tag))

  pub lies : (tag : ℕ) (x : Piece) → field_at tag p (drop p m) ≡ Ok x → Lies p m x
  lies tag x e =
      ⊎_elim
      (λ h. lies_tagged tag x h (ap (field_at tag p) (sym (drop_more m p 0 h)) ∙ e))
      (λ h. absurd (not_ok (ap (field_at tag p) (sym (drop_all p m h)) ∙ e)))
      (cases_lt p (length m))

-- the field behind a span, with its text and what follows as parts of the message
pub record Found (tag p : ℕ) (m : List ℕ) (s : Span) : Type 0 where
  pub piece : Piece
  pub is : field_at tag p (drop p m) ≡ Ok piece
  pub start : s.start ≡ piece.place
  pub end : s.end ≡ piece.place + length piece.text
  pub text : take (s.end - s.start) (drop s.start m) ≡ piece.text
  pub rest : drop s.end m ≡ piece.rest

pub found : (tag p : ℕ) (m : List ℕ) (s : Span) → Ok s ≡ spanned (field_at tag p (drop p m)) → Found tag p m s
found tag p m s e = go (field_at tag p (drop p m)) refl e
  where
    go : (r : Result Piece Refusal) → field_at tag p (drop p m) ≡ r → Ok s ≡ spanned r → Found tag p m s
    go (Err y) is f = absurd (not_ok (sym f))
    go (Ok x) is f =
        let l = lies p m tag x is in
        let same : s ≡ span_of x = same_ok f in
        let a : s.start ≡ x.place = ap (λ t. t.start) same in
        let b : s.end ≡ x.place + length x.text = ap (λ t. t.end) same in
        let size : s.end - s.start ≡ length x.text = omega arith in
        record {
          piece = x;
          is = is;
          start = a;
          end = b;
          text = ap (λ n. take n (drop s.start m)) size ∙ ap (λ n. take (length x.text) (drop n m)) a ∙ sym l.text;
          rest = ap (λ n. drop n m) b ∙ sym l.rest;
        }
