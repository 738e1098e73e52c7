-- A field and its bytes determine each other. Assumes nothing.
use Rattle.std.proofs.Common.{◌≡◌, ℕ, ◌+◌, ◌^◌, ◌<◌, ◌≤◌, Bool, true, false, cond, eqb, leb, List, [], ◌∷◌, ◌++◌, length, take, drop, Some, None, Ok, Err, Option, Result, sym, refl, ap, ◌∙◌, subst, append_assoc, arith, length-append}
use Rattle.std.proofs.lemmas.List.{drop_at, take_at, take-append-drop, length-take-le}
use Rattle.std.proofs.lemmas.Bool.{cond-true, le-leb, leb-true, eq-eqb, eqb-true}
use Rattle.wire.specs.Fields.{Piece, cut, field_at, field_bytes}
use Rattle.wire.specs.Numbers.{form, front, or_refused, number_at}
use Rattle.wire.specs.Refusals.{Refusal, next}
use Rattle.wire.proofs.Finding.{not_ok, same_ok}
use Rattle.wire.proofs.Forms.{number_is_read_back, form_is_the_only_one}

-- what an answer of `number_at` says of the number in front
pub number_found : (p n k : ℕ) (o : Option (ℕ × ℕ)) → Ok (n, k) ≡ or_refused p o → o ≡ Some (n, k)
number_found p n k None e = absurd (let z : ◌≡◌ {A = ℕ} 0 1 = cc in omega arith)
number_found p n k (Some y) e = cc

-- where something was answered, so was each step of it
pub went_on : {A B : Type 0} (r : Result A Refusal) (f : A → Result B Refusal) (y : B) → next r f ≡ Ok y → (x : A) × (r ≡ Ok x) × (f x ≡ Ok y)
went_on (Ok x) f y e = (x, refl, e)
went_on (Err d) f y e = absurd (not_ok e)

-- and each test was passed
pub passed : {A : Type 0} (b : Bool) (r : Result A Refusal) (d : Refusal) (y : A) → cond b r (Err d) ≡ Ok y → (b ≡ true) × (r ≡ Ok y)
passed true r d y e = (refl, e)
passed false r d y e = absurd (not_ok e)

-- a number that was read stands in its form in front of what follows
pub numbered : (p : ℕ) (bs : List ℕ) (x : ℕ × ℕ) → number_at p bs ≡ Ok x → (x.0 < 2 ^ 63) × (x.1 ≡ length (form x.0)) × (bs ≡ form x.0 ++ drop x.1 bs)
numbered p bs x e = form_is_the_only_one bs x.0 x.1 (number_found p x.0 x.1 (front bs) (sym e))

pub number_back : (p n : ℕ) (rest : List ℕ) → n < 2 ^ 63 → number_at p (form n ++ rest) ≡ Ok (n, length (form n))
number_back p n rest h = ap (or_refused p) (number_is_read_back n rest h)

-- bs, which stands at p, begins with the field x of the tag t
pub record Fielded (t p : ℕ) (bs : List ℕ) (x : Piece) : Type 0 where
  pub bytes : bs ≡ field_bytes t x.text ++ x.rest
  pub place : x.place ≡ p + 1 + length (form (length x.text))
  pub bound : length x.text < 2 ^ 63

pub fielded : (t p : ℕ) (bs : List ℕ) (x : Piece) → field_at t p bs ≡ Ok x → Fielded t p bs x
fielded t p [] x e = absurd (not_ok e)
fielded t p (b ∷ bs) x e =
    let tagged = passed (eqb b t) _ _ x e in
    let number = went_on (number_at (p + 1) bs) _ x tagged.1 in
    let n = number.0.0 in
    let k = number.0.1 in
    let tail = drop k bs in
    let f = numbered (p + 1) bs number.0 number.1 in
    let fits = passed (leb n (length tail)) _ _ x number.2 in
    let size : length (take n tail) ≡ n = length-take-le n tail (leb-true n (length tail) fits.0) in
    let made : Fielded t p (t ∷ bs) (record { text = take n tail; place = p + 1 + k; rest = drop n tail }) = record {
      bytes =
          ap (λ l. t ∷ l) (f.2 ∙ ap (λ l. form n ++ l) (sym (take-append-drop n tail)) ∙ sym (append_assoc (form n) (take n tail) (drop n tail)))
          ∙ ap (λ j. t ∷ (form j ++ take n tail) ++ drop n tail) (sym size);
      place = ap (λ j. p + 1 + j) (f.1 ∙ ap (λ j. length (form j)) (sym size));
      bound = subst (λ j. j < 2 ^ 63) (sym size) f.0;
    } in
    subst (λ a. Fielded t p (a ∷ bs) x) (sym (eqb-true b t tagged.0)) (subst (Fielded t p (t ∷ bs)) (same_ok fits.1) made)

pub field_back : (t p : ℕ) (text rest : List ℕ) → length text < 2 ^ 63 → field_at t p (field_bytes t text ++ rest) ≡ Ok (record { text = text; place = p + 1 + length (form (length text)); rest = rest })
field_back t p text rest h =
    let n = length text in
    let k = length (form n) in
    let bs = form n ++ (text ++ rest) in
    let room : n ≤ length (text ++ rest) = omega (arith, length-append text rest) in
    ap (λ l. field_at t p (t ∷ l)) (append_assoc (form n) text rest)
    ∙ cond-true (eqb t t) _ _ (eq-eqb t t refl)
    ∙ ap (λ r. next r (λ x. cut (p + 1) x.0 x.1 (drop x.1 bs))) (number_back (p + 1) n (text ++ rest) h)
    ∙ ap (cut (p + 1) n k) (drop_at (form n) (text ++ rest) k refl)
    ∙ cond-true (leb n (length (text ++ rest))) _ _ (le-leb n _ room)
    ∙ (λ i. Ok (record { text = take_at text rest n refl i; place = p + 1 + k; rest = drop_at text rest n refl i }))
