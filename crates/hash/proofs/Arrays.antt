-- Arrays made from their elements, and texts read pair by pair. Assumes nothing.
use Rattle.std.proofs.Common.{◌≡◌, ℕ, zero, suc, ◌+◌, ◌*◌, ◌%◌, ◌<◌, ◌≤◌, Bool, true, false, ◌&&◌, List, [], ◌∷◌, ◌++◌, length, map, get_or, drop, Ok, sym, refl, ap, ◌∙◌, subst, ⊎_elim, mod-eq_of_lt, arith}
use mathlib.Core.Bool.{and_assoc}
use denote.Param.Members.{Mut}
use Rattle.std.proofs.lemmas.Bool.{cases_eq, and_parts, and_from, eq-eqb, cond-true}
use Rattle.std.proofs.lemmas.List.{ext_get_or, same_lists, get_or-drop, get_or-map, get_or-take, length-map}
use Rattle.std.specs.Array.{MapsFrom, IsMapOf, IsFromFnResult, IsFromFnResultFrom}
use Rattle.std.specs.Fn.{Called}
use Rattle.std.specs.List.{flat_map, fold}
use Rattle.std.specs.Simd.{first_chunks}
use Rattle.hash.specs.Bytes.{words_of}
use Rattle.hash.specs.Text.{is_hex, every_hex, hex_value, spelled, is_hash_text, hash_of}
use Rattle.hash.proofs.Inverse.{value_below}

-- what an array's `map` gives, where each call leaves the closure as it was
module _ {F A B : Type 0} (g : Mut F (A × Unit {0}) B) (f : F) (h : A → B) (same : (x : A) (y : B) (q : F) → Called g f (x, tt) y q → (q ≡ f) × (y ≡ h x)) where
  mapped_at : (p : F) (xs : List A) (ys : List B) (i n k : ℕ) (e : B) → p ≡ f → MapsFrom g p xs ys i n → i + n ≤ length xs → k < n → get_or ys (i + k) e ≡ get_or (map h xs) (i + k) e
  mapped_at p xs ys i zero k e is m within below = absurd (omega (arith, below))
  mapped_at p xs ys i (suc n) zero e is m within below =
      let gives = same m.1 m.2 m.0 (subst (λ s. Called g s (m.1, tt) m.2 m.0) is m.5) in
      let here : i ≡ i + 0 = omega arith in
      subst (λ j. get_or ys j e ≡ get_or (map h xs) j e) here (m.4.1 e ∙ gives.1 ∙ ap h (sym m.3.0) ∙ sym (get_or-map h xs i m.1 e (omega arith)))
  mapped_at p xs ys i (suc n) (suc k) e is m within below =
      let gives = same m.1 m.2 m.0 (subst (λ s. Called g s (m.1, tt) m.2 m.0) is m.5) in
      let next : i + 1 + k ≡ i + suc k = omega arith in
      subst (λ j. get_or ys j e ≡ get_or (map h xs) j e) next (mapped_at m.0 xs ys (i + 1) n k e gives.0 m.6 (omega arith) (omega arith))

  pub mapped : (xs : List A) (ys : List B) (n : ℕ) → length xs ≡ n → IsMapOf g f xs ys n → ys ≡ map h xs
  mapped xs ys n long m =
      same_lists ys (map h xs) (m.long ∙ sym (length-map xs h ∙ long))
      (λ k e l.
      let here : 0 + k ≡ k = omega arith in
      subst (λ j. get_or ys j e ≡ get_or (map h xs) j e) here (mapped_at f xs ys 0 n k e refl m.each (omega arith) (omega (arith, m.long))))

pub flattened : {A B : Type 0} (f : A → List B) (xs : List A) → flat_map (λ x. x) (map f xs) ≡ flat_map f xs
flattened f [] = refl
flattened f (x ∷ xs) = ap (λ l. f x ++ l) (flattened f xs)

-- calls that give h of each index, and leave what they call as it is
module _ {F B : Type 0} (g : Mut F (ℕ × Unit {0}) B) (f : F) (h : ℕ → B) (top : ℕ) (gives : (i : ℕ) (y : B) (q : F) → i < top → Called g f (i, tt) y q → (q ≡ f) × (y ≡ h i)) where
  made_from : (ys : List B) (e : B) (i n : ℕ) → i + n ≤ top → IsFromFnResultFrom g f ys i n → (k : ℕ) → i ≤ k → k < i + n → get_or ys k e ≡ h k
  made_from ys e i zero room m k low high = absurd (omega arith)
  made_from ys e i (suc n) room m k low high =
      let one = gives i m.1 m.0 (omega arith) m.3 in
      ⊎_elim
      (λ same. ap (λ j. get_or ys j e) same ∙ m.2.1 e ∙ one.1 ∙ ap h (sym same))
      (λ other. made_from ys e (i + 1) n (omega arith) (subst (λ q. IsFromFnResultFrom g q ys (i + 1) n) one.0 m.4) k (omega arith) (omega arith))
      (cases_eq k i)

  pub made : (ys : List B) (e : B) → IsFromFnResult g f ys top → (k : ℕ) → k < top → get_or ys k e ≡ h k
  made ys e m k high = made_from ys e 0 top (omega arith) m.each k (omega arith) (omega arith)

-- the j-th element of the i-th chunk of n
module _ {X : Type 0} (n : ℕ) where
  pub in_chunk : (k : ℕ) (xs : List X) (i j : ℕ) (d : X) → i < k → j < n → get_or (get_or (first_chunks n k xs) i []) j d ≡ get_or xs (n * i + j) d
  in_chunk zero xs i j d h within = absurd (omega (arith, h))
  in_chunk (suc k) xs zero j d h within =
      let at : j ≡ n * 0 + j = omega arith in
      get_or-take n xs j d within ∙ ap (λ e. get_or xs e d) at
  in_chunk (suc k) xs (suc i) j d h within =
      let at : n + (n * i + j) ≡ n * suc i + j = omega arith in
      in_chunk k (drop n xs) i j d (omega arith) within ∙ get_or-drop n xs (n * i + j) d ∙ ap (λ e. get_or xs e d) at

-- whether every character is hexadecimal, one after the other
pub every_folded : (so_far : Bool) (text : List ℕ) → fold (λ every c. every && is_hex c) so_far text ≡ (so_far && every_hex text)
every_folded true [] = refl
every_folded false [] = refl
every_folded so_far (c ∷ cs) = every_folded (so_far && is_hex c) cs ∙ and_assoc so_far (is_hex c) (every_hex cs)

-- where each is, the one at a place is
pub hex_at : (text : List ℕ) (i : ℕ) → every_hex text ≡ true → i < length text → is_hex (get_or text i 0) ≡ true
hex_at [] i h within = absurd (omega arith)
hex_at (c ∷ cs) zero h within = (and_parts (is_hex c) (every_hex cs) h).0
hex_at (c ∷ cs) (suc i) h within = hex_at cs i (and_parts (is_hex c) (every_hex cs) h).1 (omega arith)

-- the bytes of n pairs
spelled-length : (n : ℕ) (t : List ℕ) → length t ≡ 2 * n → length (spelled t) ≡ n
spelled-length n [] long = omega arith
spelled-length n (x ∷ []) long = absurd (omega arith)
spelled-length zero (x ∷ y ∷ t) long = absurd (omega arith)
spelled-length (suc n) (x ∷ y ∷ t) long = let k = spelled-length n t (omega arith) in omega arith

spelled_at : (t : List ℕ) (i : ℕ) → 2 * i + 1 < length t → get_or (spelled t) i 0 ≡ hex_value (get_or t (2 * i) 0) * 16 + hex_value (get_or t (2 * i + 1) 0)
spelled_at [] i h = absurd (omega arith)
spelled_at (x ∷ []) i h = absurd (omega arith)
spelled_at (x ∷ y ∷ t) zero h = refl
spelled_at (x ∷ y ∷ t) (suc i) h =
    let a : suc (suc (2 * i)) ≡ 2 * suc i = omega arith in
    let b : suc (suc (2 * i + 1)) ≡ 2 * suc i + 1 = omega arith in
    spelled_at t i (omega arith) ∙ (λ k. hex_value (get_or (x ∷ y ∷ t) (a k) 0) * 16 + hex_value (get_or (x ∷ y ∷ t) (b k) 0))

pub spelled_by : (n : ℕ) (t bs : List ℕ) → length t ≡ 2 * n → length bs ≡ n
    → ((i : ℕ) → i < n → get_or bs i 0 ≡ hex_value (get_or t (2 * i) 0) * 16 + hex_value (get_or t (2 * i + 1) 0)) → bs ≡ spelled t
spelled_by n t bs long size each = ext_get_or 0 bs (spelled t) (size ∙ sym (spelled-length n t long)) (λ i l. each i (omega arith) ∙ sym (spelled_at t i (omega arith)))

-- what a pair of characters spells, of 8 bits
abbrev pub pair_value : List ℕ → ℕ
pair_value pair = (hex_value (get_or pair 0 0) * 16 + hex_value (get_or pair 1 0)) % 256

-- of hexadecimal characters that is the byte at its place
pub pair_at : (text : List ℕ) (n i : ℕ) → every_hex text ≡ true → length text ≡ 2 * n → i < n
    → pair_value (get_or (first_chunks 2 n text) i []) ≡ hex_value (get_or text (2 * i) 0) * 16 + hex_value (get_or text (2 * i + 1) 0)
pair_at text n i every long h =
    let z : 2 * i + 0 ≡ 2 * i = omega arith in
    let a = in_chunk 2 n text i 0 0 h (omega arith) ∙ ap (λ j. get_or text j 0) z in
    let b = in_chunk 2 n text i 1 0 h (omega arith) in
    let high = value_below (get_or text (2 * i) 0) (hex_at text (2 * i) every (omega arith)) in
    let low = value_below (get_or text (2 * i + 1) 0) (hex_at text (2 * i + 1) every (omega arith)) in
    (λ k. (hex_value (a k) * 16 + hex_value (b k)) % 256) ∙ mod-eq_of_lt (omega arith)

pub accepted : (text : List ℕ) → length text ≡ 64 → every_hex text ≡ true → Ok (words_of (spelled text)) ≡ hash_of text
accepted text long every = sym (cond-true (is_hash_text text) _ _ (and_from _ _ (eq-eqb (length text) 64 long) every))
