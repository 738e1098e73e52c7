-- The blocks of a text, one after the other. Assumes nothing.
use Rattle.std.proofs.Common.{◌≡◌, ℕ, zero, suc, ◌+◌, ◌*◌, ◌/◌, ◌<◌, ◌≤◌, List, [], ◌∷◌, ◌++◌, length, get_or, take, drop, fold, sym, refl, ap, ◌∙◌, add-one, arith, lit<, w32, length-append, length-drop, length-take-le}
use Rattle.std.proofs.Math.Seq.{take-add}
use Rattle.std.proofs.lemmas.List.{take-append-le, drop-append-le, drop-drop}
use Rattle.std.proofs.lemmas.List.Sums.{fold-append}
use Rattle.std.specs.Simd.{first_chunks}
use Rattle.std.specs.Int.{from_be_bytes}
use Rattle.hash.specs.Bytes.{word}
use Rattle.sha256.specs.declared.state.State.{State}
use Rattle.sha256.specs.Sha256.{H₀, block, compressed, absorbed, padding, padded}

-- how long the chunks of a list are, and p of them before q more
module _ {X : Type 0} (n : ℕ) where
  pub chunk_long : (k : ℕ) (xs : List X) (i : ℕ) → i < k → n * k ≤ length xs → length (get_or (first_chunks n k xs) i []) ≡ n
  chunk_long zero xs i h within = absurd (omega (arith, h))
  chunk_long (suc k) xs zero h within = length-take-le n xs (omega arith)
  chunk_long (suc k) xs (suc i) h within = chunk_long k (drop n xs) i (omega arith) (simp length-drop (omega arith))

  chunks_add : (p q : ℕ) (xs : List X) → first_chunks n (p + q) xs ≡ first_chunks n p xs ++ first_chunks n q (drop (n * p) xs)
  chunks_add zero q xs =
      let here : 0 + q ≡ q = omega arith in
      let at : 0 ≡ n * 0 = omega arith in
      ap (λ k. first_chunks n k xs) here ∙ ap (λ e. first_chunks n q (drop e xs)) at
  chunks_add (suc p) q xs =
      let here : suc p + q ≡ suc (p + q) = omega arith in
      let far : n + n * p ≡ n * suc p = omega arith in
      ap (λ k. first_chunks n k xs) here
      ∙ ap (λ l. take n xs ∷ l) (chunks_add p q (drop n xs))
      ∙ ap (λ l. take n xs ∷ (first_chunks n p (drop n xs) ++ first_chunks n q l)) (drop-drop (n * p) n xs ∙ ap (λ e. drop e xs) far)

  chunks_front : (k : ℕ) (xs ys : List X) → n * k ≤ length xs → first_chunks n k (xs ++ ys) ≡ first_chunks n k xs
  chunks_front zero xs ys h = refl
  chunks_front (suc k) xs ys h =
      let long : n ≤ length xs = omega arith in
      let left : n * k ≤ length (drop n xs) = simp length-drop (omega arith) in
      ap (λ l. l ∷ first_chunks n k (drop n (xs ++ ys))) (take-append-le n xs ys long)
      ∙ ap (λ l. take n xs ∷ first_chunks n k l) (drop-append-le n xs ys long)
      ∙ ap (λ l. take n xs ∷ l) (chunks_front k (drop n xs) ys left)

  -- a fold over chunks, each by a fold, is one fold
  pub fold-chunks : {B : Type 0} (f : B → X → B) (b : B) (k : ℕ) (xs : List X) → fold (fold f) b (first_chunks n k xs) ≡ fold f b (take (n * k) xs)
  fold-chunks f b zero xs =
      let at : 0 ≡ n * 0 = omega arith in
      ap (λ e. fold f b (take e xs)) at
  fold-chunks f b (suc k) xs =
      let far : n + n * k ≡ n * suc k = omega arith in
      fold-chunks f (fold f b (take n xs)) k (drop n xs)
      ∙ sym (fold-append f b (take n xs) (take (n * k) (drop n xs)))
      ∙ ap (fold f b) (sym (take-add n (n * k) xs) ∙ ap (λ e. take e xs) far)

-- a word, by the chunk of its four bytes
pub word_in_chunk : (m chunk : List ℕ) (i : ℕ) → ((j : ℕ) → j < 4 → get_or chunk j 0 ≡ get_or m (4 * i + j) 0) → from_be_bytes w32 chunk ≡ word m i
word_in_chunk m chunk i byte =
    let at : 4 * i + 0 ≡ 4 * i = omega arith in
    let a : get_or chunk 0 0 ≡ get_or m (4 * i) 0 = byte 0 (lit< tt) ∙ ap (λ e. get_or m e 0) at in
    let b = byte 1 (lit< tt) in
    let c = byte 2 (lit< tt) in
    let d = byte 3 (lit< tt) in
    rw (a, b, c, d)

absorbed_chunks : (s : State) (m : List ℕ) (n : ℕ) → fold compressed s (first_chunks 64 n m) ≡ absorbed s m n
unfolding absorbed
absorbed_chunks s m zero = refl
absorbed_chunks s m (suc n) =
    ap (λ k. fold compressed s (first_chunks 64 k m)) (sym (add-one n))
    ∙ ap (fold compressed s) (chunks_add 64 n 1 m)
    ∙ fold-append compressed s (first_chunks 64 n m) (block m n ∷ [])
    ∙ ap (λ v. compressed v (block m n)) (absorbed_chunks s m n)

-- a message is its whole blocks, and then the rest with the padding
pub in_two_parts : (m end : List ℕ) → end ≡ drop (length m / 64 * 64) m ++ padding (length m)
    → fold compressed (fold compressed H₀ (first_chunks 64 (length m / 64) m)) (first_chunks 64 (length end / 64) end) ≡ absorbed H₀ (padded m) (length (padded m) / 64)
unfolding padded
in_two_parts m end e =
    let p = length m / 64 in
    let q = length end / 64 in
    let whole = m ++ padding (length m) in
    let at : 64 * p ≡ p * 64 = omega arith in
    let rest : drop (64 * p) whole ≡ end = drop-append-le (64 * p) m (padding (length m)) (omega arith) ∙ ap (λ k. drop k m ++ padding (length m)) at ∙ sym e in
    let long : length end ≡ length (drop (p * 64) m) + length (padding (length m)) = ap length e ∙ length-append (drop (p * 64) m) (padding (length m)) in
    let count : p + q ≡ length whole / 64 = omega (arith, long, length-drop (p * 64) m, length-append m (padding (length m))) in
    ap (λ l. fold compressed (fold compressed H₀ l) (first_chunks 64 q end)) (sym (chunks_front 64 p m (padding (length m)) (omega arith)))
    ∙ ap (λ l. fold compressed (fold compressed H₀ (first_chunks 64 p whole)) (first_chunks 64 q l)) (sym rest)
    ∙ sym (fold-append compressed H₀ (first_chunks 64 p whole) (first_chunks 64 q (drop (64 * p) whole)))
    ∙ ap (fold compressed H₀) (sym (chunks_add 64 p q whole))
    ∙ absorbed_chunks H₀ whole (p + q)
    ∙ ap (absorbed H₀ whole) count
