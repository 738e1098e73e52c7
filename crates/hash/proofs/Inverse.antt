-- A hash and its text determine each other. Assumes nothing.
use Rattle.std.proofs.Common.{◌≡◌, ℕ, zero, suc, ◌+◌, ◌*◌, ◌/◌, ◌%◌, ◌^◌, ◌<◌, Bool, true, false, cond, List, [], ◌∷◌, ◌++◌, length, get_or, drop, Ok, Err, Result, sym, refl, ap, ◌∙◌, subst, mod-eq_of_lt, arith, lit<}
use native.Mathlib.Nat.{div-div-eq-div-mul}
use Rattle.std.proofs.lemmas.Nat.{div-add-mod', div_below}
use Rattle.std.proofs.lemmas.List.{drop_more, drop_all}
use Rattle.std.proofs.lemmas.Bool.{and_parts, and_from, eq-eqb, eqb-true, cond-true}
use Rattle.std.proofs.lemmas.Bool.Decides.{nat_tests}
use Rattle.std.specs.List.{flat_map}
use Rattle.hash.specs.Bytes.{word, four, words_of, bytes_of}
use Rattle.hash.specs.Text.{hex_digit, hex_pair, text_of, is_hex, every_hex, is_hash_text, hex_value, spelled, IsHash, TextIsReadBack, TextIsTheOnlyOne}

-- each is a byte
abbrev Bytes : List ℕ → Type 0
Bytes [] = Unit {0}
Bytes (b ∷ bs) = (b < 256) × Bytes bs

-- a character and its number

digit_is_hex : (n : ℕ) → n < 16 → is_hex (hex_digit n) ≡ true
digit_is_hex n h = grind (arith, nat_tests)

value_of_digit : (n : ℕ) → n < 16 → hex_value (hex_digit n) ≡ n
value_of_digit n h = grind (arith, nat_tests)

pub value_below : (c : ℕ) → is_hex c ≡ true → hex_value c < 16
value_below c h = grind (arith, nat_tests)

digit_of_value : (c : ℕ) → is_hex c ≡ true → hex_digit (hex_value c) ≡ c
digit_of_value c h = grind (arith, nat_tests)

-- bytes and their pairs

pairs_are_hex : (bs : List ℕ) → Bytes bs → every_hex (flat_map hex_pair bs) ≡ true
pairs_are_hex [] h = refl
pairs_are_hex (b ∷ bs) h =
    let high = digit_is_hex (b / 16) (omega (arith, h.0)) in
    let low = digit_is_hex (b % 16) (omega arith) in
    and_from _ _ high (and_from _ _ low (pairs_are_hex bs h.1))

spelled_pairs : (bs : List ℕ) → Bytes bs → spelled (flat_map hex_pair bs) ≡ bs
spelled_pairs [] h = refl
spelled_pairs (b ∷ bs) h =
    let high : hex_value (hex_digit (b / 16)) ≡ b / 16 = value_of_digit (b / 16) (omega (arith, h.0)) in
    let low : hex_value (hex_digit (b % 16)) ≡ b % 16 = value_of_digit (b % 16) (omega arith) in
    let byte : hex_value (hex_digit (b / 16)) * 16 + hex_value (hex_digit (b % 16)) ≡ b = omega arith in
    ap (λ v. v ∷ spelled (flat_map hex_pair bs)) byte ∙ ap (λ l. b ∷ l) (spelled_pairs bs h.1)

length_pairs : (bs : List ℕ) → length (flat_map hex_pair bs) ≡ 2 * length bs
length_pairs [] = refl
length_pairs (b ∷ bs) = omega (arith, length_pairs bs)

-- an even number of characters, read and written again
pairs_spelled : (n : ℕ) (t : List ℕ) → length t ≡ 2 * n → every_hex t ≡ true → (flat_map hex_pair (spelled t) ≡ t) × Bytes (spelled t) × (length (spelled t) ≡ n)
pairs_spelled n [] long h = (refl, tt, omega arith)
pairs_spelled n (x ∷ []) long h = absurd (omega arith)
pairs_spelled zero (x ∷ y ∷ t) long h = absurd (omega arith)
pairs_spelled (suc n) (x ∷ y ∷ t) long h =
    let p = and_parts _ _ h in
    let q = and_parts _ _ p.1 in
    let a : hex_value x < 16 = value_below x p.0 in
    let b : hex_value y < 16 = value_below y q.0 in
    let high : (hex_value x * 16 + hex_value y) / 16 ≡ hex_value x = omega arith in
    let low : (hex_value x * 16 + hex_value y) % 16 ≡ hex_value y = omega arith in
    let rest = pairs_spelled n t (omega arith) q.1 in (
      ap (λ v. hex_digit v ∷ hex_digit ((hex_value x * 16 + hex_value y) % 16) ∷ flat_map hex_pair (spelled t)) high
          ∙ ap (λ v. hex_digit (hex_value x) ∷ hex_digit v ∷ flat_map hex_pair (spelled t)) low
          ∙ ap (λ v. v ∷ hex_digit (hex_value y) ∷ flat_map hex_pair (spelled t)) (digit_of_value x p.0)
          ∙ ap (λ v. x ∷ v ∷ flat_map hex_pair (spelled t)) (digit_of_value y q.0)
          ∙ ap (λ l. x ∷ y ∷ l) rest.0,
      (omega arith, rest.1),
      omega (arith, rest.2),
    )

-- words and their bytes

bytes_of-words : (ws : List ℕ) → Bytes (bytes_of ws)
bytes_of-words [] = tt
bytes_of-words (w ∷ ws) = (omega arith, (omega arith, (omega arith, (omega arith, bytes_of-words ws))))

length_bytes : (ws : List ℕ) → length (bytes_of ws) ≡ 4 * length ws
length_bytes [] = refl
length_bytes (w ∷ ws) = omega (arith, length_bytes ws)

past-four : (w : ℕ) (bs : List ℕ) (i k : ℕ) → get_or (four w ++ bs) (4 * suc i + k) 0 ≡ get_or bs (4 * i + k) 0
past-four w bs i k =
    let n : 4 * suc i + k ≡ suc (suc (suc (suc (4 * i + k)))) = omega arith in
    ap (λ j. get_or (four w ++ bs) j 0) n

four_of_word : (w : ℕ) → w < 2 ^ 32 → w / 16777216 % 256 * 16777216 + w / 65536 % 256 * 65536 + w / 256 % 256 * 256 + w % 256 ≡ w
four_of_word w h =
    let a : w / 256 / 256 ≡ w / 65536 = div-div-eq-div-mul w 256 256 in
    let b : w / 65536 / 256 ≡ w / 16777216 = div-div-eq-div-mul w 65536 256 in
    let p : w / 65536 * 256 + w / 256 % 256 ≡ w / 256 = ap (λ n. n * 256 + w / 256 % 256) (sym a) ∙ div-add-mod' (w / 256) 256 in
    let q : w / 16777216 * 256 + w / 65536 % 256 ≡ w / 65536 = ap (λ n. n * 256 + w / 65536 % 256) (sym b) ∙ div-add-mod' (w / 65536) 256 in
    let r : w / 256 * 256 + w % 256 ≡ w = div-add-mod' w 256 in
    let top : w / 16777216 < 256 = div_below w 16777216 256 (lit< tt) h in
    let all : w / 16777216 % 256 ≡ w / 16777216 = mod-eq_of_lt top in
    omega (arith, p, q, r, all)

word_of_four : (a b c d : ℕ) → a < 256 → b < 256 → c < 256 → d < 256 → four (a * 16777216 + b * 65536 + c * 256 + d) ≡ a ∷ b ∷ c ∷ d ∷ []
word_of_four a b c d ha hb hc hd =
    let w = a * 16777216 + b * 65536 + c * 256 + d in
    let p : w / 16777216 % 256 ≡ a = omega arith in
    let q : w / 65536 % 256 ≡ b = omega arith in
    let r : w / 256 % 256 ≡ c = omega arith in
    let s : w % 256 ≡ d = omega arith in
    cc

word_of_bytes : (ws : List ℕ) (i : ℕ) → ((j : ℕ) → get_or ws j 0 < 2 ^ 32) → i < length ws → word (bytes_of ws) i ≡ get_or ws i 0
word_of_bytes [] i fit h = absurd (omega arith)
word_of_bytes (w ∷ ws) zero fit h = four_of_word w (fit 0)
word_of_bytes (w ∷ ws) (suc i) fit h =
    let z : 4 * suc i ≡ 4 * suc i + 0 = omega arith in
    let y : 4 * i + 0 ≡ 4 * i = omega arith in
    let a : get_or (bytes_of (w ∷ ws)) (4 * suc i) 0 ≡ get_or (bytes_of ws) (4 * i) 0 =
    ap (λ j. get_or (bytes_of (w ∷ ws)) j 0) z ∙ past-four w (bytes_of ws) i 0 ∙ ap (λ j. get_or (bytes_of ws) j 0) y in
    let b = past-four w (bytes_of ws) i 1 in
    let c = past-four w (bytes_of ws) i 2 in
    let d = past-four w (bytes_of ws) i 3 in
    simp (a, b, c, d) (word_of_bytes ws i (λ j. fit (suc j)) (omega arith))

-- eight elements
eight_at : (ws : List ℕ) → length ws ≡ 8 → get_or ws 0 0 ∷ get_or ws 1 0 ∷ get_or ws 2 0 ∷ get_or ws 3 0 ∷ get_or ws 4 0 ∷ get_or ws 5 0 ∷ get_or ws 6 0 ∷ get_or ws 7 0 ∷ [] ≡ ws
eight_at ws h =
    let at : (i : ℕ) → i < length ws → drop i ws ≡ get_or ws i 0 ∷ drop (i + 1) ws = λ i l. drop_more ws i 0 l in
    let end : drop 8 ws ≡ [] = drop_all 8 ws (omega arith) in
    let e = at 7 (omega arith) in
    let d = at 6 (omega arith) in
    let c = at 5 (omega arith) in
    let b = at 4 (omega arith) in
    let a = at 3 (omega arith) in
    let z = at 2 (omega arith) in
    let y = at 1 (omega arith) in
    let x = at 0 (omega arith) in
    cc

-- eight words, each of which is that of the bytes
pub words_by : (bs ws : List ℕ) → length ws ≡ 8 → ((i : ℕ) → i < 8 → get_or ws i 0 ≡ word bs i) → ws ≡ words_of bs
words_by bs ws long at =
    let a = at 0 (omega arith) in
    let b = at 1 (omega arith) in
    let c = at 2 (omega arith) in
    let d = at 3 (omega arith) in
    let e = at 4 (omega arith) in
    let f = at 5 (omega arith) in
    let g = at 6 (omega arith) in
    let k = at 7 (omega arith) in
    sym (eight_at ws long) ∙ simp (a, b, c, d, e, f, g, k)

words_of_bytes : (ws : List ℕ) → IsHash ws → words_of (bytes_of ws) ≡ ws
words_of_bytes ws h = sym (words_by (bytes_of ws) ws h.0 (λ i l. sym (word_of_bytes ws i h.1 (omega (arith, h.0)))))

-- a byte of a list of bytes
byte_at : (bs : List ℕ) → Bytes bs → (i : ℕ) → get_or bs i 0 < 256
byte_at [] h i = omega arith
byte_at (b ∷ bs) h zero = h.0
byte_at (b ∷ bs) h (suc i) = byte_at bs h.1 i

-- the bytes of the i-th word stand in front of what follows them
four_at : (bs : List ℕ) → Bytes bs → (i : ℕ) → 4 * i + 3 < length bs → four (word bs i) ++ drop (4 * (i + 1)) bs ≡ drop (4 * i) bs
four_at bs h i l =
    let n : 4 * i + 3 + 1 ≡ 4 * (i + 1) = omega arith in
    let two : 4 * i + 1 + 1 ≡ 4 * i + 2 = omega arith in
    let three : 4 * i + 2 + 1 ≡ 4 * i + 3 = omega arith in
    let a = drop_more bs (4 * i) 0 (omega arith) in
    let b = drop_more bs (4 * i + 1) 0 (omega arith) in
    let c = drop_more bs (4 * i + 2) 0 (omega arith) in
    let d = drop_more bs (4 * i + 3) 0 l in
    ap (λ x. x ++ drop (4 * (i + 1)) bs) (word_of_four _ _ _ _ (byte_at bs h (4 * i)) (byte_at bs h (4 * i + 1)) (byte_at bs h (4 * i + 2)) (byte_at bs h (4 * i + 3))) ∙ cc

bytes_of-words_of : (bs : List ℕ) → Bytes bs → length bs ≡ 32 → bytes_of (words_of bs) ≡ bs
bytes_of-words_of bs h l =
    let at : (i : ℕ) → i < 8 → four (word bs i) ++ drop (4 * (i + 1)) bs ≡ drop (4 * i) bs = λ i k. four_at bs h i (omega arith) in
    let w : (i : ℕ) → List ℕ = λ i. four (word bs i) in
    sym (ap (λ x. w 0 ++ (w 1 ++ (w 2 ++ (w 3 ++ (w 4 ++ (w 5 ++ (w 6 ++ (w 7 ++ x)))))))) (drop_all 32 bs (omega arith)))
    ∙ ap (λ x. w 0 ++ (w 1 ++ (w 2 ++ (w 3 ++ (w 4 ++ (w 5 ++ (w 6 ++ x))))))) (at 7 (omega arith))
    ∙ ap (λ x. w 0 ++ (w 1 ++ (w 2 ++ (w 3 ++ (w 4 ++ (w 5 ++ x)))))) (at 6 (omega arith))
    ∙ ap (λ x. w 0 ++ (w 1 ++ (w 2 ++ (w 3 ++ (w 4 ++ x))))) (at 5 (omega arith))
    ∙ ap (λ x. w 0 ++ (w 1 ++ (w 2 ++ (w 3 ++ x)))) (at 4 (omega arith))
    ∙ ap (λ x. w 0 ++ (w 1 ++ (w 2 ++ x))) (at 3 (omega arith))
    ∙ ap (λ x. w 0 ++ (w 1 ++ x)) (at 2 (omega arith))
    ∙ ap (λ x. w 0 ++ x) (at 1 (omega arith))
    ∙ at 0 (omega arith)

word_below : (bs : List ℕ) → Bytes bs → (i : ℕ) → word bs i < 2 ^ 32
word_below bs h i =
    let a = byte_at bs h (4 * i) in
    let b = byte_at bs h (4 * i + 1) in
    let c = byte_at bs h (4 * i + 2) in
    let d = byte_at bs h (4 * i + 3) in
    omega arith

words_below : (bs : List ℕ) → Bytes bs → (i : ℕ) → get_or (words_of bs) i 0 < 2 ^ 32
words_below bs h zero = word_below bs h 0
words_below bs h (suc zero) = word_below bs h 1
words_below bs h (suc (suc zero)) = word_below bs h 2
words_below bs h (suc (suc (suc zero))) = word_below bs h 3
words_below bs h (suc (suc (suc (suc zero)))) = word_below bs h 4
words_below bs h (suc (suc (suc (suc (suc zero))))) = word_below bs h 5
words_below bs h (suc (suc (suc (suc (suc (suc zero)))))) = word_below bs h 6
words_below bs h (suc (suc (suc (suc (suc (suc (suc zero))))))) = word_below bs h 7
words_below bs h (suc (suc (suc (suc (suc (suc (suc (suc i)))))))) = lit< tt

pub text_length : (ws : List ℕ) → IsHash ws → length (text_of ws) ≡ 64
text_length ws h = omega (arith, length_pairs (bytes_of ws), length_bytes ws, h.0)

pub text_is_read_back : TextIsReadBack
text_is_read_back ws h =
    let bytes = bytes_of-words ws in
    cond-true (is_hash_text (text_of ws)) _ _ (and_from _ _ (eq-eqb _ _ (text_length ws h)) (pairs_are_hex (bytes_of ws) bytes))
    ∙ ap (λ bs. Ok (words_of bs)) (spelled_pairs (bytes_of ws) bytes) ∙ ap Ok (words_of_bytes ws h)

is_text_lem : (b : Bool) (ws vs : List ℕ) → ◌≡◌ {A = Result (List ℕ) ℕ} (cond b (Ok ws) (Err 2)) (Ok vs) → (b ≡ true) × (ws ≡ vs)
is_text_lem true ws vs e = (refl, cc)
is_text_lem false ws vs e = let z : ◌≡◌ {A = ℕ} 0 1 = cc in absurd (omega arith)

pub text_is_the_only_one : TextIsTheOnlyOne
text_is_the_only_one t ws e =
    let got = is_text_lem (is_hash_text t) (words_of (spelled t)) ws e in
    let tests = and_parts _ _ got.0 in
    let read = pairs_spelled 32 t (eqb-true _ _ tests.0) tests.1 in
    let hash : IsHash (words_of (spelled t)) = (refl, words_below (spelled t) read.1) in
    (subst IsHash got.1 hash, sym (ap text_of got.1) ∙ ap (flat_map hex_pair) (bytes_of-words_of (spelled t) read.1 read.2) ∙ read.0)
