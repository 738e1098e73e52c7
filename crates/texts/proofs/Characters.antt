-- Text, one character on. Assumes nothing.
use Rattle.std.proofs.Common.{◌≡◌, ℕ, zero, suc, ◌<◌, ◌≤◌, Bool, true, ◌&&◌, ltb, leb, List, [], ◌∷◌, Some, None, Option, eqb, get_or, length, take, drop, sym, refl, ap, ◌∙◌, arith}
use mathlib.Core.Bool.{and_assoc}
use Rattle.std.proofs.lemmas.Bool.{and_parts, and_from, cond_both, cond-true, false≢true, ltb-true, lt-ltb, le-leb, ne_eqb}
use Rattle.texts.specs.Utf8.{Due, due, range, behind, goes_on, char_width, is_text}

-- what is due, and then whole characters
parted : (bs : List ℕ) (n low high : ℕ) → goes_on bs n low high ≡ (goes_on (take n bs) n low high && goes_on (drop n bs) 0 0x80 0xBF)
parted [] zero low high = refl
parted [] (suc n) low high = refl
parted (b ∷ bs) zero low high = refl
parted (b ∷ bs) (suc n) low high =
    ap (λ t. range low high b && t) (parted bs n 0x80 0xBF) ∙ sym (and_assoc (range low high b) (goes_on (take n bs) n 0x80 0xBF) (goes_on (drop n bs) 0 0x80 0xBF))

enough : (bs : List ℕ) (n low high : ℕ) → goes_on (take n bs) n low high ≡ true → n ≤ length bs
enough bs zero low high e = omega arith
enough [] (suc n) low high e = absurd (false≢true e)
enough (b ∷ bs) (suc n) low high e = let l = enough bs n 0x80 0xBF (and_parts (range low high b) _ e).1 in omega arith

-- what the width of the character at the front says
abbrev pub Front : List ℕ → Option ℕ → Type 0
Front bs None = is_text bs ≡ eqb (length bs) 0
Front bs (Some w) = (is_text bs ≡ is_text (drop w bs)) × (0 < w) × (w ≤ length bs)

pub front : (bs : List ℕ) → Front bs (char_width bs)
unfolding is_text
front [] = refl
front (a ∷ bs) =
    let n = (behind a).count in
    let low = (behind a).low in
    let high = (behind a).high in
    let rest = λ (t : Bool). t && goes_on (drop n bs) 0 0x80 0xBF in
    cond_both (goes_on (take n bs) n low high) (Some (suc n)) None (Front (a ∷ bs))
    (λ e. let l = enough bs n low high e in (parted bs n low high ∙ ap rest e, omega arith, omega arith))
    (λ e. parted bs n low high ∙ ap rest e ∙ sym (ne_eqb (length (a ∷ bs)) 0 (λ z. omega arith)))

-- a byte below 80 is a character
pub ascii_front : (a : ℕ) (bs : List ℕ) → ltb a 0x80 ≡ true → is_text (a ∷ bs) ≡ is_text bs
unfolding is_text
ascii_front a bs e =
    let small = ltb-true a 0x80 e in
    let inside : range 0x00 0x7F a ≡ true = and_from (leb 0x00 a) (leb a 0x7F) (le-leb 0x00 a (omega arith)) (le-leb a 0x7F (omega arith)) in
    ap (λ (d : Due). goes_on bs d.count d.low d.high) (cond-true (range 0x00 0x7F a) (due 0 0x80 0xBF) _ inside)

-- bytes below 80 are text
pub ascii_is_text : (bs : List ℕ) → ((i : ℕ) → get_or bs i 0 < 0x80) → is_text bs ≡ true
unfolding is_text
ascii_is_text [] h = refl
ascii_is_text (a ∷ bs) h = ascii_front a bs (lt-ltb a 0x80 (h 0)) ∙ ascii_is_text bs (λ i. h (suc i))
