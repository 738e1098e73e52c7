-- What the definitions of SHA-256 give. Assumes nothing.
use Rattle.std.proofs.Common.{◌≡◌, ℕ, zero, suc, ◌+◌, ◌*◌, ◌/◌, ◌^◌, ◌<◌, Bool, true, false, cond, ◌&&◌, ltb, leb, List, [], ◌∷◌, length, get_or, refl, ap, ◌∙◌, arith, lit<, length-append}
use Rattle.std.proofs.lemmas.Nat.{mod_below}
use Rattle.std.proofs.lemmas.Bool.{and_parts, leb-true, ltb-true}
use Rattle.sha256.specs.declared.state.State.{State}
use Rattle.sha256.specs.Laws.{Examples, FewestZeros, WholeBlocks, Hashes, Roots, primes, ConstantsAreRoots}
use Rattle.sha256.specs.Sha256.{K, H₀, plus, zeros, eight, marked, padding, padded, block, schedule, rounds, sum, compressed, absorbed, words, sha256}
use Rattle.sha256.proofs.Endings.{length_marked}

pub examples : Examples
unfolding sha256 absorbed padded padding compressed rounds schedule
examples = (refl, refl)

pub fewest_zeros : FewestZeros
fewest_zeros n = (omega arith, λ z h. omega arith)

pub whole_blocks : WholeBlocks
unfolding padded padding
whole_blocks m =
    let n = length m in
    let long : length (padded m) ≡ n + (zeros n + 1 + 8) =
    length-append m (padding n) ∙ ap (λ k. n + k) (length-append (marked (zeros n)) (eight (8 * n)) ∙ ap (λ k. k + 8) (length_marked (zeros n))) in
    omega (arith, (fewest_zeros n).0)

-- each is a word
abbrev Words : List ℕ → Type 0
Words [] = Unit {0}
Words (x ∷ xs) = (x < 2 ^ 32) × Words xs

word_at : (xs : List ℕ) → Words xs → (i : ℕ) → get_or xs i 0 < 2 ^ 32
word_at [] h i = lit< tt
word_at (x ∷ xs) h zero = h.0
word_at (x ∷ xs) h (suc i) = word_at xs h.1 i

below : (x y : ℕ) → plus x y < 2 ^ 32
below x y = mod_below (x + y) (2 ^ 32) (lit< tt)

sum-words : (s r : State) → Words (words (sum s r))
sum-words s r = (below _ _, (below _ _, (below _ _, (below _ _, (below _ _, (below _ _, (below _ _, (below _ _, tt))))))))

absorbed-words : (s : State) (m : List ℕ) (n : ℕ) → Words (words s) → Words (words (absorbed s m n))
unfolding absorbed compressed
absorbed-words s m zero h = h
absorbed-words s m (suc n) h = sum-words (absorbed s m n) (rounds (absorbed s m n) (schedule (block m n) 64) 64)

pub hashes : Hashes
unfolding sha256
hashes m =
    let first : Words (words H₀) = (lit< tt, (lit< tt, (lit< tt, (lit< tt, (lit< tt, (lit< tt, (lit< tt, (lit< tt, tt)))))))) in
    (refl, word_at (sha256 m) (absorbed-words H₀ (padded m) (length (padded m) / 64) first))

-- whether n is the whole part, as a test
abbrev has_root : ℕ → ℕ → ℕ → ℕ → Bool
has_root e p k n = leb ((n * 2 ^ 32 + k) ^ e) (p * 2 ^ (32 * e)) && ltb (p * 2 ^ (32 * e)) ((n * 2 ^ 32 + k + 1) ^ e)

-- the first number from n on, of at most f, at which the test passes
abbrev whole_part : ℕ → ℕ → ℕ → ℕ → ℕ → ℕ
whole_part e p k zero n = n
whole_part e p k (suc f) n = cond (has_root e p k n) n (whole_part e p k f (suc n))

abbrev have_roots : ℕ → List ℕ → List ℕ → Bool
have_roots e ps [] = true
have_roots e [] (k ∷ ks) = false
have_roots e (p ∷ ps) (k ∷ ks) = has_root e p k (whole_part e p k 20 0) && have_roots e ps ks

-- the test over a whole table, as the rule at each entry
roots : (e : ℕ) (ps ks : List ℕ) → have_roots e ps ks ≡ true → Roots e ps ks
roots e ps [] h = tt
roots e [] (k ∷ ks) h = let z : ◌≡◌ {A = ℕ} 0 1 = cc in absurd (omega arith)
roots e (p ∷ ps) (k ∷ ks) h =
    let both = and_parts _ _ h in
    let here = and_parts _ _ both.0 in
    ((whole_part e p k 20 0, (leb-true _ _ here.0, ltb-true _ _ here.1)), roots e ps ks both.1)

pub constants_are_roots : ConstantsAreRoots
constants_are_roots = (roots 3 primes K refl, roots 2 primes (words H₀) refl)
