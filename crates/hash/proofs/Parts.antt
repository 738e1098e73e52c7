-- Parts written into a list, one behind the other. Assumes nothing.
use Rattle.std.proofs.Common.{◌≡◌, ℕ, ◌+◌, ◌<◌, ◌≤◌, List, [], ◌++◌, length, get_or, take, drop, sym, ap, ◌∙◌, arith, length-append, length-drop, length-take}
use borrow.Rule.Slice.PartMut.{put_mid}
use Rattle.std.proofs.lemmas.List.{take_more, flat_map_more}
use Rattle.std.proofs.lemmas.Slice.{take-put_mid}
use Rattle.std.specs.List.{flat_map}

-- a part written over as many elements
pub length-written : (out part : List ℕ) (at k : ℕ) → at + k ≤ length out → length part ≡ k → length (put_mid at k out part) ≡ length out
length-written out part at k within long =
    length-append (take at out) (part ++ drop k (drop at out)) ∙ ap (λ n. length (take at out) + n) (length-append part (drop k (drop at out)))
    ∙ simp (length-take, length-drop) (omega arith)

-- the part of the i-th element is written behind the parts of those before it
pub written_more : (f : ℕ → List ℕ) (xs out part : List ℕ) (i at n k : ℕ) → take at out ≡ flat_map f (take i xs) → part ≡ f (get_or xs i 0) → i < length xs
    → at ≤ length out → n ≡ at + length part → take n (put_mid at k out part) ≡ flat_map f (take (i + 1) xs)
written_more f xs out part i at n k so_far is here within end =
    take-put_mid at k out part n end within ∙ ap (λ l. l ++ part) so_far ∙ ap (λ l. flat_map f (take i xs) ++ l) is
    ∙ flat_map_more f [] (take i xs) (get_or xs i 0) ∙ ap (flat_map f) (sym (take_more xs i 0 here))
