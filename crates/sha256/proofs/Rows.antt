-- Four schedules side by side, each as it is alone. Assumes nothing.
use Rattle.std.proofs.Common.{◌≡◌, ℕ, ◌+◌, ◌-◌, ◌*◌, ◌/◌, ◌%◌, ◌^◌, ◌<◌, ◌≤◌, List, [], map, length, get_or, take, set, replicate, fold, sym, refl, ap, ◌∙◌, subst, ⊎_elim, arith, lit<, length-set}
use lib.Bits.{bit_or, bit_xor}
use lib.Lanes.{zip2}
use lib.ListN.{length-map}
use Rattle.std.proofs.lemmas.Simd.{get_or-zip2, length-zip2, zip2_splat, zip2_of_maps}
use Rattle.std.proofs.lemmas.List.{get_or-map, get_or-replicate, get_or-set_same, get_or-set_other, map-set, take_all}
use Rattle.std.proofs.lemmas.List.Sums.{fold_more}
use Rattle.std.proofs.lemmas.Bool.{cases_eq}
use Rattle.hash.specs.Bytes.{word}
use Rattle.sha256.specs.declared.state.State.{State}
use Rattle.sha256.specs.Lanes.{word_row, next_row}
use Rattle.sha256.specs.Sha256.{K, plus, rotr, shr, σ₀, σ₁, next, entry, schedule, round, rounds, sum, compressed}
use Rattle.sha256.proofs.Rounds.{entry_first, next_of_front, words_more, state_more}

-- a rotation of a row by shifts is that of each lane, and so is a σ by rotations and a shift
pub rotr_of_row : (n : ℕ) (x : List ℕ) → length x ≡ 4 → zip2 bit_or (zip2 (λ a b. a / 2 ^ b) x (replicate 4 n)) (zip2 (λ a b. a * 2 ^ b % 2 ^ 32) x (replicate 4 (32 - n))) ≡ map (rotr n) x
rotr_of_row n x h = zip2_of_maps bit_or (λ a. a / 2 ^ n) (λ a. a * 2 ^ (32 - n) % 2 ^ 32) x (zip2_splat (λ a b. a / 2 ^ b) x 4 n h) (zip2_splat (λ a b. a * 2 ^ b % 2 ^ 32) x 4 (32 - n) h)

pub sigma_of_row : (p q n : ℕ) (x y z : List ℕ) → length x ≡ 4 → y ≡ map (rotr p) x → z ≡ map (rotr q) x
    → zip2 bit_xor (zip2 bit_xor y z) (zip2 (λ a b. a / 2 ^ b) x (replicate 4 n)) ≡ map (λ a. bit_xor (bit_xor (rotr p a) (rotr q a)) (shr n a)) x
sigma_of_row p q n x y z h first second =
    zip2_of_maps bit_xor (λ a. bit_xor (rotr p a) (rotr q a)) (shr n) x (zip2_of_maps bit_xor (rotr p) (rotr q) x first second) (zip2_splat (λ a b. a / 2 ^ b) x 4 n h)

-- a table has a row for each word of a schedule, and in each row a lane for each block
abbrev pub lane : List (List ℕ) → ℕ → List ℕ
lane w l = map (λ row. get_or row l 0) w

lane_at : (w : List (List ℕ)) (l i : ℕ) → i < length w → get_or (lane w l) i 0 ≡ get_or (get_or w i []) l 0
lane_at w l i h = get_or-map (λ row. get_or row l 0) w i [] 0 h

lane-set : (w : List (List ℕ)) (l t : ℕ) (row : List ℕ) → lane (set w t row) l ≡ set (lane w l) t (get_or row l 0)
lane-set w l t row = map-set (λ r. get_or r l 0) w t row

-- a row that is made from four whole rows is whole, and has in each lane the next word of that lane
next_in_lanes : (w : List (List ℕ)) (t : ℕ) → length w ≡ 64 → ((i : ℕ) → i < 64 → length (get_or w i []) ≡ 4) → 16 ≤ t → t < 64
    → (length (next_row w t) ≡ 4) × ((l : ℕ) → l < 4 → get_or (next_row w t) l 0 ≡ next (lane w l) t)
next_in_lanes w t long rows low high =
    let p = get_or w (t - 2) [] in
    let q = get_or w (t - 7) [] in
    let r = get_or w (t - 15) [] in
    let s = get_or w (t - 16) [] in
    let lp : length p ≡ 4 = rows (t - 2) (omega arith) in
    let lq : length q ≡ 4 = rows (t - 7) (omega arith) in
    let lr : length r ≡ 4 = rows (t - 15) (omega arith) in
    let ls : length s ≡ 4 = rows (t - 16) (omega arith) in
    let x = map σ₁ p in
    let z = map σ₀ r in
    let lx : length x ≡ 4 = length-map p σ₁ ∙ lp in
    let lz : length z ≡ 4 = length-map r σ₀ ∙ lr in
    let xq = zip2 plus x q in
    let lxq : length xq ≡ 4 = length-zip2 plus x q (lx ∙ sym lq) ∙ lx in
    let xqz = zip2 plus xq z in
    let lxqz : length xqz ≡ 4 = length-zip2 plus xq z (lxq ∙ sym lz) ∙ lxq in (
      length-zip2 plus xqz s (lxqz ∙ sym ls) ∙ lxqz,
      λ l within.
          get_or-zip2 plus xqz s l 0 0 0 (omega arith) (omega arith)
          ∙ ap (λ n. plus n (get_or s l 0)) (get_or-zip2 plus xq z l 0 0 0 (omega arith) (omega arith))
          ∙ ap (λ n. plus (plus n (get_or z l 0)) (get_or s l 0)) (get_or-zip2 plus x q l 0 0 0 (omega arith) (omega arith))
          ∙ ap (λ n. plus (plus (plus n (get_or q l 0)) (get_or z l 0)) (get_or s l 0)) (get_or-map σ₁ p l 0 0 (omega arith) ∙ ap σ₁ (sym (lane_at w l (t - 2) (omega arith))))
          ∙ ap (λ n. plus (plus (plus (σ₁ (get_or (lane w l) (t - 2) 0)) n) (get_or z l 0)) (get_or s l 0)) (sym (lane_at w l (t - 7) (omega arith)))
          ∙ ap (λ n. plus (plus (plus (σ₁ (get_or (lane w l) (t - 2) 0)) (get_or (lane w l) (t - 7) 0)) n) (get_or s l 0)) (get_or-map σ₀ r l 0 0 (omega arith) ∙ ap σ₀ (sym (lane_at w l (t - 15) (omega arith))))
          ∙ ap (plus (plus (plus (σ₁ (get_or (lane w l) (t - 2) 0)) (get_or (lane w l) (t - 7) 0)) (σ₀ (get_or (lane w l) (t - 15) 0)))) (sym (lane_at w l (t - 16) (omega arith))),
    )

-- t rows are filled from four blocks, and s is what the rounds of the first block made of s₀
pub record Ready (s₀ : State) (blocks w : List (List ℕ)) (s : State) (t : ℕ) : Type 0 where
  pub four : length blocks ≡ 4
  pub long : length w ≡ 64
  pub rows : (i : ℕ) → i < 64 → length (get_or w i []) ≡ 4
  pub words : (l : ℕ) → l < 4 → take t (lane w l) ≡ schedule (get_or blocks l []) t
  pub state : s ≡ rounds s₀ (schedule (get_or blocks 0 []) t) t

pub ready_none : (s₀ : State) (blocks : List (List ℕ)) → length blocks ≡ 4 → Ready s₀ blocks (replicate 64 (replicate 4 0)) s₀ 0
unfolding schedule rounds
ready_none s₀ blocks h = record {
  four = h;
  long = refl;
  rows = λ i h. ap length (get_or-replicate 64 i (replicate 4 0) [] h);
  words = λ l h. refl;
  state = refl;
}

module _ (s₀ : State) (blocks w : List (List ℕ)) (s : State) (t : ℕ) (ready : Ready s₀ blocks w s t) (below : t < 64) (row : List ℕ) (r : State) (n : ℕ) (is_r : r ≡ round s (get_or K t 0) (get_or row 0 0)) (is_n : n ≡ t + 1) where
  more : length row ≡ 4 → ((l : ℕ) → l < 4 → get_or row l 0 ≡ entry (get_or blocks l []) t (schedule (get_or blocks l []) t)) → Ready s₀ blocks (set w t row) r n
  more wide entries = subst (Ready s₀ blocks (set w t row) r) (sym is_n) record {
    four = ready.four;
    long = length-set w t row ∙ ready.long;
    rows = λ i h. ⊎_elim
        (λ e. ap (λ j. length (get_or (set w t row) j [])) e ∙ ap length (get_or-set_same w t row [] (omega (arith, ready.long))) ∙ wide)
        (λ ne. ap length (get_or-set_other w t i row [] ne) ∙ ready.rows i h)
        (cases_eq i t);
    words = λ l h.
        ap (take (t + 1)) (lane-set w l t row)
        ∙ words_more (get_or blocks l []) (lane w l) t (get_or row l 0) (omega (arith, length-map w (λ row. get_or row l 0), ready.long)) (ready.words l h) (entries l h);
    state = state_more s₀ (get_or blocks 0 []) s t (get_or row 0 0) r ready.state is_r (entries 0 (lit< tt));
  }

  pub ready_first : t < 16 → row ≡ word_row blocks t → Ready s₀ blocks (set w t row) r n
  ready_first h e =
      more (ap length e ∙ length-map blocks (λ block. word block t) ∙ ready.four)
      (λ l l4. ap (λ v. get_or v l 0) e ∙ get_or-map (λ block. word block t) blocks l [] 0 (omega (arith, ready.four)) ∙ sym (entry_first (get_or blocks l []) t (schedule (get_or blocks l []) t) h))

  pub ready_next : 16 ≤ t → row ≡ next_row w t → Ready s₀ blocks (set w t row) r n
  ready_next h e =
      let next = next_in_lanes w t ready.long ready.rows h below in
      more (ap length e ∙ next.0) (λ l l4. ap (λ v. get_or v l 0) e ∙ next.1 l l4 ∙ next_of_front (get_or blocks l []) (lane w l) t h (ready.words l l4))

pub all_rows : (s₀ : State) (blocks w : List (List ℕ)) (s : State) (t : ℕ) → t ≡ 64 → Ready s₀ blocks w s t → Ready s₀ blocks w s 64
all_rows s₀ blocks w s t e ready = subst (Ready s₀ blocks w s) e ready

-- once all rows are filled: the first block by its rounds, and each other by its lane
module _ (s₀ : State) (blocks w : List (List ℕ)) (s : State) (ready : Ready s₀ blocks w s 64) where
  pub first-absorbed : (r : State) → r ≡ sum s₀ s → r ≡ fold compressed s₀ (take 1 blocks)
  unfolding compressed
  first-absorbed r e = e ∙ ap (sum s₀) ready.state ∙ sym (fold_more compressed s₀ blocks 0 [] (omega (arith, ready.four)))

  pub lane-absorbed : (s₁ : State) (l : ℕ) (v r : State) → l < 4 → v ≡ fold compressed s₁ (take l blocks) → r ≡ sum v (rounds v (lane w l) 64) → r ≡ fold compressed s₁ (take (l + 1) blocks)
  unfolding compressed
  lane-absorbed s₁ l v r h so_far e =
      let b = get_or blocks l [] in
      let whole : lane w l ≡ schedule b 64 = sym (take_all 64 (lane w l) (omega (arith, length-map w (λ row. get_or row l 0), ready.long))) ∙ ready.words l h in
      e ∙ ap (λ ws. sum v (rounds v ws 64)) whole ∙ ap (λ u. compressed u b) so_far ∙ sym (fold_more compressed s₁ blocks l [] (omega (arith, ready.four)))
