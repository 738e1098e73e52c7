-- One turn of the rounds of a block. Assumes nothing.
use Rattle.std.proofs.Common.{◌≡◌, ℕ, zero, suc, ◌+◌, ◌-◌, ◌*◌, ◌<◌, ◌≤◌, cond, List, [], ◌∷◌, ◌++◌, map, length, get_or, take, set, sym, refl, ap, ◌∙◌, add-one, arith, get_or-take}
use Rattle.std.proofs.lemmas.List.{take_more_set, length_push, get_or_push, get_or_append_left, get_or-map}
use Rattle.std.specs.Simd.{first_chunks}
use Rattle.std.proofs.lemmas.Bool.{lt-ltb, le-ltb}
use Rattle.hash.specs.Bytes.{word}
use Rattle.sha256.specs.declared.state.State.{State}
use Rattle.hash.proofs.Arrays.{in_chunk}
use Rattle.sha256.specs.Sha256.{K, next, entry, schedule, round, rounds}

schedule_more : (m : List ℕ) (t : ℕ) → schedule m (t + 1) ≡ schedule m t ++ entry m t (schedule m t) ∷ []
unfolding schedule
schedule_more m t = ap (schedule m) (add-one t)

length-schedule : (m : List ℕ) (t : ℕ) → length (schedule m t) ≡ t
unfolding schedule
length-schedule m zero = refl
length-schedule m (suc t) = length_push (schedule m t) (entry m t (schedule m t)) ∙ ap (λ n. n + 1) (length-schedule m t) ∙ add-one t

pub entry_first : (m : List ℕ) (t : ℕ) (w : List ℕ) → t < 16 → entry m t w ≡ word m t
entry_first m t w h = ap (λ b. cond b (word m t) (next w t)) (lt-ltb t 16 h)

entry_next : (m : List ℕ) (t : ℕ) (w : List ℕ) → 16 ≤ t → entry m t w ≡ next w t
entry_next m t w h = ap (λ b. cond b (word m t) (next w t)) (le-ltb t 16 h)

-- the words that `next` reads stand before the word t
next-front : (w : List ℕ) (t : ℕ) → 16 ≤ t → next (take t w) t ≡ next w t
next-front w t h =
    let a : t - 2 < t = omega arith in
    let b : t - 7 < t = omega arith in
    let c : t - 15 < t = omega arith in
    let d : t - 16 < t = omega arith in
    simp get_or-take

-- so it is the schedule's word, where w begins with the schedule
pub next_of_front : (m w : List ℕ) (t : ℕ) → 16 ≤ t → take t w ≡ schedule m t → next w t ≡ entry m t (schedule m t)
next_of_front m w t h so_far = sym (next-front w t h) ∙ ap (λ l. next l t) so_far ∙ sym (entry_next m t (schedule m t) h)

-- the first t rounds read the first t words
rounds-front : (s : State) (w v : List ℕ) (t : ℕ) → t ≤ length w → rounds s (w ++ v) t ≡ rounds s w t
unfolding rounds
rounds-front s w v zero h = refl
rounds-front s w v (suc t) h =
    ap (λ r. round r (get_or K t 0) (get_or (w ++ v) t 0)) (rounds-front s w v t (omega arith))
    ∙ ap (round (rounds s w t) (get_or K t 0)) (get_or_append_left w v 0 t (omega arith))

rounds_more : (s : State) (w : List ℕ) (x t : ℕ) → length w ≡ t → rounds s (w ++ x ∷ []) (t + 1) ≡ round (rounds s w t) (get_or K t 0) x
unfolding rounds
rounds_more s w x t h =
    ap (rounds s (w ++ x ∷ [])) (add-one t)
    ∙ ap (λ r. round r (get_or K t 0) (get_or (w ++ x ∷ []) t 0)) (rounds-front s w (x ∷ []) t (omega arith))
    ∙ ap (round (rounds s w t) (get_or K t 0)) (get_or_push w x 0 t h)

-- one word more behind those of the schedule so far
pub words_more : (m w : List ℕ) (t x : ℕ) → t < length w → take t w ≡ schedule m t → x ≡ entry m t (schedule m t) → take (t + 1) (set w t x) ≡ schedule m (t + 1)
words_more m w t x h so_far e =
    take_more_set w t x h ∙ ap (λ l. l ++ x ∷ []) so_far ∙ ap (λ y. schedule m t ++ y ∷ []) e ∙ sym (schedule_more m t)

-- one round more behind those so far
pub state_more : (s₀ : State) (m : List ℕ) (s : State) (t x : ℕ) (r : State) → s ≡ rounds s₀ (schedule m t) t → r ≡ round s (get_or K t 0) x → x ≡ entry m t (schedule m t)
    → r ≡ rounds s₀ (schedule m (t + 1)) (t + 1)
state_more s₀ m s t x r so_far is_r e =
    is_r ∙ ap (λ v. round v (get_or K t 0) x) so_far
    ∙ ap (round (rounds s₀ (schedule m t) t) (get_or K t 0)) e
    ∙ sym (rounds_more s₀ (schedule m t) (entry m t (schedule m t)) t (length-schedule m t))
    ∙ ap (λ l. rounds s₀ l (t + 1)) (sym (schedule_more m t))

-- the next word, in the first sixteen turns and behind them
pub words_first : (m w : List ℕ) (t x : ℕ) → t < length w → t < 16 → take t w ≡ schedule m t → x ≡ word m t → take (t + 1) (set w t x) ≡ schedule m (t + 1)
words_first m w t x h first so_far e = words_more m w t x h so_far (e ∙ sym (entry_first m t (schedule m t) first))

pub words_next : (m w : List ℕ) (t x : ℕ) → t < length w → 16 ≤ t → take t w ≡ schedule m t → x ≡ next w t → take (t + 1) (set w t x) ≡ schedule m (t + 1)
words_next m w t x h next so_far e = words_more m w t x h so_far (e ∙ next_of_front m w t next so_far)

-- one round more, of words that are all known
pub round_more : (s₀ : State) (w : List ℕ) (s r : State) (x t : ℕ) → s ≡ rounds s₀ w t → r ≡ round s (get_or K t 0) x → x ≡ get_or w t 0 → r ≡ rounds s₀ w (t + 1)
unfolding rounds
round_more s₀ w s r x t so_far is_r e =
    is_r ∙ ap (λ v. round v (get_or K t 0) x) so_far ∙ ap (round (rounds s₀ w t) (get_or K t 0)) e ∙ ap (rounds s₀ w) (sym (add-one t))

-- the same, where each word is read from its row: the round j of the eight that go with the i-th eight rows
pub eight_more : {T : Type 0} (s₀ : State) (rows : List T) (h : T → ℕ) (i j n : ℕ) (s r : State) (k x : ℕ) (row : T) → length rows ≡ 64 → i < 8 → j < 8
    → k ≡ get_or (get_or (first_chunks 8 8 K) i []) j 0 → row ≡ get_or (get_or (first_chunks 8 8 rows) i []) j row → x ≡ h row → s ≡ rounds s₀ (map h rows) (8 * i + j) → r ≡ round s k x → n ≡ j + 1
    → r ≡ rounds s₀ (map h rows) (8 * i + n)
eight_more s₀ rows h i j n s r k x row long i8 j8 is_k is_row is_x so_far is_r is_n =
    let t = 8 * i + j in
    let next : 8 * i + j + 1 ≡ 8 * i + n = omega arith in
    let known : k ≡ get_or K t 0 = is_k ∙ in_chunk 8 8 K i j 0 i8 j8 in
    let at : x ≡ get_or (map h rows) t 0 = is_x ∙ ap h (is_row ∙ in_chunk 8 8 rows i j row i8 j8) ∙ sym (get_or-map h rows t row 0 (omega arith)) in
    round_more s₀ (map h rows) s r x t so_far (is_r ∙ ap (λ v. round s v x) known) at ∙ ap (rounds s₀ (map h rows)) next
