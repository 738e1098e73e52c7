use Rattle.std.proofs.Common.{◌≡◌, ◌+◌, ◌*◌, ◌/◌, ◌<◌, [], ◌∷◌, ◌++◌, map, length, get_or, refl, ap, ◌∙◌, arith}
use Rattle.std.proofs.lemmas.List.{length_push}
use Rattle.std.proofs.lemmas.Slice.Zip.{zip_turn, zip_end}
use Rattle.std.specs.Iterator.Adapters.{zip_first, zip_second}
use Rattle.std.specs.Simd.{first_chunks}
use Rattle.std.specs.Slice.Iter.{iter_rest}
use Rattle.sha256.specs.Sha256.{K, rounds}
use Rattle.sha256.proofs.Absorbing.{chunk_long}
use Rattle.sha256.proofs.Rounds.{eight_more}
use Rattle.sha256.proofs.state.State.mix.Goals as goal

pub loop-constants-init : goal.loop-constants-init
unfolding rounds
loop-constants-init g c = λ h e. refl

pub loop-constants-preserved : goal.loop-constants-preserved
loop-constants-preserved g c = λ h e.
    let rows = c.args.rows.now in
    let done = c.loop-constants.yielded in
    let i = length done in
    let long : length rows ≡ 64 = omega arith in
    let pairs = c.into_iter-constants-iterator in
    let all_k : iter_rest (zip_first pairs.result) ≡ first_chunks 8 8 K =
    ap (λ z. iter_rest (zip_first z)) pairs.ensures.into_iter_gives ∙ ap iter_rest c.zip-constants-items.ensures.first ∙ c.iter.ensures.rest ∙ c.as_chunks.ensures.front in
    let all_rows : iter_rest (zip_second pairs.result) ≡ first_chunks 8 8 rows =
    ap (λ z. iter_rest (zip_second z)) pairs.ensures.into_iter_gives ∙ c.zip-constants-items.ensures.second.0 ∙ c.as_chunks-2.ensures.front ∙ ap (λ n. first_chunks 8 (n / 8) rows) long in
    let turn = zip_turn (first_chunks 8 8 K) (first_chunks 8 8 rows) done pairs.result c.loop-constants.constants-iterator c.next.new.self c.next.result all_k all_rows c.loop-constants.yielded_by _ c.in-Some.is c.next.ensures.steps in
    let low : i < 8 = turn.0 in
    let eight = c.into_iter-k-iterator in
    let is_k : iter_rest (zip_first eight.result) ≡ get_or (first_chunks 8 8 K) i [] =
    ap (λ z. iter_rest (zip_first z)) eight.ensures.into_iter_gives ∙ ap iter_rest c.zip-k-items.ensures.first ∙ c.iter-in-loop-constants.ensures.rest ∙ turn.2 [] in
    let is_row : iter_rest (zip_second eight.result) ≡ get_or (first_chunks 8 8 rows) i [] =
    ap (λ z. iter_rest (zip_second z)) eight.ensures.into_iter_gives ∙ c.zip-k-items.ensures.second.0 ∙ turn.3 [] in
    let end = zip_end (get_or (first_chunks 8 8 K) i []) (get_or (first_chunks 8 8 rows) i []) c.loop-k.yielded eight.result c.loop-k.k-iterator c.next-in-loop-k.new.self c.next-in-loop-k.result is_k is_row c.loop-k.yielded_by c.in-None-2.is c.next-in-loop-k.ensures.steps in
    let next : 8 * i + length c.loop-k.yielded ≡ 8 * length (done ++ (c.in-Some.constants, c.in-Some.rows) ∷ []) =
    omega (arith, end, chunk_long 8 8 K i low (omega arith), chunk_long 8 8 rows i low (omega arith), length_push done (c.in-Some.constants, c.in-Some.rows)) in
    c.loop-k.invariant h i e low is_k is_row (c.loop-constants.invariant h e) ∙ ap (rounds c.args.self (map h rows)) next

pub loop-k-preserved : goal.loop-k-preserved
loop-k-preserved g c = λ h i e low is_k is_row so_far.
    let rows = c.args.rows.now in
    let done = c.loop-k.yielded in
    let long : length rows ≡ 64 = omega arith in
    let turn = zip_turn (get_or (first_chunks 8 8 K) i []) (get_or (first_chunks 8 8 rows) i []) done c.into_iter-k-iterator.result c.loop-k.k-iterator c.next-in-loop-k.new.self c.next-in-loop-k.result is_k is_row c.loop-k.yielded_by _ c.in-Some-2.is c.next-in-loop-k.ensures.steps in
    let below : length done < 8 = omega (arith, turn.0, chunk_long 8 8 K i low (omega arith)) in
    eight_more c.args.self rows h i (length done) _ c.loop-k.s c.round-s.result c.in-Some-2.k.now c.word.result c.in-Some-2.row.now long low below
    (turn.2 0) (turn.3 c.in-Some-2.row.now) (e c.in-Some-2.row.now c.word.result record { shown = c.in-Some-2.row; shows = refl; says = record { met = c.word.ensures } }) (c.loop-k.invariant h i e low is_k is_row so_far) c.round-s.ensures (length_push done (c.in-Some-2.k, c.in-Some-2.row))
