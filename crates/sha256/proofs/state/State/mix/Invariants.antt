use Rattle.std.proofs.Common.{◌≡◌, ℕ, ◌+◌, ◌*◌, ◌<◌, [], length, get_or, map}
use Rattle.std.specs.Iterator.Adapters.{zip_first, zip_second}
use Rattle.std.specs.Simd.{first_chunks}
use Rattle.std.specs.Slice.Iter.{iter_rest}
use Rattle.sha256.specs.Lanes.{Reads}
use Rattle.sha256.specs.Sha256.{K, rounds}
use Rattle.sha256.proofs.state.State.mix.Given as goal

abbrev pub invariant-loop-constants : goal.invariant-loop-constants
invariant-loop-constants g l =
    (h : g.row.T.Denot → ℕ) → Reads g.F.Fn l.word h → l.s ≡ rounds l.self (map h l.fn.rows) (8 * length l.yielded)

abbrev pub invariant-loop-k : goal.invariant-loop-k
invariant-loop-k g l =
    (h : g.row.T.Denot → ℕ) (i : ℕ) → Reads g.F.Fn l.word h → i < 8
    → iter_rest (zip_first l.initial.k-iterator) ≡ get_or (first_chunks 8 8 K) i []
    → iter_rest (zip_second l.initial.k-iterator) ≡ get_or (first_chunks 8 8 l.fn.rows) i []
    → l.initial.s ≡ rounds l.self (map h l.fn.rows) (8 * i)
    → l.s ≡ rounds l.self (map h l.fn.rows) (8 * i + length l.yielded)
