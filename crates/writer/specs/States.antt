-- The writer: what starting, adding and ending answer, and what they leave.
use Rattle.std.specs.Prelude.{ℕ, ◌+◌, cond, List, ◌++◌, length, take, Ok, Err, Result, ◌==◌, nat_le}
use Rattle.wire.specs.Refusals.{Refusal, refused, next}
use Rattle.wire.specs.Writing.{has_room, written}
use Rattle.nodes.specs.Values.{verdict}
use Rattle.directory.specs.declared.part.Part.{Part}
use Rattle.directory.specs.declared.part.Part.TheVariants.{Files}
use Rattle.directory.specs.Directories.{part_of}

-- a writer: its part, how many bytes are written, and how long the buffer was at the start
pub record State : Type 0 where
  pub part : Part
  pub used : ℕ
  pub long : ℕ

-- it starts in the files part: 5 where the buffer has more than 16,777,216 bytes
abbrev pub started : List ℕ → Result State Refusal
started buffer = cond (nat_le (length buffer) 16777216) (Ok (record { part = Files; used = 0; long = length buffer })) (refused 5 0)

-- it goes on to another part
abbrev pub on_to : Part → State → State
on_to part s = record { part = part; used = s.used; long = s.long }

-- the bytes so far
abbrev pub so_far : State → List ℕ → List ℕ
so_far s buffer = take s.used buffer

-- it ends with the count of bytes: 5 where the buffer has another length than at the start, and what reading the bytes so far refuses is refused
abbrev pub ended : State → List ℕ → Result ℕ Refusal
ended s buffer = cond (length buffer == s.long) (next (part_of s.part (so_far s buffer)) (λ _. Ok s.used)) (refused 5 0)

-- a node is added: where ending would be refused, so is this; then 8 where it does not fit; then what reading refuses once it stands behind the bytes so far
abbrev pub added : State → List ℕ → List ℕ → Result ℕ Refusal
added s buffer node =
    next (ended s buffer) (λ used.
    cond (has_room buffer used node) (next (part_of s.part (so_far s buffer ++ node)) (λ _. Ok (used + length node))) (refused 8 0))

-- what an answer leaves: a refusal leaves the writer and the buffer as they were
abbrev pub state_after : State → Result ℕ Refusal → State
state_after s (Ok used) = record { part = s.part; used = used; long = s.long }
state_after s (Err e) = s

abbrev pub buffer_after : State → List ℕ → List ℕ → Result ℕ Refusal → List ℕ
buffer_after s buffer node (Ok used) = written buffer s.used node
buffer_after s buffer node (Err e) = buffer

-- a call that adds a node: its answer, and the writer and the buffer after it
pub record Adding : Type 0 where
  pub answer : Result (Unit {0}) Refusal
  pub state : State
  pub buffer : List ℕ

abbrev pub adding : State → List ℕ → List ℕ → Adding
adding s buffer node = record {
  answer = verdict (added s buffer node);
  state = state_after s (added s buffer node);
  buffer = buffer_after s buffer node (added s buffer node);
}
