-- How the writer's own parts stand for its state.
use Rattle.std.specs.Prelude.{ℕ, cond, List, length, Result, ◌==◌}
use Rattle.wire.specs.Refusals.{Refusal, refused}
use Rattle.directory.specs.declared.part.Part.{Part}
use Rattle.directory.specs.declared.part.SoFar.{SoFar}
use Rattle.directory.specs.Directories.{part_of, answered, so_far_of}
use Rattle.writer.specs.declared.mark.Mark.{Mark}
use Rattle.writer.specs.States.{State, so_far}

-- a writer's marks in a part
abbrev pub marked_in : Part → Mark → State
marked_in part k = record { part = part; used = k.used; long = k.long }

-- what was read of the bytes so far, before anything is added or ended
abbrev pub checked : State → List ℕ → Result SoFar Refusal
checked s buffer = cond (length buffer == s.long) (answered so_far_of (part_of s.part (so_far s buffer))) (refused 5 0)
