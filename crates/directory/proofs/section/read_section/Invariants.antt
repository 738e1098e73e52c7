use Rattle.std.proofs.Common.{◌≡◌, ℕ, ◌+◌, ◌-◌, ◌≤◌, List, length, drop}
use Rattle.wire.specs.declared.field.Span.{Span}
use Rattle.nodes.specs.Kinds.{part}
use Rattle.directory.specs.Regions.{names_in}
use Rattle.directory.specs.Sections.{among, section, section_at}
use Rattle.directory.specs.Directories.{files_at, directories_at}
use Rattle.directory.specs.Steps.{ends, earlier_names}
use Rattle.directory.proofs.Ascents.{Passed}
use Rattle.directory.proofs.section.read_section.Given as goal

-- the names of an earlier section that stand behind the last name are those left
abbrev pub Left : List ℕ → Span → Span → Span → Type 0
Left m last all left = Passed (part m last) (names_in m all) (names_in m left)

abbrev pub invariant-loop-progress : goal.invariant-loop-progress
invariant-loop-progress g l =
    let k = g.K.NodeKind in
    let m = l.bytes in
    let at = l.progress.0 in
    let last = l.progress.1.0 in
    let left = l.progress.1.1.0 in
    (f : ℕ) × (rest : List ℕ)
    × (last.start ≤ last.end)
    × (last.end ≤ at)
    × (length (drop at m) ≤ f)
    × (last.start + length (part m last) ≡ last.end)
    × Left m last (files_at l.fn.before) left.files
    × Left m last (directories_at l.fn.before) left.directories
    × (ends (section_at k.code k.reads (earlier_names m l.fn.before) l.start (drop l.start m))
    ≡ ends (section k.code k.reads (λ t. among t (earlier_names m l.fn.before)) f (record { text = part m last; place = last.start; rest = rest }) at (drop at m)))

abbrev pub decreases-loop-progress : goal.decreases-loop-progress
decreases-loop-progress g l = length l.bytes - l.progress.0
