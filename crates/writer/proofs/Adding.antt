-- A node judged before it is written, and read once it stands there. Assumes nothing.
use Rattle.std.proofs.Common.{◌≡◌, ℕ, ◌+◌, ◌≤◌, true, cond, ◌||◌, eqb, List, [], ◌++◌, length, Ok, Err, Result, sym, refl, ap, ◌∙◌}
use Rattle.std.proofs.lemmas.Bool.{cond-true, leb-true}
use Rattle.wire.specs.Fields.{field_bytes}
use Rattle.wire.specs.Refusals.{Refusal, refused, next}
use Rattle.wire.specs.Writing.{has_room}
use Rattle.wire.proofs.Fieldings.{passed}
use Rattle.wire.proofs.Finding.{not_ok}
use Rattle.nodes.specs.Kinds.{part}
use Rattle.nodes.specs.Values.{verdict}
use Rattle.directory.specs.declared.part.Part.{Part}
use Rattle.directory.specs.declared.part.Part.TheVariants.{Files, Directories, Links}
use Rattle.directory.specs.declared.part.SoFar.{SoFar}
use Rattle.directory.specs.Directories.{Reading, part_of, answered, so_far_of}
use Rattle.directory.specs.Regions.{met, Ascending}
use Rattle.directory.specs.Sections.{names, among, node_at}
use Rattle.directory.proofs.Ascents.{met-among}
use Rattle.directory.proofs.Joining.{Regions, regions, was}
use Rattle.directory.proofs.Sectioning.{among-both}
use Rattle.writer.specs.Growing.{Grows, earlier_of, inside}
use Rattle.writer.specs.Judging.{met_before}
use Rattle.writer.specs.Marks.{checked}
use Rattle.writer.specs.States.{State, so_far, ended, added}
use Rattle.writer.proofs.Growth.{closes}

-- a name met in a region is among the names there
met_there : (m name : List ℕ) (ns ms : List (List ℕ)) → ms ≡ ns → Ascending [] ns → met name ms ≡ among name ns
met_there m name ns ms is h = ap (met name) is ∙ met-among name [] ns h

module _ (m : List ℕ) (small : length m ≤ 16777216) (q : Reading) (g : Regions m small q) where
  taken_in : (p : Part) (name : List ℕ) → met_before m p q.sections name ≡ among name (earlier_of p q.nodes)
  taken_in Files name = refl
  taken_in Directories name = met_there m name _ _ g.files g.files_ascend
  taken_in Links name =
      (λ i. met_there m name _ _ g.files g.files_ascend i || met_there m name _ _ g.directories g.directories_ascend i)
      ∙ among-both name (names q.nodes.files) (names q.nodes.directories)

-- what was said of a node is what reading says once it is there
pub judged : {V : Type 0} (p : Part) (code : ℕ) (reads : ℕ → List ℕ → Result V Refusal) → Grows p code reads → (m body : List ℕ) (so : SoFar) → answered so_far_of (part_of p m) ≡ Ok so
    → length (m ++ field_bytes code body) ≤ 16777216
    → verdict (node_at code reads (met_before m p so.sections) (part m so.last) (inside (length m) body) body) ≡ verdict (part_of p (m ++ field_bytes code body))
judged p code reads grows m body so e fits =
    let w = was so_far_of (part_of p m) so e in
    let q = w.0 in
    let c = closes p m q w.1 in
    let small = leb-true (length m) 16777216 c.0 in
    let t = taken_in m small q (regions m small p q c.1) p in
    (λ i. verdict (node_at code reads (met_before m p (sym w.2 i).sections) (part m (sym w.2 i).last) (inside (length m) body) body))
    ∙ (λ i. verdict (node_at code reads (λ name. t name i) (part m q.last) (inside (length m) body) body))
    ∙ sym (grows m body q w.1 fits)

-- what ending answers is what reading the bytes so far does
module _ (s : State) (buffer : List ℕ) where
  pub kept : (so : SoFar) → Ok so ≡ checked s buffer → (eqb (length buffer) s.long ≡ true) × (answered so_far_of (part_of s.part (so_far s buffer)) ≡ Ok so)
  kept so e = passed (eqb (length buffer) s.long) (answered so_far_of (part_of s.part (so_far s buffer))) _ so (sym e)

  pub ends : (so : SoFar) → Ok so ≡ checked s buffer → ended s buffer ≡ Ok s.used
  ends so e =
      let k = kept so e in
      cond-true (eqb (length buffer) s.long) _ _ k.0 ∙ ap (λ r. next r (λ _. Ok s.used)) (was so_far_of (part_of s.part (so_far s buffer)) so k.1).1

-- what adding answers once the bytes so far were read and there is room
module _ (s : State) (buffer node : List ℕ) (so : SoFar) (e : Ok so ≡ checked s buffer) (room : has_room buffer s.used node ≡ true) where
  abbrev m : List ℕ
  m = so_far s buffer

  then : added s buffer node ≡ next (part_of s.part (m ++ node)) (λ _. Ok (s.used + length node))
  then = ap (λ r. next r (λ used. cond (has_room buffer used node) (next (part_of s.part (m ++ node)) (λ _. Ok (used + length node))) (refused 8 0))) (ends s buffer so e) ∙ cond-true (has_room buffer s.used node) _ _ room

  pub added-refused : (r : Refusal) → Err r ≡ verdict (part_of s.part (m ++ node)) → added s buffer node ≡ Err r
  added-refused r h = then ∙ go (part_of s.part (m ++ node)) h
    where
      go : (x : Result Reading Refusal) → Err r ≡ verdict x → next x (λ _. Ok (s.used + length node)) ≡ Err r
      go (Ok q) h = absurd (not_ok h)
      go (Err d) h = cc

  pub added_taken : Ok tt ≡ verdict (part_of s.part (m ++ node)) → added s buffer node ≡ Ok (s.used + length node)
  added_taken h = then ∙ go (part_of s.part (m ++ node)) h
    where
      go : (x : Result Reading Refusal) → Ok tt ≡ verdict x → next x (λ _. Ok (s.used + length node)) ≡ Ok (s.used + length node)
      go (Ok q) h = refl
      go (Err d) h = absurd (not_ok (sym h))
