-- The calls of one part, one behind the other. Assumes nothing.
use Rattle.std.proofs.Common.{◌≡◌, ℕ, ◌+◌, ◌^◌, ◌<◌, ◌≤◌, cond, eqb, leb, List, [], ◌∷◌, ◌++◌, length, take, drop, Ok, Err, Result, sym, refl, ap, ◌∙◌, subst, append_assoc, arith, length-append, length-drop}
use Rattle.std.proofs.lemmas.List.{length-take-le, take_at}
use Rattle.std.proofs.lemmas.Bool.{cond-true, le-leb, leb-true, eq-eqb}
use Rattle.wire.specs.Fields.{field_bytes}
use Rattle.wire.specs.Numbers.{form}
use Rattle.wire.specs.Refusals.{Refusal, refused, next}
use Rattle.wire.specs.Writing.{has_room, written}
use Rattle.wire.proofs.Fieldings.{went_on, passed, field_back}
use Rattle.wire.proofs.Finding.{same_ok}
use Rattle.nodes.specs.Nodes.{node_bytes}
use Rattle.directory.specs.Canonical.{GoodSection, section_bytes}
use Rattle.directory.specs.Directories.{Nodes, Reading, part_of}
use Rattle.directory.specs.Sections.{Node, Named, among, node_at}
use Rattle.directory.proofs.OneSection.{node_back}
use Rattle.directory.proofs.Onward.{last_name}
use Rattle.writer.specs.Growing.{earlier_of, inside}
use Rattle.writer.specs.Runs.{Run, taken_if, adds, AllSound}
use Rattle.writer.specs.States.{State, so_far, ended, added, state_after, buffer_after}
use Rattle.writer.proofs.Growth.{Kind, Stands, nodes_with_one, grows_by, grows_ok}
use Rattle.writer.proofs.OneMore.{node_parts, node_of}

-- x written at the place `at` of a buffer that has room for it
module _ (buffer : List ℕ) (at : ℕ) (x : List ℕ) (room : at + length x ≤ length buffer) where
  abbrev back : List ℕ
  back = drop (at + length x) buffer

  front_long : length (take at buffer ++ x) ≡ at + length x
  front_long = length-append (take at buffer) x ∙ ap (λ n. n + length x) (length-take-le at buffer (omega arith))

  split : written buffer at x ≡ (take at buffer ++ x) ++ back
  split = sym (append_assoc (take at buffer) x back)

  taken_written : take (at + length x) (written buffer at x) ≡ take at buffer ++ x
  taken_written = ap (take (at + length x)) split ∙ take_at (take at buffer ++ x) back _ front_long

  written_long : length (written buffer at x) ≡ length buffer
  written_long = let l = ap length split ∙ length-append (take at buffer ++ x) back in omega (arith, front_long, length-drop (at + length x) buffer)

-- what a call that was not refused says
record Took (s : State) (buffer node : List ℕ) (used : ℕ) : Type 0 where
  room : s.used + length node ≤ length buffer
  reading : Reading
  read : part_of s.part (so_far s buffer ++ node) ≡ Ok reading
  count : s.used + length node ≡ used

took : (s : State) (buffer node : List ℕ) (used : ℕ) → added s buffer node ≡ Ok used → Took s buffer node used
took s buffer node used e =
    let end = went_on (ended s buffer) _ used e in
    let so = went_on (part_of s.part (so_far s buffer)) (λ _. Ok s.used) end.0 (passed (eqb (length buffer) s.long) _ _ end.0 end.1).1 in
    let same : s.used ≡ end.0 = same_ok so.2 in
    let fits = passed (has_room buffer end.0 node) _ _ used end.2 in
    let read = went_on (part_of s.part (so_far s buffer ++ node)) (λ _. Ok (end.0 + length node)) used fits.1 in
    let room = leb-true _ _ fits.0 in
    let count : end.0 + length node ≡ used = same_ok read.2 in
    record { room = omega arith; reading = read.0; read = read.1; count = omega arith }

-- where a part's calls stand: the bytes so far are read as the nodes d
pub record Good {V : Type 0} (k : Kind V) (s : State) (buffer : List ℕ) (d : Nodes) : Type 0 where
  pub part : s.part ≡ k.part
  pub long : length buffer ≡ s.long
  pub within : s.used ≤ length buffer
  pub reading : Reading
  pub read : part_of k.part (take s.used buffer) ≡ Ok reading
  pub nodes : reading.nodes ≡ d

module _ {V : Type 0} (k : Kind V) (s : State) (buffer : List ℕ) (d : Nodes) (g : Good k s buffer d) where
  pub good_ends : ended s buffer ≡ Ok s.used
  good_ends =
      cond-true (eqb (length buffer) s.long) _ _ (eq-eqb _ _ g.long)
      ∙ ap (λ p. next (part_of p (take s.used buffer)) (λ _. Ok s.used)) g.part
      ∙ ap (λ r. next r (λ _. Ok s.used)) g.read

-- what calls leave: the nodes taken are put behind d, and their bytes are counted
pub record Ran {V : Type 0} (k : Kind V) (run : Run V) (s : State) (buffer : List ℕ) (d : Nodes) : Type 0 where
  pub good : Good k run.state run.buffer (k.put run.taken d)
  pub used : run.state.used ≡ s.used + length (section_bytes k.tag k.writes run.taken)
  pub size : length run.buffer ≡ length buffer

last_one : {V : Type 0} (prev : List ℕ) (ns : List (Node V)) (n : Node V) → last_name prev (ns ++ (n ∷ [])) ≡ n.name
last_one prev [] n = refl
last_one prev (m ∷ ns) n = last_one m.name ns n

-- what the calls of a part rest on: values asked for are read from their bytes alone, and sound ones are read
pub record Calls {V : Type 0} (k : Kind V) (Asked Sound : V → Type 0) : Type 0 where
  pub stands : (m : List ℕ) (r : Reading) → part_of k.part m ≡ Ok r → Stands k m r
  pub same : (p : ℕ) (x v : V) → Asked x → length (k.writes x) < 2 ^ 63 → k.reads p (k.writes x) ≡ Ok v → x ≡ v
  pub asks : (x : V) → Sound x → Asked x
  pub returns : (p : ℕ) (x : V) → Sound x → k.reads p (k.writes x) ≡ Ok x

module _ {V : Type 0} {k : Kind V} {Asked Sound : V → Type 0} (law : Calls k Asked Sound) where
  abbrev bytes : Node V → List ℕ
  bytes n = node_bytes k.tag n.name (k.writes n.rest)

  -- a node that is read from the bytes of a node is that node
  node_is : (taken : List (List ℕ)) (prev : List ℕ) (q : ℕ) (n : Node V) (x : Named V) → Asked n.rest → length (bytes n) < 2 ^ 63
      → node_at k.tag k.reads (λ t. among t taken) prev q (field_bytes 0x0A n.name ++ k.writes n.rest) ≡ Ok x → node_of x ≡ n
  node_is taken prev q n x asked small e =
      let w = k.writes n.rest in
      let body = field_bytes 0x0A n.name ++ w in
      let a = length-append (form (length body)) body in
      let b = length-append (field_bytes 0x0A n.name) w in
      let c = length-append (form (length n.name)) n.name in
      let parts = node_parts k.tag k.reads (λ t. among t taken) prev q body x e in
      let name = same_ok (sym (field_back 0x0A q n.name w (omega arith)) ∙ parts.0) in
      let value = law.same (inside q n.name + length n.name) n.rest x.value asked (omega arith) (ap (λ y. k.reads (y.place + length y.text) y.rest) name ∙ parts.1) in
      λ i. record { name = (sym name i).text; rest = sym value i }

  module _ (n : Node V) (asked : Asked n.rest) (s : State) (buffer : List ℕ) (d : Nodes) (g : Good k s buffer d) where
    -- a call that was not refused adds its node
    one_added : (used : ℕ) → added s buffer (bytes n) ≡ Ok used → Good k (state_after s (Ok used)) (written buffer s.used (bytes n)) (k.put (n ∷ []) d)
    one_added used e =
        let t = took s buffer (bytes n) used e in
        let m = take s.used buffer in
        let body = field_bytes 0x0A n.name ++ k.writes n.rest in
        let room = t.room in
        let count = t.count in
        let size = written_long buffer s.used (bytes n) room in
        let st = law.stands m g.reading g.read in
        let read : part_of k.part (m ++ bytes n) ≡ Ok t.reading = ap (λ p. part_of p (m ++ bytes n)) (sym g.part) ∙ t.read in
        let small = leb-true _ _ (passed (leb (length (m ++ bytes n)) 16777216) _ _ t.reading read).0 in
        let long = length-append m (bytes n) in
        let grown = went_on _ _ t.reading (sym (grows_by k m g.reading st body small) ∙ read) in
        let node : node_of grown.0 ≡ n = node_is (earlier_of k.part g.reading.nodes) (last_name [] (k.of g.reading.nodes)) (inside (length m) body) n grown.0 asked (omega arith) grown.1 in
        let same_long = g.long in
        record {
          part = g.part;
          long = size ∙ same_long;
          within = omega arith;
          reading = t.reading;
          read = ap (part_of k.part) (ap (λ u. take u (written buffer s.used (bytes n))) (sym count) ∙ taken_written buffer s.used (bytes n) room) ∙ read;
          nodes = ap (λ (q : Reading). q.nodes) (sym (same_ok grown.2)) ∙ nodes_with_one k m g.reading st (inside (length m) body + length body) grown.0 ∙ (λ i. k.put (node i ∷ []) (g.nodes i));
        }

    -- and then come the others
    one_and_more : (ns : List (Node V)) → ((s : State) (buffer : List ℕ) (d : Nodes) → Good k s buffer d → Ran k (adds k.tag k.writes ns s buffer) s buffer d) → Ran k (adds k.tag k.writes (n ∷ ns) s buffer) s buffer d
    one_and_more ns others = go (added s buffer (bytes n)) refl
      where
        Done : Result ℕ Refusal → Type 0
        Done a =
            let more = adds k.tag k.writes ns (state_after s a) (buffer_after s buffer (bytes n) a) in
            Ran k (record { state = more.state; buffer = more.buffer; taken = taken_if n a more.taken }) s buffer d

        go : (a : Result ℕ Refusal) → added s buffer (bytes n) ≡ a → Done a
        go (Err e) is = others s buffer d g
        go (Ok used) is =
            let t = took s buffer (bytes n) used is in
            let count = t.count in
            let more = others (state_after s (Ok used)) (written buffer s.used (bytes n)) (k.put (n ∷ []) d) (one_added used is) in
            let run = adds k.tag k.writes ns (state_after s (Ok used)) (written buffer s.used (bytes n)) in
            let end = more.used in
            let sum = length-append (bytes n) (section_bytes k.tag k.writes run.taken) in
            record {
              good = subst (Good k run.state run.buffer) (sym (k.more (n ∷ []) run.taken d)) more.good;
              used = omega arith;
              size = more.size ∙ written_long buffer s.used (bytes n) t.room;
            }

  -- any calls, some of them refused
  pub ran : (ns : List (Node V)) → AllSound Asked ns → (s : State) (buffer : List ℕ) (d : Nodes) → Good k s buffer d → Ran k (adds k.tag k.writes ns s buffer) s buffer d
  ran [] sound s buffer d g = record { good = subst (Good k s buffer) (sym (k.none d)) g; used = omega arith; size = refl }
  ran (n ∷ ns) sound s buffer d g = one_and_more n sound.0 s buffer d g ns (ran ns sound.1)

  -- nodes that keep the rules and have room are all taken
  pub all_taken : (ns : List (Node V)) (s : State) (buffer : List ℕ) (d : Nodes) → Good k s buffer d → length buffer ≤ 16777216
      → GoodSection Sound (earlier_of k.part d) (last_name [] (k.of d)) ns
      → s.used + length (section_bytes k.tag k.writes ns) ≤ length buffer
      → (adds k.tag k.writes ns s buffer).taken ≡ ns
  all_taken [] s buffer d g small good room = refl
  all_taken (n ∷ ns) s buffer d g small good room =
      let node = bytes n in
      let m = take s.used buffer in
      let used = s.used + length node in
      let body = field_bytes 0x0A n.name ++ k.writes n.rest in
      let sum = length-append node (section_bytes k.tag k.writes ns) in
      let fits : used ≤ length buffer = omega arith in
      let long = front_long buffer s.used node fits in
      let within : length (m ++ node) ≤ 16777216 = omega arith in
      let r = g.reading in
      let name = subst (λ q. GoodSection Sound (earlier_of k.part q) (last_name [] (k.of q)) (n ∷ ns)) (sym g.nodes) good in
      let read = grows_ok k m r (law.stands m r g.read) body _ within
      (node_back k.tag k.reads k.writes Sound (earlier_of k.part r.nodes) law.returns (last_name [] (k.of r.nodes)) (inside (length m) body) n name.0 name.1) in
      let is : added s buffer node ≡ Ok used =
      ap (λ r. next r (λ used. cond (has_room buffer used node) (next (part_of s.part (so_far s buffer ++ node)) (λ _. Ok (used + length node))) (refused 8 0))) (good_ends k s buffer d g)
      ∙ cond-true (has_room buffer s.used node) _ _ (le-leb _ _ fits)
      ∙ ap (λ p. next (part_of p (m ++ node)) (λ _. Ok used)) g.part
      ∙ ap (λ r. next r (λ _. Ok used)) read.1 in
      let one = one_added n (law.asks n.rest good.1) s buffer d g used is in
      let size = written_long buffer s.used node fits in
      let d' = k.put (n ∷ []) d in
      let then : GoodSection Sound (earlier_of k.part d') (last_name [] (k.of d')) ns =
      subst (λ q. GoodSection Sound (earlier_of k.part d') q ns) (sym (ap (last_name []) (k.last (n ∷ []) d) ∙ last_one [] (k.of d) n))
      (subst (λ q. GoodSection Sound q n.name ns) (sym (k.earlier (n ∷ []) d)) good.2) in
      ap (λ a. taken_if n a (adds k.tag k.writes ns (state_after s a) (buffer_after s buffer node a)).taken) is
      ∙ ap (λ l. n ∷ l) (all_taken ns (state_after s (Ok used)) (written buffer s.used node) d' one (omega arith) then (omega arith))
