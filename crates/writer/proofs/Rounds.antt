-- Whole runs: what is written is read back, and what is read is written again. Assumes nothing.
use Rattle.std.proofs.Common.{◌≡◌, ℕ, ◌+◌, ◌^◌, ◌<◌, leb, List, [], ◌∷◌, ◌++◌, length, take, Ok, sym, refl, ap, ◌∙◌, subst, arith, length-append}
use Rattle.std.proofs.lemmas.List.{length-take-le}
use Rattle.std.proofs.lemmas.Bool.{cond-true}
use Rattle.digest.specs.Digests.{Value}
use Rattle.wire.specs.Fields.{field_at}
use Rattle.wire.specs.Numbers.{form}
use Rattle.wire.specs.Refusals.{next}
use Rattle.wire.proofs.Fieldings.{went_on, field_back}
use Rattle.wire.proofs.Finding.{same_ok}
use Rattle.nodes.specs.Kinds.{FileValue, file_reads, file_writes, directory_reads, directory_writes, link_reads, link_writes, SoundFile, SoundDigest, SoundLink}
use Rattle.nodes.specs.Laws.{file_returns, directory_returns, link_accepts, link_returns}
use Rattle.directory.specs.declared.part.Part.TheVariants.{Files, Directories, Links}
use Rattle.directory.specs.Canonical.{section_bytes, encoding, GoodSection, nodes_of}
use Rattle.directory.specs.Directories.{Nodes, Reading, files_in, with_directories, directories_in, with_links, links_in, closed, directory_of, answered}
use Rattle.directory.specs.Sections.{Node, names, section_at}
use Rattle.directory.proofs.Whole.{only_canonical_is_accepted}
use Rattle.writer.specs.Runs.{Run, adds, AllSound, DigestsExist, Ended, whole, NodesTakenAreReadBack, NodesReadGiveTheSameBytes}
use Rattle.writer.specs.States.{State, on_to}
use Rattle.writer.proofs.Growth.{files, directories, links, files_stand, directories_stand, links_stand, closes}
use Rattle.writer.proofs.Stepping.{Good, good_ends, Ran, Calls, ran, all_taken}

file_calls : Calls files SoundFile SoundFile
file_calls = record { stands = files_stand; same = λ p x v sound small e. same_ok (sym (file_returns p x sound) ∙ e); asks = λ x sound. sound; returns = file_returns }

directory_calls : Calls directories SoundDigest SoundDigest
directory_calls = record { stands = directories_stand; same = λ p x v sound small e. same_ok (sym (directory_returns p x sound) ∙ e); asks = λ x sound. sound; returns = directory_returns }

-- any list may be asked for as a target
abbrev Any : List ℕ → Type 0
Any t = Unit {0}

any_links : (ns : List (Node (List ℕ))) → AllSound Any ns
any_links [] = tt
any_links (n ∷ ns) = (tt, any_links ns)

link_same : (p : ℕ) (x v : List ℕ) → Any x → length (link_writes x) < 2 ^ 63 → link_reads p (link_writes x) ≡ Ok v → x ≡ v
link_same p x v any small e =
    let wrote = (link_accepts p (link_writes x) v e).0 in
    let long = length-append (form (length x)) x in
    let sized = ap length wrote in
    let read_long = length-append (form (length v)) v in
    let fields = sym (field_back 0x12 p x [] (omega arith)) ∙ ap (λ l. field_at 0x12 p (l ++ [])) (sym wrote) ∙ field_back 0x12 p v [] (omega arith) in
    ap (λ y. y.text) (same_ok fields)

link_calls : Calls links Any SoundLink
link_calls = record { stands = links_stand; same = link_same; asks = λ x sound. tt; returns = link_returns }

-- the bytes so far are read up to the next part too

onto-directories : (s : State) (buffer : List ℕ) (d : Nodes) → Good files s buffer d → Good directories (on_to Directories s) buffer d
onto-directories s buffer d g =
    let m = take s.used buffer in
    let r = g.reading in
    let c = closes Files m r g.read in
    let f = went_on (section_at 0x0A file_reads [] 0 m) _ r c.1 in
    let only : record { files = r.nodes.files; directories = []; links = [] } ≡ r.nodes = subst (λ (q : Reading). record { files = q.nodes.files; directories = []; links = [] } ≡ q.nodes) (same_ok f.2) refl in
    record {
      part = refl;
      long = g.long;
      within = g.within;
      reading = with_directories r _;
      read =
          cond-true (leb (length m) 16777216) _ _ c.0
          ∙ ap (λ q. next (next q directories_in) closed) c.1
          ∙ ap (λ bs. next (next (section_at 0x12 directory_reads (names r.nodes.files) r.place bs) (λ s. Ok (with_directories r s))) closed) c.2;
      nodes = only ∙ g.nodes;
    }

onto-links : (s : State) (buffer : List ℕ) (d : Nodes) → Good directories s buffer d → Good links (on_to Links s) buffer d
onto-links s buffer d g =
    let m = take s.used buffer in
    let r = g.reading in
    let c = closes Directories m r g.read in
    let two = went_on (files_in m) directories_in r c.1 in
    let x = two.0 in
    let f = went_on (section_at 0x12 directory_reads (names x.nodes.files) x.place x.rest) (λ s. Ok (with_directories x s)) r two.2 in
    let only : record { files = r.nodes.files; directories = r.nodes.directories; links = [] } ≡ r.nodes =
    subst (λ (q : Reading). record { files = q.nodes.files; directories = q.nodes.directories; links = [] } ≡ q.nodes) (same_ok f.2) refl in
    record {
      part = refl;
      long = g.long;
      within = g.within;
      reading = with_links r _;
      read =
          cond-true (leb (length m) 16777216) _ _ c.0
          ∙ ap (λ q. next (next q links_in) closed) c.1
          ∙ ap (λ bs. next (next (section_at 0x1A link_reads (names r.nodes.files ++ names r.nodes.directories) r.place bs) (λ s. Ok (with_links r s))) closed) c.2;
      nodes = only ∙ g.nodes;
    }

module _ (asked : Nodes) (buffer : List ℕ) where
  abbrev start : State
  start = record { part = Files; used = 0; long = length buffer }

  abbrev empty : Nodes
  empty = record { files = []; directories = []; links = [] }

  abbrev one : Run FileValue
  one = adds 0x0A file_writes asked.files start buffer

  abbrev two : Run Value
  two = adds 0x12 directory_writes asked.directories (on_to Directories one.state) one.buffer

  abbrev three : Run (List ℕ)
  three = adds 0x1A link_writes asked.links (on_to Links two.state) two.buffer

  begins : Good files start buffer empty
  begins = record { part = refl; long = refl; within = omega arith; reading = _; read = refl; nodes = refl }

  module _ (exist : DigestsExist asked) where
    ran_one : Ran files one start buffer empty
    ran_one = ran file_calls asked.files exist.files start buffer empty begins

    good_two : Good directories (on_to Directories one.state) one.buffer (record { files = one.taken; directories = []; links = [] })
    good_two = onto-directories one.state one.buffer _ ran_one.good

    ran_two : Ran directories two (on_to Directories one.state) one.buffer (record { files = one.taken; directories = []; links = [] })
    ran_two = ran directory_calls asked.directories exist.directories (on_to Directories one.state) one.buffer _ good_two

    good_three : Good links (on_to Links two.state) two.buffer (record { files = one.taken; directories = two.taken; links = [] })
    good_three = onto-links two.state two.buffer _ ran_two.good

    ran_three : Ran links three (on_to Links two.state) two.buffer (record { files = one.taken; directories = two.taken; links = [] })
    ran_three = ran link_calls asked.links (any_links asked.links) (on_to Links two.state) two.buffer _ good_three

    ends : Ended (whole asked buffer)
    ends =
        let g = ran_three.good in
        let read : answered nodes_of (directory_of (take three.state.used three.buffer)) ≡ Ok (whole asked buffer).taken = ap (answered nodes_of) g.read ∙ ap Ok g.nodes in
        record {
          count = good_ends links three.state three.buffer _ g;
          bytes = sym (only_canonical_is_accepted (take three.state.used three.buffer) (whole asked buffer).taken read).1;
          read = read;
        }

pub nodes_taken_are_read_back : NodesTakenAreReadBack
nodes_taken_are_read_back asked buffer exist small = ends asked buffer exist

all_sound : {V : Type 0} (Sound : V → Type 0) (earlier : List (List ℕ)) (prev : List ℕ) (ns : List (Node V)) → GoodSection Sound earlier prev ns → AllSound Sound ns
all_sound Sound earlier prev [] good = tt
all_sound Sound earlier prev (n ∷ ns) good = (good.1, all_sound Sound earlier n.name ns good.2)

pub nodes_read_give_the_same_bytes : NodesReadGiveTheSameBytes
nodes_read_give_the_same_bytes m d buffer e fits small =
    let canonical = only_canonical_is_accepted m d e in
    let c = canonical.0 in
    let exist : DigestsExist d = record { files = all_sound SoundFile [] [] d.files c.files; directories = all_sound SoundDigest (names d.files) [] d.directories c.directories } in
    let f = one d buffer in
    let g = two d buffer in
    let h = three d buffer in
    let files_bytes = section_bytes 0x0A file_writes d.files in
    let directories_bytes = section_bytes 0x12 directory_writes d.directories in
    let links_bytes = section_bytes 0x1A link_writes d.links in
    let long = ap length canonical.1 in
    let front = length-append files_bytes (directories_bytes ++ links_bytes) in
    let back = length-append directories_bytes links_bytes in
    let r1 = ran_one d buffer exist in
    let size1 = r1.size in
    let is1 : f.taken ≡ d.files = all_taken file_calls d.files (start d buffer) buffer (empty d buffer) (begins d buffer) small c.files (omega arith) in
    let used1 : f.state.used ≡ 0 + length files_bytes = r1.used ∙ ap (λ l. 0 + length (section_bytes 0x0A file_writes l)) is1 in
    let r2 = ran_two d buffer exist in
    let size2 = r2.size in
    let is2 : g.taken ≡ d.directories = all_taken directory_calls d.directories (on_to Directories f.state) f.buffer _ (good_two d buffer exist) (omega arith) (subst (λ l. GoodSection SoundDigest (names l) [] d.directories) (sym is1) c.directories) (omega arith) in
    let used2 : g.state.used ≡ f.state.used + length directories_bytes = r2.used ∙ ap (λ l. f.state.used + length (section_bytes 0x12 directory_writes l)) is2 in
    let is3 : h.taken ≡ d.links = all_taken link_calls d.links (on_to Links g.state) g.buffer _ (good_three d buffer exist) (omega arith) (subst (λ l. GoodSection SoundLink (names l ++ names g.taken) [] d.links) (sym is1) (subst (λ l. GoodSection SoundLink (names d.files ++ names l) [] d.links) (sym is2) c.links)) (omega arith) in
    let taken : (whole d buffer).taken ≡ d = λ i. record { files = is1 i; directories = is2 i; links = is3 i } in
    let end = ends d buffer exist in
    let bytes : take h.state.used h.buffer ≡ m = end.bytes ∙ ap encoding taken ∙ canonical.1 in
    let used : h.state.used ≡ length m = sym (length-take-le h.state.used h.buffer (ran_three d buffer exist).good.within) ∙ ap length bytes in
    (taken, end.count ∙ ap Ok used, ap (λ n. take n h.buffer) (sym used) ∙ bytes)
