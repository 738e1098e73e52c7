-- Bytes that were read up to a part grow by a node of that part. Assumes nothing.
use Rattle.std.proofs.Common.{◌≡◌, ℕ, ◌+◌, ◌≤◌, true, leb, List, [], ◌∷◌, ◌++◌, length, Ok, Err, Result, sym, refl, ap, ◌∙◌, subst, append_assoc, append-nil, arith, length-append}
use Rattle.std.proofs.lemmas.Bool.{cond-true, le-leb}
use Rattle.digest.specs.Digests.{Value}
use Rattle.wire.specs.declared.field.Span.{Span}
use Rattle.wire.specs.Fields.{field_bytes}
use Rattle.wire.specs.Numbers.{form}
use Rattle.wire.specs.Refusals.{Refusal, next}
use Rattle.wire.proofs.Fieldings.{went_on, passed}
use Rattle.wire.proofs.Finding.{same_ok}
use Rattle.nodes.specs.Kinds.{part, FileValue, file_reads, file_writes, directory_reads, directory_writes, link_reads, link_writes, SoundFile, SoundDigest}
use Rattle.nodes.specs.Laws.{ended_all, file_accepts, file_returns, directory_accepts, directory_returns}
use Rattle.directory.specs.declared.part.Part.{Part}
use Rattle.directory.specs.declared.part.Part.TheVariants.{Files, Directories, Links}
use Rattle.directory.specs.declared.part.Sections.{Sections}
use Rattle.directory.specs.Canonical.{section_bytes}
use Rattle.directory.specs.Directories.{Nodes, Reading, with_files, files_in, with_directories, directories_in, links_in, up_to, closed, part_of}
use Rattle.directory.specs.Sections.{Node, Named, Section, names, among, node_at, section, nobody, section_at}
use Rattle.directory.proofs.OneSection.{Stops, Accepted, accepted, returned}
use Rattle.directory.proofs.Onward.{last_name}
use Rattle.directory.proofs.Whole.{sectioned}
use Rattle.nodes.specs.Values.{verdict}
use Rattle.writer.specs.Growing.{earlier_of, inside, Grows}
use Rattle.writer.proofs.OneMore.{next-next, node_of, grown, last_name_lem, one_more}

-- a part with its kind of node: the part's nodes, and nodes more at the end of the part
pub record Kind (V : Type 0) : Type 0 where
  pub part : Part
  pub tag : ℕ
  pub reads : ℕ → List ℕ → Result V Refusal
  pub writes : V → List ℕ
  pub of : Nodes → List (Node V)
  pub put : List (Node V) → Nodes → Nodes
  pub none : (d : Nodes) → put [] d ≡ d
  pub more : (ns ms : List (Node V)) (d : Nodes) → put (ns ++ ms) d ≡ put ms (put ns d)
  pub last : (ns : List (Node V)) (d : Nodes) → of (put ns d) ≡ of d ++ ns
  pub earlier : (ns : List (Node V)) (d : Nodes) → earlier_of part (put ns d) ≡ earlier_of part d

abbrev pub files : Kind FileValue
files = record {
  part = Files;
  tag = 0x0A;
  reads = file_reads;
  writes = file_writes;
  of = λ d. d.files;
  put = λ ns d. record { files = d.files ++ ns; directories = d.directories; links = d.links };
  none = λ d. ap (λ l. record { files = l; directories = d.directories; links = d.links }) (append-nil d.files);
  more = λ ns ms d. ap (λ l. record { files = l; directories = d.directories; links = d.links }) (sym (append_assoc d.files ns ms));
  last = λ ns d. refl;
  earlier = λ ns d. refl;
}

abbrev pub directories : Kind Value
directories = record {
  part = Directories;
  tag = 0x12;
  reads = directory_reads;
  writes = directory_writes;
  of = λ d. d.directories;
  put = λ ns d. record { files = d.files; directories = d.directories ++ ns; links = d.links };
  none = λ d. ap (λ l. record { files = d.files; directories = l; links = d.links }) (append-nil d.directories);
  more = λ ns ms d. ap (λ l. record { files = d.files; directories = l; links = d.links }) (sym (append_assoc d.directories ns ms));
  last = λ ns d. refl;
  earlier = λ ns d. refl;
}

abbrev pub links : Kind (List ℕ)
links = record {
  part = Links;
  tag = 0x1A;
  reads = link_reads;
  writes = link_writes;
  of = λ d. d.links;
  put = λ ns d. record { files = d.files; directories = d.directories; links = d.links ++ ns };
  none = λ d. ap (λ l. record { files = d.files; directories = d.directories; links = l }) (append-nil d.links);
  more = λ ns ms d. ap (λ l. record { files = d.files; directories = d.directories; links = l }) (sym (append_assoc d.links ns ms));
  last = λ ns d. refl;
  earlier = λ ns d. refl;
}

-- what was read, by its last section
abbrev pub reading : {V : Type 0} → (List (Node V) → Nodes) → (ℕ → Sections) → Section V → Reading
reading put cuts s = record { nodes = put s.nodes; sections = cuts s.place; last = s.last; place = s.place; rest = s.rest }

-- the message m, read up to a part as r: the part's section at its end, the front and the nodes before it, and how m is read with a field of the part's tag behind it
pub record Stands {V : Type 0} (k : Kind V) (m : List ℕ) (r : Reading) : Type 0 where
  pub base : Nodes
  pub cuts : ℕ → Sections
  pub front : List ℕ
  pub bytes : List ℕ
  pub place : ℕ
  pub section : Section V
  pub fresh : k.of base ≡ []
  pub split : front ++ bytes ≡ m
  pub here : place ≡ length front
  pub read : section_at k.tag k.reads (earlier_of k.part base) place bytes ≡ Ok section
  pub whole : section.rest ≡ []
  pub is : reading (λ ns. k.put ns base) cuts section ≡ r
  pub goes : (body : List ℕ) → length (m ++ field_bytes k.tag body) ≤ 16777216
      → part_of k.part (m ++ field_bytes k.tag body)
      ≡ next (next (section_at k.tag k.reads (earlier_of k.part base) place (bytes ++ field_bytes k.tag body)) (λ s. Ok (reading (λ ns. k.put ns base) cuts s))) closed

both_stop : (tag : ℕ) (rest x : List ℕ) → Stops tag rest → Stops tag x → Stops tag (rest ++ x)
both_stop tag [] x a b = b
both_stop tag (c ∷ cs) x a b = a

module _ {V : Type 0} (tag : ℕ) (reads : ℕ → List ℕ → Result V Refusal) (writes : V → List ℕ) (Sound : V → Type 0) (earlier : List (List ℕ))
    (accepts : (p : ℕ) (bs : List ℕ) (x : V) → reads p bs ≡ Ok x → (writes x ≡ bs) × Sound x)
    (returns : (p : ℕ) (x : V) → Sound x → reads p (writes x) ≡ Ok x)
    (p : ℕ) (bs : List ℕ) (s : Section V) (e : section_at tag reads earlier p bs ≡ Ok s) where
  was : Accepted tag reads writes Sound earlier [] p bs s
  was = accepted tag reads writes Sound earlier accepts (length bs) (nobody p) p bs s (omega arith) e

  -- a section is read as before where bytes of another tag are put behind the message
  kept : (x : List ℕ) → Stops tag x → length (bs ++ x) ≤ 16777216 → (l : Span) × (section_at tag reads earlier p (bs ++ x) ≡ Ok (record { nodes = s.nodes; last = l; place = s.place; rest = s.rest ++ x }))
  kept x stop small =
      let a = was in
      let whole : bs ++ x ≡ section_bytes tag writes s.nodes ++ (s.rest ++ x) = ap (λ l. l ++ x) a.bytes ∙ append_assoc (section_bytes tag writes s.nodes) s.rest x in
      let long = ap length whole in
      let back = returned tag reads writes Sound earlier returns (length (bs ++ x)) (nobody p) p s.nodes (s.rest ++ x) (omega arith) (omega arith) a.good (both_stop tag s.rest x a.stops stop) in (
        back.0,
        ap (section tag reads (λ t. among t earlier) (length (bs ++ x)) (nobody p) p) whole ∙ back.1 ∙ ap (λ q. Ok (record { nodes = s.nodes; last = back.0; place = q; rest = s.rest ++ x })) (sym a.place),
      )

-- what was read up to a part, whole
pub closes : (p : Part) (m : List ℕ) (r : Reading) → part_of p m ≡ Ok r → (leb (length m) 16777216 ≡ true) × (up_to p m ≡ Ok r) × (r.rest ≡ [])
closes p m r e =
    let sized = passed (leb (length m) 16777216) _ _ r e in
    let up = went_on (up_to p m) closed r sized.1 in
    let end = ended_all up.0 up.0.place up.0.rest r up.2 in
    (sized.0, up.1 ∙ ap Ok end.1, ap (λ (q : Reading). q.rest) (sym end.1) ∙ end.0)

pub files_stand : (m : List ℕ) (r : Reading) → part_of Files m ≡ Ok r → Stands files m r
files_stand m r e =
    let c = closes Files m r e in
    let f = went_on (section_at 0x0A file_reads [] 0 m) _ r c.1 in
    let is = same_ok f.2 in
    record {
      base = record { files = []; directories = []; links = [] };
      cuts = λ q. record { directories = q; links = q };
      front = [];
      bytes = m;
      place = 0;
      section = f.0;
      fresh = refl;
      split = refl;
      here = refl;
      read = f.1;
      whole = ap (λ (q : Reading). q.rest) is ∙ c.2;
      is = is;
      goes = λ body small. cond-true (leb (length (m ++ field_bytes 0x0A body)) 16777216) _ _ (le-leb _ _ small);
    }

pub directories_stand : (m : List ℕ) (r : Reading) → part_of Directories m ≡ Ok r → Stands directories m r
directories_stand m r e =
    let c = closes Directories m r e in
    let two = went_on (files_in m) directories_in r c.1 in
    let f = went_on (section_at 0x0A file_reads [] 0 m) _ two.0 two.1 in
    let fs = f.0 in
    let d = went_on (section_at 0x12 directory_reads (names fs.nodes) fs.place fs.rest) (λ s. Ok (with_directories (with_files fs) s)) r (subst (λ q. directories_in q ≡ Ok r) (sym (same_ok f.2)) two.2) in
    let is = same_ok d.2 in
    let b = was 0x0A file_reads file_writes SoundFile [] file_accepts file_returns 0 m fs f.1 in
    let at = b.place in
    record {
      base = record { files = fs.nodes; directories = []; links = [] };
      cuts = λ q. record { directories = fs.place; links = q };
      front = section_bytes 0x0A file_writes fs.nodes;
      bytes = fs.rest;
      place = fs.place;
      section = d.0;
      fresh = refl;
      split = sym b.bytes;
      here = omega arith;
      read = d.1;
      whole = ap (λ (q : Reading). q.rest) is ∙ c.2;
      is = is;
      goes = λ body small.
          let x = field_bytes 0x12 body in
          let k = kept 0x0A file_reads file_writes SoundFile [] file_accepts file_returns 0 m fs f.1 x (λ z. omega arith) small in
          cond-true (leb (length (m ++ x)) 16777216) _ _ (le-leb _ _ small)
          ∙ ap (λ r. next (next (next r (λ s. Ok (with_files s))) directories_in) closed) k.1;
    }

pub links_stand : (m : List ℕ) (r : Reading) → part_of Links m ≡ Ok r → Stands links m r
links_stand m r e =
    let c = closes Links m r e in
    let all = sectioned m r c.1 in
    let fs = all.files in
    let ds = all.directories in
    let files_bytes = section_bytes 0x0A file_writes fs.nodes in
    let directories_bytes = section_bytes 0x12 directory_writes ds.nodes in
    let b = was 0x0A file_reads file_writes SoundFile [] file_accepts file_returns 0 m fs all.files_read in
    let d = was 0x12 directory_reads directory_writes SoundDigest (names fs.nodes) directory_accepts directory_returns fs.place fs.rest ds all.directories_read in
    let at = b.place in
    let then = d.place in
    let sum = length-append files_bytes directories_bytes in
    record {
      base = record { files = fs.nodes; directories = ds.nodes; links = [] };
      cuts = λ q. record { directories = fs.place; links = ds.place };
      front = files_bytes ++ directories_bytes;
      bytes = ds.rest;
      place = ds.place;
      section = all.links;
      fresh = refl;
      split = append_assoc files_bytes directories_bytes ds.rest ∙ ap (λ l. files_bytes ++ l) (sym d.bytes) ∙ sym b.bytes;
      here = omega arith;
      read = all.links_read;
      whole = ap (λ (q : Reading). q.rest) all.whole ∙ c.2;
      is = all.whole;
      goes = λ body small.
          let x = field_bytes 0x1A body in
          let whole = ap length b.bytes ∙ length-append files_bytes fs.rest in
          let long = length-append m x in
          let rest = length-append fs.rest x in
          let k = kept 0x0A file_reads file_writes SoundFile [] file_accepts file_returns 0 m fs all.files_read x (λ z. omega arith) small in
          let l = kept 0x12 directory_reads directory_writes SoundDigest (names fs.nodes) directory_accepts directory_returns fs.place fs.rest ds all.directories_read x (λ z. omega arith) (omega arith) in
          cond-true (leb (length (m ++ x)) 16777216) _ _ (le-leb _ _ small)
          ∙ ap (λ r. next (next (next (next r (λ s. Ok (with_files s))) directories_in) links_in) closed) k.1
          ∙ ap (λ r. next (next (next r (λ s. Ok (with_directories (with_files (record { nodes = fs.nodes; last = k.0; place = fs.place; rest = fs.rest ++ x })) s))) links_in) closed) l.1;
    }

verdict-next : {A B : Type 0} (r : Result A Refusal) (f : A → B) → verdict (next r (λ x. Ok (f x))) ≡ verdict r
verdict-next (Ok x) f = refl
verdict-next (Err e) f = refl

module _ {V : Type 0} (k : Kind V) (m : List ℕ) (r : Reading) (st : Stands k m r) where
  of_is : k.of r.nodes ≡ st.section.nodes
  of_is = ap (λ (q : Reading). k.of q.nodes) (sym st.is) ∙ k.last st.section.nodes st.base ∙ ap (λ l. l ++ st.section.nodes) st.fresh

  earlier_is : earlier_of k.part st.base ≡ earlier_of k.part r.nodes
  earlier_is = sym (k.earlier st.section.nodes st.base) ∙ ap (λ (q : Reading). earlier_of k.part q.nodes) st.is

  -- the text at the last span is the last name
  pub last_is : part m r.last ≡ last_name [] (k.of r.nodes)
  last_is =
      ap (λ (q : Reading). part m q.last) (sym st.is)
      ∙ last_name_lem k.tag k.reads (earlier_of k.part st.base) st.place st.bytes st.section st.read m st.front st.split st.here
      ∙ ap (last_name []) (sym of_is)

  -- what is read with the node n more, up to the place q
  abbrev with_one : ℕ → Named V → Reading
  with_one q n = reading (λ ns. k.put ns st.base) st.cuts (grown st.section q n)

  pub nodes_with_one : (q : ℕ) (n : Named V) → (with_one q n).nodes ≡ k.put (node_of n ∷ []) r.nodes
  nodes_with_one q n = k.more st.section.nodes (node_of n ∷ []) st.base ∙ ap (λ (x : Reading). k.put (node_of n ∷ []) x.nodes) st.is

  -- a field more is judged as a node behind the last name, and read as one
  pub grows_by : (body : List ℕ) → length (m ++ field_bytes k.tag body) ≤ 16777216
      → part_of k.part (m ++ field_bytes k.tag body)
      ≡ next (node_at k.tag k.reads (λ t. among t (earlier_of k.part r.nodes)) (last_name [] (k.of r.nodes)) (inside (length m) body) body) (λ n. Ok (with_one (inside (length m) body + length body) n))
  grows_by body small =
      let x = field_bytes k.tag body in
      let long = length-append m x in
      let head = length-append (form (length body)) body in
      let whole = ap length st.split in
      let parts = length-append st.front st.bytes in
      let front = st.here in
      let end : st.place + length st.bytes ≡ length m = omega arith in
      let judge : List (List ℕ) → List ℕ → ℕ → Result (Named V) Refusal = λ earlier prev p. node_at k.tag k.reads (λ t. among t earlier) prev (inside p body) body in
      st.goes body small
      ∙ ap (λ r. next (next r (λ s. Ok (reading (λ ns. k.put ns st.base) st.cuts s))) closed) (one_more k.tag k.reads (earlier_of k.part st.base) st.place st.bytes st.section st.read body (omega arith) st.whole)
      ∙ ap (λ r. next r closed) (next-next (judge (earlier_of k.part st.base) (last_name [] st.section.nodes) (st.place + length st.bytes)) _ _)
      ∙ next-next (judge (earlier_of k.part st.base) (last_name [] st.section.nodes) (st.place + length st.bytes)) _ _
      ∙ (λ i. next (judge (earlier_is i) (last_name [] (sym of_is i)) (end i)) (λ n. Ok (with_one (inside (end i) body + length body) n)))

  -- where that node is read, so is the whole
  pub grows_ok : (body : List ℕ) (x : Named V) → length (m ++ field_bytes k.tag body) ≤ 16777216
      → node_at k.tag k.reads (λ t. among t (earlier_of k.part r.nodes)) (last_name [] (k.of r.nodes)) (inside (length m) body) body ≡ Ok x
      → (q : Reading) × (part_of k.part (m ++ field_bytes k.tag body) ≡ Ok q)
  grows_ok body x small e = (with_one (inside (length m) body + length body) x, grows_by body small ∙ ap (λ r. next r (λ n. Ok (with_one (inside (length m) body + length body) n))) e)

  grows : (body : List ℕ) → length (m ++ field_bytes k.tag body) ≤ 16777216
      → verdict (part_of k.part (m ++ field_bytes k.tag body)) ≡ verdict (node_at k.tag k.reads (λ t. among t (earlier_of k.part r.nodes)) (part m r.last) (inside (length m) body) body)
  grows body small =
      ap verdict (grows_by body small) ∙ verdict-next _ _
      ∙ ap (λ t. verdict (node_at k.tag k.reads (λ t. among t (earlier_of k.part r.nodes)) t (inside (length m) body) body)) (sym last_is)

pub files_grow : Grows Files 0x0A file_reads
files_grow m body r e = grows files m r (files_stand m r e) body

pub directories_grow : Grows Directories 0x12 directory_reads
directories_grow m body r e = grows directories m r (directories_stand m r e) body

pub links_grow : Grows Links 0x1A link_reads
links_grow m body r e = grows links m r (links_stand m r e) body
