-- The sections that were read, as regions of the message. Assumes nothing.
use Rattle.std.proofs.Common.{◌≡◌, ℕ, zero, suc, ◌+◌, ◌-◌, ◌<◌, ◌≤◌, leb, List, [], ◌∷◌, ◌++◌, length, take, drop, Ok, Err, Result, sym, refl, ap, ◌∙◌, subst, append_assoc, append-nil, arith, length-append}
use Rattle.std.proofs.lemmas.List.{drop_at, drop_more, drop_all, take-append-drop, length-take-le}
use Rattle.std.proofs.lemmas.Bool.{cond-true, le-leb}
use Rattle.digest.specs.Digests.{Value}
use Rattle.wire.specs.Refusals.{Refusal, refused, next}
use Rattle.wire.proofs.Fieldings.{went_on}
use Rattle.wire.proofs.Finding.{not_ok, same_ok}
use Rattle.nodes.specs.Endings.{ended}
use Rattle.nodes.specs.Kinds.{FileValue, file_reads, file_writes, directory_reads, directory_writes, link_reads, link_writes, SoundFile, SoundDigest, SoundLink}
use Rattle.nodes.specs.Laws.{file_accepts, directory_accepts, link_accepts}
use Rattle.directory.specs.declared.part.Part.TheVariants.{Files as FilesPart, Directories, Links}
use Rattle.directory.specs.declared.part.Part.{Part}
use Rattle.directory.specs.declared.part.Sections.{Sections}
use Rattle.directory.specs.declared.section.SectionEnd.{SectionEnd}
use Rattle.directory.specs.declared.reader.Reached.{Reached}
use Rattle.directory.specs.Canonical.{GoodSection, section_bytes}
use Rattle.directory.specs.Directories.{Reading, files_at, directories_at, files_in, with_files, directories_in, with_directories, links_in, with_links, up_to, closed, part_of, so_far_of, answered}
use Rattle.directory.specs.Regions.{names_in, names_up_to, Ascending}
use Rattle.directory.specs.Sections.{Node, Section, names, nobody, section_at}
use Rattle.directory.specs.Steps.{earlier_names, Sorted, ends, end_of, reached_of}
use Rattle.directory.proofs.Fronts.{names_within}
use Rattle.directory.proofs.OneSection.{accepted}

-- no region, no names
none_in : (k : ℕ) → names_up_to k [] ≡ []
none_in zero = refl
none_in (suc k) = refl

pub nowhere : (m : List ℕ) → names_in m (record { start = 0; end = 0 }) ≡ []
nowhere m = none_in (length m)

-- the names of good nodes ascend
good_ascends : {V : Type 0} (Sound : V → Type 0) (earlier : List (List ℕ)) (prev : List ℕ) (ns : List (Node V)) → GoodSection Sound earlier prev ns → Ascending prev (names ns)
good_ascends Sound earlier prev [] h = tt
good_ascends Sound earlier prev (n ∷ ns) h = (h.0.2, good_ascends Sound earlier n.name ns h.2)

-- a section that lies in m from the place p on, as a region of m
record Region {V : Type 0} (m : List ℕ) (p : ℕ) (s : Section V) : Type 0 where
  within : s.place ≤ length m
  rest : s.rest ≡ drop s.place m
  found : names_in m (record { start = p; end = s.place }) ≡ names s.nodes
  ascend : Ascending [] (names s.nodes)

region : {V : Type 0} (tag : ℕ) (reads : ℕ → List ℕ → Result V Refusal) (writes : V → List ℕ) (Sound : V → Type 0)
    → ((p : ℕ) (bs : List ℕ) (x : V) → reads p bs ≡ Ok x → (writes x ≡ bs) × Sound x)
    → (m : List ℕ) (p : ℕ) (earlier : List (List ℕ)) (s : Section V) → length m ≤ 16777216 → p ≤ length m → section_at tag reads earlier p (drop p m) ≡ Ok s → Region m p s
region tag reads writes Sound accepts m p earlier s small low e =
    let a = take p m in
    let g = accepted tag reads writes Sound earlier accepts (length (drop p m)) (nobody p) p (drop p m) s (omega arith) e in
    let w = section_bytes tag writes s.nodes in
    let whole : m ≡ a ++ (w ++ s.rest) = sym (take-append-drop p m) ∙ ap (λ l. a ++ l) g.bytes in
    let at : p ≡ length a = sym (length-take-le p m low) in
    let long = ap length whole ∙ length-append a (w ++ s.rest) in
    let more = length-append w s.rest in
    let end : s.place ≡ length a + length w = g.place ∙ ap (λ k. k + length w) at in
    let here : length (a ++ w) ≡ s.place = length-append a w ∙ sym end in
    record {
      within = omega arith;
      rest = sym (ap (drop s.place) (whole ∙ sym (append_assoc a w s.rest)) ∙ drop_at (a ++ w) s.rest s.place here);
      found = (λ i. names_in m (record { start = at i; end = end i })) ∙ names_within tag writes m a s.rest s.nodes (omega arith) whole;
      ascend = good_ascends Sound earlier [] s.nodes g.good;
    }

-- where something was answered, it was read
pub was : {A : Type 0} (f : Reading → A) (r : Result Reading Refusal) (x : A) → answered f r ≡ Ok x → (q : Reading) × (r ≡ Ok q) × (f q ≡ x)
was f (Ok q) x e = (q, refl, same_ok e)
was f (Err d) x e = absurd (not_ok e)

-- what goes on from a section that was refused, and from one that was read
section_refused : {V : Type 0} (x : Result (Section V) Refusal) (with : Section V → Reading) (e : Refusal) → Err e ≡ ends x → next x (λ s. Ok (with s)) ≡ Err e
section_refused (Ok s) with e h = absurd (not_ok h)
section_refused (Err d) with e h = cc

section_read : {V : Type 0} (x : Result (Section V) Refusal) (with : Section V → Reading) (e : SectionEnd) → Ok e ≡ ends x → (s : Section V) × (next x (λ s. Ok (with s)) ≡ Ok (with s)) × (end_of s ≡ e)
section_read (Ok s) with e h = (s, refl, sym (same_ok h))
section_read (Err d) with e h = absurd (not_ok (sym h))

-- before the files there are no names
abbrev pub none : Sections
none = record { directories = 0; links = 0 }

pub none-names : (m : List ℕ) → earlier_names m none ≡ []
none-names m i = nowhere m i ++ nowhere m i

module _ (m : List ℕ) (small : length m ≤ 16777216) where
  -- the files that were read
  record Files (q : Reading) : Type 0 where
    section : Section FileValue
    is : with_files section ≡ q
    region : Region m 0 section

  files : (q : Reading) → files_in m ≡ Ok q → Files q
  files q e =
      let w = went_on (section_at 0x0A file_reads [] 0 m) _ q e in
      record { section = w.0; is = same_ok w.2; region = region 0x0A file_reads file_writes SoundFile file_accepts m 0 [] w.0 small (omega arith) w.1 }

  -- the files and directories that were read
  record Both (q : Reading) : Type 0 where
    first : Section FileValue
    second : Section Value
    is : with_directories (with_files first) second ≡ q
    files : Region m 0 first
    directories : Region m first.place second

  both : (q : Reading) → up_to Directories m ≡ Ok q → Both q
  both q e =
      let w = went_on (files_in m) directories_in q e in
      let f = files w.0 w.1 in
      let s = f.section in
      let v = went_on (section_at 0x12 directory_reads (names w.0.nodes.files) w.0.place w.0.rest) _ q w.2 in
      let is : w.0 ≡ with_files s = sym f.is in
      let rest : w.0.rest ≡ drop s.place m = ap (λ k. k.rest) is ∙ f.region.rest in
      let read : section_at 0x12 directory_reads (names w.0.nodes.files) s.place (drop s.place m) ≡ Ok v.0 =
      sym (λ i. section_at 0x12 directory_reads (names w.0.nodes.files) (is i).place (rest i)) ∙ v.1 in
      record {
        first = s;
        second = v.0;
        is = ap (λ k. with_directories k v.0) f.is ∙ same_ok v.2;
        files = f.region;
        directories = region 0x12 directory_reads directory_writes SoundDigest directory_accepts m s.place _ v.0 small f.region.within read;
      }

  -- the files and directories that were read, as regions of the message
  pub record Regions (q : Reading) : Type 0 where
    pub files : names_in m (files_at q.sections) ≡ names q.nodes.files
    pub files_ascend : Ascending [] (names q.nodes.files)
    pub directories : names_in m (directories_at q.sections) ≡ names q.nodes.directories
    pub directories_ascend : Ascending [] (names q.nodes.directories)

  empty_at : (p : ℕ) → names_in m (record { start = p; end = p }) ≡ []
  empty_at p = let z : p - p ≡ 0 = omega arith in ap (λ k. names_up_to (length m) (take k (drop p m))) z ∙ none_in (length m)

  pub regions : (p : Part) (q : Reading) → up_to p m ≡ Ok q → Regions q
  regions FilesPart q e =
      let f = files q e in
      let made : Regions (with_files f.section) = record {
        files = f.region.found;
        files_ascend = f.region.ascend;
        directories = empty_at f.section.place;
        directories_ascend = tt;
      } in
      subst Regions f.is made
  regions Directories q e =
      let b = both q e in
      let made : Regions (with_directories (with_files b.first) b.second) = record {
        files = b.files.found;
        files_ascend = b.files.ascend;
        directories = b.directories.found;
        directories_ascend = b.directories.ascend;
      } in
      subst Regions b.is made
  regions Links q e =
      let w = went_on (up_to Directories m) links_in q e in
      let v = went_on (section_at 0x1A link_reads (names w.0.nodes.files ++ names w.0.nodes.directories) w.0.place w.0.rest) _ q w.2 in
      let b = both w.0 w.1 in
      let made : Regions (with_links (with_directories (with_files b.first) b.second) v.0) = record {
        files = b.files.found;
        files_ascend = b.files.ascend;
        directories = b.directories.found;
        directories_ascend = b.directories.ascend;
      } in
      subst Regions (ap (λ k. with_links k v.0) b.is ∙ same_ok v.2) made

  -- what follows the sections that were read
  pub rest_is : (p : Part) (q : Reading) → up_to p m ≡ Ok q → q.rest ≡ drop q.place m
  rest_is FilesPart q e = let f = files q e in subst (λ k. k.rest ≡ drop k.place m) f.is f.region.rest
  rest_is Directories q e = let b = both q e in subst (λ k. k.rest ≡ drop k.place m) b.is b.directories.rest
  rest_is Links q e =
      let w = went_on (up_to Directories m) links_in q e in
      let b = both w.0 w.1 in
      let v = went_on (section_at 0x1A link_reads (names w.0.nodes.files ++ names w.0.nodes.directories) w.0.place w.0.rest) _ q w.2 in
      let is : w.0 ≡ with_directories (with_files b.first) b.second = sym b.is in
      let read = sym (λ i. section_at 0x1A link_reads (names w.0.nodes.files ++ names w.0.nodes.directories) (is i).place ((ap (λ k. k.rest) is ∙ b.directories.rest) i)) ∙ v.1 in
      let l = region 0x1A link_reads link_writes SoundLink link_accepts m b.second.place _ v.0 small b.directories.within read in
      subst (λ k. k.rest ≡ drop k.place m) (same_ok v.2) l.rest

  -- what the reader has reached, and what it read
  pub record At (p : Part) (r : Reached) : Type 0 where
    pub reading : Reading
    pub is : up_to p m ≡ Ok reading
    pub reached : reached_of reading ≡ r

  pub at : (p : Part) (r : Reached) → Ok r ≡ answered reached_of (up_to p m) → At p r
  at p r e = let w = was reached_of (up_to p m) r (sym e) in record { reading = w.0; is = w.1; reached = w.2 }

  module _ (p : Part) (r : Reached) (a : At p r) where
    abbrev q : Reading
    q = a.reading

    end : q.place ≡ r.latest.end
    end = ap (λ k. k.latest.end) a.reached

    rest : q.rest ≡ drop r.latest.end m
    rest = rest_is p q a.is ∙ ap (λ k. drop k m) end

    pub sorted : Sorted m r.sections
    sorted =
        let g = regions p q a.is in
        subst (Sorted m) (ap (λ k. k.sections) a.reached) (subst (Ascending []) (sym g.files) g.files_ascend, subst (Ascending []) (sym g.directories) g.directories_ascend)

    earlier : names q.nodes.files ++ names q.nodes.directories ≡ earlier_names m r.sections
    earlier = let g = regions p q a.is in sym (λ i. g.files i ++ g.directories i) ∙ ap (λ k. earlier_names m k.sections) a.reached

    pub answer : Ok r ≡ answered reached_of (up_to p m)
    answer = ap Ok (sym a.reached) ∙ sym (ap (answered reached_of) a.is)

    -- nothing follows, or something does
    opened : part_of p m ≡ ended q r.latest.end (drop r.latest.end m)
    opened = cond-true (leb (length m) 16777216) _ _ (le-leb _ _ small) ∙ ap (λ x. next x closed) a.is ∙ (λ i. ended q (end i) (rest i))

    pub part_followed : r.latest.end < length m → refused 13 r.latest.end ≡ answered so_far_of (part_of p m)
    part_followed h = sym (ap (answered so_far_of) (opened ∙ ap (ended q r.latest.end) (drop_more m r.latest.end 0 h)))

    pub part_ended : length m ≤ r.latest.end → Ok (record { sections = r.sections; last = r.latest.last }) ≡ answered so_far_of (part_of p m)
    part_ended h = sym (ap (answered so_far_of) (opened ∙ ap (ended q r.latest.end) (drop_all r.latest.end m h)) ∙ ap (λ k. Ok (record { sections = k.sections; last = k.latest.last })) a.reached)

  -- the files
  abbrev first : Result (Section FileValue) Refusal
  first = section_at 0x0A file_reads (earlier_names m none) 0 m

  files_first : ends first ≡ ends (section_at 0x0A file_reads [] 0 m)
  files_first = ap (λ l. ends (section_at 0x0A file_reads l 0 m)) (none-names m)

  pub files_read : (e : SectionEnd) → Ok e ≡ ends first → At FilesPart (record { sections = record { directories = e.end; links = e.end }; latest = e })
  files_read e h =
      let s = section_read (section_at 0x0A file_reads [] 0 m) with_files e (h ∙ files_first) in
      record { reading = with_files s.0; is = s.1; reached = ap (λ (k : SectionEnd). record { sections = record { directories = k.end; links = k.end }; latest = k }) s.2 }

  -- the directories behind the files
  module _ (r : Reached) (a : At FilesPart r) where
    abbrev second : Result (Section Value) Refusal
    second = section_at 0x12 directory_reads (earlier_names m r.sections) r.latest.end (drop r.latest.end m)

    directories_on : up_to Directories m ≡ next second (λ s. Ok (with_directories a.reading s))
    directories_on =
        let q = a.reading in
        let none : [] ≡ q.nodes.directories = ap (λ k. k.nodes.directories) (files q a.is).is in
        let all : names q.nodes.files ≡ earlier_names m r.sections = sym (append-nil (names q.nodes.files)) ∙ ap (λ l. names q.nodes.files ++ names l) none ∙ earlier FilesPart r a in
        ap (λ x. next x directories_in) a.is ∙ (λ i. next (section_at 0x12 directory_reads (all i) (end FilesPart r a i) (rest FilesPart r a i)) (λ s. Ok (with_directories q s)))

    pub directories_refused : (e : Refusal) → Err e ≡ ends second → up_to Directories m ≡ Err e
    directories_refused e h = directories_on ∙ section_refused second (with_directories a.reading) e h

    pub directories_read : (e : SectionEnd) → Ok e ≡ ends second → At Directories (record { sections = record { directories = r.latest.end; links = e.end }; latest = e })
    directories_read e h =
        let s = section_read second (with_directories a.reading) e h in
        record {
          reading = with_directories a.reading s.0;
          is = directories_on ∙ s.1;
          reached = λ i. record { sections = record { directories = end FilesPart r a i; links = (s.2 i).end }; latest = s.2 i };
        }

  -- the links behind both
  module _ (r : Reached) (a : At Directories r) where
    abbrev third : Result (Section (List ℕ)) Refusal
    third = section_at 0x1A link_reads (earlier_names m r.sections) r.latest.end (drop r.latest.end m)

    links_on : up_to Links m ≡ next third (λ s. Ok (with_links a.reading s))
    links_on = ap (λ x. next x links_in) a.is ∙ (λ i. next (section_at 0x1A link_reads (earlier Directories r a i) (end Directories r a i) (rest Directories r a i)) (λ s. Ok (with_links a.reading s)))

    pub links_refused : (e : Refusal) → Err e ≡ ends third → up_to Links m ≡ Err e
    links_refused e h = links_on ∙ section_refused third (with_links a.reading) e h

    pub links_read : (e : SectionEnd) → Ok e ≡ ends third → At Links (record { sections = record { directories = r.sections.directories; links = r.latest.end }; latest = e })
    links_read e h =
        let s = section_read third (with_links a.reading) e h in
        record {
          reading = with_links a.reading s.0;
          is = links_on ∙ s.1;
          reached = λ i. record { sections = record { directories = (a.reached i).sections.directories; links = end Directories r a i }; latest = s.2 i };
        }

  -- what the directories are refused with, so is each part with them
  pub one_read : (p : Part) (e : Refusal) → (p ≡ FilesPart → ⊥) → up_to Directories m ≡ Err e → up_to p m ≡ Err e
  one_read FilesPart e n h = absurd (n refl)
  one_read Directories e n h = h
  one_read Links e n h = ap (λ x. next x links_in) h
