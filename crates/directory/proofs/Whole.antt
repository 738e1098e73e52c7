-- A Directory and its encoding determine each other. Assumes nothing.
use Rattle.std.proofs.Common.{◌≡◌, ℕ, ◌+◌, ◌≤◌, leb, List, [], ◌++◌, length, Ok, sym, ap, ◌∙◌, subst, append-nil, arith, length-append}
use Rattle.std.proofs.lemmas.Bool.{cond-true, le-leb, leb-true}
use Rattle.digest.specs.Digests.{Value}
use Rattle.wire.specs.Refusals.{refused, next}
use Rattle.wire.proofs.Fieldings.{went_on, passed}
use Rattle.wire.proofs.Finding.{same_ok}
use Rattle.nodes.specs.Kinds.{FileValue, file_reads, file_writes, directory_reads, directory_writes, link_reads, link_writes, SoundFile, SoundDigest, SoundLink}
use Rattle.nodes.specs.Laws.{ended_all, file_accepts, file_returns, directory_accepts, directory_returns, link_accepts, link_returns}
use Rattle.directory.specs.Canonical.{section_bytes, encoding, Canonical, nodes_of, OnlyCanonicalIsAccepted, CanonicalIsReadBack, OneEncodingOneDirectory}
use Rattle.directory.specs.Directories.{Reading, with_files, files_in, with_directories, directories_in, with_links, links_in, up_to, closed, directory_of, answered}
use Rattle.directory.specs.declared.part.Part.TheVariants.{Links}
use Rattle.directory.specs.Sections.{Section, names, nobody, section_at}
use Rattle.directory.proofs.Joining.{was}
use Rattle.directory.proofs.OneSection.{Stops, stops, accepted, returned}

-- the three sections that were read one behind the other in m, and all that was read
pub record Sectioned (m : List ℕ) (r : Reading) : Type 0 where
  pub files : Section FileValue
  pub directories : Section Value
  pub links : Section (List ℕ)
  pub files_read : section_at 0x0A file_reads [] 0 m ≡ Ok files
  pub directories_read : section_at 0x12 directory_reads (names files.nodes) files.place files.rest ≡ Ok directories
  pub links_read : section_at 0x1A link_reads (names files.nodes ++ names directories.nodes) directories.place directories.rest ≡ Ok links
  pub whole : with_links (with_directories (with_files files) directories) links ≡ r

pub sectioned : (m : List ℕ) (r : Reading) → up_to Links m ≡ Ok r → Sectioned m r
sectioned m r e =
    let behind = went_on (next (files_in m) directories_in) links_in r e in
    let two = went_on (files_in m) directories_in behind.0 behind.1 in
    let f = went_on (section_at 0x0A file_reads [] 0 m) _ two.0 two.1 in
    let one = with_files f.0 in
    let d = went_on (section_at 0x12 directory_reads (names f.0.nodes) f.0.place f.0.rest) (λ s. Ok (with_directories one s)) behind.0 (subst (λ q. directories_in q ≡ Ok behind.0) (sym (same_ok f.2)) two.2) in
    let both = with_directories one d.0 in
    let l = went_on (section_at 0x1A link_reads (names f.0.nodes ++ names d.0.nodes) d.0.place d.0.rest) (λ s. Ok (with_links both s)) r (subst (λ q. links_in q ≡ Ok r) (sym (same_ok d.2)) behind.2) in
    record { files = f.0; directories = d.0; links = l.0; files_read = f.1; directories_read = d.1; links_read = l.1; whole = same_ok l.2 }

pub only_canonical_is_accepted : OnlyCanonicalIsAccepted
only_canonical_is_accepted m d e =
    let all = was nodes_of (directory_of m) d e in
    let sized = passed (leb (length m) 16777216) _ _ all.0 all.1 in
    let small = leb-true (length m) 16777216 sized.0 in
    let up = went_on (up_to Links m) closed all.0 sized.1 in
    let r = up.0 in
    let end = ended_all r r.place r.rest all.0 up.2 in
    let s = sectioned m r up.1 in
    let f = s.files in
    let g = s.directories in
    let h = s.links in
    let a = accepted 0x0A file_reads file_writes SoundFile [] file_accepts (length m) (nobody 0) 0 m f (omega arith) s.files_read in
    let b = accepted 0x12 directory_reads directory_writes SoundDigest (names f.nodes) directory_accepts (length f.rest) (nobody f.place) f.place f.rest g (omega arith) s.directories_read in
    let c = accepted 0x1A link_reads link_writes SoundLink (names f.nodes ++ names g.nodes) link_accepts (length g.rest) (nobody g.place) g.place g.rest h (omega arith) s.links_read in
    let none : h.rest ≡ [] = ap (λ (q : Reading). q.rest) s.whole ∙ end.0 in
    let files = section_bytes 0x0A file_writes f.nodes in
    let directories = section_bytes 0x12 directory_writes g.nodes in
    let links = section_bytes 0x1A link_writes h.nodes in
    let last : links ≡ g.rest = sym (append-nil links) ∙ ap (λ l. links ++ l) (sym none) ∙ sym c.bytes in
    let bytes : files ++ (directories ++ links) ≡ m = ap (λ l. files ++ l) (ap (λ l. directories ++ l) last ∙ sym b.bytes) ∙ sym a.bytes in
    let keeps : Canonical (record { files = f.nodes; directories = g.nodes; links = h.nodes }) = record {
      files = a.good;
      directories = b.good;
      links = c.good;
      small = subst (λ l. length l ≤ 16777216) (sym bytes) small;
    } in
    let same : record { files = f.nodes; directories = g.nodes; links = h.nodes } ≡ d = ap nodes_of (s.whole ∙ end.1) ∙ all.2 in
    subst (λ x. Canonical x × (encoding x ≡ m)) same (keeps, bytes)

pub canonical_is_read_back : CanonicalIsReadBack
canonical_is_read_back d c =
    let files = section_bytes 0x0A file_writes d.files in
    let directories = section_bytes 0x12 directory_writes d.directories in
    let links = section_bytes 0x1A link_writes d.links in
    let m = encoding d in
    let small = c.small in
    let long = length-append files (directories ++ links) in
    let behind = length-append directories links in
    let alone = ap length (append-nil links) in
    let last : (tag : ℕ) → (0x1A ≡ tag → ⊥) → Stops tag links = λ tag differs. subst (Stops tag) (append-nil links) (stops tag 0x1A link_writes d.links [] differs tt) in
    let f = returned 0x0A file_reads file_writes SoundFile [] file_returns (length m) (nobody 0) 0 d.files (directories ++ links) (omega arith) (omega arith) c.files (stops 0x0A 0x12 directory_writes d.directories links (λ z. omega arith) (last 0x0A (λ z. omega arith))) in
    let p = 0 + length files in
    let g = returned 0x12 directory_reads directory_writes SoundDigest (names d.files) directory_returns (length (directories ++ links)) (nobody p) p d.directories links (omega arith) (omega arith) c.directories (last 0x12 (λ z. omega arith)) in
    let q = p + length directories in
    let h = returned 0x1A link_reads link_writes SoundLink (names d.files ++ names d.directories) link_returns (length (links ++ [])) (nobody q) q d.links [] (omega arith) (omega arith) c.links tt in
    let one : Reading = with_files (record { nodes = d.files; last = f.0; place = p; rest = directories ++ links }) in
    let two : Reading = with_directories one (record { nodes = d.directories; last = g.0; place = q; rest = links }) in
    let links_read = ap (section_at 0x1A link_reads (names d.files ++ names d.directories) q) (sym (append-nil links)) ∙ h.1 in
    ap (answered nodes_of) (
    cond-true (leb (length m) 16777216) (next (up_to Links m) closed) (refused 5 0) (le-leb (length m) 16777216 small)
    ∙ ap (λ r. next (next (next (next r (λ s. Ok (with_files s))) directories_in) links_in) closed) f.1
    ∙ ap (λ r. next (next (next r (λ s. Ok (with_directories one s))) links_in) closed) g.1
    ∙ ap (λ r. next (next r (λ s. Ok (with_links two s))) closed) links_read
    )

pub one_encoding_one_directory : OneEncodingOneDirectory
one_encoding_one_directory d e c b same = same_ok (sym (canonical_is_read_back d c) ∙ ap (λ m. answered nodes_of (directory_of m)) same ∙ canonical_is_read_back e b)
