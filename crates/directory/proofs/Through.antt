-- Going through a Directory finds its nodes. Assumes nothing.
use Rattle.std.proofs.Common.{◌≡◌, ℕ, zero, suc, ◌+◌, ◌^◌, ◌<◌, ◌≤◌, List, [], ◌∷◌, ◌++◌, length, drop, Ok, Result, sym, refl, ap, ◌∙◌, subst, append_assoc, append-nil, arith, length-append}
use Rattle.std.proofs.lemmas.List.{drop_at, drop-drop}
use Rattle.wire.specs.Fields.{Piece, field_at, field_bytes, span_of}
use Rattle.wire.specs.Numbers.{form}
use Rattle.wire.specs.Refusals.{Refusal, next}
use Rattle.wire.proofs.Fieldings.{field_back}
use Rattle.nodes.specs.Kinds.{file_reads, file_writes, directory_reads, directory_writes, link_finds, link_writes, SoundFile, SoundDigest, SoundLink}
use Rattle.nodes.specs.Laws.{file_returns, directory_returns, link_returns, link_kept}
use Rattle.directory.specs.Canonical.{GoodSection, Canonical, section_bytes, encoding}
use Rattle.directory.specs.Directories.{Nodes}
use Rattle.directory.specs.Items.{Item, file, directory, link, Found, found_as, found_at, item_then, items_from, each, items_of, NodesReadAreFound}
use Rattle.directory.specs.Sections.{Node, names}
use Rattle.directory.proofs.OneSection.{inside}
use Rattle.directory.proofs.Whole.{only_canonical_is_accepted}

-- from where bs begins in the message m, these are found
abbrev Through : List ℕ → List ℕ → List Item → Type 0
Through m bs items = (p k : ℕ) → drop p m ≡ bs → length bs ≤ k → items_from m k p ≡ items

-- where the message ends there are none
through_none : (m : List ℕ) → Through m [] []
through_none m p zero here l = refl
through_none m p (suc k) here l = ap (λ bs. item_then (items_from m k) (found_at p bs)) here

-- one kind of node, which its tag tells and which is found from its bytes
module _ {V : Type 0} (tag : ℕ) (finds : ℕ → List ℕ → Result V Refusal) (writes : V → List ℕ) (Sound : V → Type 0) (item : Node V → Item)
    (told : (p : ℕ) (bs : List ℕ) → found_at p (tag ∷ bs) ≡ found_as tag finds item p (tag ∷ bs))
    (back : (p : ℕ) (x : V) → Sound x → finds p (writes x) ≡ Ok x) where
  abbrev message : Node V → List ℕ
  message n = field_bytes 0x0A n.name ++ writes n.rest

  -- its name, in a message that begins at q
  abbrev piece : ℕ → Node V → Piece
  piece q n = record { text = n.name; place = inside q n.name; rest = writes n.rest }

  -- a node at p is found in front of what follows it
  found_back : (p : ℕ) (n : Node V) (rest : List ℕ) → length (message n) < 2 ^ 63 → Sound n.rest
      → found_at p (field_bytes tag (message n) ++ rest) ≡ Ok (record { item = item n; name = span_of (piece (inside p (message n)) n); end = inside p (message n) + length (message n) })
  found_back p n rest small sound =
      let q = inside p (message n) in
      let y = piece q n in
      let whole = length-append (field_bytes 0x0A n.name) (writes n.rest) in
      let field = length-append (form (length n.name)) n.name in
      let ending : ℕ → Piece → V → Result Found Refusal = λ e y v. Ok (record { item = item (record { name = y.text; rest = v }); name = span_of y; end = e }) in
      let behind : ℕ → Piece → Result Found Refusal = λ e y. next (finds (y.place + length y.text) y.rest) (ending e y) in
      told p _
      ∙ ap (λ r. next r (λ x. next (field_at 0x0A x.place x.text) (behind (x.place + length x.text)))) (field_back tag p (message n) rest small)
      ∙ ap (λ r. next r (behind (q + length (message n)))) (field_back 0x0A q n.name (writes n.rest) (omega arith))
      ∙ ap (λ r. next r (ending (q + length (message n)) y)) (back (y.place + length n.name) n.rest sound)

  -- a section, and what follows it
  section_through : (m : List ℕ) (earlier : List (List ℕ)) (prev : List ℕ) (ns : List (Node V)) (rest : List ℕ) (more : List Item)
      → length (section_bytes tag writes ns ++ rest) < 2 ^ 63
      → GoodSection Sound earlier prev ns
      → Through m rest more
      → Through m (section_bytes tag writes ns ++ rest) (each item ns ++ more)
  section_through m earlier prev [] rest more small good after p k here l = after p k here l
  section_through m earlier prev (n ∷ ns) rest more small good after p zero here l = absurd (omega arith)
  section_through m earlier prev (n ∷ ns) rest more small good after p (suc k) here l =
      let body = message n in
      let front = field_bytes tag body in
      let behind = section_bytes tag writes ns ++ rest in
      let end = inside p body + length body in
      let split : drop p m ≡ front ++ behind = here ∙ append_assoc front (section_bytes tag writes ns) rest in
      let long = sym (ap length here) ∙ ap length split ∙ length-append front behind in
      let head = length-append (form (length body)) body in
      let at : p + length front ≡ end = omega arith in
      let there : drop end m ≡ behind = ap (λ j. drop j m) (sym at) ∙ sym (drop-drop (length front) p m) ∙ ap (drop (length front)) split ∙ drop_at front behind (length front) refl in
      ap (λ bs. item_then (items_from m k) (found_at p bs)) split
      ∙ ap (item_then (items_from m k)) (found_back p n behind (omega arith) good.1)
      ∙ ap (λ is. item n ∷ is) (section_through m earlier n.name ns rest more (omega arith) good.2 after end k there (omega arith))

-- the three sections of an encoding
through_all : (d : Nodes) → Canonical d → items_from (encoding d) (length (encoding d)) 0 ≡ items_of d
through_all d c =
    let m = encoding d in
    let files = section_bytes 0x0A file_writes d.files in
    let directories = section_bytes 0x12 directory_writes d.directories in
    let links = section_bytes 0x1A link_writes d.links in
    let small = c.small in
    let long = length-append files (directories ++ links) in
    let behind = length-append directories links in
    let alone = ap length (append-nil links) in
    let link_back : (p : ℕ) (x : List ℕ) → SoundLink x → link_finds p (link_writes x) ≡ Ok x = λ p x s. link_kept p (link_writes x) x (link_returns p x s) in
    let last = section_through 0x1A link_finds link_writes SoundLink link (λ p bs. refl) link_back m (names d.files ++ names d.directories) [] d.links [] [] (omega arith) c.links (through_none m) in
    let ends : Through m links (each link d.links) = subst (Through m links) (append-nil (each link d.links)) (subst (λ bs. Through m bs (each link d.links ++ [])) (append-nil links) last) in
    let middle = section_through 0x12 directory_reads directory_writes SoundDigest directory (λ p bs. refl) directory_returns m (names d.files) [] d.directories links (each link d.links) (omega arith) c.directories ends in
    section_through 0x0A file_reads file_writes SoundFile file (λ p bs. refl) file_returns m [] [] d.files (directories ++ links) (each directory d.directories ++ each link d.links) (omega arith) c.files middle 0 (length m) refl (omega arith)

pub nodes_read_are_found : NodesReadAreFound
nodes_read_are_found m d e =
    let a = only_canonical_is_accepted m d e in
    subst (λ l. items_from l (length l) 0 ≡ items_of d) a.1 (through_all d a.0)
