-- A section with one node more at its end, and its last name in the message. Assumes nothing.
use Rattle.std.proofs.Common.{◌≡◌, ℕ, zero, suc, ◌+◌, ◌-◌, ◌^◌, ◌<◌, ◌≤◌, Bool, List, [], ◌∷◌, ◌++◌, length, take, drop, Ok, Err, Result, sym, refl, ap, ◌∙◌, subst, ⊎_elim, append_assoc, append-nil, arith, length-append}
use Rattle.std.proofs.lemmas.List.{take_at, drop_at}
use Rattle.texts.specs.Order.{before}
use Rattle.wire.specs.Fields.{Piece, field_at, field_bytes, span_of}
use Rattle.wire.specs.Numbers.{form}
use Rattle.wire.specs.Refusals.{Refusal, next}
use Rattle.wire.proofs.Fieldings.{went_on, passed, Fielded, fielded}
use Rattle.wire.proofs.Finding.{same_ok}
use Rattle.nodes.specs.Kinds.{part}
use Rattle.nodes.specs.Names.{judged_name, name_at}
use Rattle.directory.specs.Sections.{Node, Named, Section, among, placed, onto, node_at, section, nobody, section_at}
use Rattle.directory.proofs.OneSection.{judged, free, no_node, node_in_front, step}
use Rattle.directory.proofs.Onward.{last_name, onto_all, appended}
use Rattle.writer.specs.Growing.{inside}

-- a text between a front and a back is the part of the message behind its span
lies_at : (front text back : List ℕ) (p : ℕ) → length front ≡ p → part (front ++ (text ++ back)) (record { start = p; end = p + length text }) ≡ text
lies_at front text back p at =
    let size : p + length text - p ≡ length text = omega arith in
    ap (λ k. take k (drop p (front ++ (text ++ back)))) size ∙ ap (take (length text)) (drop_at front (text ++ back) p at) ∙ take_at text back (length text) refl

-- the text of a field that stands behind a front stands behind a longer one
module _ (t p : ℕ) (front bs : List ℕ) (x : Piece) (at : length front ≡ p) (f : Fielded t p bs x) where
  abbrev longer : List ℕ
  longer = front ++ (t ∷ form (length x.text))

  split : front ++ bs ≡ longer ++ (x.text ++ x.rest)
  split = ap (λ l. front ++ l) f.bytes ∙ simp append_assoc

  long : length longer ≡ x.place
  long = let a = f.place in let l = length-append front (t ∷ form (length x.text)) in omega arith

module _ {V : Type 0} (tag : ℕ) (reads : ℕ → List ℕ → Result V Refusal) (taken : List ℕ → Bool) where
  -- the fields of a node that was read
  pub node_parts : (prev : List ℕ) (p : ℕ) (body : List ℕ) (n : Named V) → node_at tag reads taken prev p body ≡ Ok n → (field_at 0x0A p body ≡ Ok n.name) × (reads (n.name.place + length n.name.text) n.name.rest ≡ Ok n.value)
  node_parts prev p body n e =
      let named = went_on (name_at p body) _ n e in
      let field = went_on (field_at 0x0A p body) judged_name named.0 named.1 in
      let put = went_on (placed prev taken named.0) _ n named.2 in
      let above = passed (before prev named.0.text) _ _ put.0 put.1 in
      let y = put.0 in
      let same : field.0 ≡ y = (judged field.0 named.0 field.2).2 ∙ (free (taken named.0.text) _ named.0 y above.1).1 in
      let value = went_on (reads (y.place + length y.text) y.rest) _ n put.2 in
      subst (λ (n : Named V). (field_at 0x0A p body ≡ Ok n.name) × (reads (n.name.place + length n.name.text) n.name.rest ≡ Ok n.value)) (same_ok value.2) (field.1 ∙ ap Ok same, value.1)

  -- the last name of a section, read behind the name prev, is its part of the message
  module _ (m : List ℕ) where
    abbrev Lies : Piece → Section V → Type 0
    Lies prev s = part m s.last ≡ last_name prev.text s.nodes

    pub last_lies : (k : ℕ) (prev : Piece) (p : ℕ) (front bs : List ℕ) (s : Section V) → front ++ bs ≡ m → length front ≡ p → length bs ≤ k → part m (span_of prev) ≡ prev.text → section tag reads taken k prev p bs ≡ Ok s → part m s.last ≡ last_name prev.text s.nodes
    last_lies k prev p front [] s whole at l here e = subst (Lies prev) (same_ok (sym (no_node tag reads taken prev p k [] tt) ∙ e)) here
    last_lies zero prev p front (b ∷ bs) s whole at l here e = absurd (omega arith)
    last_lies (suc k) prev p front (b ∷ bs) s whole at l here e =
        ⊎_elim
        (λ t.
        let x = t.field in
        let n = t.node.name in
        let less = t.shorter in
        let g : Fielded 0x0A x.place x.text n = fielded 0x0A x.place x.text n (node_parts prev.text x.place x.text t.node t.noded).0 in
        let one = longer tag p front (b ∷ bs) x at t.fielded in
        let one_long = long tag p front (b ∷ bs) x at t.fielded in
        let two = longer 0x0A x.place one x.text n one_long g in
        let two_long = long 0x0A x.place one x.text n one_long g in
        let behind : (one ++ x.text) ++ x.rest ≡ m = append_assoc one x.text x.rest ∙ sym (split tag p front (b ∷ bs) x at t.fielded) ∙ whole in
        let inner : two ++ (n.text ++ (n.rest ++ x.rest)) ≡ m =
        ap (λ l. two ++ l) (sym (append_assoc n.text n.rest x.rest)) ∙ sym (append_assoc two (n.text ++ n.rest) x.rest) ∙ ap (λ l. l ++ x.rest) (sym (split 0x0A x.place one x.text n one_long g)) ∙ behind in
        let sum = length-append one x.text in
        subst (Lies prev) (same_ok t.whole)
        (last_lies k n (x.place + length x.text) (one ++ x.text) x.rest t.more behind (omega arith) (omega arith) (ap (λ l. part l (span_of n)) (sym inner) ∙ lies_at two n.text (n.rest ++ x.rest) n.place two_long) t.read))
        (λ none. subst (Lies prev) (same_ok none.1) here)
        (step tag reads taken prev p k b bs s e)

pub next-next : {A B C : Type 0} (r : Result A Refusal) (f : A → Result B Refusal) (g : B → Result C Refusal) → next (next r f) g ≡ next r (λ x. next (f x) g)
next-next (Ok x) f g = refl
next-next (Err e) f g = refl

-- a node as its name and its value
abbrev pub node_of : {V : Type 0} → Named V → Node V
node_of n = record { name = n.name.text; rest = n.value }

-- a section with one node more, up to the place q
abbrev pub grown : {V : Type 0} → Section V → ℕ → Named V → Section V
grown s q n = record { nodes = s.nodes ++ (node_of n ∷ []); last = span_of n.name; place = q; rest = [] }

module _ {V : Type 0} (tag : ℕ) (reads : ℕ → List ℕ → Result V Refusal) (earlier : List (List ℕ)) (p : ℕ) (bs : List ℕ) (s : Section V) (e : section_at tag reads earlier p bs ≡ Ok s) where
  abbrev taken : List ℕ → Bool
  taken t = among t earlier

  -- the last name of a section that stands behind the front of a message
  pub last_name_lem : (m front : List ℕ) → front ++ bs ≡ m → p ≡ length front → part m s.last ≡ last_name [] s.nodes
  last_name_lem m front whole at =
      let none : p + 0 - p ≡ 0 = omega arith in
      last_lies tag reads taken m (length bs) (nobody p) p front bs s whole (sym at) (omega arith) (ap (λ k. take k (drop p m)) none) e

  -- a field behind a whole section is read as a node behind the last name
  pub one_more : (body : List ℕ) → length body < 2 ^ 63 → s.rest ≡ []
      → section_at tag reads earlier p (bs ++ field_bytes tag body)
      ≡ next (node_at tag reads (λ t. among t earlier) (last_name [] s.nodes) (inside (p + length bs) body) body) (λ n. Ok (grown s (inside (p + length bs) body + length body) n))
  one_more body small whole =
      let x = field_bytes tag body in
      let q = inside (p + length bs) body in
      let g = appended tag reads taken (length bs) (nobody p) p bs s (omega arith) e whole in
      let single : Named V → Result (Section V) Refusal = λ n. next (section tag reads taken (length x) n.name (q + length body) []) (onto n) in
      g.behind x (length (bs ++ x)) (suc (length x)) (omega arith) (omega arith)
      ∙ ap (λ r. next r (onto_all s.nodes))
      (ap (section tag reads taken (suc (length x)) g.last (p + length bs)) (sym (append-nil x)) ∙ node_in_front tag reads taken g.last (p + length bs) (length x) body [] small)
      ∙ next-next (node_at tag reads taken g.last.text q body) single (onto_all s.nodes)
      ∙ ap (λ t. next (node_at tag reads taken t q body) (λ n. Ok (grown s (q + length body) n))) g.text
