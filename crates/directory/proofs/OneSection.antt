-- A section and its bytes determine each other. Assumes nothing.
use Rattle.std.proofs.Common.{◌≡◌, ℕ, zero, suc, ◌+◌, ◌^◌, ◌<◌, ◌≤◌, Bool, true, false, cond, ◌&&◌, eqb, leb, ◌⊎◌, List, [], ◌∷◌, ◌++◌, length, Ok, Err, Result, sym, refl, ap, ◌∙◌, subst, inl, inr, ⊎_elim, append_assoc, arith, length-append}
use Rattle.std.proofs.lemmas.Bool.{cases_Bool, cond-true, cond-false, and_parts, leb-true, eq-eqb, ne_eqb, eqb-false}
use Rattle.texts.specs.Names.{is_name}
use Rattle.texts.specs.Order.{before}
use Rattle.texts.specs.Utf8.{is_text}
use Rattle.wire.specs.declared.field.Span.{Span}
use Rattle.wire.specs.Fields.{Piece, field_at, field_bytes, span_of}
use Rattle.wire.specs.Numbers.{form}
use Rattle.wire.specs.Refusals.{Refusal, next}
use Rattle.wire.proofs.Fieldings.{went_on, passed, Fielded, fielded, field_back}
use Rattle.wire.proofs.Finding.{not_ok, same_ok}
use Rattle.nodes.specs.Names.{judged_name, name_at}
use Rattle.nodes.specs.Nodes.{node_bytes}
use Rattle.directory.specs.Canonical.{GoodName, GoodSection, section_bytes}
use Rattle.directory.specs.Sections.{Node, Named, Section, among, placed, onto, nothing, node_at, section}

-- bytes that do not go on with the tag
abbrev pub Stops : ℕ → List ℕ → Type 0
Stops tag [] = Unit {0}
Stops tag (b ∷ bs) = b ≡ tag → ⊥

-- a section of another tag does not
pub stops : {V : Type 0} (tag other : ℕ) (writes : V → List ℕ) (ns : List (Node V)) (rest : List ℕ) → (other ≡ tag → ⊥) → Stops tag rest → Stops tag (section_bytes other writes ns ++ rest)
stops tag other writes [] rest differs s = s
stops tag other writes (n ∷ ns) rest differs s = differs

pub judged : (x y : Piece) → judged_name x ≡ Ok y → (is_text x.text ≡ true) × (is_name x.text ≡ true) × (x ≡ y)
judged x y e =
    let text = passed (is_text x.text) _ _ y e in
    let name = passed (is_name x.text) _ _ y text.1 in
    (text.0, name.0, same_ok name.1)

pub free : (b : Bool) (d : Refusal) (x y : Piece) → cond b (Err d) (Ok x) ≡ Ok y → (b ≡ false) × (x ≡ y)
free true d x y e = absurd (not_ok e)
free false d x y e = (refl, same_ok e)

-- where the text begins of a field that stands at p
abbrev pub inside : ℕ → List ℕ → ℕ
inside p text = p + 1 + length (form (length text))

module _ {V : Type 0} (tag : ℕ) (reads : ℕ → List ℕ → Result V Refusal) (taken : List ℕ → Bool) (prev : Piece) (p : ℕ) where
  -- what does not go on with the tag has no node
  pub no_node : (k : ℕ) (rest : List ℕ) → Stops tag rest → section tag reads taken k prev p rest ≡ nothing prev p rest
  no_node zero rest s = refl
  no_node (suc k) [] s = refl
  no_node (suc k) (b ∷ bs) s = cond-false (eqb b tag) _ _ (ne_eqb b tag s)

  -- a node is read in front of what follows it
  pub node_in_front : (k : ℕ) (body rest : List ℕ) → length body < 2 ^ 63
      → section tag reads taken (suc k) prev p (field_bytes tag body ++ rest)
      ≡ next (node_at tag reads taken prev.text (inside p body) body) (λ n. next (section tag reads taken k n.name (inside p body + length body) rest) (onto n))
  node_in_front k body rest small =
      let then : Piece → Result (Section V) Refusal = λ x. next (node_at tag reads taken prev.text x.place x.text) (λ n. next (section tag reads taken k n.name (x.place + length x.text) x.rest) (onto n)) in
      cond-true (eqb tag tag) _ _ (eq-eqb tag tag refl) ∙ ap (λ r. next r then) (field_back tag p body rest small)

  -- a node in front was read, and then more
  pub record Step (k : ℕ) (bs : List ℕ) (s : Section V) : Type 0 where
    pub field : Piece
    pub fielded : Fielded tag p bs field
    pub node : Named V
    pub noded : node_at tag reads taken prev.text field.place field.text ≡ Ok node
    pub more : Section V
    pub read : section tag reads taken k node.name (field.place + length field.text) field.rest ≡ Ok more
    pub whole : onto node more ≡ Ok s
    pub shorter : length field.rest < length bs

  -- a section begins with such a node, or has none
  pub step : (k b : ℕ) (bs : List ℕ) (s : Section V) → section tag reads taken (suc k) prev p (b ∷ bs) ≡ Ok s → Step k (b ∷ bs) s ⊎ ((b ≡ tag → ⊥) × (nothing prev p (b ∷ bs) ≡ Ok s))
  step k b bs s e =
      ⊎_elim
      (λ tagged.
      let field = went_on (field_at tag p (b ∷ bs)) _ s (sym (cond-true (eqb b tag) _ _ tagged) ∙ e) in
      let x = field.0 in
      let node = went_on (node_at tag reads taken prev.text x.place x.text) _ s field.2 in
      let n = node.0 in
      let more = went_on (section tag reads taken k n.name (x.place + length x.text) x.rest) (onto n) s node.2 in
      let f = fielded tag p (b ∷ bs) x field.1 in
      let size = ap length f.bytes ∙ length-append (field_bytes tag x.text) x.rest in
      inl (record { field = x; fielded = f; node = n; noded = node.1; more = more.0; read = more.1; whole = more.2; shorter = omega arith }))
      (λ other. inr (eqb-false b tag other, sym (cond-false (eqb b tag) _ _ other) ∙ e))
      (cases_Bool (eqb b tag))

module _ {V : Type 0} (tag : ℕ) (reads : ℕ → List ℕ → Result V Refusal) (writes : V → List ℕ) (Sound : V → Type 0) (earlier : List (List ℕ)) where
  abbrev taken : List ℕ → Bool
  taken t = among t earlier

  -- the section s, read from bs at p behind the name prev, keeps the rules, and bs begins with its bytes and goes on otherwise
  pub record Accepted (prev : List ℕ) (p : ℕ) (bs : List ℕ) (s : Section V) : Type 0 where
    pub good : GoodSection Sound earlier prev s.nodes
    pub bytes : bs ≡ section_bytes tag writes s.nodes ++ s.rest
    pub stops : Stops tag s.rest
    pub place : s.place ≡ p + length (section_bytes tag writes s.nodes)

  accepted_none : (prev : Piece) (p : ℕ) (bs : List ℕ) (s : Section V) → Stops tag bs → nothing prev p bs ≡ Ok s → Accepted prev.text p bs s
  accepted_none prev p bs s stop e =
      let none : Accepted prev.text p bs (record { nodes = []; last = span_of prev; place = p; rest = bs }) = record { good = tt; bytes = refl; stops = stop; place = omega arith } in
      subst (Accepted prev.text p bs) (same_ok e) none

  module _ (accepts : (p : ℕ) (bs : List ℕ) (x : V) → reads p bs ≡ Ok x → (writes x ≡ bs) × Sound x) where
    -- the node n, read from a message behind the name prev
    record Noded (prev body : List ℕ) (n : Named V) : Type 0 where
      good : GoodName earlier prev n.name.text
      sound : Sound n.value
      bytes : body ≡ field_bytes 0x0A n.name.text ++ writes n.value

    noded : (prev : List ℕ) (p : ℕ) (body : List ℕ) (n : Named V) → node_at tag reads taken prev p body ≡ Ok n → Noded prev body n
    noded prev p body n e =
        let named = went_on (name_at p body) _ n e in
        let field = went_on (field_at 0x0A p body) judged_name named.0 named.1 in
        let x = field.0 in
        let j = judged x named.0 field.2 in
        let put = went_on (placed prev taken named.0) _ n named.2 in
        let above = passed (before prev named.0.text) _ _ put.0 put.1 in
        let f = free (taken named.0.text) _ named.0 put.0 above.1 in
        let y = put.0 in
        let value = went_on (reads (y.place + length y.text) y.rest) _ n put.2 in
        let law = accepts (y.place + length y.text) y.rest value.0 value.1 in
        let same : x ≡ y = j.2 ∙ f.1 in
        let made : Noded prev body (record { name = y; value = value.0 }) = record {
          good = (
            ap (λ (z : Piece). is_text z.text) (sym same) ∙ j.0,
            ap (λ (z : Piece). is_name z.text) (sym same) ∙ j.1,
            ap (λ (z : Piece). before prev z.text) (sym f.1) ∙ above.0,
            ap (λ (z : Piece). taken z.text) (sym f.1) ∙ f.0,
          );
          sound = law.1;
          bytes = (fielded 0x0A p body x field.1).bytes ∙ ap (λ (z : Piece). field_bytes 0x0A z.text ++ z.rest) same ∙ ap (λ l. field_bytes 0x0A y.text ++ l) (sym law.0);
        } in
        subst (Noded prev body) (same_ok value.2) made

    accepted_more : (k : ℕ) (prev : Piece) (p : ℕ) (bs : List ℕ) (s : Section V) (t : Step tag reads taken prev p k bs s) → Accepted t.node.name.text (t.field.place + length t.field.text) t.field.rest t.more → Accepted prev.text p bs s
    accepted_more k prev p bs s t a =
        let x = t.field in
        let n = t.node in
        let f = t.fielded in
        let d = noded prev.text x.place x.text n t.noded in
        let front = node_bytes tag n.name.text (writes n.value) in
        let back = section_bytes tag writes t.more.nodes in
        let same : field_bytes tag x.text ≡ front = ap (field_bytes tag) d.bytes in
        let whole = length-append front back in
        let head : length front ≡ suc (length (form (length x.text)) + length x.text) = sym (ap length same) ∙ ap suc (length-append (form (length x.text)) x.text) in
        let at = f.place in
        let end = a.place in
        let made : Accepted prev.text p bs (record { nodes = record { name = n.name.text; rest = n.value } ∷ t.more.nodes; last = t.more.last; place = t.more.place; rest = t.more.rest }) = record {
          good = (d.good, d.sound, a.good);
          bytes = f.bytes ∙ (λ i. same i ++ a.bytes i) ∙ sym (append_assoc front back t.more.rest);
          stops = a.stops;
          place = omega arith;
        } in
        subst (Accepted prev.text p bs) (same_ok t.whole) made

    -- what is read keeps the rules
    pub accepted : (k : ℕ) (prev : Piece) (p : ℕ) (bs : List ℕ) (s : Section V) → length bs ≤ k → section tag reads (λ t. among t earlier) k prev p bs ≡ Ok s → Accepted prev.text p bs s
    accepted zero prev p [] s l e = accepted_none prev p [] s tt e
    accepted zero prev p (b ∷ bs) s l e = absurd (omega arith)
    accepted (suc k) prev p [] s l e = accepted_none prev p [] s tt e
    accepted (suc k) prev p (b ∷ bs) s l e =
        ⊎_elim
        (λ t.
        let less = t.shorter in
        accepted_more k prev p (b ∷ bs) s t (accepted k t.node.name (t.field.place + length t.field.text) t.field.rest t.more (omega arith) t.read))
        (λ none. accepted_none prev p (b ∷ bs) s none.0 none.1)
        (step tag reads taken prev p k b bs s e)

  module _ (returns : (p : ℕ) (x : V) → Sound x → reads p (writes x) ≡ Ok x) where
    abbrev pub piece : ℕ → Node V → Piece
    piece p n = record { text = n.name; place = inside p n.name; rest = writes n.rest }

    -- the message of a node that keeps the rules is read as this node
    pub node_back : (prev : List ℕ) (p : ℕ) (n : Node V) → GoodName earlier prev n.name → Sound n.rest → node_at tag reads (λ t. among t earlier) prev p (field_bytes 0x0A n.name ++ writes n.rest) ≡ Ok (record { name = piece p n; value = n.rest })
    node_back prev p n good sound =
        let t = n.name in
        let y = piece p n in
        let sizes = and_parts (leb 1 (length t) && leb (length t) 255) _ good.1 in
        let short = leb-true (length t) 255 (and_parts (leb 1 (length t)) _ sizes.0).1 in
        let last : Piece → Result (Named V) Refusal = λ y. next (reads (y.place + length y.text) y.rest) (λ v. Ok (record { name = y; value = v })) in
        ap (λ r. next (next r judged_name) (λ x. next (placed prev taken x) last)) (field_back 0x0A p t (writes n.rest) (omega arith))
        ∙ ap (λ r. next r (λ x. next (placed prev taken x) last)) (cond-true (is_text t) _ _ good.0 ∙ cond-true (is_name t) (Ok y) _ good.1)
        ∙ ap (λ r. next r last) (cond-true (before prev t) _ _ good.2 ∙ cond-false (taken t) _ (Ok y) good.3)
        ∙ ap (λ r. next r (λ v. Ok (record { name = y; value = v }))) (returns (y.place + length t) n.rest sound)

    -- the bytes of nodes that keep the rules are read as these nodes
    pub returned : (k : ℕ) (prev : Piece) (p : ℕ) (ns : List (Node V)) (rest : List ℕ)
        → length (section_bytes tag writes ns ++ rest) ≤ k
        → length (section_bytes tag writes ns ++ rest) < 2 ^ 63
        → GoodSection Sound earlier prev.text ns
        → Stops tag rest
        → (l : Span) × (section tag reads (λ t. among t earlier) k prev p (section_bytes tag writes ns ++ rest) ≡ Ok (record { nodes = ns; last = l; place = p + length (section_bytes tag writes ns); rest = rest }))
    returned k prev p [] rest l m good s =
        let here : p ≡ p + 0 = omega arith in
        (span_of prev, no_node tag reads taken prev p k rest s ∙ ap (λ e. Ok (record { nodes = []; last = span_of prev; place = e; rest = rest })) here)
    returned zero prev p (n ∷ ns) rest l m good s = absurd (omega arith)
    returned (suc k) prev p (n ∷ ns) rest l m good s =
        let body = field_bytes 0x0A n.name ++ writes n.rest in
        let front = field_bytes tag body in
        let back = section_bytes tag writes ns in
        let q = inside p body in
        let split : (front ++ back) ++ rest ≡ front ++ (back ++ rest) = append_assoc front back rest in
        let long = ap length split ∙ length-append front (back ++ rest) in
        let head : length front ≡ suc (length (form (length body)) + length body) = ap suc (length-append (form (length body)) body) in
        let sum = length-append front back in
        let end : q + length body + length back ≡ p + length (front ++ back) = omega arith in
        let more = returned k (piece q n) (q + length body) ns rest (omega arith) (omega arith) good.2 s in (
          more.0,
          ap (section tag reads taken (suc k) prev p) split
              ∙ node_in_front tag reads taken prev p k body (back ++ rest) (omega arith)
              ∙ ap (λ r. next r (λ n. next (section tag reads taken k n.name (q + length body) (back ++ rest)) (onto n))) (node_back prev.text q n good.0 good.1)
              ∙ ap (λ r. next r (onto (record { name = piece q n; value = n.rest }))) more.1
              ∙ ap (λ e. Ok (record { nodes = n ∷ ns; last = more.0; place = e; rest = rest })) end,
        )
