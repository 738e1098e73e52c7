-- A section that goes on behind whole nodes. Assumes nothing.
use Rattle.std.proofs.Common.{◌≡◌, ℕ, zero, suc, ◌+◌, ◌≤◌, Bool, cond, eqb, List, [], ◌∷◌, ◌++◌, length, Ok, Err, Result, sym, refl, ap, ◌∙◌, subst, ⊎_elim, append_assoc, arith, length-append}
use Rattle.wire.specs.Fields.{Piece, field_at, field_bytes, span_of}
use Rattle.wire.specs.Numbers.{form}
use Rattle.wire.specs.Refusals.{Refusal, next}
use Rattle.wire.proofs.Fieldings.{fielded}
use Rattle.wire.proofs.Finding.{same_ok}
use Rattle.directory.specs.Sections.{Node, Named, Section, onto, nothing, node_at, section}
use Rattle.directory.proofs.OneSection.{no_node, node_in_front, Step, step}

-- nodes in front of those of a section
abbrev pub onto_all : {V : Type 0} → List (Node V) → Section V → Result (Section V) Refusal
onto_all ns s = Ok (record { nodes = ns ++ s.nodes; last = s.last; place = s.place; rest = s.rest })

-- the name of the last node, or prev where there is none
abbrev pub last_name : {V : Type 0} → List ℕ → List (Node V) → List ℕ
last_name prev [] = prev
last_name prev (n ∷ ns) = last_name n.name ns

onto-none : {V : Type 0} (r : Result (Section V) Refusal) → next r (onto_all []) ≡ r
onto-none (Ok s) = refl
onto-none (Err e) = refl

onto_more : {V : Type 0} (n : Named V) (ns : List (Node V)) (r : Result (Section V) Refusal) → next (next r (onto_all ns)) (onto n) ≡ next r (onto_all (record { name = n.name.text; rest = n.value } ∷ ns))
onto_more n ns (Ok s) = refl
onto_more n ns (Err e) = refl

next_same : {A B : Type 0} (r : Result A Refusal) (f g : A → Result B Refusal) → ((x : A) → r ≡ Ok x → f x ≡ g x) → next r f ≡ next r g
next_same (Ok x) f g h = h x refl
next_same (Err e) f g h = refl

module _ {V : Type 0} (tag : ℕ) (reads : ℕ → List ℕ → Result V Refusal) (taken : List ℕ → Bool) where
  -- it does not matter how many nodes may be read, where that is enough
  pub any_fuel : (j k : ℕ) (prev : Piece) (p : ℕ) (bs : List ℕ) → length bs ≤ j → length bs ≤ k → section tag reads taken j prev p bs ≡ section tag reads taken k prev p bs
  any_fuel j k prev p [] l m = no_node tag reads taken prev p j [] tt ∙ sym (no_node tag reads taken prev p k [] tt)
  any_fuel zero k prev p (b ∷ bs) l m = absurd (omega arith)
  any_fuel (suc j) zero prev p (b ∷ bs) l m = absurd (omega arith)
  any_fuel (suc j) (suc k) prev p (b ∷ bs) l m =
      ap (λ r. cond (eqb b tag) r (nothing prev p (b ∷ bs)))
      (next_same (field_at tag p (b ∷ bs)) _ _
      (λ x e.
      let size = ap length (fielded tag p (b ∷ bs) x e).bytes ∙ length-append (field_bytes tag x.text) x.rest in
      next_same (node_at tag reads taken prev.text x.place x.text) _ _
      (λ n d. ap (λ r. next r (onto n)) (any_fuel j k n.name (x.place + length x.text) x.rest (omega arith) (omega arith)))))

  -- behind bs, which at p is the whole section s, the section goes on as behind its last name
  pub record GoesOn (prev : Piece) (p : ℕ) (bs : List ℕ) (s : Section V) : Type 0 where
    pub last : Piece
    pub span : span_of last ≡ s.last
    pub text : last.text ≡ last_name prev.text s.nodes
    pub place : s.place ≡ p + length bs
    pub behind : (ys : List ℕ) (j k : ℕ) → length (bs ++ ys) ≤ j → length ys ≤ k → section tag reads taken j prev p (bs ++ ys) ≡ next (section tag reads taken k last (p + length bs) ys) (onto_all s.nodes)

  goes_none : (prev : Piece) (p : ℕ) (s : Section V) → nothing prev p [] ≡ Ok s → GoesOn prev p [] s
  goes_none prev p s e =
      let here : p ≡ p + 0 = omega arith in
      let none : GoesOn prev p [] (record { nodes = []; last = span_of prev; place = p; rest = [] }) = record {
        last = prev;
        span = refl;
        text = refl;
        place = here;
        behind = λ ys j k l m. any_fuel j k prev p ys l m ∙ ap (λ q. section tag reads taken k prev q ys) here ∙ sym (onto-none (section tag reads taken k prev (p + 0) ys));
      } in
      subst (GoesOn prev p []) (same_ok e) none

  goes_more : (h : ℕ) (prev : Piece) (p : ℕ) (bs : List ℕ) (s : Section V) (t : Step tag reads taken prev p h bs s) → GoesOn t.node.name (t.field.place + length t.field.text) t.field.rest t.more → GoesOn prev p bs s
  goes_more h prev p bs s t g =
      let x = t.field in
      let n = t.node in
      let f = t.fielded in
      let body = x.text in
      let nodes : List (Node V) = record { name = n.name.text; rest = n.value } ∷ t.more.nodes in
      let long = ap length f.bytes ∙ length-append (field_bytes tag body) x.rest in
      let head = length-append (form (length body)) body in
      let at = f.place in
      let end = g.place in
      let there : x.place + length body + length x.rest ≡ p + length bs = omega arith in
      let whole : (ys : List ℕ) → bs ++ ys ≡ field_bytes tag body ++ (x.rest ++ ys) = λ ys. ap (λ l. l ++ ys) f.bytes ∙ append_assoc (field_bytes tag body) x.rest ys in
      let behind : (ys : List ℕ) (j k : ℕ) → length (bs ++ ys) ≤ j → length ys ≤ k → section tag reads taken j prev p (bs ++ ys) ≡ next (section tag reads taken k g.last (p + length bs) ys) (onto_all nodes) = λ ys j k l m.
      let size = ap length (whole ys) ∙ length-append (field_bytes tag body) (x.rest ++ ys) in
      let then : ℕ → Named V → Result (Section V) Refusal = λ q n. next (section tag reads taken j n.name (q + length body) (x.rest ++ ys)) (onto n) in
      any_fuel j (suc j) prev p (bs ++ ys) l (omega arith)
      ∙ ap (section tag reads taken (suc j) prev p) (whole ys)
      ∙ node_in_front tag reads taken prev p j body (x.rest ++ ys) f.bound
      ∙ ap (λ q. next (node_at tag reads taken prev.text q body) (then q)) (sym at)
      ∙ ap (λ r. next r (then x.place)) t.noded
      ∙ ap (λ r. next r (onto n)) (g.behind ys j k (omega arith) m)
      ∙ onto_more n t.more.nodes (section tag reads taken k g.last (x.place + length body + length x.rest) ys)
      ∙ ap (λ q. next (section tag reads taken k g.last q ys) (onto_all nodes)) there
      in
      let made : GoesOn prev p bs (record { nodes = nodes; last = t.more.last; place = t.more.place; rest = t.more.rest }) = record {
        last = g.last;
        span = g.span;
        text = g.text;
        place = end ∙ there;
        behind = behind;
      } in
      subst (GoesOn prev p bs) (same_ok t.whole) made

  -- what was read whole goes on so
  pub appended : (k : ℕ) (prev : Piece) (p : ℕ) (bs : List ℕ) (s : Section V) → length bs ≤ k → section tag reads taken k prev p bs ≡ Ok s → s.rest ≡ [] → GoesOn prev p bs s
  appended k prev p [] s l e whole = goes_none prev p s (sym (no_node tag reads taken prev p k [] tt) ∙ e)
  appended zero prev p (b ∷ bs) s l e whole = absurd (omega arith)
  appended (suc k) prev p (b ∷ bs) s l e whole =
      ⊎_elim
      (λ t.
      let less = t.shorter in
      let rest : t.more.rest ≡ [] = ap (λ (u : Section V). u.rest) (same_ok t.whole) ∙ whole in
      goes_more k prev p (b ∷ bs) s t (appended k t.node.name (t.field.place + length t.field.text) t.field.rest t.more (omega arith) t.read rest))
      (λ none.
      let long = ap (λ (u : Section V). length u.rest) (same_ok none.1) ∙ ap length whole in
      absurd (omega arith))
      (step tag reads taken prev p k b bs s e)
