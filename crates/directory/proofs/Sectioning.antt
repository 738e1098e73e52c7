-- One node of a section on. Assumes nothing.
use Rattle.std.proofs.Common.{◌≡◌, ℕ, zero, suc, ◌+◌, ◌-◌, ◌<◌, ◌≤◌, Bool, true, false, cond, ◌||◌, eqb, ◌⊎◌, Bor, Option, Some, None, List, [], ◌∷◌, ◌++◌, length, get_or, take, drop, Ok, Err, Result, sym, refl, ap, ◌∙◌, inl, inr, ⊎_elim, arith, length-drop, length-take}
use mathlib.Core.Bool.{or_assoc}
use Rattle.std.proofs.lemmas.Bool.{cases_Bool, cond-true, cond-false, eq-eqb, ne_eqb, eqb-true, eqb-false}
use Rattle.std.proofs.lemmas.List.{drop_more, drop_all}
use Rattle.std.specs.Option.{option_eq}
use Rattle.std.specs.Slice.{IsItemAt}
use Rattle.texts.specs.Order.{before}
use Rattle.wire.specs.Fields.{Piece, field_at, span_of}
use Rattle.wire.specs.Refusals.{Refusal, refused, next}
use Rattle.wire.proofs.Fieldings.{went_on, passed}
use Rattle.wire.proofs.Finding.{not_ok, same_ok, lies}
use Rattle.nodes.specs.Kinds.{part}
use Rattle.nodes.specs.Names.{name_at}
use Rattle.std.specs.Str.{bytes_eq as same}
use Rattle.directory.specs.Sections.{Named, Section, among, placed, node_at, section, onto, nothing}
use Rattle.directory.specs.Regions.{met}
use Rattle.directory.specs.Steps.{Extent, extent, extent_in, ends}
use Rattle.directory.proofs.Ascents.{Passed, passed_met}
use Rattle.directory.proofs.Places.{behind-cut, cut-part}
use Rattle.directory.proofs.Reaching.{name_field}

-- a span of a length
spanned-part : (m : List ℕ) (x : Piece) → part m (span_of x) ≡ take (length x.text) (drop x.place m)
spanned-part m x = let e : x.place + length x.text - x.place ≡ length x.text = omega arith in ap (λ k. take k (drop x.place m)) e

-- a name in a field is a part of the message
name_lies : (t at : ℕ) (m : List ℕ) (b y : Piece) → field_at t at (drop at m) ≡ Ok b → name_at b.place b.text ≡ Ok y → part m (span_of y) ≡ y.text
name_lies t at m b y f n =
    let e = b.place + length b.text in
    let cut = take e m in
    let lb = lies at m t b f in
    let inside : b.text ≡ drop b.place cut = lb.text ∙ sym (spanned-part m b) ∙ sym (behind-cut m e b.place) in
    let ly = lies b.place cut 0x0A y (ap (field_at 0x0A b.place) (sym inside) ∙ name_field b.place b.text y n) in
    let within = ly.within in
    let size = length-take e m in
    sym (cut-part m e (span_of y) (omega arith)) ∙ spanned-part cut y ∙ sym ly.text

-- a name that may stand where it does is the name judged
placed_ok : (prev : List ℕ) (taken : List ℕ → Bool) (x y : Piece) → placed prev taken x ≡ Ok y → (before prev x.text ≡ true) × (x ≡ y)
placed_ok prev taken x y e =
    let above = passed (before prev x.text) _ _ y e in (
      above.0,
      ⊎_elim
          (λ b. absurd (not_ok (sym (cond-true (taken x.text) _ _ b) ∙ above.1)))
          (λ b. same_ok (sym (cond-false (taken x.text) _ _ b) ∙ above.1))
          (cases_Bool (taken x.text)),
    )

-- two tests that agree on the names above prev judge alike
module _ (prev : List ℕ) (one two : List ℕ → Bool) (alike : (name : List ℕ) → before prev name ≡ true → one name ≡ two name) where
  placed_alike : (x : Piece) → placed prev one x ≡ placed prev two x
  placed_alike x =
      ⊎_elim
      (λ b. ap (λ t. cond (before prev x.text) (cond t (refused 18 x.place) (Ok x)) (refused 17 x.place)) (alike x.text b))
      (λ b. cond-false (before prev x.text) _ _ b ∙ sym (cond-false (before prev x.text) _ _ b))
      (cases_Bool (before prev x.text))

  pub extent_alike : {V : Type 0} (t : ℕ) (reads : ℕ → List ℕ → Result V Refusal) (p : ℕ) (bs : List ℕ) → extent t reads one prev p bs ≡ extent t reads two prev p bs
  extent_alike t reads p bs i =
      next (field_at t p bs) (λ x.
      next (next (name_at x.place x.text) (λ y. next (placed_alike y i) (λ z. next (reads (z.place + length z.text) z.rest) (λ v. Ok (record { name = z; value = v }))))) (extent_in t reads one x))

pub among-both : (name : List ℕ) (ns ms : List (List ℕ)) → among name ns || among name ms ≡ among name (ns ++ ms)
among-both name [] ms = refl
among-both name (n ∷ ns) ms = or_assoc (same name n) (among name ns) (among name ms) ∙ ap (λ b. same name n || b) (among-both name ns ms)

-- a name met in what is left of the earlier sections is among their names
pub met-both : (prev name : List ℕ) (fs ds ls rs : List (List ℕ)) → Passed prev fs ls → Passed prev ds rs → before prev name ≡ true → met name ls || met name rs ≡ among name (fs ++ ds)
met-both prev name fs ds ls rs f d b = (λ i. passed_met prev name fs ls f b i || passed_met prev name ds rs d b i) ∙ among-both name fs ds

-- whether the byte at a place, if there is one, is a tag
module _ (m : List ℕ) (at t : ℕ) (x : Bor ℕ) (is : x.now ≡ t) where
  abbrev tags : Option (Bor ℕ) → Bool
  tags r = option_eq (λ (a b : Bor ℕ). eqb a.now b.now) r (Some x)

  pub tagged : (r : Option (Bor ℕ)) → IsItemAt m at r → true ≡ tags r → (at < length m) × (get_or m at 0 ≡ t)
  tagged None h e = absurd (cc)
  tagged (Some y) h e = (h.3.0, sym (h.3.1 0) ∙ eqb-true y.now x.now (sym e) ∙ is)

  pub untagged : (r : Option (Bor ℕ)) → IsItemAt m at r → false ≡ tags r → (length m ≤ at) ⊎ ((at < length m) × (get_or m at 0 ≡ t → ⊥))
  untagged None h e = inl h.3
  untagged (Some y) h e = inr (h.3.0, λ d. eqb-false y.now x.now (sym e) (h.3.1 0 ∙ d ∙ sym is))

module _ {V : Type 0} (t : ℕ) (reads : ℕ → List ℕ → Result V Refusal) (taken : List ℕ → Bool) where
  stops : (f : ℕ) (prev : Piece) (p b : ℕ) (bs : List ℕ) → (b ≡ t → ⊥) → section t reads taken f prev p (b ∷ bs) ≡ nothing prev p (b ∷ bs)
  stops zero prev p b bs n = refl
  stops (suc f) prev p b bs n = cond-false (eqb b t) _ _ (ne_eqb b t n)

  stops_empty : (f : ℕ) (prev : Piece) (p : ℕ) → section t reads taken f prev p [] ≡ nothing prev p []
  stops_empty zero prev p = refl
  stops_empty (suc f) prev p = refl

  module _ (m : List ℕ) (at : ℕ) (f : ℕ) (prev : Piece) where
    pub stop_at_end : length m ≤ at → ends (section t reads taken f prev at (drop at m)) ≡ Ok (record { last = span_of prev; end = at })
    stop_at_end h = ap ends (ap (section t reads taken f prev at) (drop_all at m h) ∙ stops_empty f prev at)

    pub stop_at_other : at < length m → (get_or m at 0 ≡ t → ⊥) → ends (section t reads taken f prev at (drop at m)) ≡ Ok (record { last = span_of prev; end = at })
    stop_at_other h n = ap ends (ap (section t reads taken f prev at) (drop_more m at 0 h) ∙ stops f prev at _ _ n)

    pub stop_at : (length m ≤ at) ⊎ ((at < length m) × (get_or m at 0 ≡ t → ⊥)) → ends (section t reads taken f prev at (drop at m)) ≡ Ok (record { last = span_of prev; end = at })
    stop_at = ⊎_elim (λ h. stop_at_end h) (λ h. stop_at_other h.0 h.1)

    -- what goes on behind a field
    abbrev step : ℕ → Piece → Result (Section V) Refusal
    step k x = next (node_at t reads taken prev.text x.place x.text) (λ n. next (section t reads taken k n.name (x.place + length x.text) x.rest) (onto n))

    module _ (on : at < length m) (tagged : get_or m at 0 ≡ t) (fuel : length (drop at m) ≤ f) where
      here : section t reads taken f prev at (drop at m) ≡ next (field_at t at (drop at m)) (step (f - 1))
      here =
          let a = length-drop at m in
          let more : f ≡ suc (f - 1) = omega arith in
          let split = drop_more m at 0 on in
          ap (λ k. section t reads taken k prev at (drop at m)) more
          ∙ ap (section t reads taken (suc (f - 1)) prev at) split
          ∙ cond-true (eqb (get_or m at 0) t) _ _ (eq-eqb _ _ tagged)
          ∙ ap (λ l. next (field_at t at l) (step (f - 1))) (sym split)

      -- a refused node refuses the section
      pub refused_here : (r : Refusal) → extent t reads taken prev.text at (drop at m) ≡ Err r → ends (section t reads taken f prev at (drop at m)) ≡ Err r
      refused_here r e = ap ends here ∙ go (field_at t at (drop at m)) e
        where
          inner : (x : Piece) (n : Result (Named V) Refusal) → next n (extent_in t reads taken x) ≡ Err r
              → ends (next n (λ n. next (section t reads taken (f - 1) n.name (x.place + length x.text) x.rest) (onto n))) ≡ Err r
          inner x (Ok n) e = absurd (not_ok (sym e))
          inner x (Err d) e = cc

          go : (y : Result Piece Refusal) → next y (λ x. next (node_at t reads taken prev.text x.place x.text) (extent_in t reads taken x)) ≡ Err r → ends (next y (step (f - 1))) ≡ Err r
          go (Err d) e = cc
          go (Ok x) e = inner x (node_at t reads taken prev.text x.place x.text) e

      ends_onto : (n : Named V) (s : Result (Section V) Refusal) → ends (next s (onto n)) ≡ ends s
      ends_onto n (Ok s) = refl
      ends_onto n (Err d) = refl

      -- a node that was read, and the section behind it
      pub record More (x : Extent) : Type 0 where
        pub rest : List ℕ
        pub above : before prev.text (part m x.name) ≡ true
        pub long : x.name.start + length (part m x.name) ≡ x.name.end
        pub fewer : length (drop x.end m) ≤ f - 1
        pub onward : ends (section t reads taken f prev at (drop at m)) ≡ ends (section t reads taken (f - 1) (record { text = part m x.name; place = x.name.start; rest = rest }) x.end (drop x.end m))

      pub one_more : (x : Extent) → extent t reads taken prev.text at (drop at m) ≡ Ok x → More x
      one_more x e =
          let field = went_on (field_at t at (drop at m)) _ x e in
          let b = field.0 in
          let node = went_on (node_at t reads taken prev.text b.place b.text) (extent_in t reads taken b) x field.2 in
          let n = node.0 in
          let name = went_on (name_at b.place b.text) _ n node.1 in
          let y = name.0 in
          let judged = went_on (placed prev.text taken y) _ n name.2 in
          let z = judged.0 in
          let read = went_on (reads (z.place + length z.text) z.rest) _ n judged.2 in
          let stands = placed_ok prev.text taken y z judged.1 in
          let same : y ≡ n.name = stands.1 ∙ ap (λ k. k.name) (same_ok read.2) in
          let text : part m (span_of y) ≡ y.text = name_lies t at m b y field.1 name.1 in
          let is : record { name = span_of n.name; end = b.place + length b.text } ≡ x = same_ok node.2 in
          let span : span_of y ≡ x.name = ap span_of same ∙ ap (λ k. k.name) is in
          let end : b.place + length b.text ≡ x.end = ap (λ k. k.end) is in
          let start : y.place ≡ x.name.start = ap (λ k. k.start) span in
          let shown : y.text ≡ part m x.name = sym text ∙ ap (part m) span in
          let lb = lies at m t b field.1 in
          let behind = lb.behind in
          let a = length-drop at m in
          let c = length-drop x.end m in
          record {
            rest = y.rest;
            above = ap (before prev.text) (sym shown) ∙ stands.0;
            long = (λ i. sym start i + length (sym shown i)) ∙ ap (λ k. k.end) span;
            fewer = omega arith;
            onward =
                ap ends (here ∙ ap (λ r. next r (step (f - 1))) field.1 ∙ ap (λ r. next r (λ n. next (section t reads taken (f - 1) n.name (b.place + length b.text) b.rest) (onto n))) node.1)
                ∙ ends_onto n (section t reads taken (f - 1) n.name (b.place + length b.text) b.rest)
                ∙ (λ i. ends (section t reads taken (f - 1) (sym same i) (end i) (lb.rest i)))
                ∙ (λ i. ends (section t reads taken (f - 1) (record { text = shown i; place = start i; rest = y.rest }) x.end (drop (end i) m)));
          }
