-- The names of nodes that stand one behind the other. Assumes nothing.
use Rattle.std.proofs.Common.{◌≡◌, ℕ, zero, suc, ◌+◌, ◌-◌, ◌^◌, ◌<◌, ◌≤◌, List, [], ◌∷◌, ◌++◌, length, get_or, take, drop, Some, None, Ok, Err, Result, refl, ap, ◌∙◌, arith, length-append}
use Rattle.std.proofs.lemmas.List.{drop_at, take_at}
use Rattle.std.specs.Result.{result_ok}
use Rattle.wire.specs.Fields.{field_at, field_bytes}
use Rattle.wire.specs.Numbers.{form}
use Rattle.wire.specs.Refusals.{Refusal, next}
use Rattle.wire.proofs.Fieldings.{went_on, fielded, field_back}
use Rattle.nodes.specs.Nodes.{node_bytes}
use Rattle.directory.specs.Canonical.{section_bytes}
use Rattle.directory.specs.Regions.{Front, front_of, name_then, names_up_to, names_in}
use Rattle.directory.specs.Sections.{Node, names}

-- what a node is in front of is shorter
shorter : (bs : List ℕ) (x : Front) → front_of bs ≡ Ok x → length x.rest < length bs
shorter bs x e =
    let node = went_on (field_at (get_or bs 0 0) 0 bs) _ x e in
    let name = went_on (field_at 0x0A 0 node.0.text) _ x node.2 in
    let f = fielded (get_or bs 0 0) 0 bs node.0 node.1 in
    let size : length bs ≡ length (field_bytes (get_or bs 0 0) node.0.text) + length node.0.rest = ap length f.bytes ∙ length-append (field_bytes (get_or bs 0 0) node.0.text) node.0.rest in
    let is : node.0.rest ≡ x.rest = cc in
    let same : length node.0.rest ≡ length x.rest = ap length is in
    omega arith

same_then : (j k : ℕ) (r : Result Front Refusal) → ((x : Front) → r ≡ Ok x → names_up_to j x.rest ≡ names_up_to k x.rest) → name_then (names_up_to j) r ≡ name_then (names_up_to k) r
same_then j k (Err e) more = refl
same_then j k (Ok x) more = ap (λ l. x.name ∷ l) (more x refl)

-- no more names than bytes are asked for
pub enough : (j k : ℕ) (bs : List ℕ) → length bs ≤ j → length bs ≤ k → names_up_to j bs ≡ names_up_to k bs
enough zero zero bs h l = refl
enough zero (suc k) [] h l = refl
enough zero (suc k) (b ∷ bs) h l = absurd (omega arith)
enough (suc j) zero [] h l = refl
enough (suc j) zero (b ∷ bs) h l = absurd (omega arith)
enough (suc j) (suc k) bs h l = same_then j k (front_of bs) (λ x is. let less = shorter bs x is in enough j k x.rest (omega arith) (omega arith))

pub unrolled : (k : ℕ) (bs : List ℕ) → length bs ≤ k → names_up_to k bs ≡ name_then (names_up_to k) (front_of bs)
unrolled k bs h = enough k (suc k) bs h (omega arith)

pub none_there : (k : ℕ) (bs : List ℕ) → length bs ≤ k → None ≡ result_ok (front_of bs) → names_up_to k bs ≡ []
none_there k bs h n = unrolled k bs h ∙ go (front_of bs) n
  where
    go : (r : Result Front Refusal) → None ≡ result_ok r → name_then (names_up_to k) r ≡ []
    go (Err e) d = refl
    go (Ok y) d = absurd (let z : ◌≡◌ {A = ℕ} 0 1 = cc in omega arith)

pub one_there : (k : ℕ) (bs : List ℕ) (x : Front) → length bs ≤ k → Some x ≡ result_ok (front_of bs) → names_up_to k bs ≡ x.name ∷ names_up_to k x.rest
one_there k bs x h n = unrolled k bs h ∙ go (front_of bs) n
  where
    go : (r : Result Front Refusal) → Some x ≡ result_ok r → name_then (names_up_to k) r ≡ x.name ∷ names_up_to k x.rest
    go (Err e) d = absurd (let z : ◌≡◌ {A = ℕ} 0 1 = cc in omega arith)
    go (Ok y) d = let same : y ≡ x = cc in ap (λ z. z.name ∷ names_up_to k z.rest) same

-- a node is read back
front_back : (tag : ℕ) (name text rest : List ℕ) → length (node_bytes tag name text) < 2 ^ 63 → front_of (node_bytes tag name text ++ rest) ≡ Ok (record { name = name; rest = rest })
front_back tag name text rest h =
    let body = field_bytes 0x0A name ++ text in
    let a = length-append (form (length body)) body in
    let b = length-append (field_bytes 0x0A name) text in
    let c = length-append (form (length name)) name in
    ap (λ r. next r (λ x. next (field_at 0x0A 0 x.text) (λ y. Ok (record { name = y.text; rest = x.rest })))) (field_back tag 0 body rest (omega arith))
    ∙ ap (λ r. next r (λ y. Ok (record { name = y.text; rest = rest }))) (field_back 0x0A 0 name text (omega arith))

-- the names in the bytes of a section are those of its nodes
module _ {V : Type 0} (tag : ℕ) (writes : V → List ℕ) where
  pub names_back : (k : ℕ) (ns : List (Node V)) → length (section_bytes tag writes ns) ≤ k → length (section_bytes tag writes ns) < 2 ^ 63 → names_up_to k (section_bytes tag writes ns) ≡ names ns
  names_back zero [] h s = refl
  names_back (suc k) [] h s = refl
  names_back zero (n ∷ ns) h s = absurd (omega arith)
  names_back (suc k) (n ∷ ns) h s =
      let node = node_bytes tag n.name (writes n.rest) in
      let more = section_bytes tag writes ns in
      let size = length-append node more in
      ap (name_then (names_up_to k)) (front_back tag n.name (writes n.rest) more (omega arith))
      ∙ ap (λ l. n.name ∷ l) (names_back k ns (omega arith) (omega arith))

  -- and so where they stand in a message
  pub names_within : (m a b : List ℕ) (ns : List (Node V)) → length (section_bytes tag writes ns) < 2 ^ 63 → m ≡ a ++ (section_bytes tag writes ns ++ b)
      → names_in m (record { start = length a; end = length a + length (section_bytes tag writes ns) }) ≡ names ns
  names_within m a b ns s e =
      let bytes = section_bytes tag writes ns in
      let outer = length-append a (bytes ++ b) in
      let inner = length-append bytes b in
      let whole = ap length e in
      let width : length a + length bytes - length a ≡ length bytes = omega arith in
      let is : take (length a + length bytes - length a) (drop (length a) m) ≡ bytes =
      ap (λ n. take n (drop (length a) m)) width ∙ ap (λ l. take (length bytes) (drop (length a) l)) e
      ∙ ap (take (length bytes)) (drop_at a (bytes ++ b) (length a) refl)
      ∙ take_at bytes b (length bytes) refl in
      ap (names_up_to (length m)) is ∙ names_back (length m) ns (omega arith) s
