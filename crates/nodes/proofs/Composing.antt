-- A field whose message is a field 0A and a last part, and more behind it, written part by part. Assumes nothing.
use Rattle.std.proofs.Common.{◌≡◌, ℕ, ◌+◌, ◌<◌, ◌≤◌, List, [], ◌∷◌, ◌++◌, length, set, Ok, Err, ap, ◌∙◌, append_assoc, arith, length-append}
use Rattle.wire.specs.Fields.{field_bytes}
use Rattle.wire.specs.Numbers.{form}
use Rattle.wire.specs.Writing.{ending, after}
use Rattle.wire.proofs.Placing.{no_room}
use Rattle.nodes.specs.Nodes.{node_bytes}
use Rattle.nodes.proofs.Parts.{Stands, begun, not_refused, onward, ends}

-- how long such a field is, the message having `long` bytes
pub field_long : (tag : ℕ) (text last : List ℕ) (long : ℕ) → long ≡ length (field_bytes 0x0A text ++ last)
    → length (field_bytes tag (field_bytes 0x0A text ++ last)) ≡ 1 + length (form long) + length (field_bytes 0x0A text) + length last
field_long tag text last long is =
    let m = field_bytes 0x0A text ++ last in
    let f : length (form long) ≡ length (form (length m)) = ap (λ k. length (form k)) is in
    omega (arith, length-append (form (length m)) m, length-append (field_bytes 0x0A text) last)

-- a node of a bytes for its name's field, and b for what follows
module _ (e : List ℕ) (s t : ℕ) (name w : List ℕ) (a b : ℕ) (is_a : a ≡ length (field_bytes 0x0A name)) (is_b : b ≡ length w) where
  pub node_length : length (node_bytes t name w) ≡ 1 + length (form (a + b)) + (a + b)
  node_length = let l = length-append (field_bytes 0x0A name) w in omega (arith, field_long t name w (a + b) (omega arith))

  pub no_room_for_node : length e < s + (1 + length (form (a + b)) + (a + b)) → (ending e s (node_bytes t name w) ≡ Err 8) × (after e s (node_bytes t name w) ≡ e)
  no_room_for_node h = no_room e s (node_bytes t name w) (omega (arith, node_length))

module _ (e : List ℕ) (s tag : ℕ) (text last more : List ℕ) (long : ℕ) (is : long ≡ length (field_bytes 0x0A text ++ last))
    (room : s + (1 + length (form long) + length (field_bytes 0x0A text) + length last + length more) ≤ length e) where
  abbrev field : List ℕ
  field = field_bytes tag (field_bytes 0x0A text ++ last)

  abbrev headed : List ℕ
  headed = (tag ∷ []) ++ form long

  abbrev named : List ℕ
  named = headed ++ field_bytes 0x0A text

  whole : named ++ last ≡ field
  whole = append_assoc headed (field_bytes 0x0A text) last ∙ ap (λ k. tag ∷ form k ++ (field_bytes 0x0A text ++ last)) is

  start : Stands e s (tag ∷ []) (set e s tag) (s + 1)
  start = begun e s tag (omega arith)

  pub number_fits : {k : ℕ} → Err k ≡ ending (set e s tag) (s + 1) (form long) → ⊥
  number_fits = not_refused e s (tag ∷ []) _ _ start (form long) (omega arith)

  module _ (e₁ : List ℕ) (at₁ : ℕ) (is₁ : e₁ ≡ after (set e s tag) (s + 1) (form long)) (a₁ : Ok at₁ ≡ ending (set e s tag) (s + 1) (form long)) where
    one : Stands e s headed e₁ at₁
    one = onward e s (tag ∷ []) _ _ start (form long) (omega arith) e₁ at₁ is₁ a₁

    pub text_fits : {k : ℕ} → Err k ≡ ending e₁ at₁ (field_bytes 0x0A text) → ⊥
    text_fits = not_refused e s headed e₁ at₁ one (field_bytes 0x0A text) (omega arith)

    module _ (e₂ : List ℕ) (at₂ : ℕ) (is₂ : e₂ ≡ after e₁ at₁ (field_bytes 0x0A text)) (a₂ : Ok at₂ ≡ ending e₁ at₁ (field_bytes 0x0A text)) where
      two : Stands e s named e₂ at₂
      two = onward e s headed e₁ at₁ one (field_bytes 0x0A text) (omega arith) e₂ at₂ is₂ a₂

      last_room : s + length named + length last ≤ length e
      last_room = let l = length-append headed (field_bytes 0x0A text) in omega arith

      pub last_fits : {k : ℕ} → Err k ≡ ending e₂ at₂ last → ⊥
      last_fits = not_refused e s named e₂ at₂ two last last_room

      -- with the last part the field is whole
      pub field_written : (ending e₂ at₂ last ≡ ending e s field) × (after e₂ at₂ last ≡ after e s field)
      field_written = ends e s named e₂ at₂ two last last_room field whole

      pub more_written : (e₃ : List ℕ) (at₃ : ℕ) → e₃ ≡ after e₂ at₂ last → Ok at₃ ≡ ending e₂ at₂ last
          → (ending e₃ at₃ more ≡ ending e s (field ++ more)) × (after e₃ at₃ more ≡ after e s (field ++ more))
      more_written e₃ at₃ is₃ a₃ =
          let three = onward e s named e₂ at₂ two last last_room e₃ at₃ is₃ a₃ in
          let l = length-append headed (field_bytes 0x0A text) in
          let k = length-append named last in
          ends e s (named ++ last) e₃ at₃ three more (omega arith) (field ++ more) (ap (λ f. f ++ more) whole)
