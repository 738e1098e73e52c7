-- Fields: a tag of one byte, and then a length with so many bytes.
use Rattle.std.specs.Prelude.{ℕ, ◌+◌, ◌<◌, ◌≤◌, cond, List, [], ◌∷◌, ◌++◌, length, take, drop, Ok, Err, Result, ◌==◌, nat_le}
use Rattle.wire.specs.declared.field.Span.{Span}
use Rattle.wire.specs.Numbers.{form, number_at}
use Rattle.wire.specs.Refusals.{Refusal, refused, next}

-- the bytes of a field
abbrev pub field_bytes : ℕ → List ℕ → List ℕ
field_bytes tag text = tag ∷ form (length text) ++ text

-- a field that was read: its text, the place of the text, and what follows
pub record Piece : Type 0 where
  pub text : List ℕ
  pub place : ℕ
  pub rest : List ℕ

-- n bytes behind a length of k bytes that stands at p, or the refusal 12 where the length passes the message's end
abbrev pub cut : ℕ → ℕ → ℕ → List ℕ → Result Piece Refusal
cut p n k bs = cond (nat_le n (length bs)) (Ok (record { text = take n bs; place = p + k; rest = drop n bs })) (refused 12 p)

-- the field that stands at p in front of bs: 13 for another tag or for none
abbrev pub field_at : ℕ → ℕ → List ℕ → Result Piece Refusal
field_at tag p [] = refused 13 p
field_at tag p (b ∷ bs) = cond (b == tag) (next (number_at (p + 1) bs) (λ x. cut (p + 1) x.0 x.1 (drop x.1 bs))) (refused 13 p)

-- where a field's text begins and ends
abbrev pub span_of : Piece → Span
span_of x = record { start = x.place; end = x.place + length x.text }

abbrev pub spanned : Result Piece Refusal → Result Span Refusal
spanned (Ok x) = Ok (span_of x)
spanned (Err e) = Err e

-- a span behind the place p, within the message m
abbrev pub Inside : ℕ → List ℕ → Span → Type 0
Inside p m s = (p < s.start) × (s.start ≤ s.end) × (s.end ≤ length m)
