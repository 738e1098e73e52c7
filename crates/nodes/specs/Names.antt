-- The name of a node: the first field of its message, tag 0A.
use Rattle.std.specs.Prelude.{ℕ, cond, List, Ok, Result}
use Rattle.texts.specs.Names.{is_name}
use Rattle.texts.specs.Utf8.{is_text}
use Rattle.wire.specs.Fields.{Piece, field_at}
use Rattle.wire.specs.Refusals.{Refusal, refused, next}

-- a name that was read: 15 where it is not text, 16 where it breaks its rule
abbrev pub judged_name : Piece → Result Piece Refusal
judged_name x = cond (is_text x.text) (cond (is_name x.text) (Ok x) (refused 16 x.place)) (refused 15 x.place)

abbrev pub name_at : ℕ → List ℕ → Result Piece Refusal
name_at p bs = next (field_at 0x0A p bs) judged_name
