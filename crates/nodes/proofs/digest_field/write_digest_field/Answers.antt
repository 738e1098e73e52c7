use Rattle.std.proofs.Common.{◌≡◌, ℕ, ◌+◌, ◌≤◌, ◌++◌, List, length, Err, Result, sym, ap, ◌∙◌, arith, length-append}
use Rattle.std.proofs.lemmas.Result.{err_from_is_err_and}
use Rattle.digest.specs.Digests.{value_of}
use Rattle.hash.specs.Text.{text_of}
use Rattle.wire.specs.Fields.{field_bytes}
use Rattle.wire.specs.Numbers.{form}
use Rattle.wire.specs.Writing.{write_number, told, behind, ending, after}
use Rattle.nodes.specs.Digests.{digest_bytes}
use Rattle.nodes.specs.Endings.{last_bytes}
use Rattle.nodes.proofs.Composing.{field_long, number_fits, text_fits, last_fits, more_written}
use Rattle.wire.proofs.Placing.{no_room, there_is_room, there_is_none}
use Rattle.nodes.proofs.digest_field.write_digest_field.Goals as goal

-- how long the field and what follows are
all_long : (count : ℕ) (field more : List ℕ) → count ≡ length field → count + length more ≡ length (field ++ more)
all_long count field more is = let l = length-append field more in omega arith

pub returns-in_err-end_of-clause-answer : goal.returns-in_err-end_of-clause-answer
returns-in_err-end_of-clause-answer c =
    let p = err_from_is_err_and c.from_residual.result c.from_residual.ensures.1 in
    ap told p.1 ∙ ap (λ f. Err (write_number f)) p.2 ∙ c.in_err-end_of.ensures
    ∙ ap (behind c.args.buffer.now c.args.start) (all_long _ (field_bytes c.args.tag (digest_bytes (value_of c.args.digest.now))) c.args.more.now (c.digest_field_length.ensures.value c.args.tag))

pub returns-in_err-end_of-clause-buffer : goal.returns-in_err-end_of-clause-buffer
returns-in_err-end_of-clause-buffer c =
    let field = field_bytes c.args.tag (digest_bytes (value_of c.args.digest.now)) in
    let none = there_is_none _ _ _ c.in_err-end_of.ensures in
    sym (no_room c.args.buffer.now c.args.start (field ++ c.args.more.now) (omega (arith, all_long _ field c.args.more.now (c.digest_field_length.ensures.value c.args.tag)))).1

-- the room that was tested, part by part
parts_fit : (e more text : List ℕ) (s tag size count long : ℕ) → long ≡ length (field_bytes 0x0A text ++ last_bytes 0x10 size)
    → count ≡ length (field_bytes tag (field_bytes 0x0A text ++ last_bytes 0x10 size)) → s + (count + length more) ≤ length e
    → s + (1 + length (form long) + length (field_bytes 0x0A text) + length (last_bytes 0x10 size) + length more) ≤ length e
parts_fit e more text s tag size count long is all room = omega (arith, field_long tag text (last_bytes 0x10 size) long is)

-- the text that was written is that of the hash
said : (e t text : List ℕ) (at : ℕ) (r : Result ℕ ℕ) → t ≡ text → r ≡ ending e at (field_bytes 0x0A t) → r ≡ ending e at (field_bytes 0x0A text)
said e t text at r is h = h ∙ ap (λ x. ending e at (field_bytes 0x0A x)) is

left : (e t text : List ℕ) (at : ℕ) (b : List ℕ) → t ≡ text → b ≡ after e at (field_bytes 0x0A t) → b ≡ after e at (field_bytes 0x0A text)
left e t text at b is h = h ∙ ap (λ x. after e at (field_bytes 0x0A x)) is

pub bounds-buffer-start : goal.bounds-buffer-start
bounds-buffer-start c = let room = there_is_room _ _ _ c.in_ok-end_of.ensures in omega (arith, c.digest_field_length.ensures.value c.args.tag)

pub returns-in_err-hash_at : goal.returns-in_err-hash_at
returns-in_err-hash_at c =
    let text = text_of c.args.digest.now.hash.words in
    let last = last_bytes 0x10 c.args.digest.now.size in
    let room = parts_fit c.args.buffer.now c.args.more.now text c.args.start c.args.tag c.args.digest.now.size _ _ c.digest_length.ensures.value (c.digest_field_length.ensures.value c.args.tag) (there_is_room _ _ _ c.in_ok-end_of.ensures) in
    absurd (number_fits c.args.buffer.now c.args.start c.args.tag text last c.args.more.now _ c.digest_length.ensures.value room c.in_err-hash_at.ensures.answer)

pub returns-in_err-size_at : goal.returns-in_err-size_at
returns-in_err-size_at c =
    let text = text_of c.args.digest.now.hash.words in
    let last = last_bytes 0x10 c.args.digest.now.size in
    let room = parts_fit c.args.buffer.now c.args.more.now text c.args.start c.args.tag c.args.digest.now.size _ _ c.digest_length.ensures.value (c.digest_field_length.ensures.value c.args.tag) (there_is_room _ _ _ c.in_ok-end_of.ensures) in
    absurd (text_fits c.args.buffer.now c.args.start c.args.tag text last c.args.more.now _ c.digest_length.ensures.value room
    _ _ c.in_ok-hash_at.ensures.buffer c.in_ok-hash_at.ensures.answer
    (said _ _ _ _ _ c.to_text.ensures.value c.in_err-size_at.ensures.answer))

pub returns-in_err-more_at : goal.returns-in_err-more_at
returns-in_err-more_at c =
    let text = text_of c.args.digest.now.hash.words in
    let last = last_bytes 0x10 c.args.digest.now.size in
    let room = parts_fit c.args.buffer.now c.args.more.now text c.args.start c.args.tag c.args.digest.now.size _ _ c.digest_length.ensures.value (c.digest_field_length.ensures.value c.args.tag) (there_is_room _ _ _ c.in_ok-end_of.ensures) in
    absurd (last_fits c.args.buffer.now c.args.start c.args.tag text last c.args.more.now _ c.digest_length.ensures.value room
    _ _ c.in_ok-hash_at.ensures.buffer c.in_ok-hash_at.ensures.answer
    _ _ (left _ _ _ _ _ c.to_text.ensures.value c.in_ok-size_at.ensures.buffer) (said _ _ _ _ _ c.to_text.ensures.value c.in_ok-size_at.ensures.answer)
    c.in_err-more_at.ensures.answer)

pub returns-clause-buffer : goal.returns-clause-buffer
returns-clause-buffer c =
    let text = text_of c.args.digest.now.hash.words in
    let last = last_bytes 0x10 c.args.digest.now.size in
    let room = parts_fit c.args.buffer.now c.args.more.now text c.args.start c.args.tag c.args.digest.now.size _ _ c.digest_length.ensures.value (c.digest_field_length.ensures.value c.args.tag) (there_is_room _ _ _ c.in_ok-end_of.ensures) in
    let p =
    more_written c.args.buffer.now c.args.start c.args.tag text last c.args.more.now _ c.digest_length.ensures.value room
    _ _ c.in_ok-hash_at.ensures.buffer c.in_ok-hash_at.ensures.answer
    _ _ (left _ _ _ _ _ c.to_text.ensures.value c.in_ok-size_at.ensures.buffer) (said _ _ _ _ _ c.to_text.ensures.value c.in_ok-size_at.ensures.answer)
    _ _ c.in_ok-more_at.ensures.buffer c.in_ok-more_at.ensures.answer in
    c.write_bytes.ensures.buffer ∙ p.1
