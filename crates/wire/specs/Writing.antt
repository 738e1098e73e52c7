-- Bytes written into a buffer.
use Rattle.std.specs.Prelude.{ℕ, ◌+◌, Bool, cond, List, ◌++◌, length, take, drop, Ok, Err, Result, nat_le}
use Rattle.wire.specs.declared.fault.WriteFault.{WriteFault}
use Rattle.wire.specs.declared.fault.WriteFault.TheVariants.{NoRoom}

-- 8: bytes that do not fit the buffer
abbrev pub write_number : WriteFault → ℕ
write_number NoRoom = 8

abbrev pub told : Result ℕ WriteFault → Result ℕ ℕ
told (Ok n) = Ok n
told (Err f) = Err (write_number f)

-- whether the buffer has room for `part` from the place `at` on
abbrev pub has_room : List ℕ → ℕ → List ℕ → Bool
has_room buffer at part = nat_le (at + length part) (length buffer)

-- the place behind n bytes from the place `at` on, where the buffer has room for them
abbrev pub behind : List ℕ → ℕ → ℕ → Result ℕ ℕ
behind buffer at n = cond (nat_le (at + n) (length buffer)) (Ok (at + n)) (Err 8)

-- the buffer once `part` is written from the place `at` on
abbrev pub written : List ℕ → ℕ → List ℕ → List ℕ
written buffer at part = take at buffer ++ (part ++ drop (at + length part) buffer)

-- what a writer answers, the place behind the part, and what it leaves in the buffer: as it was where there is no room
abbrev pub ending : List ℕ → ℕ → List ℕ → Result ℕ ℕ
ending buffer at part = cond (has_room buffer at part) (Ok (at + length part)) (Err 8)

abbrev pub after : List ℕ → ℕ → List ℕ → List ℕ
after buffer at part = cond (has_room buffer at part) (written buffer at part) buffer
