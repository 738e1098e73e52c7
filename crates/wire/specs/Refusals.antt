-- What a reader refuses: a number and the place of a byte.
use Rattle.std.specs.Prelude.{ℕ, Ok, Err, Result}
use Rattle.wire.specs.declared.fault.ReadCase.{ReadCase}
use Rattle.wire.specs.declared.fault.ReadCase.TheVariants.{Length, Number, Tag, HashText, Utf8, Name, Order, Repeated, Target}
use Rattle.wire.specs.declared.fault.ReadFault.{ReadFault}

pub record Refusal : Type 0 where
  pub number : ℕ
  pub place : ℕ

-- the number of each case
abbrev pub number : ReadCase → ℕ
number Length = 5
number Number = 12
number Tag = 13
number HashText = 14
number Utf8 = 15
number Name = 16
number Order = 17
number Repeated = 18
number Target = 19

abbrev pub refusal_of : ReadFault → Refusal
refusal_of f = record { number = number f.case; place = f.place }

-- refused with the number n at the place p
abbrev pub refused : {A : Type 0} → ℕ → ℕ → Result A Refusal
refused n p = Err (record { number = n; place = p })

-- an answer as it is, a refusal by its number and place
abbrev pub reported : {A : Type 0} → Result A ReadFault → Result A Refusal
reported (Ok x) = Ok x
reported (Err f) = Err (refusal_of f)

-- what goes on where nothing was refused
abbrev pub next : {A B : Type 0} → Result A Refusal → (A → Result B Refusal) → Result B Refusal
next (Ok x) f = f x
next (Err e) f = Err e
