-- What a kind's reader answers, as a value.
use Rattle.std.specs.Prelude.{ℕ, List, Ok, Err, Result}
use Rattle.wire.specs.declared.fault.ReadFault.{ReadFault}
use Rattle.wire.specs.Refusals.{Refusal, refusal_of}

-- an answer by its value in the message m, a refusal by its number and place
abbrev pub valued : {N V : Type 0} → (List ℕ → N → V) → List ℕ → Result N ReadFault → Result V Refusal
valued value m (Ok n) = Ok (value m n)
valued value m (Err f) = Err (refusal_of f)

-- whether something is read, and how it is refused
abbrev pub verdict : {V : Type 0} → Result V Refusal → Result (Unit {0}) Refusal
verdict (Ok x) = Ok tt
verdict (Err e) = Err e
