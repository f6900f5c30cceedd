-- What a fault says of a text.
use Rattle.std.specs.Prelude.{ℕ, List}
use Rattle.program.specs.Text.{FaultAt}
use Rattle.program.specs.declared.fault.ProgramFault.{ProgramFault}
use Rattle.program.specs.declared.fault.ProgramFault.TheVariants.{Malformed, Undeclared, TooMany}

-- the text is malformed, with this fault
abbrev pub MalformedBy : List ℕ → ProgramFault → Type 0
MalformedBy text (Malformed column) = FaultAt text column
MalformedBy text Undeclared = ⊥
MalformedBy text TooMany = ⊥
