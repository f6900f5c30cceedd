-- What holds of the automaton of every program.
use Rattle.std.specs.Prelude.{◌≡◌, ℕ, true, ◌↔◌, List, [], ◌++◌}
use Rattle.program.specs.Words.{Program, Words}
use Rattle.program.specs.Automata.{nullable, Accepts, Led}

-- a program is nullable exactly when the empty word belongs to it
abbrev pub NullableIsEmpty : Type 0
NullableIsEmpty = (p : Program) → (nullable p ≡ true) ↔ Words p []

-- the automaton accepts exactly the words of its program
abbrev pub AcceptsItsWords : Type 0
AcceptsItsWords = (p : Program) (w : List ℕ) → Accepts p 0 w ↔ Words p w

-- a word is accepted from a state exactly when its first part leads to a state that accepts the rest
abbrev pub AcceptsByParts : Type 0
AcceptsByParts = (p : Program) (q : ℕ) (u w : List ℕ) → Accepts p q (u ++ w) ↔ ((n : ℕ) × Led p q u n × Accepts p n w)
