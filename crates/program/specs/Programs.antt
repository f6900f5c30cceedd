-- What a text says over declared actions.
use Rattle.std.specs.Prelude.{◌≡◌, ℕ, ◌<◌, ◌≤◌, List, length}
use Rattle.program.specs.Automata.{names}
use Rattle.program.specs.Names.{Number}
use Rattle.program.specs.Rows.{RowOf}
use Rattle.program.specs.Text.{Tree, leaf, choice, chain, repeat, sum, Spells, WellFormed, FaultAt}
use Rattle.program.specs.Words.{Program, act, either, seq, star}
use Rattle.program.specs.declared.fault.ProgramFault.{ProgramFault}
use Rattle.program.specs.declared.fault.ProgramFault.TheVariants.{Malformed, Undeclared, TooMany}
use Rattle.program.specs.declared.name.Name.{Name}
use Rattle.program.specs.declared.row.Row.{Row}

-- the program that a tree means, where each name stands for the number of the action that has it
abbrev pub Means : List Name → Tree → Program → Type 0
Means acts (leaf bs) p = (a : ℕ) × Number acts bs a × (p ≡ act a)
Means acts (choice s t) p = (q : Program) × (r : Program) × Means acts s q × Means acts t r × (p ≡ either q r)
Means acts (chain s t) p = (q : Program) × (r : Program) × Means acts s q × Means acts t r × (p ≡ seq q r)
Means acts (repeat t) p = (q : Program) × Means acts t q × (p ≡ star q)

-- the text spells the program over the actions
abbrev pub SpellsProgram : List ℕ → List Name → Program → Type 0
SpellsProgram text acts p = (t : Tree) × Spells sum 0 text t × Means acts t p

-- the text is refused, with this fault: it is malformed, it has a name that is not declared, or all are and they are more than 15
abbrev pub Refused : List ℕ → List Name → ProgramFault → Type 0
Refused text acts (Malformed column) = FaultAt text column
Refused text acts Undeclared = WellFormed text × ((p : Program) → SpellsProgram text acts p → ⊥)
Refused text acts TooMany = (p : Program) × SpellsProgram text acts p × (15 < length (names p))

-- the row is that of the program that the text spells, where the numbers of the actions fit a byte
abbrev pub SpellsRow : List ℕ → List Name → Row → Type 0
SpellsRow text acts row = (p : Program) × SpellsProgram text acts p × (length acts ≤ 256 → RowOf p row)

-- a text spells at most one program
abbrev pub OneProgram : Type 0
OneProgram = (text : List ℕ) (acts : List Name) (p q : Program) → SpellsProgram text acts p → SpellsProgram text acts q → p ≡ q
