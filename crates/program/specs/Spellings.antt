-- What a text says over declared actions, each given by its bytes. The definitions of Names and Programs say the same over
-- records of names.
use Rattle.std.specs.Prelude.{◌≡◌, ℕ, ◌<◌, ◌≤◌, List, [], length, ◌≢◌, slice_index_or}
use Rattle.program.specs.Automata.{names}
use Rattle.program.specs.Rows.{RowOf}
use Rattle.program.specs.Text.{Tree, leaf, choice, chain, repeat, sum, Spells, WellFormed, FaultAt}
use Rattle.program.specs.Words.{Program, act, either, seq, star}
use Rattle.program.specs.declared.fault.ProgramFault.{ProgramFault}
use Rattle.program.specs.declared.fault.ProgramFault.TheVariants.{Malformed, Undeclared, TooMany}
use Rattle.program.specs.declared.row.Row.{Row}

-- none of the first n names is this one
abbrev pub AbsentIn : List (List ℕ) → ℕ → List ℕ → Type 0
AbsentIn names n bs = (k : ℕ) → k < n → slice_index_or names k [] ≢ bs

-- no name is this one
abbrev pub Missing : List (List ℕ) → List ℕ → Type 0
Missing names bs = AbsentIn names (length names) bs

-- the number of a name: the first place where it stands
abbrev pub NumberIn : List (List ℕ) → List ℕ → ℕ → Type 0
NumberIn names bs i = (i < length names) × (slice_index_or names i [] ≡ bs) × AbsentIn names i bs

-- the program that a tree means, where each name stands for the number of the action that has it
abbrev pub MeansIn : List (List ℕ) → Tree → Program → Type 0
MeansIn acts (leaf bs) p = (a : ℕ) × NumberIn acts bs a × (p ≡ act a)
MeansIn acts (choice s t) p = (q : Program) × (r : Program) × MeansIn acts s q × MeansIn acts t r × (p ≡ either q r)
MeansIn acts (chain s t) p = (q : Program) × (r : Program) × MeansIn acts s q × MeansIn acts t r × (p ≡ seq q r)
MeansIn acts (repeat t) p = (q : Program) × MeansIn acts t q × (p ≡ star q)

-- the text spells the program over the actions
abbrev pub SpellsProgramIn : List ℕ → List (List ℕ) → Program → Type 0
SpellsProgramIn text acts p = (t : Tree) × Spells sum 0 text t × MeansIn acts t p

-- the text is refused, with this fault: it is malformed, it has a name that is not declared, or all are and they are more than 15
abbrev pub RefusedIn : List ℕ → List (List ℕ) → ProgramFault → Type 0
RefusedIn text acts (Malformed column) = FaultAt text column
RefusedIn text acts Undeclared = WellFormed text × ((p : Program) → SpellsProgramIn text acts p → ⊥)
RefusedIn text acts TooMany = (p : Program) × SpellsProgramIn text acts p × (15 < length (names p))

-- the row is that of the program that the text spells, where the numbers of the actions fit a byte
abbrev pub SpellsRowIn : List ℕ → List (List ℕ) → Row → Type 0
SpellsRowIn text acts row = (p : Program) × SpellsProgramIn text acts p × (length acts ≤ 256 → RowOf p row)

-- a text spells at most one program
abbrev pub OneProgramIn : Type 0
OneProgramIn = (text : List ℕ) (acts : List (List ℕ)) (p q : Program) → SpellsProgramIn text acts p → SpellsProgramIn text acts q → p ≡ q
