-- What the lines of a document say, where a name stands for the first place at which it is declared.
use Rattle.std.specs.Prelude.{◌≡◌, ℕ, ◌<◌, ◌≤◌, List, [], ◌∷◌, ◌++◌, length}
use Rattle.program.specs.Words.{Program}
use Rattle.program.specs.Automata.{names}
use Rattle.program.specs.Spellings.{NumberIn, Missing, SpellsProgramIn}
use Rattle.document.specs.Documents.{weight}
use Rattle.document.specs.Lines.{Declarations, Line, act_line, prop_line, goal_line, prog_line, true_form, prop_form, not_form, and_form, or_form, next_form, until_form, ReadsAs, MalformedAt, InPlace}
use Rattle.document.specs.declared.form.Form.{Form}
use Rattle.document.specs.declared.form.Form.TheVariants.{True, Prop, Not, And, Or, Next, Until}

-- the name is new in its kind
abbrev pub NewByFirst : List (List ℕ) → List ℕ → Type 0
NewByFirst ns name = Missing ns name

-- the name is declared
abbrev pub KnownName : List (List ℕ) → List ℕ → Type 0
KnownName ns name = (i : ℕ) × NumberIn ns name i

-- the name that a line declares is new in its kind
abbrev pub NewName : Declarations → Line → Type 0
NewName d (act_line n) = NewByFirst d.acts n
NewName d (prop_line n) = NewByFirst d.props n
NewName d (goal_line f) = Unit {0}
NewName d (prog_line n text) = NewByFirst d.prog_names n
NewName d (true_form n) = NewByFirst d.form_names n
NewName d (prop_form n p) = NewByFirst d.form_names n
NewName d (not_form n f) = NewByFirst d.form_names n
NewName d (and_form n f g) = NewByFirst d.form_names n
NewName d (or_form n f g) = NewByFirst d.form_names n
NewName d (next_form n a f) = NewByFirst d.form_names n
NewName d (until_form n f p g) = NewByFirst d.form_names n

-- the names that a line uses are declared before
abbrev pub NamesKnown : Declarations → Line → Type 0
NamesKnown d (act_line n) = Unit {0}
NamesKnown d (prop_line n) = Unit {0}
NamesKnown d (goal_line f) = KnownName d.form_names f
NamesKnown d (prog_line n text) = (p : Program) × SpellsProgramIn text d.acts p
NamesKnown d (true_form n) = Unit {0}
NamesKnown d (prop_form n p) = KnownName d.props p
NamesKnown d (not_form n f) = KnownName d.form_names f
NamesKnown d (and_form n f g) = KnownName d.form_names f × KnownName d.form_names g
NamesKnown d (or_form n f g) = KnownName d.form_names f × KnownName d.form_names g
NamesKnown d (next_form n a f) = KnownName d.acts a × KnownName d.form_names f
NamesKnown d (until_form n f p g) = KnownName d.form_names f × KnownName d.prog_names p × KnownName d.form_names g

abbrev pub WellNamedByFirst : Declarations → Line → Type 0
WellNamedByFirst d x = NewName d x × NamesKnown d x

-- the form that a line declares
abbrev pub FormOfByFirst : Declarations → Line → Form → Type 0
FormOfByFirst d (act_line n) e = ⊥
FormOfByFirst d (prop_line n) e = ⊥
FormOfByFirst d (goal_line f) e = ⊥
FormOfByFirst d (prog_line n p) e = ⊥
FormOfByFirst d (true_form n) e = e ≡ True
FormOfByFirst d (prop_form n p) e = (i : ℕ) × NumberIn d.props p i × (e ≡ Prop i)
FormOfByFirst d (not_form n f) e = (i : ℕ) × NumberIn d.form_names f i × (e ≡ Not i)
FormOfByFirst d (and_form n f g) e = (i : ℕ) × (j : ℕ) × NumberIn d.form_names f i × NumberIn d.form_names g j × (e ≡ And i j)
FormOfByFirst d (or_form n f g) e = (i : ℕ) × (j : ℕ) × NumberIn d.form_names f i × NumberIn d.form_names g j × (e ≡ Or i j)
FormOfByFirst d (next_form n a f) e = (i : ℕ) × (j : ℕ) × NumberIn d.acts a i × NumberIn d.form_names f j × (e ≡ Next i j)
FormOfByFirst d (until_form n f p g) e =
    (i : ℕ) × (k : ℕ) × (j : ℕ) × NumberIn d.form_names f i × NumberIn d.prog_names p k × NumberIn d.form_names g j × (e ≡ Until i k j)

-- one form more stays within 64 forms and weight 256
abbrev pub FormFitsByFirst : Declarations → Line → Type 0
FormFitsByFirst d x = (length d.forms < 64) × ((e : Form) → FormOfByFirst d x e → weight d.progs (d.forms ++ e ∷ []) ≤ 256)

-- the limits: 16 actions, propositions and programs, 15 names in a program, 64 forms, weight 256
abbrev pub WithinByFirst : Declarations → Line → Type 0
WithinByFirst d (act_line n) = length d.acts < 16
WithinByFirst d (prop_line n) = length d.props < 16
WithinByFirst d (goal_line f) = Unit {0}
WithinByFirst d (prog_line n text) = (length d.progs < 16) × ((p : Program) → SpellsProgramIn text d.acts p → length (names p) ≤ 15)
WithinByFirst d (true_form n) = FormFitsByFirst d (true_form n)
WithinByFirst d (prop_form n p) = FormFitsByFirst d (prop_form n p)
WithinByFirst d (not_form n f) = FormFitsByFirst d (not_form n f)
WithinByFirst d (and_form n f g) = FormFitsByFirst d (and_form n f g)
WithinByFirst d (or_form n f g) = FormFitsByFirst d (or_form n f g)
WithinByFirst d (next_form n a f) = FormFitsByFirst d (next_form n a f)
WithinByFirst d (until_form n f p g) = FormFitsByFirst d (until_form n f p g)

-- the line, with its line feed, is refused with this code and column: the first of 2 to 6 that applies
pub data FaultyByFirst (d : Declarations) (bytes : List ℕ) : ℕ → ℕ → Type 0 where
  shape : ((x : Line) → ReadsAs bytes x → ⊥) → FaultyByFirst d bytes 2 0
  program : (x : Line) {column : ℕ} → ReadsAs bytes x → MalformedAt x column → FaultyByFirst d bytes 3 column
  naming : (x : Line) → ReadsAs bytes x → ((c : ℕ) → MalformedAt x c → ⊥) → (WellNamedByFirst d x → ⊥) → FaultyByFirst d bytes 4 0
  limit : (x : Line) → ReadsAs bytes x → ((c : ℕ) → MalformedAt x c → ⊥) → WellNamedByFirst d x → (WithinByFirst d x → ⊥) → FaultyByFirst d bytes 5 0
  order : (x : Line) → ReadsAs bytes x → ((c : ℕ) → MalformedAt x c → ⊥) → WellNamedByFirst d x → WithinByFirst d x → (InPlace d x → ⊥) → FaultyByFirst d bytes 6 0

-- nothing of the line is refused
pub record FineByFirst (d : Declarations) (x : Line) : Type 0 where
  pub spelled : (c : ℕ) → MalformedAt x c → ⊥
  pub well_named : WellNamedByFirst d x
  pub within : WithinByFirst d x
  pub in_place : InPlace d x

-- the declarations with one form more
abbrev pub AddsFormByFirst : Declarations → Line → List ℕ → Declarations → Type 0
AddsFormByFirst d x n e =
    (f : Form) × FormOfByFirst d x f
    × (e ≡ record { acts = d.acts; props = d.props; prog_names = d.prog_names; progs = d.progs; form_names = d.form_names ++ n ∷ []; forms = d.forms ++ f ∷ [] })

-- the declarations with those of a line that is fine
abbrev pub AddsByFirst : Declarations → Line → Declarations → Type 0
AddsByFirst d (act_line n) e = e ≡ record { acts = d.acts ++ n ∷ []; props = d.props; prog_names = d.prog_names; progs = d.progs; form_names = d.form_names; forms = d.forms }
AddsByFirst d (prop_line n) e = e ≡ record { acts = d.acts; props = d.props ++ n ∷ []; prog_names = d.prog_names; progs = d.progs; form_names = d.form_names; forms = d.forms }
AddsByFirst d (goal_line f) e = ⊥
AddsByFirst d (prog_line n text) e =
    (p : Program) × SpellsProgramIn text d.acts p
    × (e ≡ record { acts = d.acts; props = d.props; prog_names = d.prog_names ++ n ∷ []; progs = d.progs ++ p ∷ []; form_names = d.form_names; forms = d.forms })
AddsByFirst d (true_form n) e = AddsFormByFirst d (true_form n) n e
AddsByFirst d (prop_form n p) e = AddsFormByFirst d (prop_form n p) n e
AddsByFirst d (not_form n f) e = AddsFormByFirst d (not_form n f) n e
AddsByFirst d (and_form n f g) e = AddsFormByFirst d (and_form n f g) n e
AddsByFirst d (or_form n f g) e = AddsFormByFirst d (or_form n f g) n e
AddsByFirst d (next_form n a f) e = AddsFormByFirst d (next_form n a f) n e
AddsByFirst d (until_form n f p g) e = AddsFormByFirst d (until_form n f p g) n e
