-- What the readers of lines say. Internal: what it is for is said in Outcomes and Loading.
use Rattle.std.specs.Prelude.{◌≡◌, ℕ, ◌+◌, ◌<◌, ◌≤◌, ◌⊎◌, List, [], ◌≢◌, length, Result, MatchResult, slice_index_or}
use Rattle.program.specs.Names.{Named, spelled}
use Rattle.program.specs.declared.name.Name.{Name}
use Rattle.program.specs.Faults.{MalformedBy}
use Rattle.program.specs.Spellings.{Missing, NumberIn}
use Rattle.program.specs.Text.{WellFormed}
use Rattle.program.specs.declared.fault.ProgramFault.{ProgramFault}
use Rattle.document.specs.Faults.{line_fault_code, line_fault_column}
use Rattle.document.specs.Holds.{Holds}
use Rattle.document.specs.Kinds.{word_of, operands_of, form_with}
use Rattle.document.specs.Lines.{Declarations, Line, goal_line, ReadsAs}
use Rattle.document.specs.Declaring.{KnownName, NamesKnown, FormOfByFirst, FineByFirst, FaultyByFirst, AddsByFirst}
use Rattle.document.specs.Texts.{fields}
use Rattle.document.specs.declared.declared.Declared.{Declared}
use Rattle.document.specs.declared.document.Document.{Document}
use Rattle.document.specs.declared.fault.LineFault.{LineFault}
use Rattle.document.specs.declared.fault.LineFault.TheVariants.{Shape, Program, Naming, Limit}
use Rattle.document.specs.declared.form.Form.{Form}
use Rattle.document.specs.declared.words.Kind.{Kind}

-- a name that is declared already is refused, and then one above the limit
abbrev pub NewBelow : List (List ℕ) → ℕ → List ℕ → ℕ → LineFault → Type 0
NewBelow names count name limit f = ((f ≡ Naming) × KnownName names name) ⊎ ((f ≡ Limit) × Missing names name × (limit ≤ count))

-- the name of a line of two fields is well-formed, new and below the limit
abbrev pub NameTaken : List (List ℕ) → ℕ → ℕ → List ℕ → Name → Type 0
NameTaken names count limit bytes n =
    let first = slice_index_or (fields bytes) 1 [] in
    (length (fields bytes) ≡ 2) × Named first × (spelled n ≡ first) × Missing names first × (count < limit)

-- the line has not one well-formed name, or the name is refused
abbrev pub NameRefused : List (List ℕ) → ℕ → ℕ → List ℕ → LineFault → Type 0
NameRefused names count limit bytes f =
    let first = slice_index_or (fields bytes) 1 [] in
    ((f ≡ Shape) × ((length (fields bytes) ≡ 2) × Named first → ⊥)) ⊎ ((length (fields bytes) ≡ 2) × Named first × NewBelow names count first limit f)

-- a program line has a well-formed name and a well-formed program
abbrev pub ProgHeaded : List ℕ → Type 0
ProgHeaded bytes = (length (fields bytes) ≡ 3) × Named (slice_index_or (fields bytes) 1 []) × WellFormed (slice_index_or (fields bytes) 2 [])

-- a program line has not a name and a program, or the program is malformed
abbrev pub ProgUnheaded : List ℕ → LineFault → Type 0
ProgUnheaded bytes f =
    let first = slice_index_or (fields bytes) 1 [] in
    ((f ≡ Shape) × ((length (fields bytes) ≡ 3) × Named first → ⊥))
    ⊎ ((length (fields bytes) ≡ 3) × Named first × (g : ProgramFault) × (f ≡ Program g) × MalformedBy (slice_index_or (fields bytes) 2 []) g)

-- a form line has this kind, as many fields as the kind has, and a name and operands that are well-formed names
abbrev pub Headed : Kind → List ℕ → Type 0
Headed k bytes =
    let fs = fields bytes in
    (slice_index_or fs 2 [] ≡ word_of k) × (length fs ≡ 3 + operands_of k) × Named (slice_index_or fs 1 [])
    × ((j : ℕ) → j < operands_of k → Named (slice_index_or fs (3 + j) []))

-- a form line has no kind, or not the fields of its kind
abbrev pub Unheaded : List ℕ → Type 0
Unheaded bytes =
    ((k : Kind) → slice_index_or (fields bytes) 2 [] ≢ word_of k) ⊎ ((k : Kind) × (slice_index_or (fields bytes) 2 [] ≡ word_of k) × (Headed k bytes → ⊥))

-- the first field of a line
abbrev pub word_in : List ℕ → List ℕ
word_in bytes = slice_index_or (fields bytes) 0 []

-- the line declares something, and this is held after it
pub record Declares (d : Declarations) (bytes : List ℕ) (next : Declared) : Type 0 where
  pub line : Line
  pub after : Declarations
  pub reads : ReadsAs bytes line
  pub fine : FineByFirst d line
  pub adds : AddsByFirst d line after
  pub holds : Holds next after

-- the line declares something or is refused
abbrev pub Told : Declared → List ℕ → Result Declared LineFault → Type 0
Told held bytes r = (d : Declarations) → Holds held d → MatchResult r (Declares d bytes) (λ f. FaultyByFirst d bytes (line_fault_code f) (line_fault_column f))

-- the form of a form line, or a name that is not declared before
abbrev pub FormTold : Declared → Kind → List ℕ → Result Form LineFault → Type 0
FormTold held kind bytes r =
    (d : Declarations) → Holds held d
    → MatchResult r (FormOfByFirst d (form_with kind (fields bytes))) (λ f. (f ≡ Naming) × (NamesKnown d (form_with kind (fields bytes)) → ⊥))

-- the line is the goal's, and this is the document
pub record Aims (held : Declared) (d : Declarations) (bytes : List ℕ) (doc : Document) : Type 0 where
  pub name : List ℕ
  pub reads : ReadsAs bytes (goal_line name)
  pub fine : FineByFirst d (goal_line name)
  pub number : NumberIn d.form_names name doc.goal
  pub declared : doc.declared ≡ held

abbrev pub GoalTold : Declared → List ℕ → Result Document LineFault → Type 0
GoalTold held bytes r = (d : Declarations) → Holds held d → MatchResult r (Aims held d bytes) (λ f. FaultyByFirst d bytes (line_fault_code f) (line_fault_column f))
