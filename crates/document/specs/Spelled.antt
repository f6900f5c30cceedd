-- The document that a text spells, by its lines as a whole.
use Rattle.std.specs.Prelude.{◌≡◌, ℕ, ◌≤◌, ◌↔◌, List, [], ◌∷◌, ◌++◌, length}
use Rattle.program.specs.Spellings.{NumberIn}
use Rattle.document.specs.Documents.{Document, WellFormed}
use Rattle.document.specs.Lines.{Declarations, nothing, document_of, Line, goal_line, ReadsAs}
use Rattle.document.specs.Declaring.{WellNamedByFirst, AddsByFirst}
use Rattle.document.specs.Outcomes.{taken}
use Rattle.document.specs.Coming.{LoadsByFirst}
use Rattle.document.specs.Texts.{pieces}

-- the pieces of a text, each followed by a line feed, read as these lines
abbrev pub ReadLines : List (List ℕ) → List Line → Type 0
ReadLines [] [] = Unit {0}
ReadLines [] (x ∷ xs) = ⊥
ReadLines (b ∷ bs) [] = ⊥
ReadLines (b ∷ bs) (x ∷ xs) = ReadsAs b x × ReadLines bs xs

-- after these declarations the lines declare more, up to those: each name is new in its kind, and what a line uses is declared before it
abbrev pub Declare : Declarations → List Line → Declarations → Type 0
Declare d [] e = d ≡ e
Declare d (x ∷ xs) e = (m : Declarations) × WellNamedByFirst d x × AddsByFirst d x m × Declare m xs e

-- the text is lines, each with its line feed: lines that declare something, and at last the goal; what they declare is the
-- document, and it is within the limits
pub record SpellsDocument (text : List ℕ) (d : Document) : Type 0 where
  pub lines : List Line
  pub aim : List ℕ
  pub declared : Declarations
  pub bytes : List (List ℕ)
  pub short : length text ≤ 16384
  pub ended : pieces 10 text ≡ bytes ++ [] ∷ []
  pub reads : ReadLines bytes (lines ++ goal_line aim ∷ [])
  pub declares : Declare nothing lines declared
  pub aims : NumberIn declared.form_names aim d.goal
  pub is : d ≡ document_of declared d.goal
  pub well_formed : WellFormed d

-- the law: a text is taken as a document exactly if it spells the document
abbrev pub AcceptedExactly : Type 0
AcceptedExactly = (text : List ℕ) (d : Document) → ((e : Declarations) × (goal : ℕ) × LoadsByFirst text (taken e goal) × (d ≡ document_of e goal)) ↔ SpellsDocument text d

-- the law: a text spells one document at most
abbrev pub OneDocument : Type 0
OneDocument = (text : List ℕ) (c d : Document) → SpellsDocument text c → SpellsDocument text d → c ≡ d
