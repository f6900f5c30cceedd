-- What loading a text gives, and each line of it.
use Rattle.std.specs.Prelude.{◌≡◌, ℕ, List, Err, Result, MatchResult}
use denote.Ref.{Bor}
use Rattle.document.specs.Documents.{WellFormed}
use Rattle.document.specs.Faults.{line_fault_code, line_fault_column, load_fault_code, load_fault_line, load_fault_column}
use Rattle.document.specs.Holds.{Holds}
use Rattle.document.specs.Lines.{Declarations, document_of}
use Rattle.document.specs.Declaring.{FaultyByFirst}
use Rattle.document.specs.Outcomes.{taken, refused}
use Rattle.document.specs.Coming.{LoadsByFirst}
use Rattle.document.specs.Represents.{Represents}
use Rattle.document.specs.Told.{Declares, Aims}
use Rattle.document.specs.declared.declared.Declared.{Declared}
use Rattle.document.specs.declared.document.Document.{Document}
use Rattle.document.specs.declared.fault.LineFault.{LineFault}
use Rattle.document.specs.declared.fault.LineFault.TheVariants.{Order}
use Rattle.document.specs.declared.fault.LoadFault.{LoadFault}
use Rattle.document.specs.declared.load.Progress.{Progress}
use Rattle.document.specs.declared.load.Progress.TheVariants.{Declaring, Done}

-- how far the lines have come after one that is fine
abbrev pub Goes_on : Declared → Declarations → List ℕ → Progress → Type 0
Goes_on held d bytes (Declaring next) = Declares d bytes next
Goes_on held d bytes (Done doc) = Aims held d bytes doc

-- one line more: none may follow the goal, it ends with a line feed, and it is fine or refused with its first fault
abbrev pub LineRead : Progress → Result (Bor (List ℕ)) LineFault → Result Progress LineFault → Type 0
LineRead (Declaring held) line r =
    MatchResult line
    (λ bytes. (d : Declarations) → Holds held d → MatchResult r (Goes_on held d bytes.now) (λ f. FaultyByFirst d bytes.now (line_fault_code f) (line_fault_column f)))
    (λ f. r ≡ Err f)
LineRead (Done doc) line r = r ≡ Err Order

-- the document in memory is the one that the text spells
pub record Taken (text : List ℕ) (doc : Document) : Type 0 where
  pub declarations : Declarations
  pub loads : LoadsByFirst text (taken declarations doc.goal)
  pub holds : Holds doc.declared declarations
  pub represents : Represents doc (document_of declarations doc.goal)
  pub well_formed : WellFormed (document_of declarations doc.goal)

-- the text is taken, as the document that it spells, or refused with code, line and column of its first fault
abbrev pub Loaded : List ℕ → Result Document LoadFault → Type 0
Loaded text r = MatchResult r (Taken text) (λ f. LoadsByFirst text (refused (load_fault_code f) (load_fault_line f) (load_fault_column f)))
