-- What holds of lasso texts.
use Rattle.std.specs.Prelude.{◌≡◌, ℕ, ◌≤◌, List, length}
use Rattle.lasso.specs.Lassos.{IsLasso}
use Rattle.lasso.specs.LassoTexts.{lasso_text}
use Rattle.lasso.specs.declared.step.Step.{Step}
use Rattle.document.specs.Loading.{Taken}
use Rattle.document.specs.declared.document.Document.{Document}
use Rattle.lasso.specs.DeclaredNames.{acts_of, props_of}
use Rattle.lasso.specs.LassoLines.{Apart}
use Rattle.lasso.specs.Scans.{Outcome, spelled, Scans}

-- a text has one outcome and no other
abbrev pub HasOneOutcome : Type 0
HasOneOutcome = (acts props : List (List ℕ)) → Apart acts → Apart props → (text : List ℕ) (places : ℕ)
    → (o : Outcome) × Scans acts props text places o × ((q : Outcome) → Scans acts props text places q → q ≡ o)

-- a lasso's text is scanned to its steps and its stem, and to nothing else
abbrev pub ScanOfPrint : Type 0
ScanOfPrint = (acts props : List (List ℕ)) → Apart acts → Apart props → (steps : List Step) (stem places : ℕ)
    → IsLasso (length acts) (length props) steps stem → length steps ≤ places → (o : Outcome)
    → Scans acts props (lasso_text acts props steps stem) places o → o ≡ spelled steps stem

-- a text that is scanned as a lasso is the text that is printed of it
abbrev pub PrintOfScan : Type 0
PrintOfScan = (acts props : List (List ℕ)) (text : List ℕ) (places : ℕ) (steps : List Step) (stem : ℕ)
    → Scans acts props text places (spelled steps stem) → text ≡ lasso_text acts props steps stem

-- two lassos with one text are one lasso
abbrev pub OneLasso : Type 0
OneLasso = (acts props : List (List ℕ)) → Apart acts → Apart props → (s t : List Step) (m n : ℕ)
    → IsLasso (length acts) (length props) s m → IsLasso (length acts) (length props) t n
    → lasso_text acts props s m ≡ lasso_text acts props t n → (s ≡ t) × (m ≡ n)

-- the names of a document that was loaded are well formed, and no two of one kind alike
abbrev pub LoadedApart : Type 0
LoadedApart = (text : List ℕ) (doc : Document) → Taken text doc → Apart (acts_of doc.declared) × Apart (props_of doc.declared)
