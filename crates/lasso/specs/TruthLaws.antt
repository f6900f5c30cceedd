-- What holds of truth on sessions.
use Rattle.std.specs.Prelude.{◌≡◌, ℕ, ◌<◌, ◌↔◌, List, length}
use Rattle.document.specs.Formulas.{Formula}
use Rattle.document.specs.Documents.{Document}
use Rattle.lasso.specs.Readings.{Reading, Truth, Lasso, read, blank_moment, Meets}
use Rattle.lasso.specs.Sessions.{MeetsSteps, lasso_of}
use Rattle.lasso.specs.declared.step.Step.{Step}

-- truth on a lasso is decided
abbrev pub TruthDecided : Type 0
TruthDecided = (l : Lasso) (i : ℕ) (f : Formula) → Dec (Truth (read blank_moment l) i f)

-- truth hangs on actions and marks alone
abbrev pub TruthAlike : Type 0
TruthAlike = (s t : Reading) → ((i : ℕ) → ((s i).action ≡ (t i).action) × ((p : ℕ) → (s i).marks p ≡ (t i).marks p))
    → (f : Formula) (i : ℕ) → Truth s i f ↔ Truth t i f

-- a list of steps meets a goal exactly when the lasso of its moments does
abbrev pub MeetsAlike : Type 0
MeetsAlike = (d : Document) (steps : List Step) (stem : ℕ) (h : stem < length steps) → Meets d (lasso_of steps stem h) ↔ MeetsSteps d steps stem
