-- Lists of steps with a stem, read for ever.
use Rattle.std.specs.Prelude.{ℕ, ◌/◌, ◌%◌, ◌^◌, ◌<◌, Bool, List, map, length, ◌==◌}
use Rattle.std.proofs.lemmas.List.{length-map}
use Rattle.document.specs.Documents.{Document, goal_formula}
use Rattle.lasso.specs.Lassos.{step_in}
use Rattle.lasso.specs.Readings.{Moment, Reading, Truth, Lasso, place_of}
use Rattle.lasso.specs.declared.step.Step.{Step}

-- whether bit e of a word is set
abbrev pub bit_of : ℕ → ℕ → Bool
bit_of word e = word / 2 ^ e % 2 == 1

-- bit p of the marks stands for proposition p
abbrev pub moment : Step → Moment
moment s = record { state = s.state; action = s.action; marks = bit_of s.marks }

abbrev pub reading : List Step → ℕ → Reading
reading steps stem i = moment (step_in steps (place_of (length steps) stem i))

-- the steps, read for ever, meet the goal of a document
abbrev pub MeetsSteps : Document → List Step → ℕ → Type 0
MeetsSteps d steps stem = Truth (reading steps stem) 0 (goal_formula d)

abbrev pub lasso_of : (steps : List Step) (stem : ℕ) → stem < length steps → Lasso
lasso_of steps stem h = record { steps = map moment steps; stem = stem; short = rw length-map h }
