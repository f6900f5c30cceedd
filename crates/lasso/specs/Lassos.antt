-- Lists of steps with a stem, as a caller hands them over.
use Rattle.std.specs.Prelude.{◌≡◌, ℕ, ◌/◌, ◌^◌, ◌<◌, ◌≤◌, Bool, true, ◌&&◌, List, length, ◌==◌, nat_le, nat_lt, slice_index_or}
use Rattle.lasso.specs.declared.step.Step.{Step}

-- a declared action, a state up to 4,095, and declared propositions alone
abbrev pub fits : ℕ → ℕ → Step → Bool
fits acts props s = nat_lt s.action acts && (nat_le s.state 4095 && s.marks / 2 ^ props == 0)

abbrev pub step_in : List Step → ℕ → Step
step_in steps i = slice_index_or steps i (record { state = 0; action = 0; marks = 0 })

-- a lasso of a document with so many actions and propositions, of a length that calls take
pub record IsLasso (acts props : ℕ) (steps : List Step) (stem : ℕ) : Type 0 where
  pub short : stem < length steps
  pub served : length steps ≤ 131072
  pub declared : (i : ℕ) → i < length steps → fits acts props (step_in steps i) ≡ true
