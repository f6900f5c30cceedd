use Rattle.std.proofs.Common.{◌≡◌, ℕ, sym, ◌∙◌, arith}
use Rattle.tableau.specs.Graphs.{step_true}
use Rattle.tableau.specs.Meant.{meant}
use Rattle.tableau.specs.declared.claim.Claim.{Claim}
use Rattle.tableau.specs.declared.claim.Claim.TheVariants.{True, False, TrueUntil, FalseUntil, TrueStep, FalseStep}
use Rattle.tableau.proofs.true_step.step_of.Goals as goal
use Rattle.tableau.proofs.Numbering.{one_number}

meant_step : (m : Claim) (e q l : ℕ) → meant m ≡ step_true e q l → m ≡ TrueStep e q l
meant_step (True h) e q l is = absurd (let z : ◌≡◌ {A = ℕ} 0 1 = cc in omega arith)
meant_step (False h) e q l is = absurd (let z : ◌≡◌ {A = ℕ} 0 1 = cc in omega arith)
meant_step (TrueUntil h r i) e q l is = absurd (let z : ◌≡◌ {A = ℕ} 0 1 = cc in omega arith)
meant_step (FalseUntil h r) e q l is = absurd (let z : ◌≡◌ {A = ℕ} 0 1 = cc in omega arith)
meant_step (TrueStep h r i) e q l is = cc
meant_step (FalseStep h r) e q l is = absurd (let z : ◌≡◌ {A = ℕ} 0 1 = cc in omega arith)

pub returns-in_default : goal.returns-in_default
returns-in_default c = record {
  number = tt;
  step = λ d s e q l own is.
      let k = c.in_ok-form.ensures d s in
      c.in_default.not-TrueStep e q l (meant_step c.in_ok-form.field-0 e q l (one_number d (meant c.in_ok-form.field-0) (step_true e q l) k.0 own (k.1 ∙ sym is)));
}
