use Rattle.std.proofs.Common.{ℕ, ◌<◌, length}
use Rattle.lasso.specs.Lassos.{step_in}
use Rattle.lasso.specs.Rounds.{next_place}
use Rattle.study.specs.Sessions.{StepGoes}
use Rattle.study.proofs.audit.is_session.Given as goal

abbrev pub invariant-loop-i : goal.invariant-loop-i
invariant-loop-i g l = (k : ℕ) → k < l.i → StepGoes (g.S.System.meaning l.system) l.declared (step_in l.lasso.steps.now k) (step_in l.lasso.steps.now (next_place (length l.lasso.steps.now) l.lasso.stem k)).state
