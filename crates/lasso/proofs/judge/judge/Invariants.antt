use Rattle.document.specs.Documents.{Document}
use Rattle.lasso.specs.Judged.{Judges, Judged}
use Rattle.lasso.proofs.judge.judge.Given as goal

abbrev pub invariant-loop-e : goal.invariant-loop-e
invariant-loop-e l = (d : Document) → Judges l.declared l.lasso.steps.now d → Judged d l.lasso.steps.now l.lasso.stem l.e 0 l.truths
