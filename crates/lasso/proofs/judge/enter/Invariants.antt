use Rattle.std.proofs.Common.{◌≡◌, ◌<◌, ◌⊎◌, length}
use Rattle.document.specs.Documents.{Document, WellFormed, form_at}
use Rattle.lasso.specs.Judged.{Plain, Rests, Judged}
use Rattle.lasso.proofs.judge.enter.Given as goal

abbrev pub invariant-loop-i : goal.invariant-loop-i
invariant-loop-i l = (d : Document) → WellFormed d → l.e < length d.forms → l.form ≡ form_at d l.e → Plain l.form ⊎ Rests d l.lasso.steps.now l.lasso.stem l.e l.states
    → Judged d l.lasso.steps.now l.lasso.stem l.e 0 l.initial.truths → Judged d l.lasso.steps.now l.lasso.stem l.e l.i l.truths
