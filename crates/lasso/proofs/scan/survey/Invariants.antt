use Rattle.lasso.specs.DeclaredNames.{acts_of, props_of}
use Rattle.lasso.proofs.Surveys.{Passed}
use Rattle.lasso.proofs.scan.survey.Given as goal

abbrev pub invariant-loop-line : goal.invariant-loop-line
invariant-loop-line l =
    (goal.iterator-loop-line).can_next l.line-iterator × (goal.iterator-loop-line).is_finite l.line-iterator
    × Passed (acts_of l.declared) (props_of l.declared) l.text l.line-iterator.left.now l.seen
