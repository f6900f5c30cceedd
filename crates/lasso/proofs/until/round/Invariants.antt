use Rattle.lasso.specs.Rounds.{Rounded}
use Rattle.lasso.proofs.until.round.Given as goal

abbrev pub invariant-loop-i : goal.invariant-loop-i
invariant-loop-i l = Rounded l.automaton l.lasso.steps.now l.lasso.stem l.truths l.operands.f l.operands.g l.initial.states l.i l.states
