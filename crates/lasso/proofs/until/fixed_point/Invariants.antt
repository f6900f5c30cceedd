use Rattle.std.proofs.Common.{◌-◌, get_or}
use Rattle.lasso.proofs.Rounds.{Growing}
use Rattle.lasso.proofs.until.fixed_point.Given as goal

abbrev pub invariant-loop-states : goal.invariant-loop-states
invariant-loop-states l = Growing l.automaton l.lasso.steps.now l.lasso.stem l.truths l.operands.f l.operands.g l.states

abbrev pub decreases-loop-states : goal.decreases-loop-states
decreases-loop-states l = 65536 - get_or l.states l.lasso.stem 0
