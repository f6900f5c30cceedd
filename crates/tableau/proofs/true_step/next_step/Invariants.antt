use Rattle.document.specs.Documents.{Document}
use Rattle.tableau.specs.Numbers.{Shows}
use Rattle.tableau.specs.Successions.{NoStep}
use Rattle.tableau.proofs.true_step.next_step.Given as goal

abbrev pub invariant-loop-c : goal.invariant-loop-c
invariant-loop-c l = (d : Document) → Shows l.declared d → NoStep d l.node l.from l.c
