use Rattle.document.specs.Documents.{Document}
use Rattle.tableau.specs.Calculus.{calculus, Fine}
use Rattle.tableau.specs.Claims.{has}
use Rattle.tableau.specs.Numbers.{Shows}
use Rattle.tableau.specs.Walk.{on}
use Rattle.tableau.proofs.Steps.{Held}
use Rattle.tableau.proofs.rules.Rules.add.Given as goal

abbrev pub invariant-loop-x : goal.invariant-loop-x
invariant-loop-x l =
    Held l.initial.trail l.claims l.x-index l.set l.trail
    × ((d : Document) → Shows l.fn.self.declared.now d → Fine (calculus d l.fn.self.phase) (has (on l.initial.trail)) → Fine (calculus d l.fn.self.phase) (has (on l.trail)))
