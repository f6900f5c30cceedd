use Rattle.std.proofs.Common.{length}
use Rattle.document.specs.Documents.{Document}
use Rattle.tableau.specs.Growing.{Sound}
use Rattle.tableau.specs.UnitsHeld.{UnderWay}
use Rattle.tableau.proofs.UnitsWorked.{Progress}
use Rattle.tableau.proofs.grow.grow.Given as goal

abbrev pub invariant-loop-units : goal.invariant-loop-units
invariant-loop-units l = Sound (length l.initial.nodes) (length l.initial.edges) l.now
    × ((d : Document) → UnderWay l.document d l.initial.nodes l.initial.edges l.initial.now → Progress d l.initial.nodes l.initial.edges l.initial.now l.units l.nodes l.edges l.now)
