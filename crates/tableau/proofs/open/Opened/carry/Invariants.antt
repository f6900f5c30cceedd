use Rattle.std.proofs.Common.{◌<◌}
use Rattle.document.specs.Documents.{Document}
use Rattle.tableau.specs.Calculus.{calculus, Fine}
use Rattle.tableau.specs.Claims.{has}
use Rattle.tableau.specs.Handing.{By, Added}
use Rattle.tableau.specs.Numbers.{Shows}
use Rattle.tableau.specs.Walk.{on, Stands}
use Rattle.tableau.proofs.Handed.{Below}
use Rattle.tableau.proofs.open.Opened.carry.Given as goal

abbrev pub invariant-loop-e : goal.invariant-loop-e
invariant-loop-e l =
    Stands l.all.words (on l.trail) l.trail.len
    × ((d : Document) → Shows l.fn.self.opening.rules.declared.now d → l.fn.self.node.now.action < d.acts → Fine (calculus d l.fn.self.opening.rules.phase) (has (on l.initial.trail))
    → Added (calculus d l.fn.self.opening.rules.phase) (Below (By d l.fn.self.node.now l.fn.self.opening.rules.phase) l.e) (on l.initial.trail) (on l.trail))
