use Rattle.std.proofs.Common.{◌<◌}
use Rattle.document.specs.Documents.{Document}
use Rattle.tableau.specs.Calculus.{calculus, Fine}
use Rattle.tableau.specs.Claims.{has}
use Rattle.tableau.specs.Handing.{To, Added}
use Rattle.tableau.specs.Numbers.{Shows, StateOf}
use Rattle.tableau.specs.Walk.{on, Stands}
use Rattle.tableau.proofs.Handed.{Below}
use Rattle.tableau.proofs.open.Opened.add_targets.Given as goal

abbrev pub invariant-loop-target : goal.invariant-loop-target
invariant-loop-target l =
    Stands l.all.words (on l.trail) l.trail.len
    × ((d : Document) → Shows l.fn.self.opening.rules.declared.now d → StateOf d l.e l.q → l.fn.self.node.now.action < d.acts → Fine (calculus d l.fn.self.opening.rules.phase) (has (on l.initial.trail))
    → Added (calculus d l.fn.self.opening.rules.phase) (Below (To d l.fn.self.node.now l.e l.q) l.target) (on l.initial.trail) (on l.trail))
