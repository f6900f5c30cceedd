use Rattle.std.proofs.Common.{◌≡◌, ◌<◌, true, length}
use Rattle.document.specs.Documents.{Document, form_at}
use Rattle.tableau.specs.Calculus.{calculus, Fine}
use Rattle.tableau.specs.Claims.{has}
use Rattle.tableau.specs.Handing.{From, Added}
use Rattle.tableau.specs.Numbers.{Shows, is_until}
use Rattle.tableau.specs.Walk.{on, Stands}
use Rattle.tableau.proofs.Handed.{Below}
use Rattle.tableau.proofs.open.Opened.add_false_steps.Given as goal

abbrev pub invariant-loop-q : goal.invariant-loop-q
invariant-loop-q l =
    Stands l.all.words (on l.trail) l.trail.len
    × ((d : Document) → Shows l.fn.self.opening.rules.declared.now d → l.e < length d.forms → is_until (form_at d l.e) ≡ true → l.fn.self.node.now.action < d.acts → Fine (calculus d l.fn.self.opening.rules.phase) (has (on l.initial.trail))
    → Added (calculus d l.fn.self.opening.rules.phase) (Below (From d l.fn.self.node.now l.e) l.q) (on l.initial.trail) (on l.trail))
