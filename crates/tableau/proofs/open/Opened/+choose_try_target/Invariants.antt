use Rattle.std.proofs.Common.{◌≡◌, ◌+◌, ◌-◌, ◌*◌, ◌<◌, ◌≤◌, length}
use Rattle.document.specs.Documents.{Document}
use Rattle.tableau.specs.Calculus.{calculus, Fine}
use Rattle.tableau.specs.Claims.{has}
use Rattle.tableau.specs.Entered.{Ready, Entered}
use Rattle.tableau.specs.Tables.{Room}
use Rattle.tableau.specs.Units.{Reaching}
use Rattle.tableau.specs.Walk.{on}
use Rattle.tableau.proofs.Choosing.{Branch, Family}
use Rattle.tableau.proofs.open.Opened.+choose_try_target.Given as goal

abbrev pub decreases-choose : goal.decreases-choose
decreases-choose l = 2 * (256 - l.from) + 1

abbrev pub decreases-try_target : goal.decreases-try_target
decreases-try_target l = 2 * (256 - l.step.number)

abbrev pub invariant-choose-loop-target : goal.invariant-choose-loop-target
invariant-choose-loop-target l =
    Room (length l.initial.nodes) (length l.initial.edges) l.count
    × (l.initial.count.nodes ≤ l.count.nodes)
    × (l.initial.count.edges ≤ l.count.edges)
    × (l.trail.len ≡ l.initial.trail.len)
    × (on l.trail ≡ on l.initial.trail)
    × ((d : Document) → Ready l.fn.self.opening.rules.declared.now d l.fn.self.opening.rules.phase l.fn.self.opening.origin l.initial.count → l.fn.self.node.now.action < d.acts
    → Fine (calculus d l.fn.self.opening.rules.phase) (has (on l.initial.trail))
    → Entered d l.fn.self.opening.rules.phase l.fn.self.opening.origin (Reaching d l.fn.self.opening.rules.phase l.fn.self.node.now l.from (on l.initial.trail))
    (Family (Branch d l.fn.self.opening.rules.phase l.fn.self.node.now l.step.form l.step.state l.step.label l.step.number (on l.initial.trail)) l.target)
    l.initial.nodes l.initial.edges l.initial.count l.nodes l.edges l.count)
