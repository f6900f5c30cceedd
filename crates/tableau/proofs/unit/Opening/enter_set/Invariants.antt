use Rattle.std.proofs.Common.{◌≤◌, length}
use Rattle.document.specs.Documents.{Document}
use Rattle.tableau.specs.Entered.{Ready}
use Rattle.tableau.specs.Tables.{Room}
use Rattle.tableau.proofs.Entries.{Acted}
use Rattle.tableau.proofs.unit.Opening.enter_set.Given as goal

abbrev pub invariant-loop-a : goal.invariant-loop-a
invariant-loop-a l =
    Room (length l.initial.nodes) (length l.initial.edges) l.count
    × (l.initial.count.nodes ≤ l.count.nodes)
    × (l.initial.count.edges ≤ l.count.edges)
    × ((d : Document) → Ready l.fn.self.rules.declared.now d l.fn.self.rules.phase l.fn.self.origin l.initial.count
    → Acted d l.fn.self.rules.phase l.fn.self.origin l.set.words l.initial.nodes l.initial.edges l.initial.count l.nodes l.edges l.count l.a)
