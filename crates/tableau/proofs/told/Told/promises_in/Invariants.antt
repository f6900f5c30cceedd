use Rattle.std.proofs.Common.{ℕ, ◌<◌}
use Rattle.document.specs.Documents.{Document}
use Rattle.tableau.specs.Claims.{member}
use Rattle.tableau.specs.Graphs.{until_true}
use Rattle.tableau.specs.Numbers.{Shows}
use Rattle.tableau.specs.Successions.{Claims}
use Rattle.tableau.proofs.told.Told.promises_in.Given as goal

abbrev pub invariant-loop-q : goal.invariant-loop-q
invariant-loop-q l = (d : Document) → Shows l.fn.self.declared.now d → (q : ℕ) → q < l.q → Claims d (member l.fn.self.set.words) (until_true l.e q l.label) → ⊥
