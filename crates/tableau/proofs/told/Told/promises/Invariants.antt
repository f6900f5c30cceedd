use Rattle.std.proofs.Common.{ℕ, ◌<◌}
use Rattle.document.specs.Documents.{Document}
use Rattle.tableau.specs.Claims.{member}
use Rattle.tableau.specs.Graphs.{until_true}
use Rattle.tableau.specs.Numbers.{Shows}
use Rattle.tableau.specs.Successions.{Claims}
use Rattle.tableau.proofs.told.Told.promises.Given as goal

abbrev pub invariant-loop-e : goal.invariant-loop-e
invariant-loop-e l = (d : Document) → Shows l.fn.self.declared.now d → l.label < 2 → (e : ℕ) → e < l.e → (q : ℕ) → Claims d (member l.fn.self.set.words) (until_true e q l.label) → ⊥
