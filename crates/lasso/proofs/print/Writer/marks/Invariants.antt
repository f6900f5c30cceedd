use Rattle.std.proofs.Common.{◌≡◌, ◌+◌, ◌*◌, ◌≤◌, take}
use Rattle.document.specs.Kept.{names_of}
use Rattle.lasso.specs.LassoTexts.{marked}
use Rattle.lasso.specs.Written.{Wrote}
use Rattle.lasso.proofs.Lines.{none, so_far}
use Rattle.lasso.proofs.print.Writer.marks.Given as goal

abbrev pub invariant-loop-p : goal.invariant-loop-p
invariant-loop-p l = record {
  wrote : Wrote l.initial.self l.self (so_far (marked (take l.p (names_of l.props)) 0 l.marks));
  few : l.self.at ≤ l.initial.self.at + 17 * l.p;
  first : l.first ≡ none (marked (take l.p (names_of l.props)) 0 l.marks);
}
