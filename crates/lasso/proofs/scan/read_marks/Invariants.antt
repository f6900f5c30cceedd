use Rattle.std.proofs.Common.{eqb, length, take}
use Rattle.std.specs.List.{slice_split}
use Rattle.std.proofs.lemmas.Iterator.{YieldsList}
use Rattle.document.specs.Kept.{names_of}
use Rattle.document.specs.Texts.{pieces}
use Rattle.lasso.proofs.Marking.{Taken}
use Rattle.lasso.proofs.scan.read_marks.Given as goal

abbrev pub invariant-loop-name : goal.invariant-loop-name
invariant-loop-name l = record {
  split : YieldsList (goal.iterator-loop-name).next_gives (λ x. x.now) l.initial.name-iterator (slice_split (λ b. eqb b 44) l.fn.text);
  taken : Taken (names_of l.props) (take (length l.yielded) (pieces 44 l.fn.text)) l.marks;
}
