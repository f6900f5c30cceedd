use Rattle.std.proofs.Common.{◌+◌, ◌≤◌, length}
use Rattle.document.specs.Texts.{pieces}
use Rattle.document.proofs.Reached.{Reached}
use Rattle.document.proofs.load.load.Given as goal

abbrev pub invariant-loop-line : goal.invariant-loop-line
invariant-loop-line l =
    (goal.iterator-loop-line).can_next l.line-iterator × (goal.iterator-loop-line).is_finite l.line-iterator
    × (l.number + length l.line-iterator.left.now ≤ length l.text + 1) × Reached l.text l.number (pieces 10 l.line-iterator.left.now) l.progress
