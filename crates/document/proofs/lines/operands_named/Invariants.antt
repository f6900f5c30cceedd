use Rattle.std.proofs.Common.{ℕ, ◌+◌, ◌<◌, [], get_or}
use Rattle.program.specs.Names.{Named}
use Rattle.document.specs.Texts.{fields}
use Rattle.document.proofs.lines.operands_named.Given as goal

abbrev pub invariant-loop-k : goal.invariant-loop-k
invariant-loop-k l = (k : ℕ) → k < l.k → Named (get_or (fields l.line) (3 + k) [])
