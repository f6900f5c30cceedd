use Rattle.std.proofs.Common.{◌-◌, ◌≤◌, length, take}
use Rattle.program.specs.Steps.{start}
use Rattle.program.proofs.Goes.{Goes}
use Rattle.program.proofs.check.check.Given as goal

abbrev pub invariant-read : goal.invariant-read
invariant-read l = (l.at ≤ length l.text) × Goes start (take l.at l.text) l.prefix

abbrev pub decreases-read : goal.decreases-read
decreases-read l = length l.text - l.at
