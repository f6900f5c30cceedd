use Rattle.std.proofs.Common.{◌≡◌, ℕ, ◌<◌, length, get_or}
use lib.Bits.{bit_and}
use Rattle.program.proofs.automaton.targets_by.Given as goal

abbrev pub invariant-loop-k : goal.invariant-loop-k
invariant-loop-k l = (length l.row ≡ 16) × ((k : ℕ) → k < l.k → get_or l.row k 0 ≡ bit_and (bit_and l.follow (get_or l.named k 0)) l.all)
