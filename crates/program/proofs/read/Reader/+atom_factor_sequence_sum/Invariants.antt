use Rattle.std.proofs.Common.{◌+◌, ◌-◌, ◌*◌, length}
use Rattle.program.proofs.read.Reader.+atom_factor_sequence_sum.Given as goal

abbrev pub decreases-atom : goal.decreases-atom
decreases-atom l = 4 * (length l.self.now.text.now - l.self.now.at)

abbrev pub decreases-factor : goal.decreases-factor
decreases-factor l = 4 * (length l.self.now.text.now - l.self.now.at) + 1

abbrev pub decreases-sequence : goal.decreases-sequence
decreases-sequence l = 4 * (length l.self.now.text.now - l.self.now.at) + 2

abbrev pub decreases-sum : goal.decreases-sum
decreases-sum l = 4 * (length l.self.now.text.now - l.self.now.at) + 3
