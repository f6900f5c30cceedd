use Rattle.std.proofs.Common.{◌+◌, ◌-◌, ◌*◌}
use Rattle.tableau.proofs.unit.Opening.+expand_follow.Given as goal

abbrev pub decreases-expand : goal.decreases-expand
decreases-expand l = 2 * (256 - l.at) + 1

abbrev pub decreases-follow : goal.decreases-follow
decreases-follow l = 2 * (256 - l.at)
