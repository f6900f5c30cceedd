use Rattle.std.proofs.Common.{ℕ, ◌<◌, ◌↔◌}
use Rattle.program.specs.Masks.{Bit}
use Rattle.lasso.specs.Rounds.{LeadsBy}
use Rattle.lasso.proofs.until.leading.Given as goal

abbrev pub invariant-loop-q : goal.invariant-loop-q
invariant-loop-q l = (k : ℕ) → Bit l.states k ↔ ((k < l.q) × ((n : ℕ) × LeadsBy l.automaton k l.action n × Bit l.next n))
