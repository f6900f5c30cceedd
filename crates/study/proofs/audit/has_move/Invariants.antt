use Rattle.std.proofs.Common.{◌≡◌, ℕ, ◌<◌, get_or}
use Rattle.study.proofs.audit.has_move.Given as goal

abbrev pub invariant-loop-k : goal.invariant-loop-k
invariant-loop-k g l = (j : ℕ) → j < l.k → get_or ((g.S.System.meaning l.system).moves l.state) j (0, 0) ≡ (l.action, l.target) → ⊥
