use Rattle.std.proofs.Common.{◌≡◌, vec_len}
use Rattle.compare.proofs.cursor.Cursor.list.Given as goal

abbrev pub invariant-loop : goal.invariant-loop
invariant-loop g l = goal.R-IsAlwaysCallable g l.read × (vec_len l.all ≡ l.counter)
