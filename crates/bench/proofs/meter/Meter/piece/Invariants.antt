use denote.Param.Members.{Called}
use Rattle.bench.specs.Rounds.{Ran}
use Rattle.bench.proofs.meter.Meter.piece.Given as goal

abbrev pub invariant-loop : goal.invariant-loop
invariant-loop g l = goal.W-IsAlwaysCallable g l.work × Ran (λ a t b. Called g.W.FnMut a tt t b) l.fn.work l.counter l.done l.work
