use denote.Param.Members.{Called}
use Rattle.std.proofs.Common.{◌≡◌, if◌then◌else◌, ℕ, ◌≤◌, Bool, true, false, subst, arith}
use Rattle.bench.specs.Rounds.{Ran, once, again}
use Rattle.bench.proofs.meter.Meter.piece.Goals as goal

few : (timed : Bool) → (1 ≤ (if timed then 5 else 1)) × ((if timed then 5 else 1) ≤ 5)
few true = (omega arith, omega arith)
few false = (omega arith, omega arith)

pub loop-init : goal.loop-init
loop-init g c = (c.round.ensures.again, once c.in_ok-done.ensures.done)

pub loop-preserved : goal.loop-preserved
loop-preserved g c = (c.round-in-loop.ensures.again, again c.loop.invariant.1 c.in_ok-done-2.ensures.done)

pub returns : goal.returns
returns g c =
    let timed = c.args.self.now.timed in
    let bounds = few timed in
    let all : c.loop.counter ≡ (if timed then 5 else 1) = grind (arith, bounds.0, bounds.1, c.round.ensures.same) in
    (c.loop.work, subst (λ (n : ℕ). Ran (λ a t b. Called g.W.FnMut a tt t b) c.args.work n c.loop.done c.loop.work) all c.loop.invariant.1)
