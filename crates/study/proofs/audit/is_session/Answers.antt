use Rattle.std.proofs.Common.{length, sym, refl, subst, arith, below_more}
use Rattle.lasso.specs.Lassos.{step_in}
use Rattle.lasso.specs.Rounds.{next_place}
use Rattle.study.specs.Sessions.{StepGoes}
use Rattle.study.proofs.audit.is_session.Goals as goal

pub loop-i-preserved : goal.loop-i-preserved
loop-i-preserved g c =
    let m = g.S.System.meaning c.args.system in
    let d = c.args.declared in
    let xs = c.args.lasso.steps.now in
    below_more (λ k. StepGoes m d (step_in xs k) (step_in xs (next_place (length xs) c.args.lasso.stem k)).state) c.loop-i.i c.loop-i.invariant
    (subst (λ n. StepGoes m d (step_in xs c.loop-i.i) (step_in xs n).state) c.after.ensures.is (c.if-not-step_goes.ensures.0 refl))

pub returns : goal.returns
returns g c = (λ _. record { begins = sym c.if-not-starts.ensures; each = λ i h. c.loop-i.invariant i (omega arith) }, λ _. refl)
