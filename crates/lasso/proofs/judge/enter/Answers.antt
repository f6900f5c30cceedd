use Rattle.std.proofs.Common.{ℕ, get_or, sym, ap, ◌∙◌, arith}
use Rattle.std.proofs.lemmas.Bool.{both_ways}
use Rattle.lasso.specs.Judged.{holds_by}
use Rattle.lasso.specs.Lassos.{step_in}
use Rattle.lasso.proofs.Holds.{holds_so}
use Rattle.lasso.proofs.Truths.{judged_true, judged_false, judged_all}
use Rattle.lasso.proofs.judge.enter.Goals as goal
use Rattle.lasso.proofs.judge.enter.Goals.{then-holds, else-holds}

pub loop-i-preserved : goal.loop-i-preserved
loop-i-preserved c d good b is r j =
    let steps = c.args.lasso.steps.now in
    let stem = c.args.lasso.stem in
    let i = c.loop-i.i in
    let truths = c.loop-i.truths in
    let states = c.args.states.now in
    let now = c.loop-i.invariant d good b is r j in
    let h = holds_so d steps stem c.args.lasso.inside c.args.e i i truths now (omega arith) states c.args.form good b is r in
    let e = c.holds.ensures ∙ ap (λ (k : ℕ). holds_by c.args.form (step_in steps i) (get_or truths i 0) (get_or truths k 0) (get_or states i 0)) c.after.ensures.is in
    elim c.if-holds.branch [
      | then-holds w ↦
          judged_true d steps stem c.args.e i truths (omega arith) now (omega arith) (omega arith) (h.0 (sym e ∙ w.if-holds.true)) _ w.truths-is
      | else-holds w ↦
          judged_false d steps stem c.args.e i truths (omega arith) now (λ x. both_ways c.holds.result w.if-holds.false (e ∙ h.1 x)) _ w.truths-is
    ]

pub returns : goal.returns
returns c d good b is r j =
    judged_all d c.args.lasso.steps.now c.args.lasso.stem c.args.e c.loop-i.i c.loop-i.truths c.loop-i-test.false (c.loop-i.invariant d good b is r j)
