use Rattle.std.proofs.Common.{◌+◌, ltb, Bool, take, sym, ap, ◌∙◌, arith}
use Rattle.document.specs.declared.declared.Declared.{Declared}
use Rattle.lasso.specs.DeclaredNames.{acts_of, props_of}
use Rattle.lasso.specs.LassoTexts.{worded_line, worded_lines}
use Rattle.lasso.specs.Lassos.{step_in}
use Rattle.lasso.specs.Parts.{is_stem}
use Rattle.lasso.proofs.Lines.{lines_more}
use Rattle.lasso.proofs.OneReading.{fit_parts}
use Rattle.lasso.proofs.Written.{wrote_then, wrote_as}
use Rattle.lasso.proofs.print.write.Goals as goal

pub loop-i-preserved : goal.loop-i-preserved
loop-i-preserved c =
    let acts = acts_of c.args.document.now.declared in
    let props = props_of c.args.document.now.declared in
    let steps = c.args.steps.now in
    let stem = c.args.stem in
    let i = c.loop-i.i in
    let v = c.loop-i.invariant in
    record {
      few = omega (arith, v.few, c.step.ensures.few);
      same = c.step.ensures.same ∙ v.same;
      wrote = λ lasso.
          let s = step_in steps i in
          let fit = fit_parts _ _ s (lasso.declared i (omega arith)) in
          let count = ap (λ (d : Declared). d.acts.count) c.declared-declared.ensures in
          let line = ap (λ (d : Declared). worded_line (acts_of d) (props_of d) (is_stem c.at.result) s) c.declared-declared.ensures
          ∙ ap (λ (b : Bool). worded_line acts props b s) c.at.ensures in
          wrote_as (worded_lines acts props stem 0 (take (i + 1) steps))
          (wrote_then (v.wrote lasso)
          (wrote_as (worded_line acts props (ltb i stem) s) (c.step.ensures.wrote (omega (arith, fit.state)) (omega (arith, fit.action, count))) line))
          (sym (lines_more acts props stem steps i _ (omega arith)));
    }
