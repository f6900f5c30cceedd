use Rattle.std.proofs.Common.{◌≡◌, ◌<◌, ◌⊎◌, length, sym, ◌∙◌, subst, inl, inr, arith}
use Rattle.program.specs.Rows.{RowOf}
use Rattle.document.specs.Documents.{Refers, form_at, program_at}
use Rattle.document.specs.declared.form.Form.TheVariants.{Until}
use Rattle.lasso.specs.Judged.{Plain, Rests}
use Rattle.lasso.proofs.Holds.{until_so, plain_else}
use Rattle.lasso.proofs.judge.judge_form.Goals as goal
use Rattle.lasso.proofs.judge.judge_form.Goals.{in-Until, in_default}

pub returns : goal.returns
returns c d J j =
    let e = c.args.e in
    let steps = c.args.lasso.steps.now in
    let stem = c.args.lasso.stem in
    let b : e < length d.forms = omega (arith, J.count) in
    let held : c.form-form.result ≡ form_at d e = c.form-form.ensures.is c.requires.form.1 ∙ J.lines e b in
    let same : c.match-form.form ≡ c.form-form.result = elim c.match-form.branch [ in-Until w ↦ w.form-is ∙ sym w.in-Until.is | in_default w ↦ w.form-is ] in
    let kind : Plain c.form-form.result ⊎ Rests d steps stem e c.match-form.states = elim c.match-form.branch [
      | in-Until w ↦
          let is : Until w.in-Until.f w.in-Until.p w.in-Until.g ≡ form_at d e = sym w.in-Until.is ∙ held in
          let r : Refers d e (Until w.in-Until.f w.in-Until.p w.in-Until.g) = subst (Refers d e) (sym is) (J.good.refers e b) in
          let p = w.in-Until.p in
          let of = w.new-automaton.ensures.made (program_at d p) (subst (RowOf (program_at d p)) (sym w.row.ensures) (J.rows p r.1)) in
          let rests = until_so d steps stem c.args.lasso.inside J.low e w.in-Until.f p w.in-Until.g J.good b is w.new-automaton.result of
          c.args.truths.now w.fixed_point.new.states j w.fixed_point.ensures in inr (subst (Rests d steps stem e) (sym w.states-is) rests)
      | in_default w ↦ inl (plain_else c.form-form.result w.in_default.not-Until)
    ] in
    c.enter.ensures d J.good b (same ∙ held) (subst (λ o. Plain o ⊎ Rests d steps stem e c.match-form.states) (sym same) kind) j
