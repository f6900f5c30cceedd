use Rattle.std.proofs.Common.{◌≡◌, cond, sym, ◌∙◌}
use Rattle.std.proofs.lemmas.Bool.{both_ways}
use Rattle.document.specs.Documents.{form_at}
use Rattle.document.specs.declared.form.Form.TheVariants.{Prop}
use Rattle.tableau.specs.Claims.{member}
use Rattle.tableau.specs.Graphs.{Sign.T, Sign.F, form}
use Rattle.tableau.specs.Numbers.{ClaimOf}
use Rattle.tableau.proofs.told.Told.claimed_props.Goals as goal
use Rattle.tableau.proofs.told.Told.claimed_props.Goals.{in-Prop+then-has_form, in-Prop+else-has_form, in_default}
use Rattle.tableau.proofs.Numbering.{count_read, form_told, plain_prop}
use Rattle.tableau.proofs.Telling.{tell_same, tell_one}

pub loop-e-preserved : goal.loop-e-preserved
loop-e-preserved c = λ d s p.
    let held = c.args.self.declared.now in
    let N = member c.args.self.set.words in
    let e = c.loop-e.e in
    let sign = cond c.args.sign T F in
    let end = count_read c.count-e-end.ensures.is c.forms.ensures.is in
    let t = form_told held d s e c.count-e-end.result c.form.result end c.loop-e-test.true c.form.ensures.is in
    let now = c.loop-e.invariant d s p in
    elim c.match-form.branch [
      | in-Prop+then-has_form w ↦
          let is : form_at d e ≡ Prop w.in-Prop.p = sym t.1 ∙ w.in-Prop.is in
          let own : ClaimOf d (form sign e) = (t.0, plain_prop (form_at d e) w.in-Prop.p is) in
          tell_one d N sign e p c.loop-e.props c.match-form.props w.in-Prop.p w.props-is w.in-Prop.ensures.earlier is (own, sym (w.has_form.ensures d s own) ∙ w.if-has_form.true) now
      | in-Prop+else-has_form w ↦
          tell_same d N sign e p c.loop-e.props c.match-form.props w.props-is now
          (λ k q. both_ways w.has_form.result w.if-has_form.false (w.has_form.ensures d s k.0 ∙ k.1))
      | in_default w ↦
          tell_same d N sign e p c.loop-e.props c.match-form.props w.props-is now (λ k q. w.in_default.not-Prop p (t.1 ∙ q))
    ]
