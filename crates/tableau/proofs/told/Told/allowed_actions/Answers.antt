use Rattle.std.proofs.Common.{◌≡◌, sym, ◌∙◌, arith}
use Rattle.std.proofs.lemmas.Bool.{both_ways}
use Rattle.document.specs.Documents.{form_at}
use Rattle.document.specs.declared.form.Form.TheVariants.{Next}
use Rattle.tableau.specs.Claims.{member}
use Rattle.tableau.specs.Graphs.{Sign.T, form}
use Rattle.tableau.specs.Numbers.{ClaimOf}
use Rattle.tableau.proofs.told.Told.allowed_actions.Goals as goal
use Rattle.tableau.proofs.told.Told.allowed_actions.Goals.{in-Next+then-has_form, in-Next+else-has_form, in_default}
use Rattle.tableau.proofs.Numbering.{count_read, form_told, plain_next}
use Rattle.tableau.proofs.Telling.{allow_same, allow_one, all_ones}

pub loop-e-init : goal.loop-e-init
loop-e-init c = λ d s a l. (λ bit h low. absurd (omega arith), λ _. all_ones a l)

pub loop-e-preserved : goal.loop-e-preserved
loop-e-preserved c = λ d s a l.
    let held = c.args.self.declared.now in
    let N = member c.args.self.set.words in
    let e = c.loop-e.e in
    let end = count_read c.count-e-end.ensures.is c.forms.ensures.is in
    let t = form_told held d s e c.count-e-end.result c.form.result end c.loop-e-test.true c.form.ensures.is in
    let now = c.loop-e.invariant d s a l in
    elim c.match-form.branch [
      | in-Next+then-has_form w ↦
          let is : form_at d e ≡ Next w.in-Next.b w.in-Next._f = sym t.1 ∙ w.in-Next.is in
          let own : ClaimOf d (form T e) = (t.0, plain_next (form_at d e) w.in-Next.b w.in-Next._f is) in
          allow_one d N e a c.loop-e.allowed c.match-form.allowed w.in-Next.b w.in-Next._f w.allowed-is w.in-Next.ensures.earlier.0 is (own, sym (w.has_form.ensures d s own) ∙ w.if-has_form.true) now
      | in-Next+else-has_form w ↦
          allow_same d N e a c.loop-e.allowed c.match-form.allowed w.allowed-is now (λ b f k q. both_ways w.has_form.result w.if-has_form.false (w.has_form.ensures d s k.0 ∙ k.1))
      | in_default w ↦
          allow_same d N e a c.loop-e.allowed c.match-form.allowed w.allowed-is now (λ b f k q. w.in_default.not-Next b f (t.1 ∙ q))
    ]
