use Rattle.std.proofs.Common.{◌≡◌, false, cond, not, sym, refl, ◌∙◌}
use Rattle.std.proofs.lemmas.Bool.{both_ways}
use Rattle.document.specs.declared.form.Form.TheVariants.{True}
use Rattle.tableau.specs.Claims.{member}
use Rattle.tableau.specs.Graphs.{Sign.T, Sign.F, form}
use Rattle.tableau.specs.Numbers.{number_of}
use Rattle.tableau.proofs.told.Told.clashes_form.Goals as goal
use Rattle.tableau.proofs.Numbering.{form_there}
use Rattle.tableau.proofs.Clashing.{truth_clash, other_clash}

pub returns-in-True : goal.returns-in-True
returns-in-True c = λ d s own.
    let N = member c.args.self.set.words in
    let e = c.args.e in
    let none : N (number_of d (form (cond (not c.args.sign) T F) e)) ≡ false = sym (c.has_form.ensures d s own) ∙ c.if-has_form.false in
    truth_clash d N e c.args.sign own (sym (form_there c.args.self.declared.now d s e True own.0 c.in-True.ensures.is)) none

pub returns-in_default : goal.returns-in_default
returns-in_default c = λ d s own.
    let N = member c.args.self.set.words in
    let e = c.args.e in
    let none : N (number_of d (form (cond (not c.args.sign) T F) e)) ≡ false = sym (c.has_form.ensures d s own) ∙ c.if-has_form.false in
    let is = form_there c.args.self.declared.now d s e c.form.result own.0 c.form.ensures.is in
    (λ h. absurd (both_ways false refl h), λ k. absurd (other_clash d N e c.args.sign (λ t. c.in_default.not-True (is ∙ t)) (λ p t. c.in_default.not-Prop p (is ∙ t)) none k))
