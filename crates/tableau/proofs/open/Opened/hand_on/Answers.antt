use Rattle.std.proofs.Common.{◌≡◌, ap, ◌∙◌}
use Rattle.document.specs.declared.form.Form.TheVariants.{Next, Until}
use Rattle.document.specs.Documents.{form_at}
use Rattle.tableau.specs.Calculus.{calculus}
use Rattle.tableau.specs.Graphs.{Sign}
use Rattle.tableau.specs.Handing.{Any, From, Operand, By}
use Rattle.tableau.specs.Numbers.{is_until}
use Rattle.tableau.specs.Walk.{on}
use Rattle.tableau.proofs.Handed.{hands_like}
use Rattle.tableau.proofs.Parts.{form_is, by_next, by_until}
use Rattle.tableau.proofs.open.Opened.hand_on.Goals as goal

pub returns-then-b-self : goal.returns-then-b-self
returns-then-b-self c = record {
  stands = c.add_next.ensures.stands;
  hands = λ d shows there lt fine.
      let n = c.args.self.node.now in
      let is : form_at d c.args.e ≡ Next n.action c.in-Next.f = form_is c.args.self.opening.rules.declared.now d c.args.e c.form.result (Next c.in-Next.b c.in-Next.f) shows there c.form.ensures.is c.in-Next.is ∙ ap (λ b. Next b c.in-Next.f) c.if-b-self.true in
      hands_like (calculus d c.args.self.opening.rules.phase) (λ y. (s : Sign) × Operand d n c.args.self.opening.rules.phase c.args.e c.in-Next.f s y) (By d n c.args.self.opening.rules.phase c.args.e) (on c.args.trail.now) (on c.add_next.new.trail) c.add_next.result
      (by_next d n c.args.self.opening.rules.phase c.args.e c.in-Next.f is) (c.add_next.ensures.hands d shows there is fine);
}

pub returns-in-Until : goal.returns-in-Until
returns-in-Until c = record {
  stands = c.add_false_steps.ensures.stands;
  hands = λ d shows there lt fine.
      let n = c.args.self.node.now in
      let fated = ap is_until (form_is c.args.self.opening.rules.declared.now d c.args.e c.form.result (Until c.in-Until.field-0 c.in-Until.field-1 c.in-Until.field-2) shows there c.form.ensures.is c.in-Until.is) in
      hands_like (calculus d c.args.self.opening.rules.phase) (Any (From d n c.args.e)) (By d n c.args.self.opening.rules.phase c.args.e) (on c.args.trail.now) (on c.add_false_steps.new.trail) c.add_false_steps.result
      (by_until d n c.args.self.opening.rules.phase c.args.e fated) (c.add_false_steps.ensures.hands d shows there fated lt fine);
}
