use Rattle.std.proofs.Common.{◌≡◌, cond, sym, ap, ◌∙◌, rules}
use Rattle.std.proofs.lemmas.Bool.{both_ways}
use Rattle.tableau.specs.Calculus.{calculus}
use Rattle.tableau.specs.Graphs.{Sign, Sign.T, Sign.F, form}
use Rattle.tableau.specs.Handing.{Operand}
use Rattle.tableau.specs.Numbers.{is_until, ClaimOf}
use Rattle.tableau.specs.Walk.{on, Stands}
use Rattle.tableau.proofs.Handed.{hands_one, hands_like, added_nothing}
use Rattle.tableau.proofs.Parts.{operand_there}
use Rattle.tableau.proofs.Telling.{of_told}
use Rattle.tableau.proofs.open.Opened.add_operand.Goals as goal

pub returns-then-has_form : goal.returns-then-has_form
returns-then-has_form c = record {
  stands = search rules;
  hands = λ d shows there is fine.
      let n = c.args.self.node.now in
      let m = calculus d c.args.self.opening.rules.phase in
      let t = on c.args.trail.now in
      let u = on c.add.new.trail in
      let s : Sign = cond c.args.sign T F in
      let claim : ClaimOf d (form s c.args.e) = (there, ap is_until is) in
      let claimed = sym (of_told (form s c.args.e) c.told-told.ensures (c.has_form.ensures d) shows claim) ∙ c.if-has_form.true in
      let says = c.says-operand.ensures d shows (operand_there d c.args.e n.action c.args.f shows.good there is) in
      hands_like m (λ y. y ≡ c.says-operand.result) (Operand d n c.args.self.opening.rules.phase c.args.e c.args.f s) t u c.add.result (λ y. (λ h. h.1 ∙ sym says, λ h. ((claim, claimed), h ∙ says)))
      (hands_one m (λ s. Stands s.words u c.add.new.trail.len) t u c.says-operand.result c.add.result c.add.ensures.added (c.add.ensures.fine d shows fine));
}

pub returns : goal.returns
returns c = record {
  stands = c.requires;
  hands = λ d shows there is fine.
      let n = c.args.self.node.now in
      let s : Sign = cond c.args.sign T F in
      let claim : ClaimOf d (form s c.args.e) = (there, ap is_until is) in
      added_nothing (calculus d c.args.self.opening.rules.phase) (Operand d n c.args.self.opening.rules.phase c.args.e c.args.f s) (on c.args.trail.now)
      (λ y h. both_ways c.has_form.result c.if-has_form.false (of_told (form s c.args.e) c.told-told.ensures (c.has_form.ensures d) shows claim ∙ h.0.1)) fine;
}
