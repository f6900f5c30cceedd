use Rattle.std.proofs.Common.{rules}
use Rattle.tableau.specs.Calculus.{calculus}
use Rattle.tableau.specs.Graphs.{Sign, Sign.T, Sign.F}
use Rattle.tableau.specs.Handing.{Operand}
use Rattle.tableau.specs.Walk.{on}
use Rattle.tableau.proofs.Handed.{hands_after}
use Rattle.tableau.proofs.Parts.{by_sign}
use Rattle.tableau.proofs.open.Opened.add_next.Goals as goal

pub returns : goal.returns
returns c = record {
  stands = search rules;
  hands = λ d shows there is fine.
      let part = Operand d c.args.self.node.now c.args.self.opening.rules.phase c.args.e c.args.f in
      let first = c.in_ok-all.ensures.hands d shows there is fine in
      hands_after (calculus d c.args.self.opening.rules.phase) (part T) (part F) (λ y. (s : Sign) × part s y)
      (on c.args.trail.now) (on c.add_operand.new.trail) (on c.add_operand-2.new.trail) c.add_operand-2.result
      (by_sign part) first (c.add_operand-2.ensures.hands d shows there is first.fine);
}
