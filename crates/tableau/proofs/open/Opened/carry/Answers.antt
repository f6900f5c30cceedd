use Rattle.std.proofs.Common.{sym, ◌∙◌, subst, arith, rules}
use Rattle.tableau.specs.Calculus.{calculus}
use Rattle.tableau.specs.Handing.{By, Hands}
use Rattle.tableau.specs.Successions.{Handed}
use Rattle.tableau.specs.Walk.{on}
use Rattle.tableau.proofs.Handed.{added_like, added_more, added_all, clashed_weaken, clashed_more}
use Rattle.tableau.proofs.Numbering.{count_read}
use Rattle.tableau.proofs.Parts.{handed_by, by_there}
use Rattle.tableau.proofs.open.Opened.carry.Goals as goal

pub loop-e-preserved : goal.loop-e-preserved
loop-e-preserved c = (
  c.in_ok-all.ensures.stands,
  λ d shows lt fine.
      let inv = c.loop-e.invariant.1 d shows lt fine in
      let count = count_read c.count-e-end.ensures.is c.forms.ensures.is ∙ shows.count in
      added_more (By d c.args.self.node.now c.args.self.opening.rules.phase) c.loop-e.e inv (c.in_ok-all.ensures.hands d shows (omega (arith, count, c.loop-e-test.true)) lt inv.fine),
)

pub returns-in_err-all : goal.returns-in_err-all
returns-in_err-all c = record {
  stands = search rules;
  hands = λ d shows lt fine.
      let n = c.args.self.node.now in
      let x = c.args.self.opening.rules.phase in
      let m = calculus d x in
      let inv = c.loop-e.invariant.1 d shows lt fine in
      let count = count_read c.count-e-end.ensures.is c.forms.ensures.is ∙ shows.count in
      subst (Hands m (Handed d n x) (on c.args.trail.now) (on c.hand_on.new.trail)) (sym c.from_residual.ensures)
      (clashed_weaken (Handed d n x) (λ y h. (handed_by d n x y).1 h) (clashed_more (By d n x) c.loop-e.e inv (c.in_err-all.ensures.hands d shows (omega (arith, count, c.loop-e-test.true)) lt inv.fine)));
}

pub returns : goal.returns
returns c = record {
  stands = c.loop-e.invariant.0;
  hands = λ d shows lt fine.
      let n = c.args.self.node.now in
      let x = c.args.self.opening.rules.phase in
      let count = count_read c.count-e-end.ensures.is c.forms.ensures.is ∙ shows.count in
      added_like (Handed d n x) (handed_by d n x)
      (added_all (By d n x) c.loop-e.e (λ e y h. let there = by_there d n x e y h in omega (arith, there, count, c.loop-e-test.false)) (c.loop-e.invariant.1 d shows lt fine));
}
