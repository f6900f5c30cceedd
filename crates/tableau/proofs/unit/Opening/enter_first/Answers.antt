use Rattle.std.proofs.Common.{[], ◌∷◌, sym, ap, ◌∙◌, subst, rules}
use Rattle.tableau.specs.Calculus.{calculus, Fine}
use Rattle.tableau.specs.Claims.{has}
use Rattle.tableau.specs.Entered.{Enters}
use Rattle.tableau.specs.Expansions.{Reached, Leads, Stuck}
use Rattle.tableau.specs.Graphs.{Sign.T, says}
use Rattle.tableau.specs.Numbers.{number_of}
use Rattle.tableau.specs.Walk.{grown}
use Rattle.tableau.proofs.Clashes.{fine_none}
use Rattle.tableau.proofs.Steps.{stands_none}
use Rattle.tableau.proofs.Walks.{walk_stuck}
use Rattle.tableau.proofs.unit.Opening.enter_first.Goals as goal

pub add-requires : goal.add-requires
add-requires c = stands_none c.empty.result.words c.empty.ensures

pub returns-in_default : goal.returns-in_default
returns-in_default c = record {
  empty = c.drop-guard.ensures.len;
  room = search rules;
  entered = λ d ready there.
      let x = c.args.self.rules.phase in
      let m = calculus d x in
      let stuck = subst (λ v. Stuck m (grown [] (v ∷ []))) (c.true_form-claim.ensures d ready.shows there) (c.in_default.ensures.fine d ready.shows (fine_none m)) in
      walk_stuck d x c.args.self.origin m 0 (grown [] (number_of d (says d x T c.args.goal) ∷ [])) c.args.nodes.now c.args.edges.now c.args.used stuck;
}

pub returns : goal.returns
returns c = record {
  empty = c.drop-guard-2.ensures.len;
  room = c.expand.ensures.room;
  entered = λ d ready there.
      let x = c.args.self.rules.phase in
      let m = calculus d x in
      let grew = c.in-Some.ensures.added.1 in
      let is = grew ∙ ap (λ v. grown [] (v ∷ [])) (c.true_form-claim.ensures d ready.shows there) in
      subst (λ l. Enters d x c.args.self.origin (Reached m 0 l) (Leads m 0 l) c.args.nodes.now c.args.edges.now c.args.used c.expand.new.nodes c.expand.new.edges c.expand.result) is
      (c.expand.ensures.entered d ready (subst (λ l. Fine m (has l)) (sym grew) (c.in-Some.ensures.fine d ready.shows (fine_none m))));
}
