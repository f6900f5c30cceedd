use Rattle.std.proofs.Common.{sym, subst, rules}
use Rattle.tableau.specs.Calculus.{calculus}
use Rattle.tableau.specs.Units.{Reaching, Leading, Succeeding, Heading}
use Rattle.tableau.specs.Walk.{on}
use Rattle.tableau.proofs.Choosing.{heading_like, heading_stuck}
use Rattle.tableau.proofs.Clashes.{fine_none}
use Rattle.tableau.proofs.Entries.{entered_none, enters_weaken}
use Rattle.tableau.proofs.Steps.{stands_none}
use Rattle.tableau.proofs.unit.Opening.enter_successors.Goals as goal

pub carry-requires : goal.carry-requires
carry-requires c = stands_none c.empty.result.words c.empty.ensures

pub returns-in_default : goal.returns-in_default
returns-in_default c = record {
  empty = c.drop-guard.ensures.len;
  room = search rules;
  entered = λ d ready lt.
      let x = c.args.self.rules.phase in
      let n = c.args.node.now in
      let clashed = c.in_default.ensures.hands d ready.shows lt (fine_none (calculus d x)) in
      entered_none d x c.args.self.origin (Succeeding d x n) (Heading d x n) c.args.nodes.now c.args.edges.now c.args.used (λ N h. heading_stuck d x n clashed.claims N clashed.listed clashed.stuck h);
}

pub returns : goal.returns
returns c = record {
  empty = c.drop-guard-2.ensures.len;
  room = c.choose.ensures.room;
  entered = λ d ready lt.
      let x = c.args.self.rules.phase in
      let n = c.args.node.now in
      let added = c.in-Some.ensures.hands d ready.shows lt (fine_none (calculus d x)) in
      let u = on c.carry.new.trail in
      enters_weaken d x c.args.self.origin (Reaching d x n 0 u) (Leading d x n 0 u) (Succeeding d x n) (Heading d x n) c.args.nodes.now c.choose.new.nodes c.args.edges.now c.choose.new.edges c.args.used c.choose.result
      (λ N p. (added.claims, added.listed, subst (λ l. Reaching d x n 0 l N) added.grew p)) (λ N h. subst (λ l. Leading d x n 0 l N) (sym added.grew) (heading_like d x n added.claims N added.listed h))
      (c.choose.ensures.entered d ready lt added.fine);
}
