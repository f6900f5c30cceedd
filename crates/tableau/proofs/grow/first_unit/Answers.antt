use Rattle.std.proofs.Common.{sym, subst, rules}
use Rattle.tableau.specs.Units.{FirstUnit}
use Rattle.tableau.proofs.Expanding.{first_entered, first_over}
use Rattle.tableau.proofs.grow.first_unit.Goals as goal

pub returns-in_err-used : goal.returns-in_err-used
returns-in_err-used c = record {
  sound = search rules;
  entered = subst (FirstUnit c.args.document.now.declared c.args.document.now.goal c.args.nodes.now c.args.edges.now c.enter_first.new.nodes c.enter_first.new.edges) (sym c.from_residual.ensures)
      (first_over c.declared-declared.result c.args.document.now.declared c.goal-goal.result c.args.document.now.goal c.args.nodes.now c.enter_first.new.nodes c.args.edges.now c.enter_first.new.edges c.declared-declared.ensures c.goal-goal.ensures.is c.default.ensures c.in_err-used.ensures.entered);
}

pub returns : goal.returns
returns c = record {
  sound = search rules;
  entered = first_entered c.declared-declared.result c.args.document.now.declared c.goal-goal.result c.args.document.now.goal c.args.nodes.now c.enter_first.new.nodes c.args.edges.now c.enter_first.new.edges c.in_ok-used.used c.declared-declared.ensures c.goal-goal.ensures.is c.default.ensures c.in_ok-used.ensures.entered;
}
