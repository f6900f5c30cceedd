use Rattle.std.proofs.Common.{◌+◌, ◌-◌, sym, subst, rules}
use Rattle.tableau.specs.Units.{NextUnit}
use Rattle.tableau.proofs.Expanding.{next_entered, next_over}
use Rattle.tableau.proofs.grow.next_unit.Goals as goal

pub returns-in_err-used : goal.returns-in_err-used
returns-in_err-used c = record {
  later = search rules;
  entered = subst (NextUnit c.args.document.now.declared (c.args.grown.units - 1) c.args.nodes.now c.args.edges.now c.args.grown c.enter_successors.new.nodes c.enter_successors.new.edges) (sym c.from_residual.ensures)
      (next_over c.declared-declared.result c.args.document.now.declared c.phase_after-phase.result (c.args.grown.units - 1) c.args.nodes.now c.enter_successors.new.nodes c.args.edges.now c.enter_successors.new.edges c.args.grown c.declared-declared.ensures c.phase_after-phase.ensures c.in_err-used.ensures.entered);
}

pub returns : goal.returns
returns c = record {
  later = search rules;
  entered = next_entered c.declared-declared.result c.args.document.now.declared c.phase_after-phase.result (c.args.grown.units - 1) c.args.nodes.now c.enter_successors.new.nodes c.args.edges.now c.enter_successors.new.edges c.args.grown c.in_ok-used.used (c.args.grown.units + 1) c.declared-declared.ensures c.phase_after-phase.ensures c.in_ok-used.ensures.entered;
}
