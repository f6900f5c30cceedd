use Rattle.std.proofs.Common.{arith, rules}
use Rattle.tableau.proofs.grow.unit.Goals as goal
use Rattle.tableau.proofs.UnitsWorked.{works_first, works_next}

pub returns-then-grown-eq0 : goal.returns-then-grown-eq0
returns-then-grown-eq0 c = record {
  later = search rules;
  works = works_first c.args.document.now c.args.nodes.now c.first_unit.new.nodes c.args.edges.now c.first_unit.new.edges c.args.grown c.first_unit.result
      c.if-grown-eq0.true c.requires.sound c.first_unit.auto.nodes c.first_unit.auto.edges c.first_unit.ensures.sound c.first_unit.ensures.entered;
}

pub returns-else-grown-eq0 : goal.returns-else-grown-eq0
returns-else-grown-eq0 c = record {
  later = c.next_unit.ensures.later;
  works = works_next c.args.document.now c.args.nodes.now c.next_unit.new.nodes c.args.edges.now c.next_unit.new.edges c.args.grown c.next_unit.result
      (omega arith) c.requires.due c.requires.sound c.next_unit.auto.nodes c.next_unit.auto.edges c.next_unit.ensures.later c.next_unit.ensures.entered;
}
