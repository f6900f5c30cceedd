use Rattle.std.proofs.Common.{Some, sym, subst, rules}
use Rattle.tableau.specs.Entered.{EntersNode}
use Rattle.tableau.proofs.Entries.{first_node, no_place, opened_node}
use Rattle.tableau.proofs.unit.Opening.enter_node.Goals as goal

pub returns-in_err-place : goal.returns-in_err-place
returns-in_err-place c = record {
  entered = λ d x. subst (EntersNode d x c.args.self.origin c.args.node.now c.args.nodes.now c.args.edges.now c.args.used c.place_of.new.nodes c.args.edges.now) (sym c.from_residual.ensures)
      (no_place d x c.args.self.origin c.args.nodes.now c.args.edges.now c.args.used c.args.node.now c.place_of.new.nodes c.in_err-place.ensures.placed);
  room = search rules;
}

pub returns-in-First : goal.returns-in-First
returns-in-First c =
    let p = c.in_ok-place.ensures in
    record {
      entered = λ d x. subst (λ o. EntersNode d x o c.args.node.now c.args.nodes.now c.args.edges.now c.args.used c.place_of.new.nodes c.args.edges.now (Some c.in_ok-place.used)) (sym c.in-First.is)
          (first_node d x c.args.nodes.now c.args.edges.now c.args.used c.args.node.now c.place_of.new.nodes c.in_ok-place.place c.in_ok-place.used p.room.3 p.placed);
      room = search rules;
    }

pub returns-in-Opened : goal.returns-in-Opened
returns-in-Opened c =
    let p = c.in_ok-place.ensures in
    record {
      entered = λ d x. subst (λ o. EntersNode d x o c.args.node.now c.args.nodes.now c.args.edges.now c.args.used c.place_of.new.nodes c.enter_edge.new.edges c.enter_edge.result) (sym c.in-Opened.is)
          (opened_node d x c.in-Opened.from c.in-Opened.closing c.in-Opened.first_edge c.args.nodes.now c.args.edges.now c.args.used c.args.node.now c.place_of.new.nodes c.in_ok-place.place c.in_ok-place.used c.enter_edge.new.edges c.enter_edge.result p.room.3 p.placed c.enter_edge.ensures.linked);
      room = search rules;
    }
