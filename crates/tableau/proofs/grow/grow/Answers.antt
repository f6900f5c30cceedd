use Rattle.std.proofs.Common.{◌≡◌, List, length, subst}
use Rattle.tableau.specs.declared.grow.Grown.{Grown}
use Rattle.tableau.specs.declared.node.Node.{Node}
use Rattle.tableau.specs.declared.node.Edge.{Edge}
use Rattle.tableau.specs.Growing.{Sound}
use Rattle.tableau.specs.UnitsHeld.{UnderWay}
use Rattle.tableau.proofs.grow.grow.Goals as goal
use Rattle.tableau.proofs.UnitsWorked.{progress_none, progress_more}

-- tables of the same lengths
resized : (nodes nodes' : List Node) (edges edges' : List Edge) (g : Grown) → length nodes ≡ length nodes' → length edges ≡ length edges' → Sound (length nodes) (length edges) g → Sound (length nodes') (length edges') g
resized nodes nodes' edges edges' g ln le s = subst (λ n. Sound n (length edges') g) ln (subst (λ n. Sound (length nodes) n g) le s)

pub loop-units-init : goal.loop-units-init
loop-units-init c = (c.requires.sound, λ d way. progress_none c.args.document.now d c.args.nodes.now c.args.edges.now c.args.grown c.requires.sound way)

pub loop-units-preserved : goal.loop-units-preserved
loop-units-preserved c = (
  resized c.loop-units.nodes c.args.nodes.now c.loop-units.edges c.args.edges.now c.in-Some.next c.loop-units.auto.nodes c.loop-units.auto.edges c.in-Some.ensures.later.sound,
  λ d way.
      let p = c.loop-units.invariant.1 d way in
      let here : UnderWay c.args.document.now d c.loop-units.nodes c.loop-units.edges c.loop-units.now = record { shows = way.shows; goal = way.goal; stock = p.stock } in
      progress_more d c.args.nodes.now c.loop-units.nodes c.unit.new.nodes c.args.edges.now c.loop-units.edges c.unit.new.edges c.args.grown c.loop-units.now c.in-Some.next c.loop-units.units
      c.loop-units.auto.nodes c.loop-units.auto.edges p (c.in-Some.ensures.works d here),
)
