-- One more unit, and growing, over what the tables hold in memory.
use Rattle.std.specs.Prelude.{◌≡◌, ℕ, suc, ◌+◌, List, length, Option, MatchOption}
use Rattle.document.specs.Documents.{Document}
use Rattle.document.specs.declared.document.Document.{Document as Kept}
use Rattle.tableau.specs.Graphs.{Tables}
use Rattle.tableau.specs.Held.{tables_of}
use Rattle.tableau.specs.Numbers.{Shows}
use Rattle.tableau.specs.Stock.{Stocked}
use Rattle.tableau.specs.Working.{places_of, growth_of, UnitOf, Fits, Grows}
use Rattle.tableau.specs.declared.grow.Grown.{Grown}
use Rattle.tableau.specs.declared.grow.Growth.{Growth}
use Rattle.tableau.specs.declared.node.Node.{Node}
use Rattle.tableau.specs.declared.node.Edge.{Edge}

-- the unit was worked: the tables hold what it enters besides, and fit
pub record WorkedUnit (d : Document) (nodes : List Node) (edges : List Edge) (g : Grown) (nodes' : List Node) (edges' : List Edge) (h : Grown) : Type 0 where
  pub stock : Stocked d nodes' edges' h
  pub unit : UnitOf d g.units (tables_of d nodes edges g.used) (tables_of d nodes' edges' h.used)
  pub counted : h.units ≡ suc g.units
  pub fits : Fits (places_of (length nodes) (length edges)) (tables_of d nodes' edges' h.used)

-- the unit was given up: it does not fit, and the tables hold what they held
pub record GivenUp (d : Document) (nodes : List Node) (edges : List Edge) (g : Grown) (nodes' : List Node) (edges' : List Edge) : Type 0 where
  pub stock : Stocked d nodes' edges' g
  pub same : tables_of d nodes' edges' g.used ≡ tables_of d nodes edges g.used
  pub unfit : (w : Tables) → UnitOf d g.units (tables_of d nodes edges g.used) w → Fits (places_of (length nodes) (length edges)) w → ⊥

-- the document is the one in memory, and the tables hold what its units enter
pub record UnderWay (doc : Kept) (d : Document) (nodes : List Node) (edges : List Edge) (g : Grown) : Type 0 where
  pub shows : Shows doc.declared d
  pub goal : doc.goal ≡ d.goal
  pub stock : Stocked d nodes edges g

abbrev pub WorksUnit : Kept → List Node → List Edge → Grown → List Node → List Edge → Option Grown → Type 0
WorksUnit doc nodes edges g nodes' edges' r = (d : Document) → UnderWay doc d nodes edges g → MatchOption r (GivenUp d nodes edges g nodes' edges') (WorkedUnit d nodes edges g nodes' edges')

-- growing with a budget: units, report and tables as defined
pub record Grew (d : Document) (nodes : List Node) (edges : List Edge) (g : Grown) (budget : ℕ) (nodes' : List Node) (edges' : List Edge) (h : Grown) (told : Growth) : Type 0 where
  pub stock : Stocked d nodes' edges' h
  pub counted : h.units ≡ g.units + told.units
  pub grows : Grows (places_of (length nodes) (length edges)) d g.units (tables_of d nodes edges g.used) budget (growth_of told) (tables_of d nodes' edges' h.used)
