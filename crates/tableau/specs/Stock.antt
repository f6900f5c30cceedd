-- What the tables hold while a document is loaded.
use Rattle.std.specs.Prelude.{◌≡◌, ℕ, suc, ◌+◌, ◌<◌, ◌≤◌, true, List}
use Rattle.document.specs.Documents.{Document}
use Rattle.tableau.specs.Claims.{member}
use Rattle.tableau.specs.Entered.{Apart}
use Rattle.tableau.specs.Graphs.{Claim, FirstNode}
use Rattle.tableau.specs.Graphs.{Node as Defined}
use Rattle.tableau.specs.Held.{node_of, tables_of}
use Rattle.tableau.specs.Nodes.{node_at, edge_at}
use Rattle.tableau.specs.Numbers.{number_of, ClaimOf}
use Rattle.tableau.specs.Successions.{Marked}
use Rattle.tableau.specs.Working.{Units, empty}
use Rattle.tableau.specs.declared.grow.Grown.{Grown}
use Rattle.tableau.specs.declared.node.Node.{Node}
use Rattle.tableau.specs.declared.node.Edge.{Edge}

-- a node in use: a declared action, a phase, claims of the document alone, and marks that its claims tell
pub record InOrder (d : Document) (n : Node) : Type 0 where
  pub declared : n.action < d.acts
  pub phase : n.phase < 2
  pub own : (c : ℕ) → member n.claims.words c ≡ true → (k : Claim) × ClaimOf d k × (number_of d k ≡ c)
  pub marked : Marked d n

-- the edges of an opened node stand at its places, and nowhere else
pub record Indexed (k : ℕ) (n : Node) (nodes : ℕ) (edges : List Edge) (used : ℕ) : Type 0 where
  pub within : n.first_edge + n.edge_count ≤ used
  pub leads : (j : ℕ) → n.first_edge ≤ j → j < n.first_edge + n.edge_count → ((edge_at edges j).from ≡ k) × ((edge_at edges j).to < nodes)
  pub all : (j : ℕ) → j < used → (edge_at edges j).from ≡ k → (n.first_edge ≤ j) × (j < n.first_edge + n.edge_count)

-- the tables hold just what the units worked have entered
pub record Stocked (d : Document) (nodes : List Node) (edges : List Edge) (g : Grown) : Type 0 where
  pub worked : Units d 0 g.units empty (tables_of d nodes edges g.used)
  pub nodes_fine : (k : ℕ) → k < g.used.nodes → InOrder d (node_at nodes k)
  pub apart : Apart nodes g.used.nodes
  pub firsts : (k : ℕ) → k < g.first → FirstNode d (node_of d (node_at nodes k))
  pub all_first : 0 < g.units → (m : Defined) → FirstNode d m → (k : ℕ) × (k < g.first) × (node_of d (node_at nodes k) ≡ m)
  pub others : (k : ℕ) → g.first ≤ k → k < g.used.nodes → FirstNode d (node_of d (node_at nodes k)) → ⊥
  pub indexed : (k : ℕ) → suc k < g.units → Indexed k (node_at nodes k) g.used.nodes edges g.used.edges
  pub from_opened : (j : ℕ) → j < g.used.edges → suc (edge_at edges j).from < g.units
