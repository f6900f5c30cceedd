-- The two tables and the places of them in use.
use Rattle.std.specs.Prelude.{ℕ, ◌≤◌, IfSome, Option}
use Rattle.tableau.specs.declared.node.Used.{Used}

-- what is in use lies in tables of so many places, and within the limits
pub record Room (nodes edges : ℕ) (u : Used) : Type 0 where
  pub node_places : u.nodes ≤ nodes
  pub few_nodes : u.nodes ≤ 4096
  pub edge_places : u.edges ≤ edges
  pub few_edges : u.edges ≤ 65536

-- what is in use after entering: no less than before, and within the tables
abbrev pub More : ℕ → ℕ → Used → Option Used → Type 0
More nodes edges before r = IfSome r (λ u. Room nodes edges u × (before.nodes ≤ u.nodes) × (before.edges ≤ u.edges))
