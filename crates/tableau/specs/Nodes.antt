-- Nodes and edges as they lie in the tables.
use Rattle.std.specs.Prelude.{◌≡◌, ℕ, false, List, [], slice_index_or}
use Rattle.tableau.specs.Claims.{member, Same}
use Rattle.tableau.specs.declared.node.Node.{Node}
use Rattle.tableau.specs.declared.node.Edge.{Edge}

-- the same node of the graph: action, phase, closing and the set of claims agree
pub record SameNode (n m : Node) : Type 0 where
  pub action : n.action ≡ m.action
  pub phase : n.phase ≡ m.phase
  pub closing : n.closing ≡ m.closing
  pub claims : Same (member n.claims.words) (member m.claims.words)

abbrev pub node_at : List Node → ℕ → Node
node_at nodes i = slice_index_or nodes i (record { action = 0; phase = 0; closing = false; claims = record { words = [] }; shows = 0; hides = 0; first_edge = 0; edge_count = 0 })

abbrev pub edge_at : List Edge → ℕ → Edge
edge_at edges i = slice_index_or edges i (record { from = 0; to = 0 })
