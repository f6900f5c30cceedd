-- A goal's graph as tables, and the law that growing to the end gives it.
use Rattle.std.specs.Prelude.{ℕ, ◌<◌, length, slice_index_or}
use Rattle.document.specs.Documents.{Document}
use Rattle.tableau.specs.Graphs.{Node, Successor, InGraph, Lists, Tables}
use Rattle.tableau.specs.Working.{Units, NoneLeft, empty}

-- the nodes and edges of a goal's graph, each once
pub record GraphOf (d : Document) (t : Tables) : Type 0 where
  pub all_nodes : Lists t.nodes (InGraph d)
  pub all_edges : Lists t.edges (λ e. (z : Node) → (e.0 < length t.nodes) × (e.1 < length t.nodes) × Successor d (slice_index_or t.nodes e.0 z) (slice_index_or t.nodes e.1 z))

-- the law: after units from the first on, with no unit left, the tables hold the goal's graph
abbrev pub CompleteGraph : Type 0
CompleteGraph = (d : Document) (k : ℕ) (t : Tables) → Units d 0 k empty t → NoneLeft k t → GraphOf d t
