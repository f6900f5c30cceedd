-- What a part of a unit enters into the two tables, given which sets are due (P) and which must be there afterwards (Q).
use Rattle.std.specs.Prelude.{◌≡◌, ℕ, ◌+◌, ◌<◌, ◌≤◌, Bool, ◌⊎◌, List, length, Option, MatchOption, ◌≢◌, slice_set}
use Rattle.document.specs.Documents.{Document}
use Rattle.document.specs.declared.declared.Declared.{Declared}
use Rattle.tableau.specs.Claims.{member, Same}
use Rattle.tableau.specs.Nodes.{SameNode, node_at, edge_at}
use Rattle.tableau.specs.Numbers.{Shows}
use Rattle.tableau.specs.Successions.{Allowed, Made, Marked}
use Rattle.tableau.specs.declared.node.Node.{Node}
use Rattle.tableau.specs.declared.node.Edge.{Edge}
use Rattle.tableau.specs.declared.node.Used.{Used}
use Rattle.tableau.specs.declared.unit.Origin.{Origin}
use Rattle.tableau.specs.declared.unit.Origin.TheVariants.{First, Opened}

-- the node is one of the first n
abbrev pub Known : List Node → ℕ → Node → Type 0
Known nodes n node = (k : ℕ) × (k < n) × SameNode (node_at nodes k) node

-- place k is that of the node: it stood there, or it is new and the next place was free
abbrev pub Placed : List Node → Used → Node → List Node → ℕ → Used → Type 0
Placed nodes u node nodes' k v =
    ((v.nodes ≡ u.nodes) × (nodes' ≡ nodes) × (k < u.nodes) × SameNode (node_at nodes k) node)
    ⊎ ((v.nodes ≡ u.nodes + 1) × (nodes' ≡ slice_set nodes u.nodes node) × (k ≡ u.nodes) × (u.nodes < length nodes) × (u.nodes < 4096) × (Known nodes u.nodes node → ⊥))

-- the node is new and has no place
abbrev pub Unplaced : List Node → Used → Node → List Node → Type 0
Unplaced nodes u node nodes' = (nodes' ≡ nodes) × ((4096 ≤ u.nodes) ⊎ (length nodes ≤ u.nodes)) × (Known nodes u.nodes node → ⊥)

-- an edge from place `first` on, below n, leads to node k
abbrev pub Linked : List Edge → ℕ → ℕ → ℕ → Type 0
Linked edges first n k = (j : ℕ) × (first ≤ j) × (j < n) × ((edge_at edges j).to ≡ k)

-- an edge to that node was there, or it is new and the next place was free
abbrev pub Linking : List Edge → Used → ℕ → Edge → List Edge → Used → Type 0
Linking edges u first edge edges' v =
    ((v.edges ≡ u.edges) × (edges' ≡ edges) × Linked edges first u.edges edge.to)
    ⊎ ((v.edges ≡ u.edges + 1) × (edges' ≡ slice_set edges u.edges edge) × (u.edges < length edges) × (u.edges < 65536) × (Linked edges first u.edges edge.to → ⊥))

-- the edge is new and has no place
abbrev pub Unlinked : List Edge → Used → ℕ → Edge → List Edge → Type 0
Unlinked edges u first edge edges' = (edges' ≡ edges) × ((65536 ≤ u.edges) ⊎ (length edges ≤ u.edges)) × (Linked edges first u.edges edge.to → ⊥)

-- the node is made of a set that is due
abbrev pub Due : Document → ℕ → Origin → ((ℕ → Bool) → Type 0) → Node → Type 0
Due d x o P n = (N : ℕ → Bool) × P N × Made d x o N n

-- no two of the first n nodes are the same
abbrev pub Apart : List Node → ℕ → Type 0
Apart nodes n = (j k : ℕ) → j < k → k < n → SameNode (node_at nodes j) (node_at nodes k) → ⊥

-- no two edges of the opened node, up to place n, lead to the same node
abbrev pub ApartEdges : Origin → List Edge → ℕ → Type 0
ApartEdges First edges n = Unit {0}
ApartEdges (Opened node closing first) edges n = (j k : ℕ) → first ≤ j → j < k → k < n → (edge_at edges j).to ≢ (edge_at edges k).to

-- an edge of the opened node, below place n, leads to node k
abbrev pub EdgeTo : Origin → List Edge → ℕ → ℕ → Type 0
EdgeTo First edges n k = Unit {0}
EdgeTo (Opened node closing first) edges n k = Linked edges first n k

-- no such edge
abbrev pub NoEdgeTo : Origin → List Edge → ℕ → ℕ → Type 0
NoEdgeTo First edges n k = ⊥
NoEdgeTo (Opened node closing first) edges n k = Linked edges first n k → ⊥

-- the edges from place a up to b lead from the opened node to nodes that are due, below number n; the first unit has none
abbrev pub NewEdges : Document → ℕ → Origin → ((ℕ → Bool) → Type 0) → List Node → List Edge → ℕ → ℕ → ℕ → Type 0
NewEdges d x First P nodes edges a b n = b ≡ a
NewEdges d x (Opened node closing first) P nodes edges a b n =
    (k : ℕ) → a ≤ k → k < b → ((edge_at edges k).from ≡ node) × ((edge_at edges k).to < n) × Due d x (Opened node closing first) P (node_at nodes (edge_at edges k).to)

-- a node that is entered and not opened yet
pub record NewNode (d : Document) (x : ℕ) (o : Origin) (P : (ℕ → Bool) → Type 0) (n : Node) : Type 0 where
  pub due : Due d x o P n
  pub marked : Marked d n
  pub unopened : (n.first_edge ≡ 0) × (n.edge_count ≡ 0)

-- the places in use go on from u to v: what was counted stays, and what is new is due and stands once
pub record Entering (d : Document) (x : ℕ) (o : Origin) (P : (ℕ → Bool) → Type 0) (nodes : List Node) (edges : List Edge) (u : Used) (nodes' : List Node) (edges' : List Edge) (v : Used) : Type 0 where
  pub long_nodes : length nodes' ≡ length nodes
  pub long_edges : length edges' ≡ length edges
  pub more_nodes : u.nodes ≤ v.nodes
  pub more_edges : u.edges ≤ v.edges
  pub kept_nodes : (k : ℕ) → k < u.nodes → node_at nodes' k ≡ node_at nodes k
  pub kept_edges : (k : ℕ) → k < u.edges → edge_at edges' k ≡ edge_at edges k
  pub new_nodes : (k : ℕ) → u.nodes ≤ k → k < v.nodes → NewNode d x o P (node_at nodes' k)
  pub new_edges : NewEdges d x o P nodes' edges' u.edges v.edges v.nodes
  pub apart : Apart nodes u.nodes → Apart nodes' v.nodes
  pub apart_edges : ApartEdges o edges u.edges → ApartEdges o edges' v.edges

-- the node made of the set for an action is there, and an edge to it where a node is opened
pub record There (d : Document) (x : ℕ) (o : Origin) (N : ℕ → Bool) (a : ℕ) (nodes : List Node) (edges : List Edge) (u : Used) : Type 0 where
  pub place : ℕ
  pub in_use : place < u.nodes
  pub made : Made d x o N (node_at nodes place)
  pub acts : (node_at nodes place).action ≡ a
  pub edge : EdgeTo o edges u.edges place

-- all that is asked for has been entered
pub record Entered (d : Document) (x : ℕ) (o : Origin) (P Q : (ℕ → Bool) → Type 0) (nodes : List Node) (edges : List Edge) (u : Used) (nodes' : List Node) (edges' : List Edge) (v : Used) : Type 0 where
  pub goes : Entering d x o P nodes edges u nodes' edges' v
  pub all : (N : ℕ → Bool) → Q N → (a : ℕ) → a < d.acts → Allowed d N a → There d x o N a nodes' edges' v

-- the next node that is due has no place: it is none of those in use, and these are as many as may be
pub record NoNode (d : Document) (x : ℕ) (o : Origin) (P : (ℕ → Bool) → Type 0) (nodes : List Node) (v : Used) : Type 0 where
  pub spent : (4096 ≤ v.nodes) ⊎ (length nodes ≤ v.nodes)
  pub node : Node
  pub due : Due d x o P node
  pub missing : Known nodes v.nodes node → ⊥

-- the edge to a node that is due has no place: there is none, and the edges in use are as many as may be
pub record NoEdge (d : Document) (x : ℕ) (o : Origin) (P : (ℕ → Bool) → Type 0) (nodes : List Node) (edges : List Edge) (v : Used) : Type 0 where
  pub spent : (65536 ≤ v.edges) ⊎ (length edges ≤ v.edges)
  pub place : ℕ
  pub in_use : place < v.nodes
  pub due : Due d x o P (node_at nodes place)
  pub missing : NoEdgeTo o edges v.edges place

-- what is due does not fit the tables: up to `last` it was entered, and then a node or an edge had no place
pub record Over (d : Document) (x : ℕ) (o : Origin) (P : (ℕ → Bool) → Type 0) (nodes : List Node) (edges : List Edge) (u : Used) (nodes' : List Node) (edges' : List Edge) : Type 0 where
  pub last : Used
  pub goes : Entering d x o P nodes edges u nodes' edges' last
  pub full : NoNode d x o P nodes' last ⊎ NoEdge d x o P nodes' edges' last

-- what entering answers: the places in use then, or that there was no room
abbrev pub Enters : Document → ℕ → Origin → ((ℕ → Bool) → Type 0) → ((ℕ → Bool) → Type 0) → List Node → List Edge → Used → List Node → List Edge → Option Used → Type 0
Enters d x o P Q nodes edges u nodes' edges' r = MatchOption r (Over d x o P nodes edges u nodes' edges') (Entered d x o P Q nodes edges u nodes' edges')

-- the set of a node's words
abbrev pub The : List ℕ → (ℕ → Bool) → Type 0
The words N = Same N (member words)

-- the edges of the opened node begin within those in use
abbrev pub Begun : Origin → Used → Type 0
Begun First u = Unit {0}
Begun (Opened node closing first) u = first ≤ u.edges

-- what is declared in memory is the document's, and a unit of this phase and origin is under way
pub record Ready (held : Declared) (d : Document) (x : ℕ) (o : Origin) (u : Used) : Type 0 where
  pub shows : Shows held d
  pub phase : x < 2
  pub begun : Begun o u

-- what it is to enter one node
abbrev pub EntersNode : Document → ℕ → Origin → Node → List Node → List Edge → Used → List Node → List Edge → Option Used → Type 0
EntersNode d x o node nodes edges u nodes' edges' r =
    Begun o u → NewNode d x o (The node.claims.words) node → MatchOption r (Over d x o (The node.claims.words) nodes edges u nodes' edges')
    (λ v. Entering d x o (The node.claims.words) nodes edges u nodes' edges' v × There d x o (member node.claims.words) node.action nodes' edges' v)
