-- What the calls of a unit enter, for each document that is shown.
use Rattle.std.specs.Prelude.{◌≡◌, ℕ, ◌+◌, ◌-◌, ◌<◌, Bool, true, cond, ◌↔◌, List, [], ◌∷◌, ◌++◌, length, Option, MatchOption, ◌==◌, slice_set}
use Rattle.document.specs.Documents.{Document}
use Rattle.document.specs.declared.declared.Declared.{Declared}
use Rattle.tableau.specs.Calculus.{calculus, Fine}
use Rattle.tableau.specs.Claims.{has}
use Rattle.tableau.specs.Entered.{Ready, Entered, Over, Enters}
use Rattle.tableau.specs.Expansions.{NumberExpansion, Reached, Leads}
use Rattle.tableau.specs.Graphs.{Sign.T, until_true, says}
use Rattle.tableau.specs.Nodes.{node_at}
use Rattle.tableau.specs.Numbers.{number_of, ClaimOf, Shows}
use Rattle.tableau.specs.Successions.{Handed, Chosen}
use Rattle.tableau.specs.Walk.{grown}
use Rattle.tableau.specs.declared.grow.Grown.{Grown}
use Rattle.tableau.specs.declared.node.Node.{Node}
use Rattle.tableau.specs.declared.node.Edge.{Edge}
use Rattle.tableau.specs.declared.node.Used.{Used}
use Rattle.tableau.specs.declared.unit.Origin.{Origin}
use Rattle.tableau.specs.declared.unit.Origin.TheVariants.{First, Opened}

-- where the claims t do not clash: what the walk reaches from a place of another trail on
abbrev pub Expands : Declared → ℕ → Origin → List ℕ → ℕ → List ℕ → List Node → List Edge → Used → List Node → List Edge → Option Used → Type 0
Expands held x o t at start nodes edges u nodes' edges' r =
    (d : Document) → Ready held d x o u → Fine (calculus d x) (has t)
    → Enters d x o (Reached (calculus d x) at start) (Leads (calculus d x) at start) nodes edges u nodes' edges' r

-- what is reached from t when a target is chosen for each claim T step of the node of a number from `from` on
abbrev pub Reaching : Document → ℕ → Node → ℕ → List ℕ → (ℕ → Bool) → Type 0
Reaching d x n from t N = (targets : List ℕ) × Chosen d n from targets × Reached (calculus d x) 0 (grown t targets) N

-- what is led to from there
abbrev pub Leading : Document → ℕ → Node → ℕ → List ℕ → (ℕ → Bool) → Type 0
Leading d x n from t N = (targets : List ℕ) × Chosen d n from targets × Leads (calculus d x) 0 (grown t targets) N

-- where the claims t do not clash: all choices from a number on
abbrev pub Chooses : Declared → ℕ → Origin → Node → ℕ → List ℕ → List Node → List Edge → Used → List Node → List Edge → Option Used → Type 0
Chooses held x o n from t nodes edges u nodes' edges' r =
    (d : Document) → Ready held d x o u → n.action < d.acts → Fine (calculus d x) (has t)
    → Enters d x o (Reaching d x n from t) (Leading d x n from t) nodes edges u nodes' edges' r

-- the same with the claim T until of state r of form e added, for a claim T step of this number
abbrev pub Tries : Declared → ℕ → Origin → Node → ℕ → ℕ → ℕ → ℕ → List ℕ → List Node → List Edge → Used → List Node → List Edge → Option Used → Type 0
Tries held x o n number e r l t nodes edges u nodes' edges' a =
    (d : Document) → Ready held d x o u → n.action < d.acts → ClaimOf d (until_true e r l) → Fine (calculus d x) (has t)
    → Enters d x o (Reaching d x n (number + 1) (grown t (number_of d (until_true e r l) ∷ []))) (Leading d x n (number + 1) (grown t (number_of d (until_true e r l) ∷ []))) nodes edges u nodes' edges' a

-- the expansions of the claim that the goal is true
abbrev pub EntersFirst : Declared → ℕ → Origin → ℕ → List Node → List Edge → Used → List Node → List Edge → Option Used → Type 0
EntersFirst held x o goal nodes edges u nodes' edges' r =
    (d : Document) → Ready held d x o u → goal < length d.forms
    → Enters d x o (Reached (calculus d x) 0 (grown [] (number_of d (says d x T goal) ∷ []))) (Leads (calculus d x) 0 (grown [] (number_of d (says d x T goal) ∷ []))) nodes edges u nodes' edges' r

-- the list has just what the node hands on whatever is chosen
abbrev pub ListsHanded : Document → Node → ℕ → List ℕ → Type 0
ListsHanded d n x handed = (y : ℕ) → (has handed y ≡ true) ↔ Handed d n x y

-- what is reached from, and what is led to from, the claims that the node hands on
abbrev pub Succeeding : Document → ℕ → Node → (ℕ → Bool) → Type 0
Succeeding d x n N = (handed : List ℕ) × ListsHanded d n x handed × Reaching d x n 0 (grown [] handed) N

abbrev pub Heading : Document → ℕ → Node → (ℕ → Bool) → Type 0
Heading d x n N = (handed : List ℕ) × ListsHanded d n x handed × Leading d x n 0 (grown [] handed) N

abbrev pub EntersSuccessors : Declared → ℕ → Origin → Node → List Node → List Edge → Used → List Node → List Edge → Option Used → Type 0
EntersSuccessors held x o n nodes edges u nodes' edges' r =
    (d : Document) → Ready held d x o u → n.action < d.acts → Enters d x o (Succeeding d x n) (Heading d x n) nodes edges u nodes' edges' r

-- the sets of the first nodes: the expansions of the claim that the goal is true
abbrev pub FirstSet : Document → (ℕ → Bool) → Type 0
FirstSet d N = NumberExpansion (calculus d 0) (number_of d (says d 0 T d.goal) ∷ []) N

-- the sets of the successors of a node, in phase x: the expansions of what it hands on with a target for each claim T step
abbrev pub NextSet : Document → ℕ → Node → (ℕ → Bool) → Type 0
NextSet d x n N = (handed : List ℕ) × (targets : List ℕ) × ListsHanded d n x handed × Chosen d n 0 targets × NumberExpansion (calculus d x) (handed ++ targets) N

-- the phase of a node's successors
abbrev pub next_phase : Node → ℕ
next_phase n = cond n.closing (cond (n.phase == 0) 1 0) n.phase

-- the node with its edges: where the first stands, and how many there are
abbrev pub with_edges : Node → ℕ → ℕ → Node
with_edges n first count = record { action = n.action; phase = n.phase; closing = n.closing; claims = n.claims; shows = n.shows; hides = n.hides; first_edge = first; edge_count = count }

-- the first unit, which enters all first nodes into empty tables
abbrev pub FirstUnit : Declared → ℕ → List Node → List Edge → List Node → List Edge → Option Grown → Type 0
FirstUnit held goal nodes edges nodes' edges' r =
    (d : Document) → Shows held d → goal ≡ d.goal
    → MatchOption r (Over d 0 First (FirstSet d) nodes edges (record { nodes = 0; edges = 0 }) nodes' edges')
    (λ g. (g.first ≡ g.used.nodes) × Entered d 0 First (FirstSet d) (FirstSet d) nodes edges (record { nodes = 0; edges = 0 }) nodes' edges' g.used)

-- the unit that opens node k: its successors are entered, and then its own place gets where its edges stand
abbrev pub NextUnit : Declared → ℕ → List Node → List Edge → Grown → List Node → List Edge → Option Grown → Type 0
NextUnit held k nodes edges g nodes' edges' r =
    (d : Document) → Shows held d → (node_at nodes k).phase < 2 → (node_at nodes k).action < d.acts
    → MatchOption r (Over d (next_phase (node_at nodes k)) (Opened k (node_at nodes k).closing g.used.edges) (NextSet d (next_phase (node_at nodes k)) (node_at nodes k)) nodes edges g.used nodes' edges')
    (λ h. (h.first ≡ g.first) × (mid : List Node) × (nodes' ≡ slice_set mid k (with_edges (node_at nodes k) g.used.edges (h.used.edges - g.used.edges)))
    × Entered d (next_phase (node_at nodes k)) (Opened k (node_at nodes k).closing g.used.edges) (NextSet d (next_phase (node_at nodes k)) (node_at nodes k)) (NextSet d (next_phase (node_at nodes k)) (node_at nodes k)) nodes edges g.used mid edges' h.used)
