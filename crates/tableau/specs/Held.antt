-- The graph that stands in memory: nodes and tables as the definitions have them.
use Rattle.std.specs.Prelude.{ℕ, Bool, not, ◌&&◌, List, map, length, take, nat_lt}
use Rattle.document.specs.Documents.{Document, form_at}
use Rattle.tableau.specs.Claims.{member}
use Rattle.tableau.specs.Graphs.{Claim, form, until_true, until_false, step_true, step_false, Tables}
use Rattle.tableau.specs.Graphs.{Node as Defined}
use Rattle.tableau.specs.Numbers.{is_until, states, number_of}
use Rattle.tableau.specs.declared.node.Node.{Node}
use Rattle.tableau.specs.declared.node.Edge.{Edge}
use Rattle.tableau.specs.declared.node.Used.{Used}

-- whether form e is an until that has state q
abbrev pub has_state : Document → ℕ → ℕ → Bool
has_state d e q = nat_lt e (length d.forms) && (is_until (form_at d e) && nat_lt q (states d e))

-- whether the claim is one of the document's
abbrev pub is_claim : Document → Claim → Bool
is_claim d (form s e) = nat_lt e (length d.forms) && not (is_until (form_at d e))
is_claim d (until_true e q l) = has_state d e q && nat_lt l 2
is_claim d (until_false e q) = has_state d e q
is_claim d (step_true e q l) = has_state d e q && nat_lt l 2
is_claim d (step_false e q) = has_state d e q

-- the claims of a set of numbers
abbrev pub claims_of : Document → (ℕ → Bool) → Claim → Bool
claims_of d N k = is_claim d k && N (number_of d k)

-- the node that a node in memory is
abbrev pub node_of : Document → Node → Defined
node_of d n = record { action = n.action; claims = claims_of d (member n.claims.words); phase = n.phase; closing = n.closing }

abbrev pub edge_of : Edge → ℕ × ℕ
edge_of e = (e.from, e.to)

-- the tables as far as they are in use
abbrev pub tables_of : Document → List Node → List Edge → Used → Tables
tables_of d nodes edges u = record { nodes = map (node_of d) (take u.nodes nodes); edges = map edge_of (take u.edges edges) }
