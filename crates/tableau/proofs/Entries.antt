-- What a part of a unit enters, put together from its parts.
use Rattle.std.proofs.Common.{◌≡◌, ℕ, ◌+◌, ◌<◌, ◌≤◌, Bool, true, false, ◌⊎◌, ◌↔◌, List, length, Some, None, Option, sym, refl, ap, ◌∙◌, subst, inl, inr, arith, MatchOption}
use Rattle.std.proofs.lemmas.Bool.{cases_lt}
use Rattle.std.proofs.lemmas.List.{get_or-set_same, get_or-set_other, length-set}
use Rattle.program.specs.Masks.{Bit}
use Rattle.document.specs.Documents.{Document}
use Rattle.document.specs.declared.declared.Declared.{Declared}
use Rattle.tableau.specs.Claims.{member, Same}
use Rattle.tableau.specs.Entered.{Known, Placed, Unplaced, Linked, Linking, Unlinked, Due, Apart, ApartEdges, EdgeTo, NewEdges, NewNode, Entering, There, Entered, NoNode, NoEdge, Over, Enters, The, Begun, Ready, EntersNode}
use Rattle.tableau.specs.Graphs.{Claim, Sign.T, Sign.F}
use Rattle.tableau.specs.Nodes.{SameNode, node_at, edge_at}
use Rattle.tableau.specs.Successions.{Claims, Allowed, Promises, Tells, Closes, Made}
use Rattle.tableau.specs.declared.claims.ClaimSet.{ClaimSet}
use Rattle.tableau.specs.declared.node.Node.{Node}
use Rattle.tableau.specs.declared.node.Edge.{Edge}
use Rattle.tableau.specs.declared.node.Used.{Used}
use Rattle.tableau.specs.declared.unit.Origin.{Origin}
use Rattle.tableau.specs.declared.unit.Origin.TheVariants.{First, Opened}

abbrev Sets : Type 1
Sets = (ℕ → Bool) → Type 0

pub same_self : (n m : Node) → n ≡ m → SameNode n m
same_self n m e = record { action = ap (λ v. v.action) e; phase = ap (λ v. v.phase) e; closing = ap (λ v. v.closing) e; claims = λ c. ap (λ v. member v.claims.words c) e }

-- the same node is made of the same set
pub made_like : {d : Document} {x : ℕ} {o : Origin} {N : ℕ → Bool} (n m : Node) → SameNode n m → Made d x o N m → Made d x o N n
made_like {d} {x} {o} {N} n m s h = record {
  declared = subst (λ a. a < d.acts) (sym s.action) h.declared;
  allowed = subst (λ a. Allowed d N a) (sym s.action) h.allowed;
  phase = s.phase ∙ h.phase;
  closing = subst (λ b. Closes d x o N b) (sym s.closing) h.closing;
  claims = λ c. s.claims c ∙ h.claims c;
}

claims_like : (d : Document) (N M : ℕ → Bool) (k : Claim) → Same M N → Claims d M k → Claims d N k
claims_like d N M k s h = (h.0, sym (s _) ∙ h.1)

pub allowed_like : (d : Document) (N M : ℕ → Bool) (a : ℕ) → Same M N → Allowed d N a → Allowed d M a
allowed_like d N M a s h e b f c is = h e b f (claims_like d N M _ s c) is

promises_like : (d : Document) (N M : ℕ → Bool) (l : ℕ) → Same M N → Promises d M l → Promises d N l
promises_like d N M l s h = (h.0, h.1, claims_like d N M _ s h.2)

closes_like : (d : Document) (x : ℕ) (o : Origin) (N M : ℕ → Bool) (b : Bool) → Same M N → Closes d x o N b → Closes d x o M b
closes_like d x First N M b s h = h
closes_like d x (Opened node closing first) N M true s h = (h.0, λ p. h.1 (promises_like d N M x s p))
closes_like d x (Opened node closing first) N M false s h = elim h [ inl e ↦ inl e | inr p ↦ inr (promises_like d M N x (λ c. sym (s c)) p) ]

-- a node is made of any set with the same claims
pub made_set : (d : Document) (x : ℕ) (o : Origin) (N M : ℕ → Bool) (n : Node) → Same M N → Made d x o N n → Made d x o M n
made_set d x o N M n s h = record {
  declared = h.declared;
  allowed = allowed_like d N M n.action s h.allowed;
  phase = h.phase;
  closing = closes_like d x o N M n.closing s h.closing;
  claims = λ c. h.claims c ∙ sym (s c);
}

due_weaken : {d : Document} {x : ℕ} {o : Origin} {P R : Sets} (n : Node) → ((N : ℕ → Bool) → P N → R N) → Due d x o P n → Due d x o R n
due_weaken n w h = (h.0, w h.0 h.1, h.2)

new_edges_weaken : (d : Document) (x : ℕ) (o : Origin) (P R : Sets) (nodes : List Node) (edges : List Edge) (a b n : ℕ) → ((N : ℕ → Bool) → P N → R N) → NewEdges d x o P nodes edges a b n → NewEdges d x o R nodes edges a b n
new_edges_weaken d x First P R nodes edges a b n w h = h
new_edges_weaken d x (Opened node closing first) P R nodes edges a b n w h = λ k l m. let e = h k l m in (e.0, e.1, due_weaken _ w e.2)

pub entering_weaken : {d : Document} {x : ℕ} {o : Origin} {P R : Sets} {nodes nodes' : List Node} {edges edges' : List Edge} {u v : Used}
    → ((N : ℕ → Bool) → P N → R N) → Entering d x o P nodes edges u nodes' edges' v → Entering d x o R nodes edges u nodes' edges' v
entering_weaken {d} {x} {o} {P} {R} {nodes} {nodes'} {edges} {edges'} {u} {v} w h = record {
  long_nodes = h.long_nodes;
  long_edges = h.long_edges;
  more_nodes = h.more_nodes;
  more_edges = h.more_edges;
  kept_nodes = h.kept_nodes;
  kept_edges = h.kept_edges;
  new_nodes = λ k l m. let n = h.new_nodes k l m in record { due = due_weaken _ w n.due; marked = n.marked; unopened = n.unopened };
  new_edges = new_edges_weaken d x o P R nodes' edges' u.edges v.edges v.nodes w h.new_edges;
  apart = h.apart;
  apart_edges = h.apart_edges;
}

no_new_edges : (d : Document) (x : ℕ) (o : Origin) (P : Sets) (nodes : List Node) (edges : List Edge) (a b n : ℕ) → b ≡ a → NewEdges d x o P nodes edges a b n
no_new_edges d x First P nodes edges a b n e = e
no_new_edges d x (Opened node closing first) P nodes edges a b n e = λ k l m. absurd (omega arith)

new_edges_join : (d : Document) (x : ℕ) (o : Origin) (P : Sets) (nodes nodes' : List Node) (edges edges' : List Edge) (a b c n p : ℕ)
    → n ≤ p → ((k : ℕ) → k < n → node_at nodes' k ≡ node_at nodes k) → ((k : ℕ) → k < b → edge_at edges' k ≡ edge_at edges k)
    → NewEdges d x o P nodes edges a b n → NewEdges d x o P nodes' edges' b c p → NewEdges d x o P nodes' edges' a c p
new_edges_join d x First P nodes nodes' edges edges' a b c n p le kn ke f g = g ∙ f
new_edges_join d x (Opened node closing first) P nodes nodes' edges edges' a b c n p le kn ke f g = λ k l m. elim (cases_lt k b) [
  | inl s ↦
      let e = f k l s in
      let to : (edge_at edges' k).to ≡ (edge_at edges k).to = ap (λ v. v.to) (ke k s) in
      let at : node_at nodes' (edge_at edges' k).to ≡ node_at nodes (edge_at edges k).to = ap (node_at nodes') to ∙ kn (edge_at edges k).to e.1 in
      (ap (λ v. v.from) (ke k s) ∙ e.0, omega (arith, e.1), subst (Due d x (Opened node closing first) P) (sym at) e.2)
  | inr s ↦ g k s m
]

-- one part and then another
pub entering_join : {d : Document} {x : ℕ} {o : Origin} {P : Sets} {nodes nodes' nodes'' : List Node} {edges edges' edges'' : List Edge} {u v w : Used}
    → Entering d x o P nodes edges u nodes' edges' v → Entering d x o P nodes' edges' v nodes'' edges'' w → Entering d x o P nodes edges u nodes'' edges'' w
entering_join {d} {x} {o} {P} {nodes} {nodes'} {nodes''} {edges} {edges'} {edges''} {u} {v} {w} f g = record {
  long_nodes = g.long_nodes ∙ f.long_nodes;
  long_edges = g.long_edges ∙ f.long_edges;
  more_nodes = omega (arith, f.more_nodes, g.more_nodes);
  more_edges = omega (arith, f.more_edges, g.more_edges);
  kept_nodes = λ k l. g.kept_nodes k (omega (arith, f.more_nodes)) ∙ f.kept_nodes k l;
  kept_edges = λ k l. g.kept_edges k (omega (arith, f.more_edges)) ∙ f.kept_edges k l;
  new_nodes = λ k l m. elim (cases_lt k v.nodes) [
    | inl s ↦ subst (NewNode d x o P) (sym (g.kept_nodes k s)) (f.new_nodes k l s)
    | inr s ↦ g.new_nodes k s m
  ];
  new_edges = new_edges_join d x o P nodes' nodes'' edges' edges'' u.edges v.edges w.edges v.nodes w.nodes g.more_nodes g.kept_nodes g.kept_edges f.new_edges g.new_edges;
  apart = λ a. g.apart (f.apart a);
  apart_edges = λ a. g.apart_edges (f.apart_edges a);
}

pub entering_none : (d : Document) (x : ℕ) (o : Origin) (P : Sets) (nodes : List Node) (edges : List Edge) (u : Used) → Entering d x o P nodes edges u nodes edges u
entering_none d x o P nodes edges u = record {
  long_nodes = refl;
  long_edges = refl;
  more_nodes = omega arith;
  more_edges = omega arith;
  kept_nodes = λ k l. refl;
  kept_edges = λ k l. refl;
  new_nodes = λ k l m. absurd (omega arith);
  new_edges = no_new_edges d x o P nodes edges u.edges u.edges u.nodes refl;
  apart = λ a. a;
  apart_edges = λ a. a;
}

edge_kept : (o : Origin) (edges edges' : List Edge) (n p k : ℕ) → n ≤ p → ((j : ℕ) → j < n → edge_at edges' j ≡ edge_at edges j) → EdgeTo o edges n k → EdgeTo o edges' p k
edge_kept First edges edges' n p k le kept h = h
edge_kept (Opened node closing first) edges edges' n p k le kept h = (h.0, h.1, omega (arith, h.2), ap (λ v. v.to) (kept h.0 h.2) ∙ h.3)

-- what is there stays
pub there_kept : {d : Document} {x : ℕ} {o : Origin} {P : Sets} {nodes nodes' : List Node} {edges edges' : List Edge} {u v : Used} (N : ℕ → Bool) (a : ℕ)
    → Entering d x o P nodes edges u nodes' edges' v → There d x o N a nodes edges u → There d x o N a nodes' edges' v
there_kept {d} {x} {o} {P} {nodes} {nodes'} {edges} {edges'} {u} {v} N a g t = record {
  place = t.place;
  in_use = omega (arith, t.in_use, g.more_nodes);
  made = subst (Made d x o N) (sym (g.kept_nodes t.place t.in_use)) t.made;
  acts = ap (λ n. n.action) (g.kept_nodes t.place t.in_use) ∙ t.acts;
  edge = edge_kept o edges edges' u.edges v.edges t.place g.more_edges g.kept_edges t.edge;
}

full_weaken : {d : Document} {x : ℕ} {o : Origin} {P R : Sets} {nodes : List Node} {edges : List Edge} {v : Used} → ((N : ℕ → Bool) → P N → R N)
    → NoNode d x o P nodes v ⊎ NoEdge d x o P nodes edges v → NoNode d x o R nodes v ⊎ NoEdge d x o R nodes edges v
full_weaken w h = elim h [
  | inl n ↦ inl (record { spent = n.spent; node = n.node; due = due_weaken _ w n.due; missing = n.missing })
  | inr n ↦ inr (record { spent = n.spent; place = n.place; in_use = n.in_use; due = due_weaken _ w n.due; missing = n.missing })
]

pub over_weaken : {d : Document} {x : ℕ} {o : Origin} {P R : Sets} {nodes nodes' : List Node} {edges edges' : List Edge} {u : Used} → ((N : ℕ → Bool) → P N → R N)
    → Over d x o P nodes edges u nodes' edges' → Over d x o R nodes edges u nodes' edges'
over_weaken w h = record { last = h.last; goes = entering_weaken w h.goes; full = full_weaken w h.full }

pub over_after : {d : Document} {x : ℕ} {o : Origin} {P : Sets} {nodes nodes' nodes'' : List Node} {edges edges' edges'' : List Edge} {u v : Used}
    → Entering d x o P nodes edges u nodes' edges' v → Over d x o P nodes' edges' v nodes'' edges'' → Over d x o P nodes edges u nodes'' edges''
over_after f h = record { last = h.last; goes = entering_join f h.goes; full = h.full }

pub entered_none : (d : Document) (x : ℕ) (o : Origin) (P Q : Sets) (nodes : List Node) (edges : List Edge) (u : Used) → ((N : ℕ → Bool) → Q N → ⊥) → Entered d x o P Q nodes edges u nodes edges u
entered_none d x o P Q nodes edges u none = record { goes = entering_none d x o P nodes edges u; all = λ N q. absurd (none N q) }

pub entered_weaken : {d : Document} {x : ℕ} {o : Origin} {P Q R S : Sets} {nodes nodes' : List Node} {edges edges' : List Edge} {u v : Used} → ((N : ℕ → Bool) → P N → R N) → ((N : ℕ → Bool) → S N → Q N)
    → Entered d x o P Q nodes edges u nodes' edges' v → Entered d x o R S nodes edges u nodes' edges' v
entered_weaken w s h = record { goes = entering_weaken w h.goes; all = λ N q. h.all N (s N q) }

pub entered_join : {d : Document} {x : ℕ} {o : Origin} {P Q S : Sets} {nodes nodes' nodes'' : List Node} {edges edges' edges'' : List Edge} {u v w : Used}
    → Entered d x o P Q nodes edges u nodes' edges' v → Entered d x o P S nodes' edges' v nodes'' edges'' w → Entered d x o P (λ N. Q N ⊎ S N) nodes edges u nodes'' edges'' w
entered_join f g = record {
  goes = entering_join f.goes g.goes;
  all = λ N q a l h. elim q [ inl e ↦ there_kept N a g.goes (f.all N e a l h) | inr e ↦ g.all N e a l h ];
}

-- the same of what a call answers
pub enters_weaken : (d : Document) (x : ℕ) (o : Origin) (P Q R S : Sets) (nodes nodes' : List Node) (edges edges' : List Edge) (u : Used) (r : Option Used) → ((N : ℕ → Bool) → P N → R N) → ((N : ℕ → Bool) → S N → Q N)
    → Enters d x o P Q nodes edges u nodes' edges' r → Enters d x o R S nodes edges u nodes' edges' r
enters_weaken d x o P Q R S nodes nodes' edges edges' u None w s h = over_weaken w h
enters_weaken d x o P Q R S nodes nodes' edges edges' u (Some v) w s h = entered_weaken w s h

pub enters_after : (d : Document) (x : ℕ) (o : Origin) (P Q S : Sets) (nodes nodes' nodes'' : List Node) (edges edges' edges'' : List Edge) (u v : Used) (r : Option Used)
    → Entered d x o P Q nodes edges u nodes' edges' v → Enters d x o P S nodes' edges' v nodes'' edges'' r → Enters d x o P (λ N. Q N ⊎ S N) nodes edges u nodes'' edges'' r
enters_after d x o P Q S nodes nodes' nodes'' edges edges' edges'' u v None f g = over_after f.goes g
enters_after d x o P Q S nodes nodes' nodes'' edges edges' edges'' u v (Some w) f g = entered_join f g

pub begun_after : (o : Origin) (u v : Used) → u.edges ≤ v.edges → Begun o u → Begun o v
begun_after First u v le h = h
begun_after (Opened node closing first) u v le h = omega (arith, h)

pub ready_after : (held : Declared) (d : Document) (x : ℕ) (o : Origin) (u v : Used) → u.edges ≤ v.edges → Ready held d x o u → Ready held d x o v
ready_after held d x o u v le h = record { shows = h.shows; phase = h.phase; begun = begun_after o u v le h.begun }

-- one node
like : (d : Document) (x : ℕ) (o : Origin) (P : Sets) (n m : Node) → SameNode n m → Due d x o P m → Due d x o P n
like d x o P n m s h = (h.0, h.1, made_like n m s h.2)

-- what it is to have placed a node
record Stored (d : Document) (x : ℕ) (o : Origin) (P : Sets) (nodes : List Node) (edges : List Edge) (u : Used) (node : Node) (nodes' : List Node) (k : ℕ) (v : Used) : Type 0 where
  goes : Entering d x o P nodes edges u nodes' edges v
  in_use : k < v.nodes
  same : SameNode (node_at nodes' k) node

stored : (d : Document) (x : ℕ) (o : Origin) (P : Sets) (nodes : List Node) (edges : List Edge) (u : Used) (node : Node) (nodes' : List Node) (k : ℕ) (v : Used)
    → NewNode d x o P node → v.edges ≡ u.edges → Placed nodes u node nodes' k v → Stored d x o P nodes edges u node nodes' k v
stored d x o P nodes edges u node nodes' k v new e (inl (count, is, lt, same)) = record {
  goes = record {
    long_nodes = ap length is;
    long_edges = refl;
    more_nodes = omega arith;
    more_edges = omega arith;
    kept_nodes = λ j l. ap (λ l. node_at l j) is;
    kept_edges = λ j l. refl;
    new_nodes = λ j l m. absurd (omega arith);
    new_edges = no_new_edges d x o P nodes' edges u.edges v.edges v.nodes e;
    apart = λ a. subst (λ l. Apart l v.nodes) (sym is) (subst (Apart nodes) (sym count) a);
    apart_edges = λ a. subst (ApartEdges o edges) (sym e) a;
  };
  in_use = omega arith;
  same = subst (λ l. SameNode (node_at l k) node) (sym is) same;
}
stored d x o P nodes edges u node nodes' k v new e (inr (count, is, at, room, few, none)) =
    let here : node_at nodes' u.nodes ≡ node = ap (λ l. node_at l u.nodes) is ∙ get_or-set_same nodes u.nodes node _ room in
    let kept : (j : ℕ) → j < u.nodes → node_at nodes' j ≡ node_at nodes j = λ j l. ap (λ l. node_at l j) is ∙ get_or-set_other nodes u.nodes j node _ (λ q. omega arith) in
    let last : (j : ℕ) → u.nodes ≤ j → j < v.nodes → node_at nodes' j ≡ node = λ j l m. ap (node_at nodes') (omega arith) ∙ here in
    record {
      goes = record {
        long_nodes = ap length is ∙ length-set nodes u.nodes node;
        long_edges = refl;
        more_nodes = omega arith;
        more_edges = omega arith;
        kept_nodes = kept;
        kept_edges = λ j l. refl;
        new_nodes = λ j l m. subst (NewNode d x o P) (sym (last j l m)) new;
        new_edges = no_new_edges d x o P nodes' edges u.edges v.edges v.nodes e;
        apart = λ a i j l m s. elim (cases_lt j u.nodes) [
          | inl b ↦ a i j l b (subst (λ n. SameNode n (node_at nodes j)) (kept i (omega arith)) (subst (SameNode (node_at nodes' i)) (kept j b) s))
          | inr b ↦ none (i, omega arith, subst (λ n. SameNode n node) (kept i (omega arith)) (subst (SameNode (node_at nodes' i)) (last j b m) s))
        ];
        apart_edges = λ a. subst (ApartEdges o edges) (sym e) a;
      };
      in_use = omega arith;
      same = same_self (node_at nodes' k) node (ap (node_at nodes') at ∙ here);
    }

unstored : (d : Document) (x : ℕ) (o : Origin) (P : Sets) (nodes : List Node) (edges : List Edge) (u : Used) (node : Node) (nodes' : List Node)
    → NewNode d x o P node → Unplaced nodes u node nodes' → Over d x o P nodes edges u nodes' edges
unstored d x o P nodes edges u node nodes' new (is, spent, none) = record {
  last = u;
  goes = subst (λ l. Entering d x o P nodes edges u l edges u) (sym is) (entering_none d x o P nodes edges u);
  full = inl (record {
    spent = elim spent [ inl h ↦ inl h | inr h ↦ inr (subst (λ l. length l ≤ u.nodes) (sym is) h) ];
    node = node;
    due = new.due;
    missing = λ h. none (subst (λ l. Known l u.nodes node) is h);
  });
}

-- an edge to a node that is due
joined : (d : Document) (x : ℕ) (from : ℕ) (closing : Bool) (first : ℕ) (P : Sets) (nodes : List Node) (edges : List Edge) (u : Used) (k : ℕ) (edges' : List Edge) (v : Used)
    → first ≤ u.edges → k < u.nodes → Due d x (Opened from closing first) P (node_at nodes k) → v.nodes ≡ u.nodes → Linking edges u first (record { from = from; to = k }) edges' v
    → Entering d x (Opened from closing first) P nodes edges u nodes edges' v × Linked edges' first v.edges k
joined d x from closing first P nodes edges u k edges' v begun lt due e (inl (count, is, link)) = (
  record {
    long_nodes = refl;
    long_edges = ap length is;
    more_nodes = omega arith;
    more_edges = omega arith;
    kept_nodes = λ j l. refl;
    kept_edges = λ j l. ap (λ l. edge_at l j) is;
    new_nodes = λ j l m. absurd (omega arith);
    new_edges = λ j l m. absurd (omega arith);
    apart = λ a. subst (Apart nodes) (sym e) a;
    apart_edges = λ a. subst (λ l. ApartEdges (Opened from closing first) l v.edges) (sym is) (subst (ApartEdges (Opened from closing first) edges) (sym count) a);
  },
  subst (λ l. Linked l first v.edges k) (sym is) (subst (λ n. Linked edges first n k) (sym count) link),
)
joined d x from closing first P nodes edges u k edges' v begun lt due e (inr (count, is, room, few, none)) =
    let new : Edge = record { from = from; to = k } in
    let here : edge_at edges' u.edges ≡ new = ap (λ l. edge_at l u.edges) is ∙ get_or-set_same edges u.edges new _ room in
    let kept : (j : ℕ) → j < u.edges → edge_at edges' j ≡ edge_at edges j = λ j l. ap (λ l. edge_at l j) is ∙ get_or-set_other edges u.edges j new _ (λ q. omega arith) in
    let last : (j : ℕ) → u.edges ≤ j → j < v.edges → edge_at edges' j ≡ new = λ j l m. ap (edge_at edges') (omega arith) ∙ here in (
      record {
        long_nodes = refl;
        long_edges = ap length is ∙ length-set edges u.edges new;
        more_nodes = omega arith;
        more_edges = omega arith;
        kept_nodes = λ j l. refl;
        kept_edges = kept;
        new_nodes = λ j l m. absurd (omega arith);
        new_edges = λ j l m.
            let at = last j l m in
            (ap (λ v. v.from) at, subst (λ n. n.to < v.nodes) (sym at) (omega arith), subst (λ n. Due d x (Opened from closing first) P (node_at nodes n.to)) (sym at) due);
        apart = λ a. subst (Apart nodes) (sym e) a;
        apart_edges = λ a i j b l m s. elim (cases_lt j u.edges) [
          | inl h ↦ a i j b l h (sym (ap (λ v. v.to) (kept i (omega arith))) ∙ s ∙ ap (λ v. v.to) (kept j h))
          | inr h ↦ none (i, b, omega arith, sym (ap (λ v. v.to) (kept i (omega arith))) ∙ s ∙ ap (λ v. v.to) (last j h m))
        ];
      },
      (u.edges, begun, omega arith, ap (λ n. n.to) here),
    )

unjoined : (d : Document) (x : ℕ) (from : ℕ) (closing : Bool) (first : ℕ) (P : Sets) (nodes : List Node) (edges : List Edge) (u : Used) (k : ℕ) (edges' : List Edge)
    → k < u.nodes → Due d x (Opened from closing first) P (node_at nodes k) → Unlinked edges u first (record { from = from; to = k }) edges' → Over d x (Opened from closing first) P nodes edges u nodes edges'
unjoined d x from closing first P nodes edges u k edges' lt due (is, spent, none) = record {
  last = u;
  goes = subst (λ l. Entering d x (Opened from closing first) P nodes edges u nodes l u) (sym is) (entering_none d x (Opened from closing first) P nodes edges u);
  full = inr (record {
    spent = elim spent [ inl h ↦ inl h | inr h ↦ inr (subst (λ l. length l ≤ u.edges) (sym is) h) ];
    place = k;
    in_use = lt;
    due = due;
    missing = λ h. none (subst (λ l. Linked l first u.edges k) is h);
  });
}

there : (d : Document) (x : ℕ) (o : Origin) (node : Node) (nodes : List Node) (edges : List Edge) (u : Used) (k : ℕ)
    → NewNode d x o (The node.claims.words) node → k < u.nodes → SameNode (node_at nodes k) node → EdgeTo o edges u.edges k → There d x o (member node.claims.words) node.action nodes edges u
there d x o node nodes edges u k new lt same edge =
    let due = new.due in
    record {
      place = k;
      in_use = lt;
      made = made_like (node_at nodes k) node same (made_set d x o due.0 (member node.claims.words) node (λ c. sym (due.1 c)) due.2);
      acts = same.action;
      edge = edge;
    }

-- a node of the first unit
pub first_node : (d : Document) (x : ℕ) (nodes : List Node) (edges : List Edge) (u : Used) (node : Node) (nodes' : List Node) (k : ℕ) (v : Used)
    → v.edges ≡ u.edges → Placed nodes u node nodes' k v → EntersNode d x First node nodes edges u nodes' edges (Some v)
first_node d x nodes edges u node nodes' k v e p begun new =
    let s = stored d x First (The node.claims.words) nodes edges u node nodes' k v new e p in
    (s.goes, there d x First node nodes' edges v k new s.in_use s.same tt)

pub no_place : (d : Document) (x : ℕ) (o : Origin) (nodes : List Node) (edges : List Edge) (u : Used) (node : Node) (nodes' : List Node)
    → Unplaced nodes u node nodes' → EntersNode d x o node nodes edges u nodes' edges None
no_place d x o nodes edges u node nodes' p begun new = unstored d x o (The node.claims.words) nodes edges u node nodes' new p

-- a node, and then the edge to it
pub opened_node : (d : Document) (x : ℕ) (from : ℕ) (closing : Bool) (first : ℕ) (nodes : List Node) (edges : List Edge) (u : Used) (node : Node) (nodes' : List Node) (k : ℕ) (v : Used) (edges' : List Edge) (r : Option Used)
    → v.edges ≡ u.edges → Placed nodes u node nodes' k v
    → MatchOption r (Unlinked edges v first (record { from = from; to = k }) edges') (λ w. (w.nodes ≡ v.nodes) × Linking edges v first (record { from = from; to = k }) edges' w)
    → EntersNode d x (Opened from closing first) node nodes edges u nodes' edges' r
opened_node d x from closing first nodes edges u node nodes' k v edges' None e p h begun new =
    let o : Origin = Opened from closing first in
    let P : Sets = The node.claims.words in
    let s = stored d x o P nodes edges u node nodes' k v new e p in
    over_after s.goes (unjoined d x from closing first P nodes' edges v k edges' s.in_use (like d x o P (node_at nodes' k) node s.same new.due) h)
opened_node d x from closing first nodes edges u node nodes' k v edges' (Some w) e p h begun new =
    let o : Origin = Opened from closing first in
    let P : Sets = The node.claims.words in
    let s = stored d x o P nodes edges u node nodes' k v new e p in
    let j = joined d x from closing first P nodes' edges v k edges' w (begun_after o u v s.goes.more_edges begun) s.in_use (like d x o P (node_at nodes' k) node s.same new.due) h.0 h.1 in
    (entering_join s.goes j.0, there d x o node nodes' edges' w k new (omega (arith, s.in_use, h.0)) s.same j.1)

-- the node of these claims for an action that does not clash with them
pub new_node : (d : Document) (x : ℕ) (o : Origin) (claims : ClaimSet) (a allowed shows hides : ℕ) (closing : Bool) → a < d.acts → d.acts ≤ 16
    → ((a : ℕ) → a < 16 → Bit allowed a ↔ Allowed d (member claims.words) a) → Bit allowed a
    → Closes d x o (member claims.words) closing → Tells d (member claims.words) T shows → Tells d (member claims.words) F hides
    → NewNode d x o (The claims.words) (record { action = a; phase = x; closing = closing; claims = claims; shows = shows; hides = hides; first_edge = 0; edge_count = 0 })
new_node d x o claims a allowed shows hides closing lt few actions bit closes s h = record {
  due = (member claims.words, λ c. refl, record { declared = lt; allowed = (actions a (omega arith)).0 bit; phase = refl; closing = closes; claims = λ c. refl });
  marked = record { shows = s; hides = h };
  unopened = (refl, refl);
}

-- the actions below n have had their turn
pub record Acted (d : Document) (x : ℕ) (o : Origin) (words : List ℕ) (nodes : List Node) (edges : List Edge) (u : Used) (nodes' : List Node) (edges' : List Edge) (v : Used) (n : ℕ) : Type 0 where
  pub goes : Entering d x o (The words) nodes edges u nodes' edges' v
  pub all : (a : ℕ) → a < n → Allowed d (member words) a → There d x o (member words) a nodes' edges' v

pub acted_none : (d : Document) (x : ℕ) (o : Origin) (words : List ℕ) (nodes : List Node) (edges : List Edge) (u : Used) → Acted d x o words nodes edges u nodes edges u 0
acted_none d x o words nodes edges u = record { goes = entering_none d x o (The words) nodes edges u; all = λ a l. absurd (omega arith) }

pub acted_skip : {d : Document} {x : ℕ} {o : Origin} {words : List ℕ} {nodes nodes' : List Node} {edges edges' : List Edge} {u v : Used} {n : ℕ}
    → (Allowed d (member words) n → ⊥) → Acted d x o words nodes edges u nodes' edges' v n → Acted d x o words nodes edges u nodes' edges' v (n + 1)
acted_skip {d} {x} {o} {words} {nodes} {nodes'} {edges} {edges'} {u} {v} {n} not h = record {
  goes = h.goes;
  all = λ a l c. elim (cases_lt a n) [ inl s ↦ h.all a s c | inr s ↦ absurd (not (subst (Allowed d (member words)) (omega arith) c)) ];
}

pub acted_more : {d : Document} {x : ℕ} {o : Origin} {words : List ℕ} {nodes nodes' nodes'' : List Node} {edges edges' edges'' : List Edge} {u v w : Used} {n : ℕ}
    → Acted d x o words nodes edges u nodes' edges' v n → Entering d x o (The words) nodes' edges' v nodes'' edges'' w → There d x o (member words) n nodes'' edges'' w → Acted d x o words nodes edges u nodes'' edges'' w (n + 1)
acted_more {d} {x} {o} {words} {nodes} {nodes'} {nodes''} {edges} {edges'} {edges''} {u} {v} {w} {n} h g t = record {
  goes = entering_join h.goes g;
  all = λ a l c. elim (cases_lt a n) [
    | inl s ↦ there_kept (member words) a g (h.all a s c)
    | inr s ↦ subst (λ b. There d x o (member words) b nodes'' edges'' w) (omega arith) t
  ];
}

-- no action is left
pub acted_all : {d : Document} {x : ℕ} {o : Origin} {words : List ℕ} {nodes nodes' : List Node} {edges edges' : List Edge} {u v : Used} {n : ℕ}
    → d.acts ≤ n → Acted d x o words nodes edges u nodes' edges' v n → Entered d x o (The words) (The words) nodes edges u nodes' edges' v
acted_all {d} {x} {o} {words} {nodes} {nodes'} {edges} {edges'} {u} {v} {n} le h = record {
  goes = h.goes;
  all = λ N q a l c.
      let t = h.all a (omega arith) (allowed_like d N (member words) a (λ y. sym (q y)) c) in
      record { place = t.place; in_use = t.in_use; made = made_set d x o (member words) N (node_at nodes' t.place) q t.made; acts = t.acts; edge = t.edge };
}

pub acted_is : {d : Document} {x : ℕ} {o : Origin} {words : List ℕ} {nodes nodes' : List Node} {edges edges' : List Edge} {u v : Used} {n : ℕ} (ns : List Node) (es : List Edge) (w : Used)
    → ns ≡ nodes' → es ≡ edges' → w ≡ v → Acted d x o words nodes edges u nodes' edges' v n → Acted d x o words nodes edges u ns es w n
acted_is {d} {x} {o} {words} {nodes} {nodes'} {edges} {edges'} {u} {v} {n} ns es w a b e h =
    subst (λ l. Acted d x o words nodes edges u l es w n) (sym a) (subst (λ l. Acted d x o words nodes edges u nodes' l w n) (sym b) (subst (λ l. Acted d x o words nodes edges u nodes' edges' l n) (sym e) h))

pub entered_is : {d : Document} {x : ℕ} {o : Origin} {P Q : Sets} {nodes nodes' : List Node} {edges edges' : List Edge} {u v : Used} (ns : List Node) (es : List Edge) (w : Used)
    → ns ≡ nodes' → es ≡ edges' → w ≡ v → Entered d x o P Q nodes edges u nodes' edges' v → Entered d x o P Q nodes edges u ns es w
entered_is {d} {x} {o} {P} {Q} {nodes} {nodes'} {edges} {edges'} {u} {v} ns es w a b e h =
    subst (λ l. Entered d x o P Q nodes edges u l es w) (sym a) (subst (λ l. Entered d x o P Q nodes edges u nodes' l w) (sym b) (subst (λ l. Entered d x o P Q nodes edges u nodes' edges' l) (sym e) h))
