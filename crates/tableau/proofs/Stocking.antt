-- Units in memory are units of the definitions: what the tables hold after one more unit, and when it does not fit.
use Rattle.std.proofs.Common.{◌≡◌, ℕ, zero, suc, ◌+◌, ◌-◌, ◌<◌, ◌≤◌, Bool, true, false, cond, eqb, List, [], ◌++◌, length, get_or, set, sym, refl, ap, ◌∙◌, subst, inl, inr, arith}
use Rattle.std.specs.List.{ContainsAt as Has}
use Rattle.std.proofs.lemmas.List.{length-set, get_or-set_same, get_or-set_other}
use Rattle.std.proofs.lemmas.Bool.{cases_lt, cases_eq, cond_both}
use Rattle.document.specs.Documents.{Document, WellFormed}
use Rattle.tableau.specs.Claims.{member}
use Rattle.tableau.specs.Entered.{Due, Apart, Linked, NewNode, Entered}
use Rattle.tableau.specs.Graphs.{Claim, FirstNode, turned, Successor, Lists, Opens}
use Rattle.tableau.specs.Graphs.{Node as Defined}
use Rattle.tableau.specs.Held.{node_of, edge_of, tables_of}
use Rattle.tableau.specs.Nodes.{SameNode, node_at, edge_at}
use Rattle.tableau.specs.Numbers.{number_of, ClaimOf}
use Rattle.tableau.specs.Stock.{InOrder, Indexed, Stocked}
use Rattle.tableau.specs.Units.{FirstSet, NextSet, next_phase, with_edges}
use Rattle.tableau.specs.Working.{empty, UnitOf, Units, Units.none, Units.one_more}
use Rattle.tableau.specs.declared.grow.Grown.{Grown}
use Rattle.tableau.specs.declared.node.Node.{Node}
use Rattle.tableau.specs.declared.node.Edge.{Edge}
use Rattle.tableau.specs.declared.node.Used.{Used}
use Rattle.tableau.specs.declared.unit.Origin.{Origin}
use Rattle.tableau.specs.declared.unit.Origin.TheVariants.{First, Opened}
use Rattle.tableau.proofs.Decoding.{claims_told, claims_tell}
use Rattle.tableau.proofs.Members.{In, has, member as in_List, lists}
use Rattle.tableau.proofs.NodesHeld.{same_parts, same_claims, first_sound, first_complete, first_own, successor_sound, successor_complete, next_own}
use Rattle.tableau.proofs.Shown.{shown, shown_from, length_shown, at_shown, in_shown, shown_place, in_shown_from, shown_from_place, shown_more, shown_same, apart_shown, apart_shown_from}

-- the node and the edge that stand past the end
abbrev pub no_node : Node
no_node = record { action = 0; phase = 0; closing = false; claims = record { words = [] }; shows = 0; hides = 0; first_edge = 0; edge_count = 0 }

abbrev pub no_edge : Edge
no_edge = record { from = 0; to = 0 }

-- claims of the document alone
abbrev pub Own : Document → Node → Type 0
Own d n = (c : ℕ) → member n.claims.words c ≡ true → (k : Claim) × ClaimOf d k × (number_of d k ≡ c)

pub same_node : (d : Document) (n m : Node) → SameNode n m → node_of d n ≡ node_of d m
same_node d n m s = same_parts (node_of d n) (node_of d m) s.action (same_claims d (member n.claims.words) (member m.claims.words) s.claims) s.phase s.closing

same_bool : (a b : Bool) → (a ≡ true → b ≡ true) → (b ≡ true → a ≡ true) → a ≡ b
same_bool true b to from = sym (to refl)
same_bool false true to from = from refl
same_bool false false to from = refl

-- nodes of the document's claims that are one by the definitions are one in memory
pub node_same : (d : Document) (n m : Node) → Own d n → Own d m → node_of d n ≡ node_of d m → SameNode n m
node_same d n m on om e = record {
  action = ap (λ (v : Defined). v.action) e;
  phase = ap (λ (v : Defined). v.phase) e;
  closing = ap (λ (v : Defined). v.closing) e;
  claims = λ c. same_bool (member n.claims.words c) (member m.claims.words c) (across n m on e c) (across m n om (sym e) c);
}
  where
    across : (n m : Node) → Own d n → node_of d n ≡ node_of d m → (c : ℕ) → member n.claims.words c ≡ true → member m.claims.words c ≡ true
    across n m on e c h =
        let k = on c h in
        let here = claims_tell d (member n.claims.words) k.0 k.1 (ap (member n.claims.words) k.2 ∙ h) in
        let there = claims_told d (member m.claims.words) k.0 (sym (ap (λ (v : Defined). v.claims k.0) e) ∙ here) in
        ap (member m.claims.words) (sym k.2) ∙ there.1

-- a node that was entered is in order
pub new_in_order : (d : Document) (x : ℕ) (o : Origin) (P : (ℕ → Bool) → Type 0) (n : Node) → x < 2 → ((N : ℕ → Bool) → P N → (c : ℕ) → N c ≡ true → (k : Claim) × ClaimOf d k × (number_of d k ≡ c)) → NewNode d x o P n → InOrder d n
new_in_order d x o P n low own new =
    let made = new.due.2 in
    let p = made.phase in
    record {
      declared = made.declared;
      phase = omega arith;
      own = λ c h. own new.due.0 new.due.1 c (sym (made.claims c) ∙ h);
      marked = new.marked;
    }

-- the turned phase, as the code turns it
pub phase_turned : (d : Document) (n : Node) → n.phase < 2 → next_phase n ≡ turned (node_of d n)
phase_turned d n low = elim n.closing as (λ b. cond b (cond (eqb n.phase 0) 1 0) n.phase ≡ cond b (1 - n.phase) n.phase) [ true ↦ flips n.phase low | false ↦ refl ]
  where
    flips : (p : ℕ) → p < 2 → cond (eqb p 0) 1 0 ≡ 1 - p
    flips zero h = refl
    flips (suc zero) h = refl
    flips (suc (suc p)) h = absurd (omega arith)

pub phase_small : (n : Node) → n.phase < 2 → next_phase n < 2
phase_small n low = elim n.closing as (λ b. cond b (cond (eqb n.phase 0) 1 0) n.phase < 2) [ true ↦ cond_both (eqb n.phase 0) 1 0 (λ v. v < 2) (λ _. omega arith) (λ _. omega arith) | false ↦ low ]

-- every first node has a place
first_place : (d : Document) → WellFormed d → (nodes nodes' : List Node) (edges edges' : List Edge) (v : Used) → Entered d 0 First (FirstSet d) (FirstSet d) nodes edges (record { nodes = 0; edges = 0 }) nodes' edges' v
    → (m : Defined) → FirstNode d m → (k : ℕ) × (k < v.nodes) × (node_of d (node_at nodes' k) ≡ m)
first_place d good nodes nodes' edges edges' v entered m h =
    let c = first_complete d good m h in
    let t = entered.all c.0 c.1 m.action c.2 c.3 in
    (t.place, t.in_use, c.4 (node_at nodes' t.place) t.made t.acts)

-- what the first unit enters
pub unit_first : (d : Document) → WellFormed d → (nodes nodes' : List Node) (edges edges' : List Edge) (v : Used) → v.nodes ≤ length nodes' → v.edges ≤ length edges'
    → Entered d 0 First (FirstSet d) (FirstSet d) nodes edges (record { nodes = 0; edges = 0 }) nodes' edges' v → UnitOf d 0 empty (tables_of d nodes' edges' v)
unit_first d good nodes nodes' edges edges' v room-n room-e entered =
    let goes = entered.goes in
    let none_left = goes.new_edges in
    let apart = goes.apart (λ j k l h. absurd (omega arith)) in
    let fine : (k : ℕ) → k < v.nodes → InOrder d (node_at nodes' k) = λ k h. new_in_order d 0 First (FirstSet d) (node_at nodes' k) (omega arith) (first_own d good) (goes.new_nodes k (omega arith) h) in
    let listed : Lists (shown (node_of d) nodes' v.nodes) (FirstNode d) = lists (shown (node_of d) nodes' v.nodes) (FirstNode d)
    (λ m i. let p = shown_place (node_of d) nodes' v.nodes no_node m room-n i in subst (FirstNode d) p.2 (let due = (goes.new_nodes p.0 (omega arith) p.1).due in first_sound d good due.0 (node_at nodes' p.0) due.1 due.2))
    (λ m h. let p = first_place d good nodes nodes' edges edges' v entered m h in subst (In (shown (node_of d) nodes' v.nodes)) p.2 (in_shown (node_of d) nodes' v.nodes p.0 no_node room-n p.1))
    (apart_shown (node_of d) nodes' v.nodes no_node room-n (λ j k l h e. apart j k l h (node_same d (node_at nodes' j) (node_at nodes' k) (fine j (omega arith)).own (fine k h).own e))) in
    (refl, listed, ap (λ n. shown edge_of edges' n) none_left)

-- after the first unit
pub stock_first : (d : Document) → WellFormed d → (nodes nodes' : List Node) (edges edges' : List Edge) (g : Grown) → g.units ≡ 1 → g.first ≡ g.used.nodes → g.used.nodes ≤ length nodes' → g.used.edges ≤ length edges'
    → Entered d 0 First (FirstSet d) (FirstSet d) nodes edges (record { nodes = 0; edges = 0 }) nodes' edges' g.used → Stocked d nodes' edges' g
stock_first d good nodes nodes' edges edges' g units firsts room-n room-e entered =
    let v = g.used in
    let goes = entered.goes in
    let none_left = goes.new_edges in
    let apart = goes.apart (λ j k l h. absurd (omega arith)) in
    let fine : (k : ℕ) → k < v.nodes → InOrder d (node_at nodes' k) = λ k h. new_in_order d 0 First (FirstSet d) (node_at nodes' k) (omega arith) (first_own d good) (goes.new_nodes k (omega arith) h) in
    let first : (k : ℕ) → k < v.nodes → FirstNode d (node_of d (node_at nodes' k)) = λ k h. let due = (goes.new_nodes k (omega arith) h).due in first_sound d good due.0 (node_at nodes' k) due.1 due.2 in
    let found = first_place d good nodes nodes' edges edges' v entered in
    let unit = unit_first d good nodes nodes' edges edges' v room-n room-e entered in
    record {
      worked = subst (λ u. Units d 0 u empty (tables_of d nodes' edges' v)) (sym units) (one_more {k = 0} {n = 0} {t = empty} {u = empty} none unit);
      nodes_fine = fine;
      apart = apart;
      firsts = λ k h. first k (omega arith);
      all_first = λ _ m h. let p = found m h in let l = p.1 in (p.0, omega arith, p.2);
      others = λ k l h. absurd (omega arith);
      indexed = λ k h. absurd (omega arith);
      from_opened = λ j h. absurd (omega arith);
    }

-- what lies below the counts stays, and so does what the tables hold
pub stock_kept : (d : Document) (nodes nodes' : List Node) (edges edges' : List Edge) (g : Grown) → g.first ≤ g.used.nodes → g.units ≤ g.used.nodes + 1 → g.used.nodes ≤ length nodes → g.used.edges ≤ length edges → length nodes' ≡ length nodes → length edges' ≡ length edges
    → ((k : ℕ) → k < g.used.nodes → node_at nodes' k ≡ node_at nodes k) → ((k : ℕ) → k < g.used.edges → edge_at edges' k ≡ edge_at edges k) → Stocked d nodes edges g → Stocked d nodes' edges' g
stock_kept d nodes nodes' edges edges' g few units room-n room-e long-n long-e kept-n kept-e s =
    let sn : shown (node_of d) nodes' g.used.nodes ≡ shown (node_of d) nodes g.used.nodes = shown_same (node_of d) nodes nodes' g.used.nodes no_node room-n (omega arith) (λ k h. ap (node_of d) (kept-n k h)) in
    let se : shown edge_of edges' g.used.edges ≡ shown edge_of edges g.used.edges = shown_same edge_of edges edges' g.used.edges no_edge room-e (omega arith) (λ k h. ap edge_of (kept-e k h)) in
    let same : tables_of d nodes edges g.used ≡ tables_of d nodes' edges' g.used = ap (λ ns. record { nodes = ns; edges = shown edge_of edges g.used.edges }) (sym sn) ∙ ap (λ es. record { nodes = shown (node_of d) nodes' g.used.nodes; edges = es }) (sym se) in
    record {
      worked = subst (Units d 0 g.units empty) same s.worked;
      nodes_fine = λ k h. subst (InOrder d) (sym (kept-n k h)) (s.nodes_fine k h);
      apart = λ j k l h e. s.apart j k l h (subst (λ n. SameNode n (node_at nodes k)) (kept-n j (omega arith)) (subst (SameNode (node_at nodes' j)) (kept-n k h) e));
      firsts = λ k h. subst (λ n. FirstNode d (node_of d n)) (sym (kept-n k (omega arith))) (s.firsts k h);
      all_first = λ u m f. let p = s.all_first u m f in let l = p.1 in (p.0, l, ap (node_of d) (kept-n p.0 (omega arith)) ∙ p.2);
      others = λ k l h f. s.others k l h (subst (λ n. FirstNode d (node_of d n)) (kept-n k h) f);
      indexed = λ k h. subst (λ n. Indexed k n g.used.nodes edges' g.used.edges) (sym (kept-n k (omega arith))) (reindexed k (node_at nodes k) (s.indexed k h));
      from_opened = λ j h. subst (λ (e : Edge). suc e.from < g.units) (sym (kept-e j h)) (s.from_opened j h);
    }
  where
    reindexed : (k : ℕ) (n : Node) → Indexed k n g.used.nodes edges g.used.edges → Indexed k n g.used.nodes edges' g.used.edges
    reindexed k n i = record {
      within = i.within;
      leads = λ j l h. let w = i.within in let e = kept-e j (omega arith) in let old = i.leads j l h in (ap (λ (e : Edge). e.from) e ∙ old.0, subst (λ (v : Edge). v.to < g.used.nodes) (sym e) old.1);
      all = λ j h f. i.all j h (ap (λ (e : Edge). e.from) (sym (kept-e j h)) ∙ f);
    }

same_with : (n m : Node) (a b : ℕ) → m ≡ n → SameNode (with_edges n a b) m
same_with n m a b e = record {
  action = ap (λ (v : Node). v.action) (sym e);
  phase = ap (λ (v : Node). v.phase) (sym e);
  closing = ap (λ (v : Node). v.closing) (sym e);
  claims = λ c. ap (λ (v : Node). member v.claims.words c) (sym e);
}

same_refl : (n m : Node) → n ≡ m → SameNode n m
same_refl n m e = record {
  action = ap (λ (v : Node). v.action) e;
  phase = ap (λ (v : Node). v.phase) e;
  closing = ap (λ (v : Node). v.closing) e;
  claims = λ c. ap (λ (v : Node). member v.claims.words c) e;
}

same_three : (a b c e : Node) → SameNode a b → SameNode b c → SameNode e c → SameNode a e
same_three a b c e p q r = record {
  action = p.action ∙ q.action ∙ sym r.action;
  phase = p.phase ∙ q.phase ∙ sym r.phase;
  closing = p.closing ∙ q.closing ∙ sym r.closing;
  claims = λ i. p.claims i ∙ q.claims i ∙ sym (r.claims i);
}

with_in_order : (d : Document) (n : Node) (a b : ℕ) → InOrder d n → InOrder d (with_edges n a b)
with_in_order d n a b o = record { declared = o.declared; phase = o.phase; own = o.own; marked = record { shows = o.marked.shows; hides = o.marked.hides } }

-- what is known when a node is opened
pub record OpeningOf (d : Document) (k : ℕ) (nodes : List Node) (edges : List Edge) (g : Grown) (mid nodes' : List Node) (edges' : List Edge) (h : Grown) : Type 0 where
  pub stock : Stocked d nodes edges g
  pub due : k < g.used.nodes
  pub units : g.units ≡ suc k
  pub later : h.units ≡ suc g.units
  pub firsts : h.first ≡ g.first
  pub few : g.first ≤ g.used.nodes
  pub room_nodes : g.used.nodes ≤ length nodes
  pub room_edges : g.used.edges ≤ length edges
  pub more_nodes : h.used.nodes ≤ length nodes
  pub more_edges : h.used.edges ≤ length edges
  pub opened : nodes' ≡ set mid k (with_edges (node_at nodes k) g.used.edges (h.used.edges - g.used.edges))
  pub entered : Entered d (next_phase (node_at nodes k)) (Opened k (node_at nodes k).closing g.used.edges) (NextSet d (next_phase (node_at nodes k)) (node_at nodes k)) (NextSet d (next_phase (node_at nodes k)) (node_at nodes k)) nodes edges g.used mid edges' h.used

module _ (d : Document) (good : WellFormed d) (k : ℕ) (nodes mid nodes' : List Node) (edges edges' : List Edge) (g h : Grown) (op : OpeningOf d k nodes edges g mid nodes' edges' h) where
  order : InOrder d (node_at nodes k)
  order = op.stock.nodes_fine k op.due

  turn : next_phase (node_at nodes k) ≡ turned (node_of d (node_at nodes k))
  turn = phase_turned d (node_at nodes k) order.phase

  -- node j in memory afterwards
  at_opened : node_at nodes' k ≡ with_edges (node_at nodes k) g.used.edges (h.used.edges - g.used.edges)
  at_opened =
      let l = op.entered.goes.long_nodes in
      let a = op.due in
      let b = op.room_nodes in
      ap (λ ns. node_at ns k) op.opened ∙ get_or-set_same mid k (with_edges (node_at nodes k) g.used.edges (h.used.edges - g.used.edges)) no_node (omega arith)

  at_other : (j : ℕ) → (j ≡ k → ⊥) → node_at nodes' j ≡ node_at mid j
  at_other j ne = ap (λ ns. node_at ns j) op.opened ∙ get_or-set_other mid k j (with_edges (node_at nodes k) g.used.edges (h.used.edges - g.used.edges)) no_node ne

  mid_opened : node_at mid k ≡ node_at nodes k
  mid_opened = op.entered.goes.kept_nodes k op.due

  -- the node's place has the same node after its edges are written down
  same_mid : (j : ℕ) → SameNode (node_at nodes' j) (node_at mid j)
  same_mid j = elim (cases_eq j k) [
    | inl e ↦ subst (λ v. SameNode (node_at nodes' v) (node_at mid v)) (sym e) (subst (λ m. SameNode m (node_at mid k)) (sym at_opened) (same_with (node_at nodes k) (node_at mid k) g.used.edges (h.used.edges - g.used.edges) mid_opened))
    | inr e ↦ same_refl (node_at nodes' j) (node_at mid j) (at_other j e)
  ]

  node_mid : (j : ℕ) → node_of d (node_at nodes' j) ≡ node_of d (node_at mid j)
  node_mid j = same_node d (node_at nodes' j) (node_at mid j) (same_mid j)

  node_kept : (j : ℕ) → j < g.used.nodes → node_of d (node_at nodes' j) ≡ node_of d (node_at nodes j)
  node_kept j l = node_mid j ∙ ap (node_of d) (op.entered.goes.kept_nodes j l)

  mid_order : (j : ℕ) → j < h.used.nodes → InOrder d (node_at mid j)
  mid_order j l = elim (cases_lt j g.used.nodes) [
    | inl old ↦ subst (InOrder d) (sym (op.entered.goes.kept_nodes j old)) (op.stock.nodes_fine j old)
    | inr new ↦ new_in_order d (next_phase (node_at nodes k)) (Opened k (node_at nodes k).closing g.used.edges) (NextSet d (next_phase (node_at nodes k)) (node_at nodes k)) (node_at mid j) (phase_small (node_at nodes k) order.phase)
        (λ N p. next_own d good (node_at nodes k) (next_phase (node_at nodes k)) N turn p) (op.entered.goes.new_nodes j new l)
  ]

  fine : (j : ℕ) → j < h.used.nodes → InOrder d (node_at nodes' j)
  fine j l = elim (cases_eq j k) [
    | inl e ↦ subst (λ v. InOrder d (node_at nodes' v)) (sym e) (subst (InOrder d) (sym at_opened) (with_in_order d (node_at nodes k) g.used.edges (h.used.edges - g.used.edges) order))
    | inr e ↦ subst (InOrder d) (sym (at_other j e)) (mid_order j l)
  ]

  -- no two nodes are the same
  differ_mid : Apart mid h.used.nodes
  differ_mid = op.entered.goes.apart op.stock.apart

  differ : Apart nodes' h.used.nodes
  differ i j l b e = differ_mid i j l b (same_three (node_at mid i) (node_at nodes' i) (node_at nodes' j) (node_at mid j) (flip (node_at nodes' i) (node_at mid i) (same_mid i)) e (flip (node_at nodes' j) (node_at mid j) (same_mid j)))
    where
      flip : (a b : Node) → SameNode a b → SameNode b a
      flip a b s = record { action = sym s.action; phase = sym s.phase; closing = sym s.closing; claims = λ c. sym (s.claims c) }

  differ_nodes : (i j : ℕ) → i < h.used.nodes → j < h.used.nodes → node_of d (node_at mid i) ≡ node_of d (node_at mid j) → i ≡ j
  differ_nodes i j li lj e = elim (cases_eq i j) [
    | inl same ↦ same
    | inr other ↦ absurd (elim (cases_lt i j) [
      | inl less ↦ differ_mid i j less lj (node_same d (node_at mid i) (node_at mid j) (mid_order i li).own (mid_order j lj).own e)
      | inr more ↦ differ_mid j i (omega arith) li (node_same d (node_at mid j) (node_at mid i) (mid_order j lj).own (mid_order i li).own (sym e))
    ])
  ]

  -- a node that is due is a successor
  due_successor : (m : Node) → Due d (next_phase (node_at nodes k)) (Opened k (node_at nodes k).closing g.used.edges) (NextSet d (next_phase (node_at nodes k)) (node_at nodes k)) m → Successor d (node_of d (node_at nodes k)) (node_of d m)
  due_successor m due = successor_sound d good (node_at nodes k) m k g.used.edges (next_phase (node_at nodes k)) due.0 turn due.1 due.2

  -- every successor has a place, with an edge to it
  successor_place : (m : Defined) → Successor d (node_of d (node_at nodes k)) m → (j : ℕ) × (j < h.used.nodes) × (node_of d (node_at mid j) ≡ m) × Linked edges' g.used.edges h.used.edges j
  successor_place m s =
      let c = successor_complete d good (node_at nodes k) m k g.used.edges (next_phase (node_at nodes k)) turn s in
      let t = op.entered.all c.0 c.1 m.action c.2 c.3 in
      (t.place, t.in_use, c.4 (node_at mid t.place) t.made t.acts, t.edge)

  room_mid : h.used.nodes ≤ length mid
  room_mid = let l = op.entered.goes.long_nodes in let b = op.more_nodes in omega arith

  room_after : h.used.edges ≤ length edges'
  room_after = let l = op.entered.goes.long_edges in let b = op.more_edges in omega arith

  after_mid : shown (node_of d) nodes' h.used.nodes ≡ shown (node_of d) mid h.used.nodes
  after_mid =
      let l : length nodes' ≡ length mid = ap length op.opened ∙ length-set mid k (with_edges (node_at nodes k) g.used.edges (h.used.edges - g.used.edges)) in
      let b = room_mid in
      shown_same (node_of d) mid nodes' h.used.nodes no_node room_mid (omega arith) (λ j low. node_mid j)

  nodes_after : shown (node_of d) nodes' h.used.nodes ≡ shown (node_of d) nodes g.used.nodes ++ shown_from (node_of d) mid g.used.nodes h.used.nodes
  nodes_after = after_mid ∙ shown_more (node_of d) nodes mid g.used.nodes h.used.nodes no_node op.entered.goes.more_nodes op.room_nodes room_mid (λ j l. ap (node_of d) (op.entered.goes.kept_nodes j l))

  edges_after : shown edge_of edges' h.used.edges ≡ shown edge_of edges g.used.edges ++ shown_from edge_of edges' g.used.edges h.used.edges
  edges_after = shown_more edge_of edges edges' g.used.edges h.used.edges no_edge op.entered.goes.more_edges op.room_edges room_after (λ j l. ap edge_of (op.entered.goes.kept_edges j l))

  -- what stands at a place afterwards
  shown_at : (j : ℕ) (z : Defined) → j < h.used.nodes → get_or (shown (node_of d) nodes' h.used.nodes) j z ≡ node_of d (node_at mid j)
  shown_at j z l = ap (λ ns. get_or ns j z) after_mid ∙ at_shown (node_of d) mid h.used.nodes j no_node z room_mid l

  entered_list : Lists (shown_from (node_of d) mid g.used.nodes h.used.nodes) (λ m. Successor d (node_of d (node_at nodes k)) m × (Has (shown (node_of d) nodes g.used.nodes) m → ⊥))
  entered_list =
      let more = op.entered.goes.more_nodes in
      lists (shown_from (node_of d) mid g.used.nodes h.used.nodes) (λ m. Successor d (node_of d (node_at nodes k)) m × (Has (shown (node_of d) nodes g.used.nodes) m → ⊥))
      (λ m i. let p = shown_from_place (node_of d) mid g.used.nodes h.used.nodes no_node m more room_mid i in (
        subst (Successor d (node_of d (node_at nodes k))) p.3 (due_successor (node_at mid p.0) (op.entered.goes.new_nodes p.0 p.1 p.2).due),
        λ there. let q = shown_place (node_of d) nodes g.used.nodes no_node m op.room_nodes (in_List (shown (node_of d) nodes g.used.nodes) m there) in
            let low = q.1 in
            let high = p.1 in
            let same = differ_nodes q.0 p.0 (omega arith) p.2 (ap (node_of d) (op.entered.goes.kept_nodes q.0 low) ∙ q.2 ∙ sym p.3) in
            omega arith,
      ))
      (λ m s. let p = successor_place m s.0 in
      elim (cases_lt p.0 g.used.nodes) [
        | inl low ↦ absurd (s.1 (has (shown (node_of d) nodes g.used.nodes) m (subst (In (shown (node_of d) nodes g.used.nodes)) (ap (node_of d) (sym (op.entered.goes.kept_nodes p.0 low)) ∙ p.2) (in_shown (node_of d) nodes g.used.nodes p.0 no_node op.room_nodes low))))
        | inr high ↦ subst (In (shown_from (node_of d) mid g.used.nodes h.used.nodes)) p.2 (in_shown_from (node_of d) mid g.used.nodes h.used.nodes p.0 no_node high p.1 room_mid)
      ])
      (apart_shown_from (node_of d) mid g.used.nodes h.used.nodes no_node more room_mid (λ i j a l b e. let same = differ_nodes i j (omega arith) b e in omega arith))

  leads_list : Lists (shown_from edge_of edges' g.used.edges h.used.edges) (λ e. (e.0 ≡ k) × (e.1 < length (shown (node_of d) nodes' h.used.nodes)) × Successor d (node_of d (node_at nodes k)) (get_or (shown (node_of d) nodes' h.used.nodes) e.1 (node_of d (node_at nodes k))))
  leads_list =
      let more = op.entered.goes.more_edges in
      let len : length (shown (node_of d) nodes' h.used.nodes) ≡ h.used.nodes = ap length after_mid ∙ length_shown (node_of d) mid h.used.nodes room_mid in
      lists (shown_from edge_of edges' g.used.edges h.used.edges) (λ e. (e.0 ≡ k) × (e.1 < length (shown (node_of d) nodes' h.used.nodes)) × Successor d (node_of d (node_at nodes k)) (get_or (shown (node_of d) nodes' h.used.nodes) e.1 (node_of d (node_at nodes k))))
      (λ e i. let p = shown_from_place edge_of edges' g.used.edges h.used.edges no_edge e more room_after i in
      let new = op.entered.goes.new_edges p.0 p.1 p.2 in
      let to : (edge_at edges' p.0).to ≡ e.1 = ap (λ (v : ℕ × ℕ). v.1) p.3 in
      let low = new.1 in (
        sym (ap (λ (v : ℕ × ℕ). v.0) p.3) ∙ new.0,
        omega arith,
        subst (λ v. Successor d (node_of d (node_at nodes k)) (get_or (shown (node_of d) nodes' h.used.nodes) v (node_of d (node_at nodes k)))) to
            (subst (Successor d (node_of d (node_at nodes k))) (sym (shown_at (edge_at edges' p.0).to (node_of d (node_at nodes k)) low)) (due_successor (node_at mid (edge_at edges' p.0).to) new.2)),
      ))
      (λ e s. let low : e.1 < h.used.nodes = omega (arith, s.1) in
      let here = shown_at e.1 (node_of d (node_at nodes k)) low in
      let p = successor_place (get_or (shown (node_of d) nodes' h.used.nodes) e.1 (node_of d (node_at nodes k))) s.2 in
      let same : p.0 ≡ e.1 = differ_nodes p.0 e.1 p.1 low (p.2 ∙ here) in
      let link = p.3 in
      let new = op.entered.goes.new_edges link.0 link.1 link.2 in
      let is : edge_of (edge_at edges' link.0) ≡ e = pair (edge_of (edge_at edges' link.0)) e (new.0 ∙ sym s.0) (link.3 ∙ same) in
      subst (In (shown_from edge_of edges' g.used.edges h.used.edges)) is (in_shown_from edge_of edges' g.used.edges h.used.edges link.0 no_edge link.1 link.2 room_after))
      (apart_shown_from edge_of edges' g.used.edges h.used.edges no_edge more room_after
      (λ i j a l b e. op.entered.goes.apart_edges (λ u v p q r s. omega arith) i j a l b (ap (λ (v : ℕ × ℕ). v.1) e)))
    where
      pair : (a b : ℕ × ℕ) → a.0 ≡ b.0 → a.1 ≡ b.1 → a ≡ b
      pair a b p q = ap (λ v. (v, a.1)) p ∙ ap (λ v. (b.0, v)) q

  pub unit_opens : Opens d k (tables_of d nodes edges g.used) (tables_of d nodes' edges' h.used)
  unit_opens =
      let lo = length_shown (node_of d) nodes g.used.nodes op.room_nodes in
      let due = op.due in
      record {
        opened = node_of d (node_at nodes k);
        new = shown_from (node_of d) mid g.used.nodes h.used.nodes;
        out = shown_from edge_of edges' g.used.edges h.used.edges;
        due = omega arith;
        at = at_shown (node_of d) nodes g.used.nodes k no_node (node_of d (node_at nodes k)) op.room_nodes op.due;
        nodes_after = nodes_after;
        edges_after = edges_after;
        entered = entered_list;
        all_in = λ m s. let p = successor_place m s in has (shown (node_of d) nodes' h.used.nodes) m (subst (In (shown (node_of d) nodes' h.used.nodes)) p.2 (subst (λ ns. In ns (node_of d (node_at mid p.0))) (sym after_mid) (in_shown (node_of d) mid h.used.nodes p.0 no_node room_mid p.1)));
        leads = leads_list;
      }

  -- after one more unit
  pub stock_next : Stocked d nodes' edges' h
  stock_next =
      let s = op.stock in
      let u = op.units in
      let lt = op.later in
      let ff = op.firsts in
      let mn = op.entered.goes.more_nodes in
      let me = op.entered.goes.more_edges in
      let few = op.few in
      let due = op.due in
      record {
        worked = subst (λ v. Units d 0 v empty (tables_of d nodes' edges' h.used)) (sym op.later)
            (one_more {k = 0} {n = g.units} {t = empty} {u = tables_of d nodes edges g.used} s.worked (subst (λ v. UnitOf d v (tables_of d nodes edges g.used) (tables_of d nodes' edges' h.used)) (let z : suc k ≡ 0 + g.units = omega arith in z) unit_opens));
        nodes_fine = fine;
        apart = differ;
        firsts = λ j l. subst (FirstNode d) (sym (node_kept j (omega arith))) (s.firsts j (omega arith));
        all_first = λ _ m f. let p = s.all_first (omega arith) m f in let l = p.1 in (p.0, omega arith, node_kept p.0 (omega arith) ∙ p.2);
        others = λ j l b f. elim (cases_lt j g.used.nodes) [
          | inl low ↦ s.others j (omega arith) low (subst (FirstNode d) (node_kept j low) f)
          | inr high ↦ let p = s.all_first (omega arith) (node_of d (node_at nodes' j)) f in
              let l = p.1 in
              let same = differ_nodes p.0 j (omega arith) b (ap (node_of d) (op.entered.goes.kept_nodes p.0 (omega arith)) ∙ p.2 ∙ node_mid j) in
              omega arith
        ];
        indexed = λ j l. elim (cases_eq j k) [
          | inl e ↦ subst (λ v. Indexed v (node_at nodes' v) h.used.nodes edges' h.used.edges) (sym e) (subst (λ m. Indexed k m h.used.nodes edges' h.used.edges) (sym at_opened) own_index)
          | inr e ↦ let old = s.indexed j (omega arith) in subst (λ m. Indexed j m h.used.nodes edges' h.used.edges) (sym (at_other j e ∙ op.entered.goes.kept_nodes j (omega arith))) (old_index j (node_at nodes j) e old)
        ];
        from_opened = λ i l. elim (cases_lt i g.used.edges) [
          | inl low ↦ let o = s.from_opened i low in subst (λ (e : Edge). suc e.from < h.units) (sym (op.entered.goes.kept_edges i low)) (omega arith)
          | inr high ↦ let new = (op.entered.goes.new_edges i high l).0 in omega arith
        ];
      }
    where
      own_index : Indexed k (with_edges (node_at nodes k) g.used.edges (h.used.edges - g.used.edges)) h.used.nodes edges' h.used.edges
      own_index =
          let me = op.entered.goes.more_edges in
          let u = op.units in
          record {
            within = omega arith;
            leads = λ j l b. let new = op.entered.goes.new_edges j l (omega arith) in (new.0, new.1);
            all = λ j b f. elim (cases_lt j g.used.edges) [
              | inl low ↦ absurd (let o = op.stock.from_opened j low in let same : (edge_at edges' j).from ≡ (edge_at edges j).from = ap (λ (e : Edge). e.from) (op.entered.goes.kept_edges j low) in omega arith)
              | inr high ↦ (high, omega arith)
            ];
          }

      old_index : (j : ℕ) (m : Node) → (j ≡ k → ⊥) → Indexed j m g.used.nodes edges g.used.edges → Indexed j m h.used.nodes edges' h.used.edges
      old_index j m ne i =
          let me = op.entered.goes.more_edges in
          let mn = op.entered.goes.more_nodes in
          let w = i.within in
          record {
            within = omega arith;
            leads = λ v l b. let e = op.entered.goes.kept_edges v (omega arith) in let o = i.leads v l b in let low = o.1 in (ap (λ (e : Edge). e.from) e ∙ o.0, subst (λ (e : Edge). e.to < h.used.nodes) (sym e) (omega arith));
            all = λ v b f. elim (cases_lt v g.used.edges) [
              | inl low ↦ i.all v low (ap (λ (e : Edge). e.from) (sym (op.entered.goes.kept_edges v low)) ∙ f)
              | inr high ↦ absurd (ne (sym f ∙ (op.entered.goes.new_edges v high b).0))
            ];
          }
