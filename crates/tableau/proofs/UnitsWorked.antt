-- Units of the definitions from units in memory, and growing from units.
use Rattle.std.proofs.Common.{◌≡◌, ℕ, suc, ◌+◌, ◌-◌, ◌<◌, ◌≤◌, min, List, [], length, IfSome, Some, None, Option, sym, refl, ap, ◌∙◌, subst, arith}
use native.Mathlib.Nat.{le-min}
use Rattle.document.specs.Documents.{Document}
use Rattle.document.specs.declared.document.Document.{Document as Kept}
use Rattle.tableau.specs.Growing.{Sound, Later}
use Rattle.tableau.specs.Held.{node_of, edge_of, tables_of}
use Rattle.tableau.specs.Nodes.{node_at, edge_at}
use Rattle.tableau.specs.Stock.{Stocked}
use Rattle.tableau.specs.Tables.{Room}
use Rattle.tableau.specs.Units.{FirstUnit, NextUnit}
use Rattle.tableau.specs.UnitsHeld.{WorkedUnit, UnderWay, WorksUnit}
use Rattle.tableau.specs.Working.{places_of, empty, UnitOf, Units, Units.none, Units.one_more, Fits}
use Rattle.tableau.specs.declared.grow.Grown.{Grown}
use Rattle.tableau.specs.declared.node.Node.{Node}
use Rattle.tableau.specs.declared.node.Edge.{Edge}
use Rattle.tableau.specs.declared.node.Used.{Used}
use Rattle.tableau.proofs.Shown.{shown, length_shown, shown_same}
use Rattle.tableau.proofs.Stocking.{no_node, no_edge, stock_first, unit_first, stock_kept, OpeningOf, unit_opens, stock_next}
use Rattle.tableau.proofs.Unfit.{first_unfit, next_unfit}

-- tables of these counts fit
tables_fit : (d : Document) (nodes nodes' : List Node) (edges edges' : List Edge) (u : Used) → length nodes' ≡ length nodes → length edges' ≡ length edges → Room (length nodes) (length edges) u → Fits (places_of (length nodes) (length edges)) (tables_of d nodes' edges' u)
tables_fit d nodes nodes' edges edges' u ln le r =
    let n = r.node_places in
    let e = r.edge_places in
    let a = length_shown (node_of d) nodes' u.nodes (omega arith) in
    let b = length_shown edge_of edges' u.edges (omega arith) in
    (subst (λ v. v ≤ min (length nodes) 4096) (sym a) (le-min r.node_places r.few_nodes), subst (λ v. v ≤ min (length edges) 65536) (sym b) (le-min r.edge_places r.few_edges))

-- tables that are not in use are empty
unused_empty : (d : Document) (nodes : List Node) (edges : List Edge) (u : Used) → u.nodes ≡ 0 → u.edges ≡ 0 → tables_of d nodes edges u ≡ empty
unused_empty d nodes edges u a b = ap (λ n. record { nodes = shown (node_of d) nodes n; edges = shown edge_of edges u.edges }) a ∙ ap (λ n. record { nodes = []; edges = shown edge_of edges n }) b

-- what lies below the counts stays, so the tables in use are the same
same_tables : (d : Document) (nodes nodes' : List Node) (edges edges' : List Edge) (u : Used) → u.nodes ≤ length nodes → u.edges ≤ length edges → length nodes' ≡ length nodes → length edges' ≡ length edges
    → ((k : ℕ) → k < u.nodes → node_of d (node_at nodes' k) ≡ node_of d (node_at nodes k)) → ((k : ℕ) → k < u.edges → edge_of (edge_at edges' k) ≡ edge_of (edge_at edges k)) → tables_of d nodes' edges' u ≡ tables_of d nodes edges u
same_tables d nodes nodes' edges edges' u rn re ln le kn ke =
    ap (λ ns. record { nodes = ns; edges = shown edge_of edges' u.edges }) (shown_same (node_of d) nodes nodes' u.nodes no_node rn (omega arith) kn)
    ∙ ap (λ es. record { nodes = shown (node_of d) nodes u.nodes; edges = es }) (shown_same edge_of edges edges' u.edges no_edge re (omega arith) ke)

-- the first unit
pub works_first : (doc : Kept) (nodes nodes' : List Node) (edges edges' : List Edge) (g : Grown) (r : Option Grown) → g.units ≡ 0 → Sound (length nodes) (length edges) g → length nodes' ≡ length nodes → length edges' ≡ length edges
    → IfSome r (λ h. Sound (length nodes) (length edges) h × (h.units ≡ 1)) → FirstUnit doc.declared doc.goal nodes edges nodes' edges' r → WorksUnit doc nodes edges g nodes' edges' r
works_first doc nodes nodes' edges edges' g None units sound ln le told entered d way =
    let over = entered d way.shows way.goal in
    let z = sound.unused units in
    let zn = z.0 in
    let ze = z.1 in
    let good = way.shows.good in
    let e = unused_empty d nodes edges g.used zn ze in
    record {
      stock = stock_kept d nodes nodes' edges edges' g sound.firsts sound.worked sound.room.node_places sound.room.edge_places ln le (λ k l. absurd (omega arith)) (λ k l. absurd (omega arith)) way.stock;
      same = unused_empty d nodes' edges' g.used zn ze ∙ sym e;
      unfit = λ w u f. let v = subst (λ n. UnitOf d n (tables_of d nodes edges g.used) w) units u in first_unfit d good nodes nodes' edges edges' over w (refl, v.1, v.2) f;
    }
works_first doc nodes nodes' edges edges' g (Some h) units sound ln le told entered d way =
    let t = entered d way.shows way.goal in
    let z = sound.unused units in
    let good = way.shows.good in
    let rn = told.0.room.node_places in
    let re = told.0.room.edge_places in
    let one = told.1 in
    let unit = unit_first d good nodes nodes' edges edges' h.used (omega arith) (omega arith) t.1 in
    record {
      stock = stock_first d good nodes nodes' edges edges' h one t.0 (omega arith) (omega arith) t.1;
      unit = subst (λ n. UnitOf d n (tables_of d nodes edges g.used) (tables_of d nodes' edges' h.used)) (sym units) (unused_empty d nodes edges g.used z.0 z.1, unit.1, unit.2);
      counted = one ∙ ap suc (sym units);
      fits = tables_fit d nodes nodes' edges edges' h.used ln le told.0.room;
    }

-- a later unit
pub works_next : (doc : Kept) (nodes nodes' : List Node) (edges edges' : List Edge) (g : Grown) (r : Option Grown) → 1 ≤ g.units → g.units ≤ g.used.nodes → Sound (length nodes) (length edges) g → length nodes' ≡ length nodes → length edges' ≡ length edges
    → IfSome r (λ h. Later (length nodes) (length edges) g h) → NextUnit doc.declared (g.units - 1) nodes edges g nodes' edges' r → WorksUnit doc nodes edges g nodes' edges' r
works_next doc nodes nodes' edges edges' g None some due sound ln le told entered d way =
    let k = g.units - 1 in
    let low : k < g.used.nodes = omega arith in
    let order = way.stock.nodes_fine k low in
    let over = entered d way.shows order.phase order.declared in
    let rn = sound.room.node_places in
    let re = sound.room.edge_places in
    let is : g.units ≡ suc k = omega arith in
    record {
      stock = stock_kept d nodes nodes' edges edges' g sound.firsts sound.worked rn re ln le over.goes.kept_nodes over.goes.kept_edges way.stock;
      same = same_tables d nodes nodes' edges edges' g.used rn re ln le (λ j l. ap (node_of d) (over.goes.kept_nodes j l)) (λ j l. ap edge_of (over.goes.kept_edges j l));
      unfit = λ w u f. next_unfit d way.shows.good k nodes nodes' edges edges' g way.stock low rn re sound.room.few_edges over w (subst (λ n. UnitOf d n (tables_of d nodes edges g.used) w) is u) f;
    }
works_next doc nodes nodes' edges edges' g (Some h) some due sound ln le told entered d way =
    let k = g.units - 1 in
    let low : k < g.used.nodes = omega arith in
    let order = way.stock.nodes_fine k low in
    let t = entered d way.shows order.phase order.declared in
    let is : g.units ≡ suc k = omega arith in
    let u = told.unit in
    let op : OpeningOf d k nodes edges g t.1 nodes' edges' h = record {
      stock = way.stock;
      due = low;
      units = is;
      later = omega arith;
      firsts = t.0;
      few = sound.firsts;
      room_nodes = sound.room.node_places;
      room_edges = sound.room.edge_places;
      more_nodes = told.sound.room.node_places;
      more_edges = told.sound.room.edge_places;
      opened = t.2;
      entered = t.3;
    } in
    record {
      stock = stock_next d way.shows.good k nodes t.1 nodes' edges edges' g h op;
      unit = subst (λ n. UnitOf d n (tables_of d nodes edges g.used) (tables_of d nodes' edges' h.used)) (sym is) (unit_opens d way.shows.good k nodes t.1 nodes' edges edges' g h op);
      counted = omega arith;
      fits = tables_fit d nodes nodes' edges edges' h.used ln le told.sound.room;
    }

-- so many units later
pub record Progress (d : Document) (nodes : List Node) (edges : List Edge) (g : Grown) (n : ℕ) (nodes' : List Node) (edges' : List Edge) (h : Grown) : Type 0 where
  pub stock : Stocked d nodes' edges' h
  pub units : Units d g.units n (tables_of d nodes edges g.used) (tables_of d nodes' edges' h.used)
  pub counted : h.units ≡ g.units + n
  pub fits : Fits (places_of (length nodes) (length edges)) (tables_of d nodes' edges' h.used)

pub progress_none : (doc : Kept) (d : Document) (nodes : List Node) (edges : List Edge) (g : Grown) → Sound (length nodes) (length edges) g → UnderWay doc d nodes edges g → Progress d nodes edges g 0 nodes edges g
progress_none doc d nodes edges g sound way = record { stock = way.stock; units = none; counted = omega arith; fits = tables_fit d nodes nodes edges edges g.used refl refl sound.room }

pub progress_more : (d : Document) (nodes mid nodes' : List Node) (edges midst edges' : List Edge) (g m h : Grown) (n : ℕ) → length mid ≡ length nodes → length midst ≡ length edges → Progress d nodes edges g n mid midst m → WorkedUnit d mid midst m nodes' edges' h → Progress d nodes edges g (n + 1) nodes' edges' h
progress_more d nodes mid nodes' edges midst edges' g m h n ln le p w =
    let c = p.counted in
    let k = w.counted in
    let s : n + 1 ≡ suc n = omega arith in
    record {
      stock = w.stock;
      units = subst (λ v. Units d g.units v (tables_of d nodes edges g.used) (tables_of d nodes' edges' h.used)) (sym s) (one_more {k = g.units} {n = n} p.units (subst (λ v. UnitOf d v (tables_of d mid midst m.used) (tables_of d nodes' edges' h.used)) c w.unit));
      counted = omega arith;
      fits = subst (λ v. Fits (places_of v (length edges)) (tables_of d nodes' edges' h.used)) ln (subst (λ v. Fits (places_of (length mid) v) (tables_of d nodes' edges' h.used)) le w.fits);
    }
