-- Where a unit finds no place for a node or an edge, it does not fit the tables.
use Rattle.std.proofs.Common.{◌≡◌, ℕ, ◌<◌, ◌≤◌, min, ◌⊎◌, List, [], ◌∷◌, ◌++◌, length, get_or, sym, refl, ap, ◌∙◌, subst, inl, inr, arith}
use native.Mathlib.Nat.{min-le_left, min-le_right}
use Rattle.std.proofs.lemmas.List.{length-append}
use Rattle.std.proofs.lemmas.Bool.{cases_lt, cases_eq}
use Rattle.document.specs.Documents.{Document, WellFormed}
use Rattle.tableau.specs.Entered.{Known, Due, Apart, Over}
use Rattle.tableau.specs.Graphs.{Successor, Tables, Opens}
use Rattle.tableau.specs.Graphs.{Node as Defined}
use Rattle.tableau.specs.Held.{node_of, edge_of, tables_of}
use Rattle.tableau.specs.Nodes.{node_at}
use Rattle.tableau.specs.Stock.{Stocked}
use Rattle.tableau.specs.Units.{FirstSet, NextSet, next_phase}
use Rattle.tableau.specs.Working.{places_of, empty, UnitOf, Fits}
use Rattle.tableau.specs.declared.grow.Grown.{Grown}
use Rattle.tableau.specs.declared.node.Node.{Node}
use Rattle.tableau.specs.declared.node.Edge.{Edge}
use Rattle.tableau.specs.declared.unit.Origin.TheVariants.{First, Opened}
use Rattle.tableau.proofs.Members.{In, has, member, in_left, in_either, apart_append, pigeon}
use Rattle.tableau.proofs.NodesHeld.{first_sound, first_own, successor_sound, next_own}
use Rattle.tableau.proofs.Shown.{shown, shown_from, length_shown, length_shown_from, at_shown, in_shown, shown_place, shown_from_place, apart_shown, apart_shown_from}
use Rattle.tableau.proofs.Stocking.{no_node, no_edge, Own, node_same, new_in_order, phase_turned, phase_small}

-- places up to a number, or as many as there are
capped : (top len limit : ℕ) → (limit ≤ top) ⊎ (len ≤ top) → (t : ℕ) × (t ≤ top) × (t ≤ len) × ((limit ≤ t) ⊎ (len ≤ t))
capped top len limit s = elim (cases_lt top len) [
  | inl less ↦ (top, omega arith, omega arith, s)
  | inr more ↦ (len, omega arith, omega arith, inr (omega arith))
]

-- nodes of the document's claims up to a place, all different
module _ (d : Document) (mid : List Node) (top : ℕ) (own : (j : ℕ) → j < top → Own d (node_at mid j)) (differ : Apart mid top) where
  same_places : (i j : ℕ) → i < top → j < top → node_of d (node_at mid i) ≡ node_of d (node_at mid j) → i ≡ j
  same_places i j li lj e = elim (cases_eq i j) [
    | inl same ↦ same
    | inr other ↦ absurd (elim (cases_lt i j) [
      | inl less ↦ differ i j less lj (node_same d (node_at mid i) (node_at mid j) (own i li) (own j lj) e)
      | inr more ↦ differ j i (omega arith) li (node_same d (node_at mid j) (node_at mid i) (own j lj) (own i li) (sym e))
    ])
  ]

  -- with one more that is none of them they are more than the places
  one_more_node : (extra : Node) → Own d extra → (Known mid top extra → ⊥) → (ns : List Defined) → ((j : ℕ) → j < top → In ns (node_of d (node_at mid j))) → In ns (node_of d extra)
      → (limit : ℕ) → (limit ≤ top) ⊎ (length mid ≤ top) → length ns ≤ min (length mid) limit → ⊥
  one_more_node extra mine missing ns all one limit spent fits =
      let cap = capped top (length mid) limit spent in
      let t = cap.0 in
      let below = cap.1 in
      let room = cap.2 in
      let xs = shown (node_of d) mid t ++ node_of d extra ∷ [] in
      let len = length_shown (node_of d) mid t room in
      let sum = length-append (shown (node_of d) mid t) (node_of d extra ∷ []) in
      let count = pigeon (λ (a b : Defined). a ≡ b) xs ns
      (apart_append (shown (node_of d) mid t) (node_of d extra ∷ []) (apart_shown (node_of d) mid t no_node room (λ i j l h e. let s = same_places i j (omega arith) (omega arith) e in omega arith)) ((λ i. i), tt)
      (λ m i j. elim j [
        | inl e ↦ let p = shown_place (node_of d) mid t no_node m room i in let low = p.1 in missing (p.0, omega arith, node_same d (node_at mid p.0) extra (own p.0 (omega arith)) mine (p.2 ∙ sym e))
        | inr n ↦ n
      ]))
      (λ m i. (
        m,
        elim (in_either (shown (node_of d) mid t) (node_of d extra ∷ []) m i) [
          | inl a ↦ let p = shown_place (node_of d) mid t no_node m room a in let low = p.1 in subst (In ns) p.2 (all p.0 (omega arith))
          | inr b ↦ elim b [ inl e ↦ subst (In ns) e one | inr n ↦ absurd n ]
        ],
        refl,
      ))
      (λ a b c e f. e ∙ sym f) in
      let a = min-le_left (length mid) limit in
      let b = min-le_right (length mid) limit in
      elim cap.3 [ inl s ↦ omega arith | inr s ↦ omega arith ]

-- the first unit does not fit
pub first_unfit : (d : Document) → WellFormed d → (nodes mid : List Node) (edges edges' : List Edge) → Over d 0 First (FirstSet d) nodes edges (record { nodes = 0; edges = 0 }) mid edges'
    → (w : Tables) → UnitOf d 0 empty w → Fits (places_of (length nodes) (length edges)) w → ⊥
first_unfit d good nodes mid edges edges' over w unit fits =
    let goes = over.goes in
    let top = over.last.nodes in
    let own : (j : ℕ) → j < top → Own d (node_at mid j) = λ j l. (new_in_order d 0 First (FirstSet d) (node_at mid j) (omega arith) (first_own d good) (goes.new_nodes j (omega arith) l)).own in
    let there : (m : Node) → Due d 0 First (FirstSet d) m → In w.nodes (node_of d m) = λ m due. member w.nodes (node_of d m) (unit.1.all (node_of d m) (first_sound d good due.0 m due.1 due.2)) in
    let fit : length w.nodes ≤ min (length mid) 4096 = subst (λ v. length w.nodes ≤ min v 4096) (sym goes.long_nodes) fits.0 in
    elim over.full [
      | inl none ↦
          let due = none.due in
          one_more_node d mid top own (goes.apart (λ j k l h. absurd (omega arith))) none.node (λ c h. first_own d good due.0 due.1 c (sym (due.2.claims c) ∙ h)) none.missing w.nodes
          (λ j l. there (node_at mid j) (goes.new_nodes j (omega arith) l).due) (there none.node due) 4096 none.spent fit
      | inr none ↦ none.missing
    ]

-- a unit that opens a node does not fit
pub next_unfit : (d : Document) → WellFormed d → (k : ℕ) (nodes mid : List Node) (edges edges' : List Edge) (g : Grown) → Stocked d nodes edges g → k < g.used.nodes → g.used.nodes ≤ length nodes → g.used.edges ≤ length edges → g.used.edges ≤ 65536
    → Over d (next_phase (node_at nodes k)) (Opened k (node_at nodes k).closing g.used.edges) (NextSet d (next_phase (node_at nodes k)) (node_at nodes k)) nodes edges g.used mid edges'
    → (w : Tables) → Opens d k (tables_of d nodes edges g.used) w → Fits (places_of (length nodes) (length edges)) w → ⊥
next_unfit d good k nodes mid edges edges' g stock due room-n room-e few-e over w opens fits =
    let goes = over.goes in
    let top = over.last.nodes in
    let order = stock.nodes_fine k due in
    let x = next_phase (node_at nodes k) in
    let turn = phase_turned d (node_at nodes k) order.phase in
    let P = NextSet d x (node_at nodes k) in
    let o = Opened k (node_at nodes k).closing g.used.edges in
    let here : opens.opened ≡ node_of d (node_at nodes k) = sym opens.at ∙ at_shown (node_of d) nodes g.used.nodes k no_node opens.opened room-n due in
    let own : (j : ℕ) → j < top → Own d (node_at mid j) = λ j l. elim (cases_lt j g.used.nodes) [
      | inl low ↦ subst (Own d) (sym (goes.kept_nodes j low)) (stock.nodes_fine j low).own
      | inr high ↦ (new_in_order d x o P (node_at mid j) (phase_small (node_at nodes k) order.phase) (λ N p. next_own d good (node_at nodes k) x N turn p) (goes.new_nodes j high l)).own
    ] in
    let succeeds : (m : Node) → Due d x o P m → Successor d opens.opened (node_of d m) = λ m q. subst (λ v. Successor d v (node_of d m)) (sym here) (successor_sound d good (node_at nodes k) m k g.used.edges x q.0 turn q.1 q.2) in
    let there : (m : Node) → Due d x o P m → In w.nodes (node_of d m) = λ m q. member w.nodes (node_of d m) (opens.all_in (node_of d m) (succeeds m q)) in
    let all : (j : ℕ) → j < top → In w.nodes (node_of d (node_at mid j)) = λ j l. elim (cases_lt j g.used.nodes) [
      | inl low ↦ subst (λ ns. In ns (node_of d (node_at mid j))) (sym opens.nodes_after) (in_left (shown (node_of d) nodes g.used.nodes) opens.new (node_of d (node_at mid j))
          (subst (λ m. In (shown (node_of d) nodes g.used.nodes) (node_of d m)) (sym (goes.kept_nodes j low)) (in_shown (node_of d) nodes g.used.nodes j no_node room-n low)))
      | inr high ↦ there (node_at mid j) (goes.new_nodes j high l).due
    ] in
    let differ = goes.apart stock.apart in
    elim over.full [
      | inl none ↦
          let q = none.due in
          one_more_node d mid top own differ none.node (λ c h. next_own d good (node_at nodes k) x q.0 turn q.1 c (sym (q.2.claims c) ∙ h)) none.missing w.nodes all (there none.node q) 4096 none.spent
          (subst (λ v. length w.nodes ≤ min v 4096) (sym goes.long_nodes) fits.0)
      | inr none ↦
          let E = g.used.edges in
          let cap = capped over.last.edges (length edges') 65536 none.spent in
          let le = goes.long_edges in
          let t = cap.0 in
          let below = cap.1 in
          let room = cap.2 in
          let start : E ≤ t = elim cap.3 [ inl s ↦ omega arith | inr s ↦ omega arith ] in
          let aims : List ℕ = shown_from (λ (e : Edge). e.to) edges' E t in
          let due_at : (p : ℕ) → In (aims ++ none.place ∷ []) p → (p < top) × Due d x o P (node_at mid p) = λ p i. elim (in_either aims (none.place ∷ []) p i) [
            | inl a ↦
                let q = shown_from_place (λ (e : Edge). e.to) edges' E t no_edge p start room a in
                let high = q.2 in
                let new = goes.new_edges q.0 q.1 (omega arith) in
                subst (λ v. (v < top) × Due d x o P (node_at mid v)) q.3 (new.1, new.2)
            | inr b ↦ elim b [ inl e ↦ subst (λ v. (v < top) × Due d x o P (node_at mid v)) e (none.in_use, none.due) | inr n ↦ absurd n ]
          ] in
          let count = pigeon (λ (p : ℕ) (e : ℕ × ℕ). (p < top) × (get_or w.nodes e.1 opens.opened ≡ node_of d (node_at mid p))) (aims ++ none.place ∷ []) opens.out
          (apart_append aims (none.place ∷ [])
          (apart_shown_from (λ (e : Edge). e.to) edges' E t no_edge start room (λ i j a l b e. goes.apart_edges (λ u v p q r s. omega arith) i j a l (omega arith) e))
          ((λ i. i), tt)
          (λ p i j. elim j [
            | inl e ↦ let q = shown_from_place (λ (e : Edge). e.to) edges' E t no_edge p start room i in let high = q.2 in none.missing (q.0, q.1, omega arith, q.3 ∙ sym e)
            | inr n ↦ n
          ]))
          (λ p i. let q = due_at p i in
          let found = has w.nodes (node_of d (node_at mid p)) (there (node_at mid p) q.1) in
          let is = found.2 opens.opened in
          ((k, found.0), member opens.out (k, found.0) (opens.leads.all (k, found.0) (refl, found.1, subst (Successor d opens.opened) (sym is) (succeeds (node_at mid p) q.1))), (q.0, is)))
          (λ p q e a b. same_places d mid top own differ p q a.0 b.0 (sym a.1 ∙ b.1)) in
          let len = length_shown_from (λ (e : Edge). e.to) edges' E t start room in
          let sum = length-append aims (none.place ∷ []) in
          let all_edges = ap length opens.edges_after ∙ length-append (shown edge_of edges E) opens.out in
          let old = length_shown edge_of edges E room-e in
          let fit = fits.1 in
          let a = min-le_left (length edges) 65536 in
          let b = min-le_right (length edges) 65536 in
          elim cap.3 [ inl s ↦ omega arith | inr s ↦ omega arith ]
    ]
