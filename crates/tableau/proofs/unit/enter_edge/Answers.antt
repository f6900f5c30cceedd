use Rattle.std.proofs.Common.{◌≡◌, ℕ, ◌+◌, ◌-◌, ◌<◌, ◌≤◌, true, false, List, length, take, drop, refl, ap, ◌∙◌, inr, ⊎_elim, inl, arith, length-drop, length-take}
use Rattle.std.proofs.lemmas.Bool.{both_ways}
use Rattle.std.proofs.lemmas.List.{get_or-drop, get_or-take}
use Rattle.tableau.specs.Entered.{Linked}
use Rattle.tableau.specs.Nodes.{edge_at}
use Rattle.tableau.specs.declared.node.Edge.{Edge}
use Rattle.tableau.proofs.unit.enter_edge.Goals as goal

-- no edge of a part, and so none of these places
unlinked : (edges : List Edge) (first low n to : ℕ) → low ≤ first → n ≤ length edges
    → ((k : ℕ) × (k < length (take (n - low) (drop low edges))) × ((edge_at (take (n - low) (drop low edges)) k).to ≡ to) → false ≡ true) → Linked edges first n to → ⊥
unlinked edges first low n to le fits none (j, from, below, leads) =
    let long : length (take (n - low) (drop low edges)) ≡ n - low = simp (length-take, length-drop) (omega arith) in
    let there : low + (j - low) ≡ j = omega arith in
    both_ways false refl (none (
      j - low,
      omega arith,
      ap (λ (e : Edge). e.to) (get_or-take (n - low) (drop low edges) (j - low) _ (omega arith) ∙ get_or-drop low edges (j - low) _ ∙ ap (edge_at edges) there) ∙ leads,
    ))

pub returns-then-i-ge-MOST_EDGES-clause-linked : goal.returns-then-i-ge-MOST_EDGES-clause-linked
returns-then-i-ge-MOST_EDGES-clause-linked c =
    (refl, ⊎_elim inl (λ h. inr h.1) c.then-i-ge-MOST_EDGES.either, unlinked c.args.edges.now c.args.first c.min-first.result c.args.used.edges c.args.edge.to (omega arith) (omega arith) c.if-has_edge_to.ensures.1)

pub returns-clause-linked : goal.returns-clause-linked
returns-clause-linked c =
    (refl, inr (refl, refl, omega arith, omega arith, unlinked c.args.edges.now c.args.first c.min-first.result c.args.used.edges c.args.edge.to (omega arith) (omega arith) c.if-has_edge_to.ensures.1))
