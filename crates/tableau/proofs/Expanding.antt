-- What is reached from the first claims, and what is led to, are their expansions.
use Rattle.std.proofs.Common.{◌≡◌, ℕ, ◌-◌, ◌<◌, Bool, true, false, cond, eqb, List, [], ◌∷◌, ◌++◌, set, Some, None, sym, refl, ap, ◌∙◌, subst, arith}
use Rattle.document.specs.Documents.{Document}
use Rattle.document.specs.declared.declared.Declared.{Declared}
use Rattle.tableau.specs.Calculus.{calculus}
use Rattle.tableau.specs.Entered.{Ready}
use Rattle.tableau.specs.Expansions.{Reached, Leads}
use Rattle.tableau.specs.Graphs.{Sign.T, says}
use Rattle.tableau.specs.Nodes.{node_at}
use Rattle.tableau.specs.Numbers.{number_of, Shows}
use Rattle.tableau.specs.Units.{Succeeding, Heading, NextSet, EntersFirst, EntersSuccessors, FirstUnit, NextUnit, next_phase, with_edges}
use Rattle.tableau.specs.declared.grow.Grown.{Grown}
use Rattle.tableau.specs.declared.node.Node.{Node}
use Rattle.tableau.specs.declared.node.Edge.{Edge}
use Rattle.tableau.specs.declared.node.Used.{Used}
use Rattle.tableau.specs.declared.unit.Origin.TheVariants.{First, Opened}
use Rattle.tableau.proofs.Entries.{over_weaken, entered_weaken}
use Rattle.tableau.proofs.Handed.{grown_append}
use Rattle.tableau.proofs.Theory.{reached_expands, expands_leads}

pub succeeding_next : (d : Document) (x : ℕ) (n : Node) (N : ℕ → Bool) → Succeeding d x n N → NextSet d x n N
succeeding_next d x n N (handed, list, (targets, chosen, reached)) =
    (handed, targets, list, chosen, reached_expands (calculus d x) (handed ++ targets) N (subst (λ l. Reached (calculus d x) 0 l N) (grown_append [] handed targets) reached))

pub next_heading : (d : Document) (x : ℕ) (n : Node) (N : ℕ → Bool) → NextSet d x n N → Heading d x n N
next_heading d x n N (handed, targets, list, chosen, e) =
    (handed, list, (targets, chosen, subst (λ l. Leads (calculus d x) 0 l N) (sym (grown_append [] handed targets)) (expands_leads (calculus d x) (handed ++ targets) N e)))

abbrev none : Used
none = record { nodes = 0; edges = 0 }

first_ready : (held kept : Declared) (d : Document) → held ≡ kept → Shows kept d → Ready held d 0 First none
first_ready held kept d is shows = record { shows = subst (λ h. Shows h d) (sym is) shows; phase = omega arith; begun = tt }

-- no place is in use
none_is : {u : Used} → u.nodes ≡ 0 → u.edges ≡ 0 → u ≡ none
none_is {u} n e = ap (λ (v : ℕ). record { nodes = v; edges = u.edges }) n ∙ ap (λ (v : ℕ). record { nodes = 0; edges = v }) e

-- the first unit, with room and without
pub first_entered : (held kept : Declared) (goal aim : ℕ) (nodes nodes' : List Node) (edges edges' : List Edge) (u : Used) {at : Used} → held ≡ kept → goal ≡ aim
    → (at.nodes ≡ 0) × (at.edges ≡ 0) → EntersFirst held 0 First goal nodes edges at nodes' edges' (Some u) → FirstUnit kept aim nodes edges nodes' edges' (Some (record { units = 1; first = u.nodes; used = u }))
first_entered held kept goal aim nodes nodes' edges edges' u is same at h d shows aimed =
    let m = calculus d 0 in
    let goal-is = same ∙ aimed in
    let e = subst (λ v. EntersFirst held 0 First v nodes edges none nodes' edges' (Some u)) goal-is (subst (λ v. EntersFirst held 0 First goal nodes edges v nodes' edges' (Some u)) (none_is at.0 at.1) h) d (first_ready held kept d is shows) shows.good.aimed in
    (refl, entered_weaken (λ N p. reached_expands m (number_of d (says d 0 T d.goal) ∷ []) N p) (λ N p. expands_leads m (number_of d (says d 0 T d.goal) ∷ []) N p) e)

pub first_over : (held kept : Declared) (goal aim : ℕ) (nodes nodes' : List Node) (edges edges' : List Edge) {at : Used} → held ≡ kept → goal ≡ aim
    → (at.nodes ≡ 0) × (at.edges ≡ 0) → EntersFirst held 0 First goal nodes edges at nodes' edges' None → FirstUnit kept aim nodes edges nodes' edges' None
first_over held kept goal aim nodes nodes' edges edges' is same at h d shows aimed =
    let e = subst (λ v. EntersFirst held 0 First v nodes edges none nodes' edges' None) (same ∙ aimed) (subst (λ v. EntersFirst held 0 First goal nodes edges v nodes' edges' None) (none_is at.0 at.1) h) d (first_ready held kept d is shows) shows.good.aimed in
    over_weaken (λ N p. reached_expands (calculus d 0) (number_of d (says d 0 T d.goal) ∷ []) N p) e

next_phase_small : (n : Node) → n.phase < 2 → next_phase n < 2
next_phase_small n lt = go n.closing (eqb n.phase 0)
  where
    go : (b z : Bool) → cond b (cond {A = ℕ} z 1 0) n.phase < 2
    go true true = omega arith
    go true false = omega arith
    go false z = lt

next_ready : (held kept : Declared) (d : Document) (n : Node) (k : ℕ) (u : Used) → held ≡ kept → Shows kept d → n.phase < 2 → Ready held d (next_phase n) (Opened k n.closing u.edges) u
next_ready held kept d n k u is shows lt = record { shows = subst (λ h. Shows h d) (sym is) shows; phase = next_phase_small n lt; begun = omega arith }

-- a later unit, with room and without
pub next_entered : (held kept : Declared) (x k : ℕ) (nodes mid : List Node) (edges edges' : List Edge) (g : Grown) (v : Used) (units : ℕ) → held ≡ kept → x ≡ next_phase (node_at nodes k)
    → EntersSuccessors held x (Opened k (node_at nodes k).closing g.used.edges) (node_at nodes k) nodes edges g.used mid edges' (Some v)
    → NextUnit kept k nodes edges g (set mid k (with_edges (node_at nodes k) g.used.edges (v.edges - g.used.edges))) edges' (Some (record { units = units; first = g.first; used = v }))
next_entered held kept x k nodes mid edges edges' g v units is turned h d shows small lt =
    let n = node_at nodes k in
    let e = subst (λ y. EntersSuccessors held y (Opened k n.closing g.used.edges) n nodes edges g.used mid edges' (Some v)) turned h d (next_ready held kept d n k g.used is shows small) lt in
    (refl, mid, refl, entered_weaken (λ N p. succeeding_next d (next_phase n) n N p) (λ N p. next_heading d (next_phase n) n N p) e)

pub next_over : (held kept : Declared) (x k : ℕ) (nodes mid : List Node) (edges edges' : List Edge) (g : Grown) → held ≡ kept → x ≡ next_phase (node_at nodes k)
    → EntersSuccessors held x (Opened k (node_at nodes k).closing g.used.edges) (node_at nodes k) nodes edges g.used mid edges' None → NextUnit kept k nodes edges g mid edges' None
next_over held kept x k nodes mid edges edges' g is turned h d shows small lt =
    let n = node_at nodes k in
    let e = subst (λ y. EntersSuccessors held y (Opened k n.closing g.used.edges) n nodes edges g.used mid edges' None) turned h d (next_ready held kept d n k g.used is shows small) lt in
    over_weaken (λ N p. succeeding_next d (next_phase n) n N p) e
