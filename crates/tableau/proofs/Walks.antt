-- What a part of the walk enters, put together from its parts.
use Rattle.std.proofs.Common.{◌≡◌, ℕ, ◌+◌, ◌<◌, ◌≤◌, Bool, true, false, ◌⊎◌, List, length, get_or, Option, sym, ◌∙◌, subst, inl, inr}
use Rattle.document.specs.Documents.{Document}
use Rattle.tableau.specs.Calculus.{Calculus, ListsGiven, Fine}
use Rattle.tableau.specs.Claims.{member, has, Same}
use Rattle.tableau.specs.Entered.{Entered, Over, Enters, The}
use Rattle.tableau.specs.Expansions.{ends, Reached, Leads, Stuck}
use Rattle.tableau.specs.Walk.{grown}
use Rattle.tableau.specs.declared.node.Node.{Node}
use Rattle.tableau.specs.declared.node.Edge.{Edge}
use Rattle.tableau.specs.declared.node.Used.{Used}
use Rattle.tableau.specs.declared.unit.Origin.{Origin}
use Rattle.tableau.proofs.Entries.{over_weaken, entered_none, entered_weaken, enters_weaken, enters_after}
use Rattle.tableau.proofs.Theory.{leads_end, leads_stuck, leads_either, reached_turn}

-- a clash: there is nothing to enter
pub walk_stuck : (d : Document) (x : ℕ) (o : Origin) (m : Calculus) (i : ℕ) (t : List ℕ) (nodes : List Node) (edges : List Edge) (u : Used)
    → Stuck m t → Entered d x o (Reached m i t) (Leads m i t) nodes edges u nodes edges u
walk_stuck d x o m i t nodes edges u s = entered_none d x o (Reached m i t) (Leads m i t) nodes edges u (λ N l. leads_stuck m i t N s l)

-- the end of the trail
pub walk_end : (d : Document) (x : ℕ) (o : Origin) (m : Calculus) (i : ℕ) (t words : List ℕ) (nodes nodes' : List Node) (edges edges' : List Edge) (u : Used) (r : Option Used)
    → length t ≤ i → Fine m (has t) → Same (member words) (has t)
    → Enters d x o (The words) (The words) nodes edges u nodes' edges' r → Enters d x o (Reached m i t) (Leads m i t) nodes edges u nodes' edges' r
walk_end d x o m i t words nodes nodes' edges edges' u r h fine same e =
    enters_weaken d x o (The words) (The words) (Reached m i t) (Leads m i t) nodes nodes' edges edges' u r
    (λ N p. (t, ends h, fine, λ c. p c ∙ same c)) (λ N l c. sym (leads_end m i t N h l c) ∙ sym (same c)) e

-- one way only: both alternatives give the same
pub walk_one : (d : Document) (x : ℕ) (o : Origin) (m : Calculus) (i c : ℕ) (t xs : List ℕ) (nodes nodes' : List Node) (edges edges' : List Edge) (u : Used) (r : Option Used)
    → i < length t → get_or t i 0 ≡ c → ((b : Bool) → ListsGiven m c b xs)
    → Enters d x o (Reached m (i + 1) (grown t xs)) (Leads m (i + 1) (grown t xs)) nodes edges u nodes' edges' r → Enters d x o (Reached m i t) (Leads m i t) nodes edges u nodes' edges' r
walk_one d x o m i c t xs nodes nodes' edges edges' u r lt is given e =
    let g : (b : Bool) → ListsGiven m (get_or t i 0) b xs = λ b. subst (λ v. ListsGiven m v b xs) (sym is) (given b) in
    enters_weaken d x o (Reached m (i + 1) (grown t xs)) (Leads m (i + 1) (grown t xs)) (Reached m i t) (Leads m i t) nodes nodes' edges edges' u r
    (λ N p. reached_turn m i t xs true N lt (g true) p) (λ N l. elim (leads_either m i t xs xs N lt (g true) (g false) l) [ inl k ↦ k | inr k ↦ k ]) e

-- the first alternative and then the second
pub walk_both : (d : Document) (x : ℕ) (o : Origin) (m : Calculus) (i c : ℕ) (t xs ys : List ℕ) (nodes nodes' nodes'' : List Node) (edges edges' edges'' : List Edge) (u v : Used) (r : Option Used)
    → i < length t → get_or t i 0 ≡ c → ListsGiven m c true xs → ListsGiven m c false ys
    → Entered d x o (Reached m (i + 1) (grown t xs)) (Leads m (i + 1) (grown t xs)) nodes edges u nodes' edges' v
    → Enters d x o (Reached m (i + 1) (grown t ys)) (Leads m (i + 1) (grown t ys)) nodes' edges' v nodes'' edges'' r → Enters d x o (Reached m i t) (Leads m i t) nodes edges u nodes'' edges'' r
walk_both d x o m i c t xs ys nodes nodes' nodes'' edges edges' edges'' u v r lt is a b f g =
    let first : ListsGiven m (get_or t i 0) true xs = subst (λ v. ListsGiven m v true xs) (sym is) a in
    let second : ListsGiven m (get_or t i 0) false ys = subst (λ v. ListsGiven m v false ys) (sym is) b in
    let f' : Entered d x o (Reached m i t) (Leads m (i + 1) (grown t xs)) nodes edges u nodes' edges' v = entered_weaken (λ N p. reached_turn m i t xs true N lt first p) (λ N l. l) f in
    let g' = enters_weaken d x o (Reached m (i + 1) (grown t ys)) (Leads m (i + 1) (grown t ys)) (Reached m i t) (Leads m (i + 1) (grown t ys)) nodes' nodes'' edges' edges'' v r (λ N p. reached_turn m i t ys false N lt second p) (λ N l. l) g in
    enters_weaken d x o (Reached m i t) (λ N. Leads m (i + 1) (grown t xs) N ⊎ Leads m (i + 1) (grown t ys) N) (Reached m i t) (Leads m i t) nodes nodes'' edges edges'' u r (λ N p. p) (λ N l. leads_either m i t xs ys N lt first second l)
    (enters_after d x o (Reached m i t) (Leads m (i + 1) (grown t xs)) (Leads m (i + 1) (grown t ys)) nodes nodes' nodes'' edges edges' edges'' u v r f' g')

-- the first alternative has no room
pub walk_over : (d : Document) (x : ℕ) (o : Origin) (m : Calculus) (i c : ℕ) (t xs : List ℕ) (nodes nodes' : List Node) (edges edges' : List Edge) (u : Used)
    → i < length t → get_or t i 0 ≡ c → ListsGiven m c true xs
    → Over d x o (Reached m (i + 1) (grown t xs)) nodes edges u nodes' edges' → Over d x o (Reached m i t) nodes edges u nodes' edges'
walk_over d x o m i c t xs nodes nodes' edges edges' u lt is a h = over_weaken (λ N p. reached_turn m i t xs true N lt (subst (λ v. ListsGiven m v true xs) (sym is) a) p) h
