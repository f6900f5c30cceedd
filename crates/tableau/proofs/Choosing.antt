-- Choosing targets for the claims T step of a node.
use Rattle.std.proofs.Common.{◌≡◌, ℕ, ◌+◌, ◌<◌, ◌≤◌, Bool, true, List, [], ◌∷◌, Option, sym, ap, ◌∙◌, subst, inl, inr, arith}
use Rattle.std.proofs.lemmas.Bool.{cases_lt, cases_order}
use Rattle.program.specs.Automata.{Leads as Goes}
use Rattle.document.specs.Documents.{Document, WellFormed, form_at}
use Rattle.tableau.specs.Calculus.{Calculus, calculus}
use Rattle.tableau.specs.Claims.{member, has}
use Rattle.tableau.specs.Entered.{Entered, Over, Enters}
use Rattle.tableau.specs.Expansions.{Reached, Leads, Stuck}
use Rattle.tableau.specs.Graphs.{step_true, until_true, program_of}
use Rattle.tableau.specs.Numbers.{number_of}
use Rattle.tableau.specs.Successions.{Claims, NoStep, Handed, Chosen, Chosen.none, Chosen.one}
use Rattle.tableau.specs.Units.{Reaching, Leading, ListsHanded, Heading}
use Rattle.tableau.specs.Walk.{grown}
use Rattle.tableau.specs.declared.node.Node.{Node}
use Rattle.tableau.specs.declared.node.Edge.{Edge}
use Rattle.tableau.specs.declared.node.Used.{Used}
use Rattle.tableau.specs.declared.unit.Origin.{Origin}
use Rattle.tableau.proofs.Entries.{over_weaken, over_after, entered_none, entered_weaken, entered_join, enters_weaken}
use Rattle.tableau.proofs.Handed.{grown_append}
use Rattle.tableau.proofs.Lists.{grown_old, grown_new, grown_cases}
use Rattle.tableau.proofs.Numbering.{step_below, step_one}
use Rattle.tableau.proofs.Targets.{target_state, few_states}
use Rattle.tableau.proofs.Theory.{leads_like, leads_stuck}

-- claims that clash do so among more
pub stuck_within : (m : Calculus) (s t : List ℕ) → ((c : ℕ) → has s c ≡ true → has t c ≡ true) → Stuck m s → Stuck m t
stuck_within m s t sub h N fine all = h N fine (λ c e. all c (sub c e))

pub leading_stuck : (d : Document) (x : ℕ) (n : Node) (from : ℕ) (t : List ℕ) (N : ℕ → Bool) → Stuck (calculus d x) t → Leading d x n from t N → ⊥
leading_stuck d x n from t N s h = leads_stuck (calculus d x) 0 (grown t h.0) N (stuck_within (calculus d x) t (grown t h.0) (λ c e. grown_old t h.0 c e) s) h.2

-- no claim T step is left
pub reaching_none : (d : Document) (x : ℕ) (n : Node) (from : ℕ) (t : List ℕ) (N : ℕ → Bool) → NoStep d n from 256 → Reached (calculus d x) 0 t N → Reaching d x n from t N
reaching_none d x n from t N h r = ([], none h, r)

pub leading_none : (d : Document) (x : ℕ) (n : Node) (from : ℕ) (t : List ℕ) (N : ℕ → Bool) → WellFormed d → NoStep d n from 256 → Leading d x n from t N → Leads (calculus d x) 0 t N
leading_none d x n from t N good h (targets, none k, l) = l
leading_none d x n from t N good h (targets, one {e} {q} {l = b} r c ge k goes rest, l) = absurd (h e q b c ge (step_below d e q b good c.0.0 c.0.1))

-- the claim T step of state q of form e is the first of the node from a number on
pub record NextStep (d : Document) (n : Node) (from e q l number : ℕ) : Type 0 where
  pub claimed : Claims d (member n.claims.words) (step_true e q l)
  pub is : number_of d (step_true e q l) ≡ number
  pub low : from ≤ number
  pub first : NoStep d n from number

-- what a target of it leads to
abbrev pub Branch : Document → ℕ → Node → ℕ → ℕ → ℕ → ℕ → List ℕ → ℕ → (ℕ → Bool) → Type 0
Branch d x n e q l number t r N = Goes (program_of d (form_at d e)) q n.action r × Leading d x n (number + 1) (grown t (number_of d (until_true e r l) ∷ [])) N

pub reaching_one : (d : Document) (x : ℕ) (n : Node) (from e q l number : ℕ) (t : List ℕ) (r : ℕ) (N : ℕ → Bool) → NextStep d n from e q l number → Goes (program_of d (form_at d e)) q n.action r
    → Reaching d x n (number + 1) (grown t (number_of d (until_true e r l) ∷ [])) N → Reaching d x n from t N
reaching_one d x n from e q l number t r N s goes (rest, chosen, reached) = (
  number_of d (until_true e r l) ∷ rest,
  one r s.claimed (subst (λ v. from ≤ v) (sym s.is) s.low) (subst (NoStep d n from) (sym s.is) s.first) goes (subst (λ v. Chosen d n (v + 1) rest) (sym s.is) chosen),
  subst (λ v. Reached (calculus d x) 0 v N) (grown_append t (number_of d (until_true e r l) ∷ []) rest) reached,
)

pub leading_one : (d : Document) (x : ℕ) (n : Node) (from e q l number : ℕ) (t : List ℕ) (N : ℕ → Bool) → WellFormed d → NextStep d n from e q l number → Leading d x n from t N
    → (r : ℕ) × Branch d x n e q l number t r N
leading_one d x n from e q l number t N good s (targets, none k, leads) =
    absurd (k e q l s.claimed (subst (λ v. from ≤ v) (sym s.is) s.low) (step_below d e q l good s.claimed.0.0 s.claimed.0.1))
leading_one d x n from e q l number t N good s (targets, one {e = e'} {q = q'} {l = l'} {rest} r c ge k goes chosen, leads) =
    let same : number_of d (step_true e' q' l') ≡ number = elim (cases_order (number_of d (step_true e' q' l')) number) [
      | inl z ↦ z
      | inr (inl z) ↦ absurd (s.first e' q' l' c ge z)
      | inr (inr z) ↦ absurd (k e q l s.claimed (subst (λ v. from ≤ v) (sym s.is) s.low) (subst (λ v. v < number_of d (step_true e' q' l')) (sym s.is) z))
    ] in
    let eq = step_one d e' q' l' e q l c.0 s.claimed.0 (same ∙ sym s.is) in
    let until : number_of d (until_true e' r l') ≡ number_of d (until_true e r l) = ap (λ v. number_of d (until_true v r l')) eq.0 ∙ ap (λ v. number_of d (until_true e r v)) eq.2 in
    let goes' = subst (λ v. Goes (program_of d (form_at d e)) v n.action r) eq.1 (subst (λ v. Goes (program_of d (form_at d v)) q' n.action r) eq.0 goes) in
    let leads' = subst (λ v. Leads (calculus d x) 0 (grown t (v ∷ rest)) N) until leads in
    (r, (goes', (rest, subst (λ v. Chosen d n (v + 1) rest) same chosen, subst (λ v. Leads (calculus d x) 0 v N) (sym (grown_append t (number_of d (until_true e r l) ∷ []) rest)) leads')))

-- the targets below i have had their turn
abbrev Sets : Type 1
Sets = (ℕ → Bool) → Type 0

abbrev pub Family : (ℕ → Sets) → ℕ → (ℕ → Bool) → Type 0
Family F i N = (r : ℕ) × (r < i) × F r N

pub family_none : (d : Document) (x : ℕ) (o : Origin) (P : Sets) (F : ℕ → Sets) (nodes : List Node) (edges : List Edge) (u : Used) → Entered d x o P (Family F 0) nodes edges u nodes edges u
family_none d x o P F nodes edges u = entered_none d x o P (Family F 0) nodes edges u (λ N h. omega (arith, h.1))

pub family_more : {d : Document} {x : ℕ} {o : Origin} {P : Sets} {nodes nodes' nodes'' : List Node} {edges edges' edges'' : List Edge} {u v w : Used} (F : ℕ → Sets) (i : ℕ)
    → Entered d x o P (Family F i) nodes edges u nodes' edges' v → Entered d x o P (F i) nodes' edges' v nodes'' edges'' w → Entered d x o P (Family F (i + 1)) nodes edges u nodes'' edges'' w
family_more F i f g = entered_weaken (λ N p. p) (λ N h. elim (cases_lt h.0 i) [ inl l ↦ inl (h.0, l, h.2) | inr l ↦ inr (subst (λ r. F r N) (let lt = h.1 in omega arith) h.2) ]) (entered_join f g)

pub family_skip : {d : Document} {x : ℕ} {o : Origin} {P : Sets} {nodes nodes' : List Node} {edges edges' : List Edge} {u v : Used} (F : ℕ → Sets) (i : ℕ)
    → ((N : ℕ → Bool) → F i N → ⊥) → Entered d x o P (Family F i) nodes edges u nodes' edges' v → Entered d x o P (Family F (i + 1)) nodes edges u nodes' edges' v
family_skip F i not f = entered_weaken (λ N p. p) (λ N h. elim (cases_lt h.0 i) [ inl l ↦ (h.0, l, h.2) | inr l ↦ absurd (not N (subst (λ r. F r N) (let lt = h.1 in omega arith) h.2)) ]) f

-- the node has no claim T step from the number on
pub choose_end : (d : Document) (x : ℕ) (o : Origin) (n : Node) (from : ℕ) (t : List ℕ) (nodes nodes' : List Node) (edges edges' : List Edge) (u : Used) (r : Option Used) → WellFormed d → NoStep d n from 256
    → Enters d x o (Reached (calculus d x) 0 t) (Leads (calculus d x) 0 t) nodes edges u nodes' edges' r → Enters d x o (Reaching d x n from t) (Leading d x n from t) nodes edges u nodes' edges' r
choose_end d x o n from t nodes nodes' edges edges' u r good h e =
    enters_weaken d x o (Reached (calculus d x) 0 t) (Leads (calculus d x) 0 t) (Reaching d x n from t) (Leading d x n from t) nodes nodes' edges edges' u r
    (λ N p. reaching_none d x n from t N h p) (λ N l. leading_none d x n from t N good h l) e

-- one target more
pub choose_turn : {d : Document} {x : ℕ} {o : Origin} {nodes nodes' nodes'' : List Node} {edges edges' edges'' : List Edge} {u v w : Used} (n : Node) (from e q l number : ℕ) (t : List ℕ) (r : ℕ)
    → NextStep d n from e q l number → Goes (program_of d (form_at d e)) q n.action r
    → Entered d x o (Reaching d x n from t) (Family (Branch d x n e q l number t) r) nodes edges u nodes' edges' v
    → Entered d x o (Reaching d x n (number + 1) (grown t (number_of d (until_true e r l) ∷ []))) (Leading d x n (number + 1) (grown t (number_of d (until_true e r l) ∷ []))) nodes' edges' v nodes'' edges'' w
    → Entered d x o (Reaching d x n from t) (Family (Branch d x n e q l number t) (r + 1)) nodes edges u nodes'' edges'' w
choose_turn {d} {x} {o} n from e q l number t r s goes f g = family_more (Branch d x n e q l number t) r f (entered_weaken (λ N p. reaching_one d x n from e q l number t r N s goes p) (λ N h. h.1) g)

pub choose_over : {d : Document} {x : ℕ} {o : Origin} {nodes nodes' nodes'' : List Node} {edges edges' edges'' : List Edge} {u v : Used} {Q : Sets} (n : Node) (from e q l number : ℕ) (t : List ℕ) (r : ℕ)
    → NextStep d n from e q l number → Goes (program_of d (form_at d e)) q n.action r
    → Entered d x o (Reaching d x n from t) Q nodes edges u nodes' edges' v
    → Over d x o (Reaching d x n (number + 1) (grown t (number_of d (until_true e r l) ∷ []))) nodes' edges' v nodes'' edges''
    → Over d x o (Reaching d x n from t) nodes edges u nodes'' edges''
choose_over {d} {x} {o} n from e q l number t r s goes f g = over_after f.goes (over_weaken (λ N p. reaching_one d x n from e q l number t r N s goes p) g)

-- no target is left
pub choose_all : {d : Document} {x : ℕ} {o : Origin} {nodes nodes' : List Node} {edges edges' : List Edge} {u v : Used} (n : Node) (from e q l number : ℕ) (t : List ℕ) (i : ℕ)
    → WellFormed d → NextStep d n from e q l number → 16 ≤ i
    → Entered d x o (Reaching d x n from t) (Family (Branch d x n e q l number t) i) nodes edges u nodes' edges' v
    → Entered d x o (Reaching d x n from t) (Leading d x n from t) nodes edges u nodes' edges' v
choose_all {d} {x} {o} n from e q l number t i good s all f =
    let state = s.claimed.0.0 in
    let few = few_states d e good state.there state.fated in
    entered_weaken (λ N p. p) (λ N h.
    let b = leading_one d x n from e q l number t N good s h in
    let known = (target_state d e q n.action b.0 state b.1.0).known in
    (b.0, omega (arith, few, known), b.1)) f

-- a trail of all that is handed on, in whatever order, leads to the same
pub heading_like : (d : Document) (x : ℕ) (n : Node) (handed : List ℕ) (N : ℕ → Bool) → ListsHanded d n x handed → Heading d x n N → Leading d x n 0 (grown [] handed) N
heading_like d x n handed N all (other, list, (targets, chosen, leads)) =
    (targets, chosen, leads_like (calculus d x) (grown (grown [] other) targets) (grown (grown [] handed) targets) N (move other handed (λ c e. (all c).1 ((list c).0 e))) (move handed other (λ c e. (list c).1 ((all c).0 e))) leads.0)
  where
    move : (a b : List ℕ) → ((c : ℕ) → has a c ≡ true → has b c ≡ true) → (c : ℕ) → has (grown (grown [] a) targets) c ≡ true → has (grown (grown [] b) targets) c ≡ true
    move a b sub c e = elim (grown_cases (grown [] a) targets c e) [
      | inl p ↦ grown_old (grown [] b) targets c (elim (grown_cases [] a c p) [ inl q ↦ grown_old [] b c q | inr q ↦ grown_new [] b c (sub c q) ])
      | inr p ↦ grown_new (grown [] b) targets c p
    ]

pub heading_stuck : (d : Document) (x : ℕ) (n : Node) (some : List ℕ) (N : ℕ → Bool) → ((y : ℕ) → has some y ≡ true → Handed d n x y) → Stuck (calculus d x) (grown [] some) → Heading d x n N → ⊥
heading_stuck d x n some N sub stuck (handed, list, h) =
    leading_stuck d x n 0 (grown [] handed) N (stuck_within (calculus d x) (grown [] some) (grown [] handed)
    (λ c e. elim (grown_cases [] some c e) [ inl q ↦ grown_old [] handed c q | inr q ↦ grown_new [] handed c ((list c).1 (sub c q)) ]) stuck) h
