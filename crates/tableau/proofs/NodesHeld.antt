-- Nodes made of the sets that a unit reaches are the nodes that the definitions have, and all of these are made.
use Rattle.std.proofs.Common.{◌≡◌, ℕ, ◌-◌, ◌<◌, Bool, true, false, cond, eqb, ◌⊎◌, ◌↔◌, List, [], ◌∷◌, ◌++◌, sym, refl, ap, ◌∙◌, subst, inl, inr, arith}
use mathlib.Core.Path.{fun_ext}
use Rattle.std.proofs.lemmas.Bool.{both_ways, eqb-true, eq-eqb, or_cases, or_left, or_right}
use Rattle.document.specs.Documents.{Document, WellFormed, Refers}
use Rattle.document.specs.declared.form.Form.TheVariants.{Next}
use Rattle.tableau.specs.Claims.{member, has, Same}
use Rattle.tableau.specs.Graphs.{Sign.T, Claim, form, until_true, until_false, step_true, step_false, says, Node, FirstNode, turned, Carried, Carried.nexts, Carried.goes, Carried.fails, Successor, Expansion}
use Rattle.tableau.specs.Held.{claims_of, node_of}
use Rattle.tableau.specs.Numbers.{number_of, ClaimOf}
use Rattle.tableau.specs.Successions.{Claims, Promises, Closes, Made, Handed, Handed.nexts as handed-next, Handed.fails as handed-fails, Chosen}
use Rattle.tableau.specs.Successions as successions
use Rattle.tableau.specs.Units.{ListsHanded, FirstSet, NextSet}
use Rattle.tableau.specs.declared.node.Node.{Node as Held}
use Rattle.tableau.specs.declared.unit.Origin.{Origin}
use Rattle.tableau.specs.declared.unit.Origin.TheVariants.{First, Opened}
use Rattle.tableau.proofs.Bridge.{ListsSet, closure_numbered, expansion_claims, expansion_numbers}
use Rattle.tableau.proofs.Aims.{Aims, ListsTargets, chosen_targets, targets_chosen}
use Rattle.tableau.proofs.Decoding.{claims_told, claims_tell, numbers_of, claims_back}
use Rattle.tableau.proofs.Own.{says_own, closure_own, leads_own}
use Rattle.tableau.proofs.HandedLists.{handed_listed}

-- nodes with the same parts are the same
pub same_parts : (n m : Node) → n.action ≡ m.action → n.claims ≡ m.claims → n.phase ≡ m.phase → n.closing ≡ m.closing → n ≡ m
same_parts n m a c p b =
    ap (λ v. record { action = v; claims = n.claims; phase = n.phase; closing = n.closing }) a
    ∙ ap (λ v. record { action = m.action; claims = v; phase = n.phase; closing = n.closing }) c
    ∙ ap (λ v. record { action = m.action; claims = m.claims; phase = v; closing = n.closing }) p
    ∙ ap (λ v. record { action = m.action; claims = m.claims; phase = m.phase; closing = v }) b

-- sets with the same numbers have the same claims
pub same_claims : (d : Document) (N P : ℕ → Bool) → Same N P → claims_of d N ≡ claims_of d P
same_claims d N P same = ap (claims_of d) (fun_ext same)

-- what two lists have together
pub has_parts : (xs ys : List ℕ) (c : ℕ) → (has (xs ++ ys) c ≡ true) ↔ ((has xs c ≡ true) ⊎ (has ys c ≡ true))
has_parts [] ys c = (λ h. inr h, λ h. elim h [ inl e ↦ absurd (both_ways false refl e) | inr e ↦ e ])
has_parts (x ∷ xs) ys c =
    let i = has_parts xs ys c in (
      λ h. elim (or_cases (eqb x c) (has (xs ++ ys) c) h) [
        | inl e ↦ inl (or_left (eqb x c) (has xs c) e)
        | inr e ↦ elim (i.0 e) [ inl f ↦ inl (or_right (eqb x c) (has xs c) f) | inr f ↦ inr f ]
      ],
      λ h. elim h [
        | inl e ↦ elim (or_cases (eqb x c) (has xs c) e) [ inl f ↦ or_left (eqb x c) (has (xs ++ ys) c) f | inr f ↦ or_right (eqb x c) (has (xs ++ ys) c) (i.1 (inl f)) ]
        | inr e ↦ or_right (eqb x c) (has (xs ++ ys) c) (i.1 (inr e))
      ],
    )

goal_lists : (d : Document) → ListsSet d (λ k. k ≡ says d 0 T d.goal) (number_of d (says d 0 T d.goal) ∷ [])
goal_lists d c = (
  λ h. elim (or_cases (eqb (number_of d (says d 0 T d.goal)) c) false h) [ inl e ↦ (says d 0 T d.goal, refl, eqb-true (number_of d (says d 0 T d.goal)) c e) | inr e ↦ absurd (both_ways false refl e) ],
  λ (k, is, at). or_left (eqb (number_of d (says d 0 T d.goal)) c) false (eq-eqb (number_of d (says d 0 T d.goal)) c (ap (number_of d) (sym is) ∙ at)),
)

goal_own : (d : Document) → WellFormed d → (k : Claim) → k ≡ says d 0 T d.goal → ClaimOf d k
goal_own d good k is = subst (ClaimOf d) (sym is) (says_own d 0 T d.goal good.aimed)

-- what the first unit makes is a first node
pub first_sound : (d : Document) → WellFormed d → (N : ℕ → Bool) (n : Held) → FirstSet d N → Made d 0 First N n → FirstNode d (node_of d n)
first_sound d good N n e made =
    let x = expansion_claims d good 0 n.action (number_of d (says d 0 T d.goal) ∷ []) (λ k. k ≡ says d 0 T d.goal) (goal_own d good) (goal_lists d) N e made.allowed in
    record {
      declared = made.declared;
      even = made.phase;
      closes = made.closing;
      expands = subst (Expansion d n.action 0 (λ k. k ≡ says d 0 T d.goal)) (sym (same_claims d (member n.claims.words) N made.claims)) x;
    }

-- every first node is made, of the numbers of its claims
pub first_complete : (d : Document) → WellFormed d → (m : Node) → FirstNode d m
    → (N : ℕ → Bool) × FirstSet d N × (m.action < d.acts) × successions.Allowed d N m.action × ((n : Held) → Made d 0 First N n → n.action ≡ m.action → node_of d n ≡ m)
first_complete d good m first =
    let e = expansion_numbers d good 0 m.action (number_of d (says d 0 T d.goal) ∷ []) (λ k. k ≡ says d 0 T d.goal) (goal_own d good) (goal_lists d) m.claims first.expands in
    let x = first.expands in
    let own : (k : Claim) → m.claims k ≡ true → ClaimOf d k = λ k h. closure_own d good 0 x.choice (λ k. k ≡ says d 0 T d.goal) (goal_own d good) k (x.least k h) in (
      numbers_of d m.claims,
      e.0,
      first.declared,
      e.1,
      λ n made same. same_parts (node_of d n) m same
          (same_claims d (member n.claims.words) (numbers_of d m.claims) made.claims ∙ fun_ext (claims_back d m.claims own))
          (made.phase ∙ sym first.even)
          (made.closing ∙ sym first.closes),
    )

-- the phase of a node in memory is turned where it is closing
pub turned_held : (d : Document) (n : Held) → turned (node_of d n) ≡ cond n.closing (1 - n.phase) n.phase
turned_held d n = refl

-- the two lists have the numbers of what is carried to a successor
carried_lists : (d : Document) (n : Held) (x : ℕ) (H L : List ℕ) (target : ℕ → ℕ → ℕ → ℕ) → x ≡ turned (node_of d n) → ListsHanded d n x H → ListsTargets d n 0 target L → ListsSet d (Carried d (node_of d n) target) (H ++ L)
carried_lists d n x H L target turn hands aims c = (
  λ h. elim ((has_parts H L c).0 h) [
    | inl f ↦ of_handed c ((hands c).0 f)
    | inr f ↦ let t = (aims c).0 f in (until_true t.0 (target t.0 t.1 t.2) t.2, goes (claims_tell d N (step_true t.0 t.1 t.2) t.3.0 t.3.1), t.5)
  ],
  λ (k, carried, at). (has_parts H L c).1 (subst (λ v. (has H v ≡ true) ⊎ (has L v ≡ true)) at (of_carried k carried)),
)
  where
    N : ℕ → Bool
    N = member n.claims.words

    of_handed : (c : ℕ) → Handed d n x c → (k : Claim) × Carried d (node_of d n) target k × (number_of d k ≡ c)
    of_handed c (handed-next s {e = e} {f = f} claimed is) = (says d (turned (node_of d n)) s f, nexts (claims_tell d N (form s e) claimed.0 claimed.1) is, ap (λ v. number_of d (says d v s f)) (sym turn))
    of_handed c (handed-fails {e = e} {q = q} r claimed leads) = (until_false e r, fails (claims_tell d N (step_false e q) claimed.0 claimed.1) leads, refl)

    of_carried : (k : Claim) → Carried d (node_of d n) target k → (has H (number_of d k) ≡ true) ⊎ (has L (number_of d k) ≡ true)
    of_carried k (nexts {s = s} {e = e} {f = f} h is) = inl (subst (λ v. has H (number_of d (says d v s f)) ≡ true) turn ((hands (number_of d (says d x s f))).1 (handed-next s (claims_told d N (form s e) h) is)))
    of_carried k (goes {e = e} {q = q} {l = l} h) = inr ((aims (number_of d k)).1 (e, q, l, claims_told d N (step_true e q l) h, omega arith, refl))
    of_carried k (fails {e = e} {q = q} {r = r} h leads) = inl ((hands (number_of d (until_false e r))).1 (handed-fails r (claims_told d N (step_false e q) h) leads))

carried_own : (d : Document) → WellFormed d → (n : Held) (target : ℕ → ℕ → ℕ → ℕ) → Aims d n target → (k : Claim) → Carried d (node_of d n) target k → ClaimOf d k
carried_own d good n target reach k (nexts {s = s} {e = e} {f = f} h is) =
    let c = claims_told d (member n.claims.words) (form s e) h in
    let r : Refers d e (Next n.action f) = subst (Refers d e) is (good.refers e c.0.0) in
    let low = c.0.0 in
    let earlier = r.1 in
    says_own d (turned (node_of d n)) s f (omega arith)
carried_own d good n target reach k (goes {e = e} {q = q} {l = l} h) =
    let c = claims_told d (member n.claims.words) (step_true e q l) h in
    (leads_own d e q n.action (target e q l) c.0.0 (reach e q l c), c.0.1)
carried_own d good n target reach k (fails {e = e} {q = q} {r = r} h leads) =
    let c = claims_told d (member n.claims.words) (step_false e q) h in
    leads_own d e q n.action r c.0 leads

-- one set is closing or not
closes_one : (d : Document) (x : ℕ) (o : Origin) (N : ℕ → Bool) (b c : Bool) → Closes d x o N b → Closes d x o N c → b ≡ c
closes_one d x First N b c h i = h ∙ sym i
closes_one d x (Opened v closing first) N true true h i = refl
closes_one d x (Opened v closing first) N true false h (inl i) = absurd (both_ways closing h.0 i)
closes_one d x (Opened v closing first) N true false h (inr i) = absurd (h.1 i)
closes_one d x (Opened v closing first) N false true (inl h) i = absurd (both_ways closing i.0 h)
closes_one d x (Opened v closing first) N false true (inr h) i = absurd (i.1 h)
closes_one d x (Opened v closing first) N false false h i = refl

-- what opening a node makes is a successor of it
pub successor_sound : (d : Document) → WellFormed d → (n m : Held) (v first x : ℕ) (N : ℕ → Bool) → x ≡ turned (node_of d n) → NextSet d x n N → Made d x (Opened v n.closing first) N m → Successor d (node_of d n) (node_of d m)
successor_sound d good n m v first x N turn (H, L, hands, chosen, e) made =
    let t = chosen_targets d good n 0 L chosen in
    let target = t.0 in
    let reach : Aims d n target = λ e q l s. t.1 e q l s (omega arith) in
    let S = Carried d (node_of d n) target in
    let ex = expansion_claims d good x m.action (H ++ L) S (carried_own d good n target reach) (carried_lists d n x H L target turn hands t.2) N e made.allowed in
    let mine : claims_of d (member m.claims.words) ≡ claims_of d N = same_claims d (member m.claims.words) N made.claims in
    record {
      target = target;
      reaches = λ e q l h. reach e q l (claims_told d (member n.claims.words) (step_true e q l) h);
      declared = made.declared;
      turns = made.phase ∙ turn;
      expands = subst (λ v. Expansion d m.action v S (claims_of d (member m.claims.words))) turn (subst (Expansion d m.action x S) (sym mine) ex);
      closed = λ h. let c = subst (Closes d x (Opened v n.closing first) N) h made.closing in
          (c.0, λ e q i. c.1 (e, q, claims_told d N (until_true e q x) (subst (λ w. claims_of d N (until_true e q w) ≡ true) made.phase (subst (λ w. w (until_true e q m.phase) ≡ true) mine i))));
      open_still = λ h. elim (subst (Closes d x (Opened v n.closing first) N) h made.closing) [
        | inl c ↦ inl c
        | inr (e, q, c) ↦ inr (e, q, subst (λ w. w (until_true e q m.phase) ≡ true) (sym mine) (subst (λ w. claims_of d N (until_true e q w) ≡ true) (sym made.phase) (claims_tell d N (until_true e q x) c.0 c.1)))
      ];
    }

-- every successor is made, of the numbers of its claims
pub successor_complete : (d : Document) → WellFormed d → (n : Held) (m : Node) (v first x : ℕ) → x ≡ turned (node_of d n) → Successor d (node_of d n) m
    → (N : ℕ → Bool) × NextSet d x n N × (m.action < d.acts) × successions.Allowed d N m.action
    × ((k : Held) → Made d x (Opened v n.closing first) N k → k.action ≡ m.action → node_of d k ≡ m)
successor_complete d good n m v first x turn s =
    let handed = handed_listed d n x in
    let H = handed.0 in
    let hands = handed.1 in
    let target = s.target in
    let reach : Aims d n target = λ e q l c. s.reaches e q l (claims_tell d (member n.claims.words) (step_true e q l) c.0 c.1) in
    let t = targets_chosen d good n target reach in
    let L = t.0 in
    let S = Carried d (node_of d n) target in
    let lists = carried_lists d n x H L target turn hands t.2 in
    let ex = subst (λ w. Expansion d m.action w S m.claims) (sym turn) s.expands in
    let e = expansion_numbers d good x m.action (H ++ L) S (carried_own d good n target reach) lists m.claims ex in
    let N = numbers_of d m.claims in
    let own : (k : Claim) → m.claims k ≡ true → ClaimOf d k = λ k h. closure_own d good x ex.choice S (carried_own d good n target reach) k (ex.least k h) in
    let back : (k : Claim) → claims_of d N k ≡ m.claims k = claims_back d m.claims own in
    let phase : m.phase ≡ x = s.turns ∙ sym turn in (
      N,
      (H, L, hands, t.1, e.0),
      s.declared,
      e.1,
      λ k made same. same_parts (node_of d k) m same
          (same_claims d (member k.claims.words) N made.claims ∙ fun_ext back)
          (made.phase ∙ sym phase)
          (closes_one d x (Opened v n.closing first) N k.closing m.closing made.closing (closing N back phase m.closing refl)),
    )
  where
    closing : (N : ℕ → Bool) → ((k : Claim) → claims_of d N k ≡ m.claims k) → m.phase ≡ x → (b : Bool) → m.closing ≡ b → Closes d x (Opened v n.closing first) N b
    closing N back phase true is =
        let c = s.closed is in
        (c.0, λ (e, q, p). c.1 e q (subst (λ w. m.claims (until_true e q w) ≡ true) (sym phase) (sym (back (until_true e q x)) ∙ claims_tell d N (until_true e q x) p.0 p.1)))
    closing N back phase false is = elim (s.open_still is) [
      | inl c ↦ inl c
      | inr (e, q, p) ↦ inr (e, q, claims_told d N (until_true e q x) (back (until_true e q x) ∙ subst (λ w. m.claims (until_true e q w) ≡ true) phase p))
    ]

-- the numbers of a set that a unit reaches are those of claims
pub first_own : (d : Document) → WellFormed d → (N : ℕ → Bool) → FirstSet d N → (c : ℕ) → N c ≡ true → (k : Claim) × ClaimOf d k × (number_of d k ≡ c)
first_own d good N e c h = closure_numbered d good 0 (number_of d (says d 0 T d.goal) ∷ []) (λ k. k ≡ says d 0 T d.goal) (goal_own d good) (goal_lists d) e.choice c (e.within c h)

pub next_own : (d : Document) → WellFormed d → (n : Held) (x : ℕ) (N : ℕ → Bool) → x ≡ turned (node_of d n) → NextSet d x n N → (c : ℕ) → N c ≡ true → (k : Claim) × ClaimOf d k × (number_of d k ≡ c)
next_own d good n x N turn (H, L, hands, chosen, e) c h =
    let t = chosen_targets d good n 0 L chosen in
    let reach : Aims d n t.0 = λ e q l s. t.1 e q l s (omega arith) in
    closure_numbered d good x (H ++ L) (Carried d (node_of d n) t.0) (carried_own d good n t.0 reach) (carried_lists d n x H L t.0 turn hands t.2) e.choice c (e.within c h)
