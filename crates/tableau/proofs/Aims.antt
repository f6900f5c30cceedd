-- Targets chosen one by one along the numbers, and a target for each claim T step.
use Rattle.std.proofs.Common.{◌≡◌, ℕ, zero, suc, ◌+◌, ◌<◌, ◌≤◌, Bool, true, false, cond, eqb, ◌↔◌, List, [], ◌∷◌, sym, refl, ap, ◌∙◌, subst, inl, inr, arith}
use Rattle.std.proofs.lemmas.Bool.{both_ways, eqb-true, eq-eqb, ne_eqb, or_cases, or_left, or_right, cases_order, cases_eq, cases_Bool, cond-true, cond-false}
use Rattle.program.specs.Automata.{Leads}
use Rattle.document.specs.Documents.{Document, WellFormed, form_at}
use Rattle.tableau.specs.Claims.{member, has}
use Rattle.tableau.specs.Graphs.{Claim, form, until_true, until_false, step_true, step_false, program_of}
use Rattle.tableau.specs.Numbers.{number_of}
use Rattle.tableau.specs.Successions.{Claims, NoStep, Chosen, none, one}
use Rattle.tableau.specs.declared.node.Node.{Node}
use Rattle.tableau.proofs.Numbering.{number_within, step_one}
use Rattle.tableau.proofs.Decoding.{claims_told, claims_tell, claim_numbered, claim_numbered_is}
use Rattle.tableau.specs.Held.{claims_of}

-- the node claims the step
abbrev Steps : Document → Node → ℕ → ℕ → ℕ → Type 0
Steps d n e q l = Claims d (member n.claims.words) (step_true e q l)

-- each claim T step of the node reaches its target
abbrev pub Aims : Document → Node → (ℕ → ℕ → ℕ → ℕ) → Type 0
Aims d n target = (e q l : ℕ) → Steps d n e q l → Leads (program_of d (form_at d e)) q n.action (target e q l)

-- the same of a number from `from` on
abbrev AimsFrom : Document → Node → ℕ → (ℕ → ℕ → ℕ → ℕ) → Type 0
AimsFrom d n from target = (e q l : ℕ) → Steps d n e q l → from ≤ number_of d (step_true e q l) → Leads (program_of d (form_at d e)) q n.action (target e q l)

-- the list has the numbers of the claims T until that the targets make, of steps from a number on
abbrev pub ListsTargets : Document → Node → ℕ → (ℕ → ℕ → ℕ → ℕ) → List ℕ → Type 0
ListsTargets d n from target L =
    (c : ℕ) → (has L c ≡ true) ↔ ((e : ℕ) × (q : ℕ) × (l : ℕ) × Steps d n e q l × (from ≤ number_of d (step_true e q l)) × (number_of d (until_true e (target e q l) l) ≡ c))

-- a target for one step more
aimed : Document → ℕ → ℕ → (ℕ → ℕ → ℕ → ℕ) → ℕ → ℕ → ℕ → ℕ
aimed d n r target e q l = cond (eqb (number_of d (step_true e q l)) n) r (target e q l)

aimed_here : (d : Document) (n r : ℕ) (target : ℕ → ℕ → ℕ → ℕ) (e q l : ℕ) → number_of d (step_true e q l) ≡ n → aimed d n r target e q l ≡ r
unfolding aimed
aimed_here d n r target e q l is = cond-true (eqb (number_of d (step_true e q l)) n) r (target e q l) (eq-eqb (number_of d (step_true e q l)) n is)

aimed_else : (d : Document) (n r : ℕ) (target : ℕ → ℕ → ℕ → ℕ) (e q l : ℕ) → (number_of d (step_true e q l) ≡ n → ⊥) → aimed d n r target e q l ≡ target e q l
unfolding aimed
aimed_else d n r target e q l is = cond-false (eqb (number_of d (step_true e q l)) n) r (target e q l) (ne_eqb (number_of d (step_true e q l)) n is)

-- one step more at the front
lists_more : (d : Document) (n : Node) (from e q l r : ℕ) (target : ℕ → ℕ → ℕ → ℕ) (L : List ℕ) → Steps d n e q l → from ≤ number_of d (step_true e q l) → NoStep d n from (number_of d (step_true e q l)) → target e q l ≡ r
    → ListsTargets d n (number_of d (step_true e q l) + 1) target L → ListsTargets d n from target (number_of d (until_true e r l) ∷ L)
lists_more d n from e q l r target L mine low free is lists c = (
  λ h. elim (or_cases (eqb (number_of d (until_true e r l)) c) (has L c) h) [
    | inl f ↦ (e, q, l, mine, low, ap (λ v. number_of d (until_true e v l)) is ∙ eqb-true (number_of d (until_true e r l)) c f)
    | inr f ↦ let t = (lists c).0 f in let b = t.4 in (t.0, t.1, t.2, t.3, omega arith, t.5)
  ],
  λ (h, s, i, theirs, b, at). elim (cases_order (number_of d (step_true h s i)) (number_of d (step_true e q l))) [
    | inl same ↦
        let p = step_one d h s i e q l theirs.0 mine.0 same in
        let there : number_of d (until_true h (target h s i) i) ≡ number_of d (until_true e r l) =
        ap (λ v. number_of d (until_true v (target v s i) i)) p.0 ∙ ap (λ v. number_of d (until_true e (target e v i) i)) p.1 ∙ ap (λ v. number_of d (until_true e (target e q v) v)) p.2 ∙ ap (λ v. number_of d (until_true e v l)) is in
        or_left (eqb (number_of d (until_true e r l)) c) (has L c) (eq-eqb (number_of d (until_true e r l)) c (sym there ∙ at))
    | inr (inl less) ↦ absurd (free h s i theirs b less)
    | inr (inr more) ↦ or_right (eqb (number_of d (until_true e r l)) c) (has L c) ((lists c).1 (h, s, i, theirs, omega arith, at))
  ],
)

-- what is chosen along the numbers is a target for each step
pub chosen_targets : (d : Document) → WellFormed d → (n : Node) (from : ℕ) (L : List ℕ) → Chosen d n from L → (target : ℕ → ℕ → ℕ → ℕ) × AimsFrom d n from target × ListsTargets d n from target L
chosen_targets d good n from L (none free) = (
  λ e q l. 0,
  λ e q l s low. absurd (free e q l s low (small e q l s)),
  λ c. (λ h. absurd (both_ways false refl h), λ (e, q, l, s, low, at). absurd (free e q l s low (small e q l s))),
)
  where
    small : (e q l : ℕ) → Steps d n e q l → number_of d (step_true e q l) < 256
    small e q l s = let w = number_within d (step_true e q l) s.0 in let light = good.light in omega arith
chosen_targets d good n from L (one {e = e} {q = q} {l = l} {rest = rest} r mine low free leads more) =
    let m = number_of d (step_true e q l) in
    let t = chosen_targets d good n (m + 1) rest more in
    let target = aimed d m r t.0 in
    let agree : (h s i : ℕ) → m + 1 ≤ number_of d (step_true h s i) → target h s i ≡ t.0 h s i = λ h s i b. aimed_else d m r t.0 h s i (λ is. omega arith) in (
      target,
      λ h s i theirs b. elim (cases_order (number_of d (step_true h s i)) m) [
        | inl same ↦
            let p = step_one d h s i e q l theirs.0 mine.0 same in
            subst (Leads (program_of d (form_at d h)) s n.action) (sym (aimed_here d m r t.0 h s i same))
            (subst (λ v. Leads (program_of d (form_at d v)) s n.action r) (sym p.0) (subst (λ v. Leads (program_of d (form_at d e)) v n.action r) (sym p.1) leads))
        | inr (inl less) ↦ absurd (free h s i theirs b less)
        | inr (inr beyond) ↦ subst (Leads (program_of d (form_at d h)) s n.action) (sym (agree h s i (omega arith))) (t.1 h s i theirs (omega arith))
      ],
      lists_more d n from e q l r target rest mine low free (aimed_here d m r t.0 e q l refl)
          (λ c. (
            λ h. let u = (t.2 c).0 h in (u.0, u.1, u.2, u.3, u.4, ap (λ v. number_of d (until_true u.0 v u.2)) (agree u.0 u.1 u.2 u.4) ∙ u.5),
            λ (h, s, i, theirs, b, at). (t.2 c).1 (h, s, i, theirs, b, ap (λ v. number_of d (until_true h v i)) (sym (agree h s i b)) ∙ at),
          )),
    )

-- the step of a number, if the node claims one
step_at : (d : Document) (n : Node) (c : ℕ) → Dec ((e : ℕ) × (q : ℕ) × (l : ℕ) × Steps d n e q l × (number_of d (step_true e q l) ≡ c))
step_at d n c = go (claim_numbered d c) refl
  where
    N : ℕ → Bool
    N = member n.claims.words

    other : (k : Claim) → claim_numbered d c ≡ k → ((e q l : ℕ) → k ≡ step_true e q l → ⊥) → Dec ((e : ℕ) × (q : ℕ) × (l : ℕ) × Steps d n e q l × (number_of d (step_true e q l) ≡ c))
    other k is never = no (λ (e, q, l, s, at). never e q l (sym is ∙ ap (claim_numbered d) (sym at) ∙ claim_numbered_is d (step_true e q l) s.0))

    go : (k : Claim) → claim_numbered d c ≡ k → Dec ((e : ℕ) × (q : ℕ) × (l : ℕ) × Steps d n e q l × (number_of d (step_true e q l) ≡ c))
    go (form s e) is = other (form s e) is (λ e q l h. let z : ◌≡◌ {A = ℕ} 0 1 = cc in omega arith)
    go (until_true e q l) is = other (until_true e q l) is (λ e q l h. let z : ◌≡◌ {A = ℕ} 0 1 = cc in omega arith)
    go (until_false e q) is = other (until_false e q) is (λ e q l h. let z : ◌≡◌ {A = ℕ} 0 1 = cc in omega arith)
    go (step_false e q) is = other (step_false e q) is (λ e q l h. let z : ◌≡◌ {A = ℕ} 0 1 = cc in omega arith)
    go (step_true e q l) is = elim (cases_Bool (claims_of d N (step_true e q l))) [
      | inl h ↦ elim (cases_eq (number_of d (step_true e q l)) c) [
        | inl at ↦ yes (e, q, l, claims_told d N (step_true e q l) h, at)
        | inr at ↦ no (λ (f, r, m, s, there).
            let same = sym is ∙ ap (claim_numbered d) (sym there) ∙ claim_numbered_is d (step_true f r m) s.0 in
            at (ap (number_of d) same ∙ there))
      ]
      | inr h ↦ no (λ (f, r, m, s, there).
          let same = sym is ∙ ap (claim_numbered d) (sym there) ∙ claim_numbered_is d (step_true f r m) s.0 in
          both_ways (claims_of d N (step_true e q l)) h (subst (λ v. claims_of d N v ≡ true) (sym same) (claims_tell d N (step_true f r m) s.0 s.1)))
    ]

-- where no step has the number itself, what is chosen from the next one on is chosen from it on
wider : (d : Document) (n : Node) (from top : ℕ) → ((e q l : ℕ) → Steps d n e q l → number_of d (step_true e q l) ≡ from → ⊥) → NoStep d n (from + 1) top → NoStep d n from top
wider d n from top not free e q l s low high = elim (cases_eq (number_of d (step_true e q l)) from) [ inl is ↦ not e q l s is | inr is ↦ free e q l s (omega arith) high ]

chosen_back : (d : Document) (n : Node) (from : ℕ) (L : List ℕ) → ((e q l : ℕ) → Steps d n e q l → number_of d (step_true e q l) ≡ from → ⊥) → Chosen d n (from + 1) L → Chosen d n from L
chosen_back d n from L not (none free) = none (wider d n from 256 not free)
chosen_back d n from L not (one {e = h} {q = r} {l = i} t mine low free leads more) = one t mine (omega arith) (wider d n from (number_of d (step_true h r i)) not free) leads more

-- a target for each step is chosen along the numbers
targets_from : (d : Document) → WellFormed d → (n : Node) (target : ℕ → ℕ → ℕ → ℕ) → Aims d n target → (fuel from : ℕ) → from + fuel ≡ 256 → (L : List ℕ) × Chosen d n from L × ListsTargets d n from target L
targets_from d good n target reach zero from is =
    let free : NoStep d n from 256 = λ e q l s low high. omega arith in (
      [],
      none free,
      λ c. (λ h. absurd (both_ways false refl h), λ (e, q, l, s, low, at). absurd (let w = number_within d (step_true e q l) s.0 in let light = good.light in free e q l s low (omega arith))),
    )
targets_from d good n target reach (suc fuel) from is = go (targets_from d good n target reach fuel (from + 1) (omega arith)) (step_at d n from)
  where
    go : ((L : List ℕ) × Chosen d n (from + 1) L × ListsTargets d n (from + 1) target L) → Dec ((e : ℕ) × (q : ℕ) × (l : ℕ) × Steps d n e q l × (number_of d (step_true e q l) ≡ from)) → (L : List ℕ) × Chosen d n from L × ListsTargets d n from target L
    go rest (yes (e, q, l, s, at)) =
        let low : from ≤ number_of d (step_true e q l) = omega arith in
        let free : NoStep d n from (number_of d (step_true e q l)) = λ h r i t b c. omega arith in
        let up : number_of d (step_true e q l) + 1 ≡ from + 1 = ap (λ v. v + 1) at in (
          number_of d (until_true e (target e q l) l) ∷ rest.0,
          one (target e q l) s low free (reach e q l s) (subst (λ v. Chosen d n v rest.0) (sym up) rest.1),
          lists_more d n from e q l (target e q l) target rest.0 s low free refl (subst (λ v. ListsTargets d n v target rest.0) (sym up) rest.2),
        )
    go rest (no not) =
        let never : (e q l : ℕ) → Steps d n e q l → number_of d (step_true e q l) ≡ from → ⊥ = λ e q l s at. not (e, q, l, s, at) in (
          rest.0,
          chosen_back d n from rest.0 never rest.1,
          λ c. (
            λ h. let t = (rest.2 c).0 h in let b = t.4 in (t.0, t.1, t.2, t.3, omega arith, t.5),
            λ (e, q, l, s, low, at). (rest.2 c).1 (e, q, l, s, elim (cases_eq (number_of d (step_true e q l)) from) [ inl same ↦ absurd (never e q l s same) | inr other ↦ omega arith ], at),
          ),
        )

pub targets_chosen : (d : Document) → WellFormed d → (n : Node) (target : ℕ → ℕ → ℕ → ℕ) → Aims d n target → (L : List ℕ) × Chosen d n 0 L × ListsTargets d n 0 target L
targets_chosen d good n target reach = targets_from d good n target reach 256 0 (omega arith)
