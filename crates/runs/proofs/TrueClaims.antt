use Rattle.std.proofs.Common.{◌≡◌, ℕ, zero, suc, ◌≤◌, Bool, true, false, cond, ◌⊎◌, List, [], length, sym, refl, ap, ◌∙◌, subst, inl, inr, true≢false}
use mathlib.Core.Bool.{false≢true}
use Rattle.program.specs.Words.{Program}
use Rattle.program.specs.Automata.{Leads, Final, names}
use Rattle.document.specs.Formulas.{Formula}
use Rattle.lasso.specs.Readings.{Reading, actions, Truth}
use Rattle.document.specs.Documents.{Document, built, formulas, form_at, program_at, WellFormed, formula_at}
use Rattle.document.specs.declared.form.Form.{Form}
use Rattle.document.specs.declared.form.Form.TheVariants.{True, Prop, Not, And, Or, Next, Until}
use Rattle.tableau.specs.Graphs.{Sign, Sign.T, Sign.F, Claim, Claim.form, Claim.until_true, Claim.step_true, Claim.until_false, Claim.step_false, program_of, claim_as, says, GivesForm, GivesUntil, GivesNotUntil, Gives, Closure, Closure.given, Closure.made, NoClash}
use Rattle.program.specs.Laws.{AcceptsItsWords}
use Rattle.lasso.specs.Untils.{UntilFrom}
use Rattle.document.proofs.Formulas.{formula_anywhere}
use Rattle.runs.proofs.LeastRests.{Least, value_of, value_holds, value_under, Rest, rest_until, until_rest, target_of, target_falls, rest_dec, least_rest}

-- what the proof takes as given of a reading and of the automata
pub record Decisions (s : Reading) : Type 0 where
  pub decided : (i : ℕ) (f : Formula) → Dec (Truth s i f)
  pub until_decided : (f g : Formula) (p : Program) (q i : ℕ) → Dec (UntilFrom s i f p q g)
  pub accepts : AcceptsItsWords
  pub final : (p : Program) (q : ℕ) → Dec (Final p q)
  pub leads : (p : Program) (q c n : ℕ) → Dec (Leads p q c n)
  pub states : (p : Program) (q c n : ℕ) → Leads p q c n → n ≤ length (names p)

abbrev pub left : Form → ℕ
left True = 0
left (Prop p) = 0
left (Not f) = f
left (And f g) = f
left (Or f g) = f
left (Next a f) = f
left (Until f p g) = f

abbrev pub right : Form → ℕ
right True = 0
right (Prop p) = 0
right (Not f) = 0
right (And f g) = g
right (Or f g) = g
right (Next a f) = 0
right (Until f p g) = g

abbrev pub Signed : Sign → Type 0 → Type 0
Signed T A = A
Signed F A = A → ⊥

abbrev pub agrees : {A : Type 0} → Sign → Dec A → Bool
agrees T (yes a) = true
agrees T (no n) = false
agrees F (yes a) = false
agrees F (no n) = true

abbrev pub is_zero : ℕ → Bool
is_zero zero = true
is_zero (suc n) = false

module _ (s : Reading) (D : Decisions s) (d : Document) where
  abbrev pub RestOf : Form → ℕ → ℕ → ℕ → Type 0
  RestOf o = Rest s (formula_at d (left o)) (program_of d o) (formula_at d (right o))

  abbrev pub UntilOf : Form → ℕ → ℕ → Type 0
  UntilOf o i q = (m : ℕ) × RestOf o i q m

  pub least_of : (o : Form) (i q : ℕ) → Dec (Least (RestOf o i q))
  least_of o i q =
      least_rest s (formula_at d (left o)) (program_of d o) (formula_at d (right o)) D.decided D.final D.leads D.states i q
      (D.until_decided (formula_at d (left o)) (formula_at d (right o)) (program_of d o) q i)

  abbrev pub rank : Form → ℕ → ℕ → ℕ
  rank o i q = value_of (least_of o i q)

  pub rank_holds : (o : Form) (i q : ℕ) → UntilOf o i q → RestOf o i q (rank o i q)
  rank_holds o i q u =
      value_holds (RestOf o i q) (least_of o i q) u.0
      (λ m. rest_dec s (formula_at d (left o)) (program_of d o) (formula_at d (right o)) D.decided D.final D.leads D.states m i q) u.1

  pub rank_under : (o : Form) (i q m : ℕ) → RestOf o i q m → rank o i q ≤ m
  rank_under o i q m r = value_under (RestOf o i q) (least_of o i q) m r

  -- the state that the shortest witness goes on to
  pub goal_state : Form → ℕ → ℕ → ℕ
  goal_state o i q = target_of s (formula_at d (left o)) (program_of d o) (formula_at d (right o)) i q (least_of o i q)

  pub goal_state_falls : (o : Form) (i q k : ℕ) → rank o i q ≡ suc k → Leads (program_of d o) q (s i).action (goal_state o i q) × RestOf o (suc i) (goal_state o i q) k
  unfolding goal_state
  goal_state_falls o i q k e = target_falls s (formula_at d (left o)) (program_of d o) (formula_at d (right o)) i q (least_of o i q) k e

  -- what a claim says at step i
  abbrev pub Holds : ℕ → Claim → Type 0
  Holds i (form t e) = Signed t (Truth s i (formula_at d e))
  Holds i (until_true e q l) = UntilOf (form_at d e) i q
  Holds i (step_true e q l) = (k : ℕ) × (rank (form_at d e) i q ≡ suc k)
  Holds i (until_false e q) = UntilOf (form_at d e) i q → ⊥
  Holds i (step_false e q) = (r : ℕ) → Leads (program_of d (form_at d e)) q (s i).action r → UntilOf (form_at d e) (suc i) r → ⊥

  -- the alternative that is chosen for a claim at step i
  abbrev pub chosen : ℕ → Claim → Bool
  chosen i (form t e) = agrees t (D.decided i (formula_at d (left (form_at d e))))
  chosen i (until_true e q l) = is_zero (rank (form_at d e) i q)
  chosen i (until_false e q) = agrees F (D.decided i (formula_at d (left (form_at d e))))
  chosen i (step_true e q l) = true
  chosen i (step_false e q) = true

  module _ (wf : WellFormed d) where
    abbrev all_formulas : List Formula
    all_formulas = formulas d.progs [] d.forms

    formula_path : (e : ℕ) (o : Form) → form_at d e ≡ o → formula_at d e ≡ built d.progs all_formulas o
    formula_path e o p = formula_anywhere d wf e ∙ ap (built d.progs all_formulas) p

    pub opened : (i : ℕ) (t : Sign) (e : ℕ) (o : Form) → form_at d e ≡ o → Signed t (Truth s i (formula_at d e)) → Signed t (Truth s i (built d.progs all_formulas o))
    opened i t e o p h = subst (λ f. Signed t (Truth s i f)) (formula_path e o p) h

    pub shut : (i : ℕ) (t : Sign) (e : ℕ) (o : Form) → form_at d e ≡ o → Signed t (Truth s i (built d.progs all_formulas o)) → Signed t (Truth s i (formula_at d e))
    shut i t e o p h = subst (λ f. Signed t (Truth s i f)) (sym (formula_path e o p)) h

    until_holds : (i e f p g : ℕ) → form_at d e ≡ Until f p g → Truth s i (formula_at d e) → UntilOf (form_at d e) i 0
    until_holds i e f p g c h =
        let t : Truth s i (Formula.until (formula_at d f) (program_at d p) (formula_at d g)) = opened i T e (Until f p g) c h in
        subst (λ o. UntilOf o i 0) (sym c)
        (until_rest s (formula_at d f) (program_at d p) (formula_at d g) i 0 (t.0, (D.accepts (program_at d p) (actions s i t.0)).1 t.1, t.2, t.3))

    holds_until : (i e f p g : ℕ) → form_at d e ≡ Until f p g → UntilOf (form_at d e) i 0 → Truth s i (formula_at d e)
    holds_until i e f p g c u =
        let v : UntilOf (Until f p g) i 0 = subst (λ o. UntilOf o i 0) c u in
        let w : UntilFrom s i (formula_at d f) (program_at d p) 0 (formula_at d g) = rest_until s (formula_at d f) (program_at d p) (formula_at d g) i 0 v.0 v.1 in
        shut i T e (Until f p g) c (w.0, (D.accepts (program_at d p) (actions s i w.0)).0 w.1, w.2, w.3)

    claim_holds : (i x : ℕ) (t : Sign) (e : ℕ) (o : Form) → form_at d e ≡ o → Signed t (Truth s i (formula_at d e)) → Holds i (claim_as t x e o)
    claim_holds i x t e True c h = h
    claim_holds i x t e (Prop p) c h = h
    claim_holds i x t e (Not f) c h = h
    claim_holds i x t e (And f g) c h = h
    claim_holds i x t e (Or f g) c h = h
    claim_holds i x t e (Next a f) c h = h
    claim_holds i x T e (Until f p g) c h = until_holds i e f p g c h
    claim_holds i x F e (Until f p g) c h = λ u. h (holds_until i e f p g c u)

    pub said : (i x : ℕ) (t : Sign) (f : ℕ) (k : Claim) → k ≡ says d x t f → Signed t (Truth s i (formula_at d f)) → Holds i k
    said i x t f k e h = subst (Holds i) (sym e) (claim_holds i x t f (form_at d f) refl h)

    said_both : (i x f g : ℕ) (k : Claim) (b : Dec (Truth s i (formula_at d f))) → (Truth s i (formula_at d f) × Truth s i (formula_at d g) → ⊥)
        → k ≡ says d x F (cond (agrees F b) f g) → Holds i k
    said_both i x f g k (yes t) n e = said i x F g k e (λ u. n (t, u))
    said_both i x f g k (no m) n e = said i x F f k e m

    said_either : (i x f g : ℕ) (k : Claim) (b : Dec (Truth s i (formula_at d f))) → Truth s i (formula_at d f) ⊎ Truth s i (formula_at d g)
        → k ≡ says d x T (cond (agrees T b) f g) → Holds i k
    said_either i x f g k (yes t) h e = said i x T f k e t
    said_either i x f g k (no m) (inl t) e = absurd (m t)
    said_either i x f g k (no m) (inr t) e = said i x T g k e t

    not_not : {A : Type 0} → Dec A → ((A → ⊥) → ⊥) → A
    not_not (yes a) h = a
    not_not (no n) h = absurd (h n)

    form_gives : (i x : ℕ) (t : Sign) (e : ℕ) (o : Form) (k : Claim) → form_at d e ≡ o → Signed t (Truth s i (formula_at d e))
        → GivesForm d x (agrees t (D.decided i (formula_at d (left o)))) t o k → Holds i k
    form_gives i x t e True k c h n = absurd n
    form_gives i x t e (Prop p) k c h n = absurd n
    form_gives i x T e (Not f) k c h v = said i x F f k v (opened i T e (Not f) c h)
    form_gives i x F e (Not f) k c h v = said i x T f k v (not_not (D.decided i (formula_at d f)) (opened i F e (Not f) c h))
    form_gives i x T e (And f g) k c h (inl v) = said i x T f k v (opened i T e (And f g) c h).0
    form_gives i x T e (And f g) k c h (inr v) = said i x T g k v (opened i T e (And f g) c h).1
    form_gives i x F e (And f g) k c h v = said_both i x f g k (D.decided i (formula_at d f)) (opened i F e (And f g) c h) v
    form_gives i x T e (Or f g) k c h v = said_either i x f g k (D.decided i (formula_at d f)) (opened i T e (Or f g) c h) v
    form_gives i x F e (Or f g) k c h (inl v) = said i x F f k v (λ u. opened i F e (Or f g) c h (inl u))
    form_gives i x F e (Or f g) k c h (inr v) = said i x F g k v (λ u. opened i F e (Or f g) c h (inr u))
    form_gives i x t e (Next a f) k c h n = absurd n
    form_gives i x t e (Until f p g) k c h n = absurd n

    ranked_gives : (i x e q l f p g n : ℕ) (k : Claim) → form_at d e ≡ Until f p g → rank (Until f p g) i q ≡ n → RestOf (Until f p g) i q n
        → GivesUntil d x (is_zero n) e q l (Until f p g) k → Holds i k
    ranked_gives i x e q l f p g zero k c y r (inl v) = said i x T g k v.2 r.1
    ranked_gives i x e q l f p g zero k c y r (inr v) = absurd (true≢false (v.0 r.0))
    ranked_gives i x e q l f p g (suc n) k c y r (inl v) = absurd (false≢true v.1)
    ranked_gives i x e q l f p g (suc n) k c y r (inr v) =
        elim v.1 [ inl w ↦ said i x T f k w r.0 | inr w ↦ subst (Holds i) (sym w) (n, subst (λ o. rank o i q ≡ suc n) (sym c) y) ]

    until_gives : (i x e q l : ℕ) (o : Form) (k : Claim) → form_at d e ≡ o → UntilOf o i q → GivesUntil d x (is_zero (rank o i q)) e q l o k → Holds i k
    until_gives i x e q l True k c h n = absurd n
    until_gives i x e q l (Prop p) k c h n = absurd n
    until_gives i x e q l (Not f) k c h n = absurd n
    until_gives i x e q l (And f g) k c h n = absurd n
    until_gives i x e q l (Or f g) k c h n = absurd n
    until_gives i x e q l (Next a f) k c h n = absurd n
    until_gives i x e q l (Until f p g) k c h v = ranked_gives i x e q l f p g (rank (Until f p g) i q) k c refl (rank_holds (Until f p g) i q h) v

    Failing : ℕ → ℕ → Form → Type 0
    Failing i q o = (r : ℕ) → Leads (program_of d o) q (s i).action r → UntilOf o (suc i) r → ⊥

    failing_gives : (i x e q f p g : ℕ) (k : Claim) → form_at d e ≡ Until f p g → (UntilOf (Until f p g) i q → ⊥) → (b : Dec (Truth s i (formula_at d f)))
        → k ≡ cond (agrees F b) (says d x F f) (step_false e q) → Holds i k
    unfolding Failing
    failing_gives i x e q f p g k c h (yes t) v =
        let w : Failing i q (Until f p g) = λ r j u. h (suc u.0, (t, (r, j, u.1))) in
        subst (Holds i) (sym v) (subst (Failing i q) (sym c) w)
    failing_gives i x e q f p g k c h (no m) v = said i x F f k v m

    not_until_gives : (i x e q : ℕ) (o : Form) (k : Claim) → form_at d e ≡ o → (UntilOf o i q → ⊥)
        → GivesNotUntil d x (agrees F (D.decided i (formula_at d (left o)))) e q o k → Holds i k
    not_until_gives i x e q True k c h n = absurd n
    not_until_gives i x e q (Prop p) k c h n = absurd n
    not_until_gives i x e q (Not f) k c h n = absurd n
    not_until_gives i x e q (And f g) k c h n = absurd n
    not_until_gives i x e q (Or f g) k c h n = absurd n
    not_until_gives i x e q (Next a f) k c h n = absurd n
    not_until_gives i x e q (Until f p g) k c h (inl v) = failing_gives i x e q f p g k c h (D.decided i (formula_at d f)) v
    not_until_gives i x e q (Until f p g) k c h (inr v) = said i x F g k v.1 (λ t. h (0, (v.0, t)))

    gives_holds : (i x : ℕ) (c k : Claim) → Holds i c → Gives d x (chosen i c) c k → Holds i k
    gives_holds i x (form t e) k h v = form_gives i x t e (form_at d e) k refl h v
    gives_holds i x (until_true e q l) k h v = until_gives i x e q l (form_at d e) k refl h v
    gives_holds i x (until_false e q) k h v = not_until_gives i x e q (form_at d e) k refl h v
    gives_holds i x (step_true e q l) k h n = absurd n
    gives_holds i x (step_false e q) k h n = absurd n

    pub closure_holds : (i x : ℕ) {S : Claim → Type 0} → ((c : Claim) → S c → Holds i c) → {k : Claim} → Closure d x (chosen i) S k → Holds i k
    closure_holds i x h (given {c = c} j) = h c j
    closure_holds i x h (made {c = c} {k = k} j g) = gives_holds i x c k (closure_holds i x h j) g

    pub clash_free : (i : ℕ) (N : Claim → Bool) → ((c : Claim) → N c ≡ true → Holds i c) → NoClash d (s i).action N
    clash_free i N h = record {
      false_true = λ e n c. opened i F e True c (h (form F e) n) tt;
      same_mark = λ e o p n m c k. opened i F o (Prop p) k (h (form F o) m) (opened i T e (Prop p) c (h (form T e) n));
      same_form = λ e n m. h (form F e) m (h (form T e) n);
      same_until = λ e q l n m. h (until_false e q) m (h (until_true e q l) n);
      same_step = λ e q l n m.
          let r = h (step_true e q l) n in
          let t = goal_state_falls (form_at d e) i q r.0 r.1 in
          h (step_false e q) m (goal_state (form_at d e) i q) t.0 (r.0, t.1);
      other_action = λ e b f n c. sym (opened i T e (Next b f) c (h (form T e) n)).0;
    }
