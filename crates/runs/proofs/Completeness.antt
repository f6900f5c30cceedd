use Rattle.std.proofs.Common.{◌≡◌, ℕ, zero, suc, ◌-◌, ◌<◌, ◌≤◌, Bool, true, false, cond, ◌⊎◌, length, sym, refl, ap, ◌∙◌, subst, inl, inr, true≢false, arith}
use Rattle.program.specs.Words.{Program}
use Rattle.program.specs.Automata.{Leads, Final, names}
use Rattle.document.specs.Formulas.{Formula}
use Rattle.lasso.specs.Readings.{Lasso, Reading, read, Truth, blank_moment}
use Rattle.document.specs.Documents.{Document, goal_formula, form_at, WellFormed}
use Rattle.document.specs.declared.form.Form.{Form}
use Rattle.document.specs.declared.form.Form.TheVariants.{True, Prop, Not, And, Or, Next, Until}
use Rattle.tableau.specs.Graphs.{Sign, Sign.T, Sign.F, Claim, Claim.form, Claim.until_true, Claim.step_true, Claim.until_false, Claim.step_false, program_of, claim_as, says, Node, turned, Carried, Carried.nexts, Carried.goes, Carried.fails, FirstNode, Successor}
use Rattle.program.specs.Laws.{AcceptsItsWords}
use Rattle.lasso.specs.TruthLaws.{TruthDecided}
use Rattle.lasso.specs.Untils.{UntilFrom}
use Rattle.runs.specs.Runs.{AcceptingRun, Agrees, Complete}
use Rattle.tableau.proofs.FiniteSets.{Finite, finite_iff, finite_none, finite_one, finite_some, finite_below, finite_bound, some_dec}
use Rattle.runs.proofs.TrueClaims.{Decisions, rank, rank_under, goal_state, goal_state_falls, Holds, opened, said}
use Rattle.runs.proofs.Stages.{Pending, pending_dec, pending_is, closes, closes_yes, closes_no, turned_small, Expanded, expand}
use Rattle.tableau.proofs.HandedLists.{finite_next}

-- no step claim
abbrev NotStep : Claim → Type 0
NotStep (form t e) = Unit {0}
NotStep (until_true e q l) = Unit {0}
NotStep (step_true e q l) = ⊥
NotStep (until_false e q) = Unit {0}
NotStep (step_false e q) = Unit {0}

claim_not_step : (t : Sign) (x e : ℕ) (o : Form) → NotStep (claim_as t x e o)
claim_not_step t x e True = tt
claim_not_step t x e (Prop p) = tt
claim_not_step t x e (Not f) = tt
claim_not_step t x e (And f g) = tt
claim_not_step t x e (Or f g) = tt
claim_not_step t x e (Next a f) = tt
claim_not_step T x e (Until f p g) = tt
claim_not_step F x e (Until f p g) = tt

-- the label of a claim that a form is true or false
abbrev Labelled : ℕ → Claim → Type 0
Labelled l (form t e) = Unit {0}
Labelled l (until_true e q m) = m ≡ l
Labelled l (step_true e q m) = Unit {0}
Labelled l (until_false e q) = Unit {0}
Labelled l (step_false e q) = Unit {0}

claim_labelled : (t : Sign) (x e : ℕ) (o : Form) → Labelled (1 - x) (claim_as t x e o)
claim_labelled t x e True = tt
claim_labelled t x e (Prop p) = tt
claim_labelled t x e (Not f) = tt
claim_labelled t x e (And f g) = tt
claim_labelled t x e (Or f g) = tt
claim_labelled t x e (Next a f) = tt
claim_labelled T x e (Until f p g) = refl
claim_labelled F x e (Until f p g) = tt

module _ (s : Reading) (D : Decisions s) (d : Document) where
  -- a node whose claims hold at step i
  pub record Stage (i : ℕ) : Type 0 where
    pub claims : Claim → Bool
    pub phase : ℕ
    pub closing : Bool
    pub set : Finite (λ c. claims c ≡ true)
    pub hold : (c : Claim) → claims c ≡ true → Holds s D d i c
    pub steps : (e q l : ℕ) → claims (step_true e q l) ≡ true → claims (until_true e q l) ≡ true
    pub small : phase ≤ 1

  abbrev pub node_of : (i : ℕ) → Stage i → Node
  node_of i σ = record { action = (s i).action; claims = σ.claims; phase = σ.phase; closing = σ.closing }

  abbrev pub target : ℕ → ℕ → ℕ → ℕ → ℕ
  target i e q l = goal_state s D d (form_at d e) i q

  pub record Stage-after (i : ℕ) (σ : Stage i) : Type 0 where
    pub stage : Stage (suc i)
    pub successor : Successor d (node_of i σ) (node_of (suc i) stage)
    pub falls : σ.closing ≡ false → (e q : ℕ) → stage.claims (until_true e q stage.phase) ≡ true
        → (r : ℕ) × (σ.claims (until_true e r σ.phase) ≡ true) × (rank s D d (form_at d e) (suc i) q < rank s D d (form_at d e) i r)

  module _ (i : ℕ) (σ : Stage i) where
    -- what a claim hands on, in a finite form
    Hands : Claim → Claim → Type 0
    Hands (form t e) k = (f : ℕ) × (form_at d e ≡ Next (s i).action f) × (k ≡ says d (turned (node_of i σ)) t f)
    Hands (until_true e q l) k = ⊥
    Hands (step_true e q l) k = k ≡ until_true e (target i e q l) l
    Hands (until_false e q) k = ⊥
    Hands (step_false e q) k = (r : ℕ) × Leads (program_of d (form_at d e)) q (s i).action r × (k ≡ until_false e r)

    finite_hands : (c : Claim) → Finite (Hands c)
    unfolding Hands
    finite_hands (form t e) = finite_some _ (λ f k. k ≡ says d (turned (node_of i σ)) t f) (finite_next (s i).action (form_at d e)) (λ f h. finite_one _)
    finite_hands (until_true e q l) = finite_none _ (λ k n. n)
    finite_hands (step_true e q l) = finite_one _
    finite_hands (until_false e q) = finite_none _ (λ k n. n)
    finite_hands (step_false e q) =
        let p : Program = program_of d (form_at d e) in
        finite_some _ (λ r k. k ≡ until_false e r)
        (finite_below (Leads p q (s i).action) (suc (length (names p)))
        (λ n h. let b : n ≤ length (names p) = D.states p q (s i).action n h in omega arith) (D.leads p q (s i).action))
        (λ r h. finite_one _)

    abbrev Given : Claim → Type 0
    Given = Carried d (node_of i σ) (target i)

    hands_given : (c k : Claim) → σ.claims c ≡ true → Hands c k → Given k
    unfolding Hands
    hands_given (form t e) k m h = subst Given (sym h.2) (nexts m h.1)
    hands_given (until_true e q l) k m n = absurd n
    hands_given (step_true e q l) k m v = subst Given (sym v) (goes m)
    hands_given (until_false e q) k m n = absurd n
    hands_given (step_false e q) k m h = subst Given (sym h.2) (fails m h.1)

    given_hands : {k : Claim} → Given k → (c : Claim) × (σ.claims c ≡ true) × Hands c k
    unfolding Hands
    given_hands (nexts {s = t} {e = e} {f = f} m c) = (form t e, m, (f, c, refl))
    given_hands (goes {e = e} {q = q} {l = l} m) = (step_true e q l, m, refl)
    given_hands (fails {e = e} {q = q} {r = r} m j) = (step_false e q, m, (r, j, refl))

    finite_given : Finite Given
    finite_given =
        finite_iff _ _ (λ k h. hands_given h.0 k h.1 h.2) (λ k. given_hands)
        (finite_some (λ c. σ.claims c ≡ true) Hands σ.set (λ c m. finite_hands c))

    -- an Until that is handed on is new, or goes on from a step
    abbrev Comes : Claim → Type 0
    Comes (form t e) = Unit {0}
    Comes (until_true e q l) = ((r : ℕ) × (σ.claims (step_true e r l) ≡ true) × (q ≡ goal_state s D d (form_at d e) i r)) ⊎ (l ≡ 1 - turned (node_of i σ))
    Comes (step_true e q l) = ⊥
    Comes (until_false e q) = Unit {0}
    Comes (step_false e q) = Unit {0}

    said_comes : (k : Claim) → NotStep k → Labelled (1 - turned (node_of i σ)) k → Comes k
    said_comes (form t e) n h = tt
    said_comes (until_true e q l) n h = inr h
    said_comes (step_true e q l) n h = n
    said_comes (until_false e q) n h = tt
    said_comes (step_false e q) n h = tt

    comes : {k : Claim} → Given k → Comes k
    comes (nexts {s = t} {e = e} {f = f} m c) =
        said_comes (says d (turned (node_of i σ)) t f) (claim_not_step t (turned (node_of i σ)) f (form_at d f)) (claim_labelled t (turned (node_of i σ)) f (form_at d f))
    comes (goes {e = e} {q = q} {l = l} m) = inl (q, m, refl)
    comes (fails m j) = tt

    module _ (wf : WellFormed d) where
      next_holds : (t : Sign) (e f : ℕ) → form_at d e ≡ Next (s i).action f → Holds s D d i (form t e) → Holds s D d (suc i) (says d (turned (node_of i σ)) t f)
      next_holds T e f c h = said s D d wf (suc i) (turned (node_of i σ)) T f _ refl (opened s D d wf i T e (Next (s i).action f) c h).1
      next_holds F e f c h = said s D d wf (suc i) (turned (node_of i σ)) F f _ refl (λ u. opened s D d wf i F e (Next (s i).action f) c h (refl, u))

      given_holds : {k : Claim} → Given k → Holds s D d (suc i) k
      given_holds (nexts {s = t} {e = e} {f = f} m c) = next_holds t e f c (σ.hold (form t e) m)
      given_holds (goes {e = e} {q = q} {l = l} m) =
          let h = σ.hold (step_true e q l) m in
          (h.0, (goal_state_falls s D d (form_at d e) i q h.0 h.1).1)
      given_holds (fails {e = e} {q = q} {r = r} m j) = σ.hold (step_false e q) m r j

      after : Expanded s D d (suc i) (turned (node_of i σ)) Given
      after = expand s D d wf (suc i) (turned (node_of i σ)) Given finite_given (λ c. given_holds) (λ e q l. comes)

      pending : Dec ((c : Claim) × (after.claims c ≡ true) × Pending (turned (node_of i σ)) c)
      pending = some_dec (λ c. after.claims c ≡ true) (Pending (turned (node_of i σ))) after.set (pending_dec (turned (node_of i σ)))

      goes_from : (e q : ℕ) → σ.closing ≡ false → Comes (until_true e q (turned (node_of i σ)))
          → (r : ℕ) × (σ.claims (until_true e r σ.phase) ≡ true) × (rank s D d (form_at d e) (suc i) q < rank s D d (form_at d e) i r)
      goes_from e q z (inl (r, m, v)) =
          let o : Form = form_at d e in
          let h = σ.hold (step_true e r (turned (node_of i σ))) m in
          let y : rank s D d o i r ≡ suc h.0 = h.1 in
          let u : rank s D d o (suc i) (goal_state s D d o i r) ≤ h.0 = rank_under s D d o (suc i) (goal_state s D d o i r) h.0 (goal_state_falls s D d o i r h.0 h.1).1 in
          let w : rank s D d o (suc i) q ≤ h.0 = subst (λ j. rank s D d o (suc i) j ≤ h.0) (sym v) u in
          (r, subst (λ x. σ.claims (until_true e r x) ≡ true) (ap (λ b. cond b (1 - σ.phase) σ.phase) z) (σ.steps e r (turned (node_of i σ)) m), omega arith)
      goes_from e q z (inr v) = let b : turned (node_of i σ) ≤ 1 = turned_small σ.closing σ.phase σ.small in absurd (omega arith)

      pub next_stage : ((j : ℕ) → (s j).action < d.acts) → Stage-after i σ
      next_stage acts = record {
        stage = τ;
        successor = record {
          target = target i;
          reaches = λ e q l m. let h = σ.hold (step_true e q l) m in (goal_state_falls s D d (form_at d e) i q h.0 h.1).0;
          declared = acts (suc i);
          turns = refl;
          expands = after.expands;
          closed = λ c. let h = closes_yes σ.closing pending c in (h.0, λ e q m. h.1 (until_true e q (turned (node_of i σ)), m, refl));
          open_still = λ c. elim (closes_no σ.closing pending c) [ inl z ↦ inl z | inr h ↦ inr (seen h.0 h.1 h.2) ];
        };
        falls = λ z e q m. goes_from e q z (elim (after.untils e q (turned (node_of i σ)) m) [ inl g ↦ comes g | inr v ↦ inr v ]);
      }
        where
          τ : Stage (suc i)
          τ = record {
            claims = after.claims;
            phase = turned (node_of i σ);
            closing = closes σ.closing pending;
            set = after.set;
            hold = after.hold;
            steps = after.steps;
            small = turned_small σ.closing σ.phase σ.small;
          }

          seen : (c : Claim) → after.claims c ≡ true → Pending (turned (node_of i σ)) c → (e : ℕ) × (q : ℕ) × (after.claims (until_true e q (turned (node_of i σ))) ≡ true)
          seen c m h = let u = pending_is (turned (node_of i σ)) c h in (u.0, u.1, subst (λ k. after.claims k ≡ true) u.2 m)

  module _ (wf : WellFormed d) (acts : (i : ℕ) → (s i).action < d.acts) (meets : Truth s 0 (goal_formula d)) where
    first_expanded : Expanded s D d 0 0 (λ c. c ≡ says d 0 T d.goal)
    first_expanded =
        expand s D d wf 0 0 (λ c. c ≡ says d 0 T d.goal) (finite_one _) (λ c e. said s D d wf 0 0 T d.goal c e meets)
        (λ e q l p. subst NotStep (sym p) (claim_not_step T 0 d.goal (form_at d d.goal)))

    first_stage : Stage 0
    first_stage = record {
      claims = first_expanded.claims;
      phase = 0;
      closing = true;
      set = first_expanded.set;
      hold = first_expanded.hold;
      steps = first_expanded.steps;
      small = omega arith;
    }

    stages : (i : ℕ) → Stage i
    stages zero = first_stage
    stages (suc i) = (next_stage i (stages i) wf acts).stage

    run : ℕ → Node
    run i = node_of i (stages i)

    run_starts : FirstNode d (run 0)
    unfolding run stages first_stage
    run_starts = record { declared = acts 0; even = refl; closes = refl; expands = first_expanded.expands }

    run_goes : (i : ℕ) → Successor d (run i) (run (suc i))
    unfolding run stages
    run_goes i = (next_stage i (stages i) wf acts).successor

    rank_falls : (i : ℕ) → (stages i).closing ≡ false → (e q : ℕ) → (stages (suc i)).claims (until_true e q (stages (suc i)).phase) ≡ true
        → (r : ℕ) × ((stages i).claims (until_true e r (stages i).phase) ≡ true) × (rank s D d (form_at d e) (suc i) q < rank s D d (form_at d e) i r)
    unfolding stages
    rank_falls i = (next_stage i (stages i) wf acts).falls

    abbrev Under : ℕ → ℕ → Type 0
    Under M i = (e q : ℕ) → (stages i).claims (until_true e q (stages i).phase) ≡ true → rank s D d (form_at d e) i q < M

    abbrev ClosesFrom : ℕ → Type 0
    ClosesFrom i = (j : ℕ) × (i ≤ j) × ((run j).closing ≡ true)

    -- the ranks of the untils of the phase fall Until a node closes
    closes_under : (M i : ℕ) → (stages i).closing ≡ false → Under M i → ClosesFrom i
    unfolding run
    closes_under zero i z u = go (stages (suc i)).closing refl
      where
        none : (e q : ℕ) → (stages (suc i)).claims (until_true e q (stages (suc i)).phase) ≡ true → ⊥
        none e q m = let h = rank_falls i z e q m in let b = u e h.0 h.1 in omega arith

        go : (b : Bool) → (stages (suc i)).closing ≡ b → ClosesFrom i
        go true c = (suc i, omega arith, c)
        go false c = elim ((run_goes i).open_still c) [ inl y ↦ absurd (true≢false (sym y ∙ z)) | inr h ↦ absurd (none h.0 h.1 h.2) ]
    closes_under (suc M) i z u = go (stages (suc i)).closing refl (closes_under M (suc i))
      where
        less : Under M (suc i)
        less e q m = let h = rank_falls i z e q m in let b = u e h.0 h.1 in omega (arith, h.2)

        go : (b : Bool) → (stages (suc i)).closing ≡ b → ((stages (suc i)).closing ≡ false → Under M (suc i) → ClosesFrom (suc i)) → ClosesFrom i
        go true c k = (suc i, omega arith, c)
        go false c k = let h = k c less in (h.0, omega (arith, h.1), h.2)

    claim_rank : ℕ → Claim → ℕ
    claim_rank i (form t e) = 0
    claim_rank i (until_true e q l) = rank s D d (form_at d e) i q
    claim_rank i (step_true e q l) = 0
    claim_rank i (until_false e q) = 0
    claim_rank i (step_false e q) = 0

    run_closes : (i : ℕ) → ClosesFrom i
    unfolding run claim_rank
    run_closes i = go (stages i).closing refl
      where
        go : (b : Bool) → (stages i).closing ≡ b → ClosesFrom i
        go true c = (i, omega arith, c)
        go false c =
            let b = finite_bound (λ k. (stages i).claims k ≡ true) (claim_rank i) (stages i).set in
            closes_under b.0 i c (λ e q m. b.1 (until_true e q (stages i).phase) m)

    not_true : (b : Bool) → (b ≡ true → ⊥) → b ≡ false
    not_true true h = absurd (h refl)
    not_true false h = refl

    run_agrees : Agrees d s run
    unfolding run
    run_agrees = record {
      same_action = λ i. refl;
      shows = λ i e p m c. opened s D d wf i T e (Prop p) c ((stages i).hold (form T e) m);
      hides = λ i e p m c. not_true ((s i).marks p) (opened s D d wf i F e (Prop p) c ((stages i).hold (form F e) m));
    }

    pub accepted : (ρ : ℕ → Node) × AcceptingRun d ρ × Agrees d s ρ
    accepted = (run, record { starts = run_starts; goes = run_goes; closes = run_closes }, run_agrees)

-- a session that meets the goal has an accepting run that it agrees with
pub complete : (s : Reading)
    → (decided : (i : ℕ) (f : Formula) → Dec (Truth s i f))
    → (until_decided : (f g : Formula) (p : Program) (q i : ℕ) → Dec (UntilFrom s i f p q g))
    → (accepts : AcceptsItsWords)
    → (final : (p : Program) (q : ℕ) → Dec (Final p q))
    → (leads : (p : Program) (q c n : ℕ) → Dec (Leads p q c n))
    → (states : (p : Program) (q c n : ℕ) → Leads p q c n → n ≤ length (names p))
    → (d : Document) → WellFormed d → ((i : ℕ) → (s i).action < d.acts) → Truth s 0 (goal_formula d)
    → (ρ : ℕ → Node) × AcceptingRun d ρ × Agrees d s ρ
complete s decided until_decided accepts final leads states d wf acts meets =
    accepted s (record { decided = decided; until_decided = until_decided; accepts = accepts; final = final; leads = leads; states = states }) d wf acts meets

-- the same of a lasso, as specs/Theorems states it
pub complete_of_lassos : TruthDecided
    → (until_decided : (l : Lasso) (f g : Formula) (p : Program) (q i : ℕ) → Dec (UntilFrom (read blank_moment l) i f p q g))
    → (accepts : AcceptsItsWords)
    → (final : (p : Program) (q : ℕ) → Dec (Final p q))
    → (leads : (p : Program) (q c n : ℕ) → Dec (Leads p q c n))
    → (states : (p : Program) (q c n : ℕ) → Leads p q c n → n ≤ length (names p))
    → Complete
complete_of_lassos decided until_decided accepts final leads states d wf l =
    complete (read blank_moment l) (decided l) (until_decided l) accepts final leads states d wf
