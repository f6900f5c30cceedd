use Rattle.std.proofs.Common.{◌≡◌, ℕ, zero, suc, ◌<◌, ◌≤◌, Bool, true, false, cond, ◌⊎◌, length, sym, refl, ap, ◌∙◌, subst, inl, inr, arith}
use mathlib.Core.Bool.{Bool-discrete}
use native.Mathlib.Decide.{ℕ_discrete, dec_lt}
use Rattle.std.proofs.lemmas.List.{get_or_past}
use Rattle.program.specs.Words.{Program}
use Rattle.program.specs.Automata.{Final}
use Rattle.document.specs.Documents.{Document, form_at, program_at, Refers, WellFormed}
use Rattle.document.specs.declared.form.Form.{Form}
use Rattle.document.specs.declared.form.Form.TheVariants.{True, Prop, Not, And, Or, Next, Until}
use Rattle.tableau.specs.Graphs.{Sign, Sign.T, Sign.F, opposite, Claim, Claim.form, Claim.until_true, Claim.step_true, Claim.until_false, Claim.step_false, claim_as, says, GivesForm, GivesUntil, GivesNotUntil, Gives, Closure, Closure.given, Closure.made}
use Rattle.tableau.proofs.FiniteSets.{both_dec, Finite, finite_iff, finite_none, finite_one, finite_or, finite_when, finite_some}

-- claims are told apart

code : Claim → ℕ × ℕ × ℕ × ℕ
code (form T e) = (0, e, 0, 0)
code (form F e) = (1, e, 0, 0)
code (until_true e q l) = (2, e, q, l)
code (step_true e q l) = (3, e, q, l)
code (until_false e q) = (4, e, q, 0)
code (step_false e q) = (5, e, q, 0)

decoded : ℕ → ℕ → ℕ → ℕ → Claim
decoded zero e q l = form T e
decoded (suc zero) e q l = form F e
decoded (suc (suc zero)) e q l = until_true e q l
decoded (suc (suc (suc zero))) e q l = step_true e q l
decoded (suc (suc (suc (suc zero)))) e q l = until_false e q
decoded (suc (suc (suc (suc (suc n))))) e q l = step_false e q

abbrev of_code : ℕ × ℕ × ℕ × ℕ → Claim
of_code v = decoded v.0 v.1 v.2 v.3

of_code_code : (c : Claim) → of_code (code c) ≡ c
unfolding code decoded
of_code_code (form T e) = refl
of_code_code (form F e) = refl
of_code_code (until_true e q l) = refl
of_code_code (step_true e q l) = refl
of_code_code (until_false e q) = refl
of_code_code (step_false e q) = refl

four_dec : (v w : ℕ × ℕ × ℕ × ℕ) → Dec (v ≡ w)
four_dec v w = go (ℕ_discrete v.0 w.0) (ℕ_discrete v.1 w.1) (ℕ_discrete v.2 w.2) (ℕ_discrete v.3 w.3)
  where
    go : Dec (v.0 ≡ w.0) → Dec (v.1 ≡ w.1) → Dec (v.2 ≡ w.2) → Dec (v.3 ≡ w.3) → Dec (v ≡ w)
    go (yes a) (yes b) (yes c) (yes d) = yes (λ i. (a i, b i, c i, d i))
    go (no n) b c d = no (λ e. n (ap (λ (z : ℕ × ℕ × ℕ × ℕ). z.0) e))
    go (yes a) (no n) c d = no (λ e. n (ap (λ (z : ℕ × ℕ × ℕ × ℕ). z.1) e))
    go (yes a) (yes b) (no n) d = no (λ e. n (ap (λ (z : ℕ × ℕ × ℕ × ℕ). z.2) e))
    go (yes a) (yes b) (yes c) (no n) = no (λ e. n (ap (λ (z : ℕ × ℕ × ℕ × ℕ). z.3) e))

pub claim_discrete : Discrete Claim
claim_discrete c k = go (four_dec (code c) (code k))
  where
    go : Dec (code c ≡ code k) → Dec (c ≡ k)
    go (yes e) = yes (sym (of_code_code c) ∙ ap of_code e ∙ of_code_code k)
    go (no n) = no (λ e. n (ap code e))

-- what a claim gives is finite

finite_form : (d : Document) (x : ℕ) (b : Bool) (s : Sign) (o : Form) → Finite (GivesForm d x b s o)
finite_form d x b s True = finite_none _ (λ k n. n)
finite_form d x b s (Prop p) = finite_none _ (λ k n. n)
finite_form d x b s (Not f) = finite_one _
finite_form d x b T (And f g) = finite_or _ _ (finite_one _) (finite_one _)
finite_form d x b F (And f g) = finite_one _
finite_form d x b T (Or f g) = finite_one _
finite_form d x b F (Or f g) = finite_or _ _ (finite_one _) (finite_one _)
finite_form d x b s (Next a f) = finite_none _ (λ k n. n)
finite_form d x b s (Until f p g) = finite_none _ (λ k n. n)

if_dec : {A B : Type 0} → Dec A → Dec B → Dec (A → B)
if_dec (yes a) (yes b) = yes (λ _. b)
if_dec (yes a) (no n) = no (λ f. n (f a))
if_dec (no n) b = yes (λ a. absurd (n a))

module _ (final : (p : Program) (q : ℕ) → Dec (Final p q)) where
  finite_until : (d : Document) (x : ℕ) (b : Bool) (e q l : ℕ) (o : Form) → Finite (GivesUntil d x b e q l o)
  finite_until d x b e q l True = finite_none _ (λ k n. n)
  finite_until d x b e q l (Prop p) = finite_none _ (λ k n. n)
  finite_until d x b e q l (Not f) = finite_none _ (λ k n. n)
  finite_until d x b e q l (And f g) = finite_none _ (λ k n. n)
  finite_until d x b e q l (Or f g) = finite_none _ (λ k n. n)
  finite_until d x b e q l (Next a f) = finite_none _ (λ k n. n)
  finite_until d x b e q l (Until f p g) =
      finite_or _ _
      (finite_iff (λ k. (Final (program_at d p) q × (b ≡ true)) × (k ≡ says d x T g)) _ (λ k h. (h.0.0, h.0.1, h.1)) (λ k h. ((h.0, h.1), h.2))
      (finite_when _ (both_dec (final (program_at d p) q) (Bool-discrete b true)) (finite_one _)))
      (finite_when _ (if_dec (final (program_at d p) q) (Bool-discrete b false)) (finite_or _ _ (finite_one _) (finite_one _)))

  finite_not_until : (d : Document) (x : ℕ) (b : Bool) (e q : ℕ) (o : Form) → Finite (GivesNotUntil d x b e q o)
  finite_not_until d x b e q True = finite_none _ (λ k n. n)
  finite_not_until d x b e q (Prop p) = finite_none _ (λ k n. n)
  finite_not_until d x b e q (Not f) = finite_none _ (λ k n. n)
  finite_not_until d x b e q (And f g) = finite_none _ (λ k n. n)
  finite_not_until d x b e q (Or f g) = finite_none _ (λ k n. n)
  finite_not_until d x b e q (Next a f) = finite_none _ (λ k n. n)
  finite_not_until d x b e q (Until f p g) = finite_or _ _ (finite_one _) (finite_when _ (final (program_at d p) q) (finite_one _))

  pub finite_gives : (d : Document) (x : ℕ) (b : Bool) (c : Claim) → Finite (Gives d x b c)
  finite_gives d x b (form s e) = finite_form d x b s (form_at d e)
  finite_gives d x b (until_true e q l) = finite_until d x b e q l (form_at d e)
  finite_gives d x b (until_false e q) = finite_not_until d x b e q (form_at d e)
  finite_gives d x b (step_true e q l) = finite_none _ (λ k n. n)
  finite_gives d x b (step_false e q) = finite_none _ (λ k n. n)

-- a claim gives claims of less weight

abbrev weight : Claim → ℕ
weight (form s e) = suc e
weight (until_true e q l) = suc e
weight (until_false e q) = suc e
weight (step_true e q l) = 0
weight (step_false e q) = 0

claim_weight : (s : Sign) (x e : ℕ) (o : Form) → weight (claim_as s x e o) ≡ suc e
claim_weight s x e True = refl
claim_weight s x e (Prop p) = refl
claim_weight s x e (Not f) = refl
claim_weight s x e (And f g) = refl
claim_weight s x e (Or f g) = refl
claim_weight s x e (Next a f) = refl
claim_weight T x e (Until f p g) = refl
claim_weight F x e (Until f p g) = refl

pub earlier_always : (d : Document) → WellFormed d → (e : ℕ) → Refers d e (form_at d e)
earlier_always d wf e = go (dec_lt e (length d.forms))
  where
    go : Dec (e < length d.forms) → Refers d e (form_at d e)
    go (yes h) = wf.refers e h
    go (no n) = subst (Refers d e) (sym (get_or_past d.forms e True (omega arith))) tt

module _ (d : Document) (wf : WellFormed d) (x : ℕ) where
  said : (s : Sign) (f e : ℕ) (k : Claim) → k ≡ says d x s f → f < e → weight k < suc e
  said s f e k p h = let w : weight k ≡ suc f = ap weight p ∙ claim_weight s x f (form_at d f) in omega arith

  chosen : (b : Bool) (s : Sign) (f g e : ℕ) (k : Claim) → k ≡ says d x s (cond b f g) → f < e → g < e → weight k < suc e
  chosen true s f g e k p h j = said s f e k p h
  chosen false s f g e k p h j = said s g e k p j

  form_lighter : (b : Bool) (s : Sign) (e : ℕ) (o : Form) (k : Claim) → Refers d e o → GivesForm d x b s o k → weight k < suc e
  form_lighter b s e True k h n = absurd n
  form_lighter b s e (Prop p) k h n = absurd n
  form_lighter b s e (Not f) k h p = said (opposite s) f e k p h
  form_lighter b T e (And f g) k h (inl p) = said T f e k p h.0
  form_lighter b T e (And f g) k h (inr p) = said T g e k p h.1
  form_lighter b F e (And f g) k h p = chosen b F f g e k p h.0 h.1
  form_lighter b T e (Or f g) k h p = chosen b T f g e k p h.0 h.1
  form_lighter b F e (Or f g) k h (inl p) = said F f e k p h.0
  form_lighter b F e (Or f g) k h (inr p) = said F g e k p h.1
  form_lighter b s e (Next a f) k h n = absurd n
  form_lighter b s e (Until f p g) k h n = absurd n

  step_lighter : (e : ℕ) (k c : Claim) → weight c ≡ 0 → k ≡ c → weight k < suc e
  step_lighter e k c z p = let w : weight k ≡ weight c = ap weight p in omega arith

  until_lighter : (b : Bool) (e q l : ℕ) (o : Form) (k : Claim) → Refers d e o → GivesUntil d x b e q l o k → weight k < suc e
  until_lighter b e q l True k h n = absurd n
  until_lighter b e q l (Prop p) k h n = absurd n
  until_lighter b e q l (Not f) k h n = absurd n
  until_lighter b e q l (And f g) k h n = absurd n
  until_lighter b e q l (Or f g) k h n = absurd n
  until_lighter b e q l (Next a f) k h n = absurd n
  until_lighter b e q l (Until f p g) k h (inl y) = said T g e k y.2 h.2
  until_lighter b e q l (Until f p g) k h (inr y) = elim y.1 [ inl v ↦ said T f e k v h.0 | inr v ↦ step_lighter e k _ refl v ]

  not_until_lighter : (b : Bool) (e q : ℕ) (o : Form) (k : Claim) → Refers d e o → GivesNotUntil d x b e q o k → weight k < suc e
  not_until_lighter b e q True k h n = absurd n
  not_until_lighter b e q (Prop p) k h n = absurd n
  not_until_lighter b e q (Not f) k h n = absurd n
  not_until_lighter b e q (And f g) k h n = absurd n
  not_until_lighter b e q (Or f g) k h n = absurd n
  not_until_lighter b e q (Next a f) k h n = absurd n
  not_until_lighter true e q (Until f p g) k h (inl v) = said F f e k v h.0
  not_until_lighter false e q (Until f p g) k h (inl v) = step_lighter e k _ refl v
  not_until_lighter b e q (Until f p g) k h (inr v) = said F g e k v.1 h.2

  lighter : (b : Bool) (c k : Claim) → Gives d x b c k → weight k < weight c
  lighter b (form s e) k g = form_lighter b s e (form_at d e) k (earlier_always d wf e) g
  lighter b (until_true e q l) k g = until_lighter b e q l (form_at d e) k (earlier_always d wf e) g
  lighter b (until_false e q) k g = not_until_lighter b e q (form_at d e) k (earlier_always d wf e) g
  lighter b (step_true e q l) k n = absurd n
  lighter b (step_false e q) k n = absurd n

  -- the closure of a finite set is finite

  module _ (final : (p : Program) (q : ℕ) → Dec (Final p q)) (choice : Claim → Bool) where
    abbrev From : Claim → Claim → Type 0
    From c = Closure d x choice (λ z. z ≡ c)

    onward : {S : Claim → Type 0} {c k : Claim} → Closure d x choice S c → From c k → Closure d x choice S k
    onward {S} h (given e) = subst (Closure d x choice S) (sym e) h
    onward h (made j g) = made (onward h j) g

    first_step : {c k : Claim} → From c k → (k ≡ c) ⊎ ((m : Claim) × Gives d x (choice c) c m × From m k)
    first_step (given e) = inl e
    first_step {c} (made {c = z} {k = k} j g) = more (first_step j)
      where
        more : (z ≡ c) ⊎ ((m : Claim) × Gives d x (choice c) c m × From m z) → (k ≡ c) ⊎ ((m : Claim) × Gives d x (choice c) c m × From m k)
        more (inl e) = inr (k, subst (λ (w : Claim). Gives d x (choice w) w k) e g, given refl)
        more (inr h) = inr (h.0, h.1, made h.2 g)

    from_step : (c k : Claim) → (k ≡ c) ⊎ ((m : Claim) × Gives d x (choice c) c m × From m k) → From c k
    from_step c k (inl e) = given e
    from_step c k (inr h) = onward (made (given refl) h.1) h.2

    unrolled : (c : Claim) → ((m : Claim) → Gives d x (choice c) c m → Finite (From m)) → Finite (From c)
    unrolled c f = finite_iff _ _ (from_step c) (λ k. first_step) (finite_or _ _ (finite_one c) (finite_some _ From (finite_gives final d x (choice c) c) f))

    finite_from : (n : ℕ) (c : Claim) → weight c ≤ n → Finite (From c)
    finite_from zero c h = unrolled c (λ m g. let w : weight m < weight c = lighter (choice c) c m g in absurd (omega arith))
    finite_from (suc n) c h = unrolled c (λ m g. let w : weight m < weight c = lighter (choice c) c m g in finite_from n m (omega arith))

    first_given : {S : Claim → Type 0} {k : Claim} → Closure d x choice S k → (c : Claim) × S c × From c k
    first_given (given {c = c} s) = (c, s, given refl)
    first_given (made j g) = let h = first_given j in (h.0, h.1, made h.2 g)

    pub finite_closure : (S : Claim → Type 0) → Finite S → Finite (Closure d x choice S)
    finite_closure S f = finite_iff _ _ (λ k h. onward (given h.1) h.2) (λ k. first_given) (finite_some S From f (λ c s. finite_from (weight c) c (omega arith)))
