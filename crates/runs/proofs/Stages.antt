use Rattle.std.proofs.Common.{◌≡◌, ℕ, ◌-◌, ◌≤◌, Bool, true, false, cond, ◌⊎◌, sym, refl, ap, subst, inl, inr, true≢false, arith}
use mathlib.Core.Bool.{false≢true}
use native.Mathlib.Decide.{ℕ_discrete}
use Rattle.lasso.specs.Readings.{Reading}
use Rattle.document.specs.Documents.{Document, form_at, WellFormed}
use Rattle.document.specs.declared.form.Form.{Form}
use Rattle.document.specs.declared.form.Form.TheVariants.{True, Prop, Not, And, Or, Next, Until}
use Rattle.tableau.specs.Graphs.{Sign, Sign.T, Sign.F, opposite, Claim, Claim.form, Claim.until_true, Claim.step_true, Claim.until_false, Claim.step_false, claim_as, says, GivesForm, GivesUntil, GivesNotUntil, Gives, Closure, Closure.given, Closure.made, Expansion}
use Rattle.tableau.proofs.FiniteSets.{is_yes, from_yes, to_yes, Finite, finite_iff, finite_none, finite_one, finite_dec}
use Rattle.runs.proofs.Expansions.{claim_discrete, finite_closure}
use Rattle.runs.proofs.TrueClaims.{Decisions, Holds, chosen, closure_holds, clash_free}

-- an Until that bears label x
abbrev pub Pending : ℕ → Claim → Type 0
Pending x (form t e) = ⊥
Pending x (until_true e q l) = l ≡ x
Pending x (step_true e q l) = ⊥
Pending x (until_false e q) = ⊥
Pending x (step_false e q) = ⊥

pub pending_dec : (x : ℕ) (c : Claim) → Dec (Pending x c)
pending_dec x (form t e) = no (λ n. n)
pending_dec x (until_true e q l) = ℕ_discrete l x
pending_dec x (step_true e q l) = no (λ n. n)
pending_dec x (until_false e q) = no (λ n. n)
pending_dec x (step_false e q) = no (λ n. n)

pub pending_is : (x : ℕ) (c : Claim) → Pending x c → (e : ℕ) × (q : ℕ) × (c ≡ until_true e q x)
pending_is x (form t e) n = absurd n
pending_is x (until_true e q l) h = (e, q, ap (until_true e q) h)
pending_is x (step_true e q l) n = absurd n
pending_is x (until_false e q) n = absurd n
pending_is x (step_false e q) n = absurd n

-- whether a node closes, by whether the one before did and whether an Until is pending
abbrev pub closes : {A : Type 0} → Bool → Dec A → Bool
closes true b = false
closes false (yes a) = false
closes false (no n) = true

pub closes_yes : {A : Type 0} (c : Bool) (b : Dec A) → closes c b ≡ true → (c ≡ false) × (A → ⊥)
closes_yes true b e = absurd (false≢true e)
closes_yes false (yes a) e = absurd (false≢true e)
closes_yes false (no n) e = (refl, n)

pub closes_no : {A : Type 0} (c : Bool) (b : Dec A) → closes c b ≡ false → (c ≡ true) ⊎ A
closes_no true b e = inl refl
closes_no false (yes a) e = inr a
closes_no false (no n) e = absurd (true≢false e)

pub turned_small : (b : Bool) (x : ℕ) → x ≤ 1 → cond b (1 - x) x ≤ 1
turned_small true x h = omega arith
turned_small false x h = h

module _ (s : Reading) (D : Decisions s) (d : Document) where
  -- where the Until and step claims of a closure come from
  abbrev Origin : ℕ → ℕ → (Claim → Type 0) → Claim → Type 0
  Origin i x S (form t e) = Unit {0}
  Origin i x S (until_true e q l) = S (until_true e q l) ⊎ (l ≡ 1 - x)
  Origin i x S (step_true e q l) = Closure d x (chosen s D d i) S (until_true e q l)
  Origin i x S (until_false e q) = Unit {0}
  Origin i x S (step_false e q) = Unit {0}

  module _ (i x : ℕ) (S : Claim → Type 0) where
    claim_origin : (t : Sign) (e : ℕ) (o : Form) → Origin i x S (claim_as t x e o)
    claim_origin t e True = tt
    claim_origin t e (Prop p) = tt
    claim_origin t e (Not f) = tt
    claim_origin t e (And f g) = tt
    claim_origin t e (Or f g) = tt
    claim_origin t e (Next a f) = tt
    claim_origin T e (Until f p g) = inr refl
    claim_origin F e (Until f p g) = tt

    said_origin : (t : Sign) (f : ℕ) (k : Claim) → k ≡ says d x t f → Origin i x S k
    said_origin t f k e = subst (Origin i x S) (sym e) (claim_origin t f (form_at d f))

    form_origin : (b : Bool) (t : Sign) (o : Form) (k : Claim) → GivesForm d x b t o k → Origin i x S k
    form_origin b t True k n = absurd n
    form_origin b t (Prop p) k n = absurd n
    form_origin b t (Not f) k v = said_origin (opposite t) f k v
    form_origin b T (And f g) k (inl v) = said_origin T f k v
    form_origin b T (And f g) k (inr v) = said_origin T g k v
    form_origin b F (And f g) k v = said_origin F (cond b f g) k v
    form_origin b T (Or f g) k v = said_origin T (cond b f g) k v
    form_origin b F (Or f g) k (inl v) = said_origin F f k v
    form_origin b F (Or f g) k (inr v) = said_origin F g k v
    form_origin b t (Next a f) k n = absurd n
    form_origin b t (Until f p g) k n = absurd n

    until_origin : (b : Bool) (e q l : ℕ) (o : Form) (k : Claim) → Closure d x (chosen s D d i) S (until_true e q l) → GivesUntil d x b e q l o k → Origin i x S k
    until_origin b e q l True k j n = absurd n
    until_origin b e q l (Prop p) k j n = absurd n
    until_origin b e q l (Not f) k j n = absurd n
    until_origin b e q l (And f g) k j n = absurd n
    until_origin b e q l (Or f g) k j n = absurd n
    until_origin b e q l (Next a f) k j n = absurd n
    until_origin b e q l (Until f p g) k j (inl v) = said_origin T g k v.2
    until_origin b e q l (Until f p g) k j (inr v) = elim v.1 [ inl w ↦ said_origin T f k w | inr w ↦ subst (Origin i x S) (sym w) j ]

    not_until_origin : (b : Bool) (e q : ℕ) (o : Form) (k : Claim) → GivesNotUntil d x b e q o k → Origin i x S k
    not_until_origin b e q True k n = absurd n
    not_until_origin b e q (Prop p) k n = absurd n
    not_until_origin b e q (Not f) k n = absurd n
    not_until_origin b e q (And f g) k n = absurd n
    not_until_origin b e q (Or f g) k n = absurd n
    not_until_origin b e q (Next a f) k n = absurd n
    not_until_origin true e q (Until f p g) k (inl v) = said_origin F f k v
    not_until_origin false e q (Until f p g) k (inl v) = subst (Origin i x S) (sym v) tt
    not_until_origin b e q (Until f p g) k (inr v) = said_origin F g k v.1

    gives_origin : (b : Bool) (c k : Claim) → Closure d x (chosen s D d i) S c → Gives d x b c k → Origin i x S k
    gives_origin b (form t e) k j v = form_origin b t (form_at d e) k v
    gives_origin b (until_true e q l) k j v = until_origin b e q l (form_at d e) k j v
    gives_origin b (until_false e q) k j v = not_until_origin b e q (form_at d e) k v
    gives_origin b (step_true e q l) k j n = absurd n
    gives_origin b (step_false e q) k j n = absurd n

    given_origin : ((e q l : ℕ) → S (step_true e q l) → ⊥) → (c : Claim) → S c → Origin i x S c
    given_origin n (form t e) h = tt
    given_origin n (until_true e q l) h = inl h
    given_origin n (step_true e q l) h = absurd (n e q l h)
    given_origin n (until_false e q) h = tt
    given_origin n (step_false e q) h = tt

    origin : ((e q l : ℕ) → S (step_true e q l) → ⊥) → {k : Claim} → Closure d x (chosen s D d i) S k → Origin i x S k
    origin n (given {c = c} h) = given_origin n c h
    origin n (made {c = c} {k = k} j g) = gives_origin (chosen s D d i c) c k j g

  -- the expansion of a finite set of true claims
  pub record Expanded (i x : ℕ) (S : Claim → Type 0) : Type 0 where
    pub claims : Claim → Bool
    pub set : Finite (λ c. claims c ≡ true)
    pub expands : Expansion d (s i).action x S claims
    pub hold : (c : Claim) → claims c ≡ true → Holds s D d i c
    pub steps : (e q l : ℕ) → claims (step_true e q l) ≡ true → claims (until_true e q l) ≡ true
    pub untils : (e q l : ℕ) → claims (until_true e q l) ≡ true → S (until_true e q l) ⊎ (l ≡ 1 - x)

  module _ (wf : WellFormed d) where
    pub expand : (i x : ℕ) (S : Claim → Type 0) → Finite S → ((c : Claim) → S c → Holds s D d i c) → ((e q l : ℕ) → S (step_true e q l) → ⊥) → Expanded i x S
    expand i x S f h n = record {
      claims = N;
      set = finite_iff C (λ c. N c ≡ true) into out all;
      expands = record { choice = chosen s D d i; holds = into; least = out; no_clash = clash_free s D d wf i N (λ c e. closure_holds s D d wf i x h (out c e)) };
      hold = λ c e. closure_holds s D d wf i x h (out c e);
      steps = λ e q l m. into (until_true e q l) (origin i x S n (out (step_true e q l) m));
      untils = λ e q l m. origin i x S n (out (until_true e q l) m);
    }
      where
        C : Claim → Type 0
        C = Closure d x (chosen s D d i) S

        all : Finite C
        all = finite_closure d wf x D.final (chosen s D d i) S f

        N : Claim → Bool
        N c = is_yes (finite_dec C claim_discrete all c)

        into : (c : Claim) → C c → N c ≡ true
        into c j = to_yes (finite_dec C claim_discrete all c) j

        out : (c : Claim) → N c ≡ true → C c
        out c e = from_yes (finite_dec C claim_discrete all c) e
