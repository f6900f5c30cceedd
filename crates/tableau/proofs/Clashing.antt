-- When a claim clashes with one of a set.
use Rattle.std.proofs.Common.{◌≡◌, ℕ, Bool, true, false, cond, not, ◌⊎◌, Decides, sym, refl, subst, inl, inr, arith}
use Rattle.std.proofs.lemmas.Bool.{both_ways}
use Rattle.document.specs.Documents.{Document, form_at}
use Rattle.document.specs.declared.form.Form.{Form}
use Rattle.document.specs.declared.form.Form.TheVariants.{True, Prop}
use Rattle.tableau.specs.Calculus.{ClashesWith}
use Rattle.tableau.specs.Graphs.{Sign.T, Sign.F, form, until_true, until_false, step_true, step_false}
use Rattle.tableau.specs.Numbers.{number_of, ClaimOf}
use Rattle.tableau.specs.Successions.{Claims}

-- the propositions of two forms
pub same_prop : (f : Form) (p q : ℕ) → f ≡ Prop p → f ≡ Prop q → p ≡ q
same_prop f p q a b = cc

-- the set has F of this form, or of one of the same proposition
pub true_clash : (d : Document) (N : ℕ → Bool) (e : ℕ) → ClashesWith d N (form T e) → (N (number_of d (form F e)) ≡ true) ⊎ ((p : ℕ) × (h : ℕ) × (form_at d e ≡ Prop p) × Claims d N (form F h) × (form_at d h ≡ Prop p))
true_clash d N e (form T h, own, m, inl a) = absurd a
true_clash d N e (form F h, own, m, inl a) = absurd a
true_clash d N e (until_true h q l, own, m, inl a) = absurd a
true_clash d N e (until_false h q, own, m, inl a) = absurd a
true_clash d N e (step_true h q l, own, m, inl a) = absurd a
true_clash d N e (step_false h q, own, m, inl a) = absurd a
true_clash d N e (form T h, own, m, inr a) = absurd a
true_clash d N e (form F h, own, inr m, inr a) = absurd (let z : ◌≡◌ {A = ℕ} 0 1 = cc in omega arith)
true_clash d N e (form F h, own, inl m, inr (inl a)) = inl (subst (λ v. N (number_of d (form F v)) ≡ true) (sym a) m)
true_clash d N e (form F h, own, inl m, inr (inr (p, a, b))) = inr (p, h, a, (own, m), b)
true_clash d N e (until_true h q l, own, m, inr a) = absurd a
true_clash d N e (until_false h q, own, m, inr a) = absurd a
true_clash d N e (step_true h q l, own, m, inr a) = absurd a
true_clash d N e (step_false h q, own, m, inr a) = absurd a

-- the form is `true`, or the set has T of this form, or of one of the same proposition
pub false_clash : (d : Document) (N : ℕ → Bool) (e : ℕ) → ClashesWith d N (form F e) → (form_at d e ≡ True) ⊎ (N (number_of d (form T e)) ≡ true) ⊎ ((p : ℕ) × (h : ℕ) × (form_at d e ≡ Prop p) × Claims d N (form T h) × (form_at d h ≡ Prop p))
false_clash d N e (form T h, own, inr m, inl a) = absurd (let z : ◌≡◌ {A = ℕ} 0 1 = cc in omega arith)
false_clash d N e (form T h, own, inl m, inl (inl a)) = inr (inl (subst (λ v. N (number_of d (form T v)) ≡ true) a m))
false_clash d N e (form T h, own, inl m, inl (inr (p, a, b))) = inr (inr (p, h, b, (own, m), a))
false_clash d N e (form F h, own, m, inl (a, t)) = inl (subst (λ v. form_at d v ≡ True) a t)
false_clash d N e (until_true h q l, own, m, inl a) = absurd a
false_clash d N e (until_false h q, own, m, inl a) = absurd a
false_clash d N e (step_true h q l, own, m, inl a) = absurd a
false_clash d N e (step_false h q, own, m, inl a) = absurd a
false_clash d N e (form T h, own, m, inr a) = absurd a
false_clash d N e (form F h, own, m, inr (a, t)) = inl t
false_clash d N e (until_true h q l, own, m, inr a) = absurd a
false_clash d N e (until_false h q, own, m, inr a) = absurd a
false_clash d N e (step_true h q l, own, m, inr a) = absurd a
false_clash d N e (step_false h q, own, m, inr a) = absurd a

-- a `true` form
pub truth_clash : (d : Document) (N : ℕ → Bool) (e : ℕ) (sign : Bool) → ClaimOf d (form (cond sign T F) e) → form_at d e ≡ True → N (number_of d (form (cond (not sign) T F) e)) ≡ false → Decides (not sign) (ClashesWith d N (form (cond sign T F) e))
truth_clash d N e true own t none = (
  λ h. absurd (both_ways false refl h),
  λ k. absurd (elim (true_clash d N e k) [ inl h ↦ both_ways _ none h | inr (p, h, a, b, q) ↦ let z : ◌≡◌ {A = ℕ} 0 1 = cc in omega arith ]),
)
truth_clash d N e false own t none = (λ h. (form F e, own, inr refl, inl (refl, t)), λ k. refl)

-- any other form
pub other_clash : (d : Document) (N : ℕ → Bool) (e : ℕ) (sign : Bool) → (form_at d e ≡ True → ⊥) → ((p : ℕ) → form_at d e ≡ Prop p → ⊥) → N (number_of d (form (cond (not sign) T F) e)) ≡ false → ClashesWith d N (form (cond sign T F) e) → ⊥
other_clash d N e true t p none k = elim (true_clash d N e k) [ inl h ↦ both_ways _ none h | inr (q, h, a, b, c) ↦ p q a ]
other_clash d N e false t p none k = elim (false_clash d N e k) [ inl h ↦ t h | inr (inl h) ↦ both_ways _ none h | inr (inr (q, h, a, b, c)) ↦ p q a ]
