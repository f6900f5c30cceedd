-- What adding claims does to a set without a clash.
use Rattle.std.proofs.Common.{◌≡◌, ℕ, zero, suc, ◌<◌, true, false, eqb, ◌⊎◌, List, [], ◌∷◌, ◌++◌, length, get_or, take, sym, refl, ◌∙◌, subst, inl, inr}
use Rattle.std.proofs.lemmas.Bool.{eq-eqb, eqb-true, both_ways, or_cases, or_left, or_right}
use Rattle.tableau.specs.Claims.{member, has, Same}
use Rattle.tableau.specs.Calculus.{Calculus, Fine, Clashing}
use Rattle.tableau.specs.Walk.{grown}
use Rattle.tableau.specs.Expansions.{Stuck}
use Rattle.tableau.proofs.Lists.{has_push, has_at, grown_old, grown_new, grown_cases}

has_take : (xs : List ℕ) (k a : ℕ) → has (take k xs) a ≡ true → has xs a ≡ true
has_take [] zero a h = h
has_take [] (suc k) a h = h
has_take (x ∷ xs) zero a h = absurd (both_ways false refl h)
has_take (x ∷ xs) (suc k) a h = elim (or_cases (eqb x a) (has (take k xs) a) h) [ inl e ↦ or_left _ _ e | inr e ↦ or_right _ _ (has_take xs k a e) ]

-- a claim that clashes with what was added before it
pub stuck_clash : (m : Calculus) (t t₀ xs ws : List ℕ) (k : ℕ) → k < length xs → t ≡ grown t₀ (take k xs) → Same (member ws) (has t) → Clashing m (member ws) (get_or xs k 0) → Stuck m (grown t₀ xs)
stuck_clash m t t₀ xs ws k lt e same (a, old, c) N fine sub =
    let x = get_or xs k 0 in
    let nx : N x ≡ true = sub x (grown_new t₀ xs x (has_at xs k lt)) in
    let na : N a ≡ true = elim (or_cases _ _ old) [
      | inl p ↦ elim (grown_cases t₀ (take k xs) a (subst (λ v. has v a ≡ true) e (sym (same a) ∙ p))) [
        | inl q ↦ sub a (grown_old t₀ xs a q)
        | inr q ↦ sub a (grown_new t₀ xs a (has_take xs k a q))
      ]
      | inr p ↦ subst (λ v. N v ≡ true) (sym (eqb-true a x p)) nx
    ] in
    fine a x na nx c

-- a claim that clashes with none
pub fine_push : (m : Calculus) (ws t : List ℕ) (x : ℕ) → Same (member ws) (has t) → (Clashing m (member ws) x → ⊥) → Fine m (has t) → Fine m (has (t ++ x ∷ []))
fine_push m ws t x same clear fine a b ha hb c =
    let split : (a : ℕ) → has (t ++ x ∷ []) a ≡ true → (has t a ≡ true) ⊎ (x ≡ a) = λ a h. elim (or_cases (has t a) (eqb x a) (sym (has_push t x a) ∙ h)) [ inl e ↦ inl e | inr e ↦ inr (eqb-true x a e) ] in
    let off : (a : ℕ) → has t a ≡ true → m.clash a x → ⊥ = λ a h d. clear (a, or_left _ _ (same a ∙ h), d) in
    let own : m.clash x x → ⊥ = λ d. clear (x, or_right _ _ (eq-eqb x x refl), d) in
    elim (split a ha) [
      | inl p ↦ elim (split b hb) [
        | inl q ↦ fine a b p q c
        | inr q ↦ off a p (subst (m.clash a) (sym q) c)
      ]
      | inr p ↦ elim (split b hb) [
        | inl q ↦ off b q (m.back x b (subst (λ v. m.clash v b) (sym p) c))
        | inr q ↦ own (subst (m.clash x) (sym q) (subst (λ v. m.clash v b) (sym p) c))
      ]
    ]

pub fine_none : (m : Calculus) → Fine m (has [])
fine_none m a b p = absurd (both_ways false refl p)
