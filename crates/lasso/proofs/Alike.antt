-- Truth hangs on the actions and marks from a step on.
use Rattle.std.proofs.Common.{◌≡◌, ℕ, zero, suc, ◌+◌, ◌<◌, ◌↔◌, List, ◌∷◌, sym, refl, ap, ◌∙◌, subst, ap₂, inl, inr, add-zero, add_assoc, add-suc, suc-add}
use Rattle.program.specs.Words.{Words}
use Rattle.document.specs.Formulas.{Formula, truth, prop, not, and, or, next, until}
use Rattle.lasso.specs.Readings.{Reading, actions, Truth}
use Rattle.lasso.specs.TruthLaws.{TruthAlike}

-- reading s from i on looks like reading t from j on
abbrev pub Alike : Reading → ℕ → Reading → ℕ → Type 0
Alike s i t j = (k : ℕ) → ((s (i + k)).action ≡ (t (j + k)).action) × ((p : ℕ) → (s (i + k)).marks p ≡ (t (j + k)).marks p)

pub alike_sym : (s t : Reading) (i j : ℕ) → Alike s i t j → Alike t j s i
alike_sym s t i j a k = (sym (a k).0, λ p. sym ((a k).1 p))

pub same_steps : (s : Reading) (i : ℕ) (t : Reading) (j : ℕ) → ((k : ℕ) → s (i + k) ≡ t (j + k)) → Alike s i t j
same_steps s i t j h k = (ap (λ x. x.action) (h k), λ p. ap (λ x. x.marks p) (h k))

pub alike_on : (s t : Reading) (i j : ℕ) → Alike s i t j → (m : ℕ) → Alike s (i + m) t (j + m)
alike_on s t i j a m k = simp add_assoc (a (m + k))

pub alike_suc : (s t : Reading) (i j : ℕ) → Alike s i t j → Alike s (suc i) t (suc j)
alike_suc s t i j a k = simp (suc-add, ← add-suc) (a (suc k))

pub alike_here : (s t : Reading) (i j : ℕ) → Alike s i t j → ((s i).action ≡ (t j).action) × ((p : ℕ) → (s i).marks p ≡ (t j).marks p)
alike_here s t i j a = simp add-zero at (a 0)

pub alike_actions : (s t : Reading) (i j : ℕ) → Alike s i t j → (m : ℕ) → actions s i m ≡ actions t j m
alike_actions s t i j a zero = refl
alike_actions s t i j a (suc m) = ap₂ ◌∷◌ (alike_here s t i j a).0 (alike_actions s t (suc i) (suc j) (alike_suc s t i j a) m)

carry : (f : Formula) (s t : Reading) (i j : ℕ) → Alike s i t j → Truth s i f → Truth t j f
carry truth s t i j a h = tt
carry (prop p) s t i j a h = sym ((alike_here s t i j a).1 p) ∙ h
carry (not f) s t i j a h = λ x. h (carry f t s j i (alike_sym s t i j a) x)
carry (and f g) s t i j a h = (carry f s t i j a h.0, carry g s t i j a h.1)
carry (or f g) s t i j a (inl h) = inl (carry f s t i j a h)
carry (or f g) s t i j a (inr h) = inr (carry g s t i j a h)
carry (next b f) s t i j a h = (sym (alike_here s t i j a).0 ∙ h.0, carry f s t (suc i) (suc j) (alike_suc s t i j a) h.1)
carry (until f p g) s t i j a (m, w, x, y) = (
  m,
  subst (Words p) (alike_actions s t i j a m) w,
  carry g s t (i + m) (j + m) (alike_on s t i j a m) x,
  λ k l. carry f s t (i + k) (j + k) (alike_on s t i j a k) (y k l),
)

pub truth_like : (f : Formula) (s t : Reading) (i j : ℕ) → Alike s i t j → Truth s i f ↔ Truth t j f
truth_like f s t i j a = (carry f s t i j a, carry f t s j i (alike_sym s t i j a))

pub truth_alike : TruthAlike
truth_alike s t h f i = truth_like f s t i i (λ k. h (i + k))

-- the same for what an until asks, whatever its words
pub carry_until : (W : List ℕ → Type 0) (f g : Formula) (s t : Reading) (i j : ℕ) → Alike s i t j → (m : ℕ)
    → W (actions s i m) × Truth s (i + m) g × ((k : ℕ) → k < m → Truth s (i + k) f)
    → W (actions t j m) × Truth t (j + m) g × ((k : ℕ) → k < m → Truth t (j + k) f)
carry_until W f g s t i j a m (w, x, y) = (
  subst W (alike_actions s t i j a m) w,
  carry g s t (i + m) (j + m) (alike_on s t i j a m) x,
  λ k l. carry f s t (i + k) (j + k) (alike_on s t i j a k) (y k l),
)
