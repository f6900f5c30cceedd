-- Sessions read for ever, and truth at their steps.
use Rattle.std.specs.Prelude.{◌≡◌, ℕ, zero, suc, ◌+◌, ◌-◌, ◌%◌, ◌<◌, Bool, true, false, cond, ◌⊎◌, List, [], ◌∷◌, length, get_or, nat_lt, slice_index_or}
use Rattle.program.specs.Words.{Words}
use Rattle.document.specs.Formulas.{Formula, truth, prop, not, and, or, next, until}
use Rattle.document.specs.Documents.{Document, goal_formula}

-- a step of a session: the state, the action done there, and which propositions hold
pub record Moment : Type 0 where
  pub state : ℕ
  pub action : ℕ
  pub marks : ℕ → Bool

-- a session read for ever: what stands at each step
abbrev pub Reading : Type 0
Reading = ℕ → Moment

-- the actions of the m steps read onward from step i
abbrev pub actions : Reading → ℕ → ℕ → List ℕ
actions s i zero = []
actions s i (suc m) = (s i).action ∷ actions s (suc i) m

-- truth at step i
abbrev pub Truth : Reading → ℕ → Formula → Type 0
Truth s i truth = Unit {0}
Truth s i (prop p) = (s i).marks p ≡ true
Truth s i (not f) = Truth s i f → ⊥
Truth s i (and f g) = Truth s i f × Truth s i g
Truth s i (or f g) = Truth s i f ⊎ Truth s i g
Truth s i (next a f) = ((s i).action ≡ a) × Truth s (suc i) f
Truth s i (until f p g) = (m : ℕ) × Words p (actions s i m) × Truth s (i + m) g × ((k : ℕ) → k < m → Truth s (i + k) f)

-- a list of steps that runs into a loop: step `stem` follows the last
pub record Lasso : Type 0 where
  pub steps : List Moment
  pub stem : ℕ
  pub short : stem < length steps

-- where step i, read onward, stands in a list of n steps with this stem
abbrev pub place_of : ℕ → ℕ → ℕ → ℕ
place_of n stem i = cond (nat_lt i n) i (stem + (i - stem) % (n - stem))

abbrev pub place : Lasso → ℕ → ℕ
place l i = place_of (length l.steps) l.stem i

-- the reading of a lasso; the first argument stands where there is no step, which is nowhere
abbrev pub read : Moment → Lasso → Reading
read d l i = slice_index_or l.steps (place l i) d

abbrev pub blank_moment : Moment
blank_moment = record { state = 0; action = 0; marks = λ p. false }

-- a lasso meets the goal of a document
abbrev pub Meets : Document → Lasso → Type 0
Meets d l = Truth (read blank_moment l) 0 (goal_formula d)

-- a lasso of a document: declared actions, states up to 4,095, declared propositions alone
pub record LassoOf (d : Document) (l : Lasso) : Type 0 where
  pub declared_actions : (i : ℕ) → i < length l.steps → (get_or l.steps i blank_moment).action < d.acts
  pub states : (i : ℕ) → i < length l.steps → (get_or l.steps i blank_moment).state < 4096
  pub declared_marks : (i p : ℕ) → i < length l.steps → (get_or l.steps i blank_moment).marks p ≡ true → p < d.props
