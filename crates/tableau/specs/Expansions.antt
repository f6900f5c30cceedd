-- Expansions of a list of claims, and the walk along the trail that reaches them.
use Rattle.std.specs.Prelude.{◌≡◌, ℕ, ◌+◌, ◌<◌, ◌≤◌, Bool, true, List, length, Option, MatchOption, slice_index}
use Rattle.document.specs.Documents.{Document}
use Rattle.document.specs.declared.declared.Declared.{Declared}
use Rattle.tableau.specs.Claims.{has, Same}
use Rattle.tableau.specs.Calculus.{Calculus, calculus, ListsGiven, Fine}
use Rattle.tableau.specs.Numbers.{Shows}
use Rattle.tableau.specs.Walk.{grown}
use Rattle.tableau.specs.declared.claims.ClaimSet.{ClaimSet}

-- the least set that has the claims of the start and, with each claim, what that gives by the alternative chosen for it
pub data NumberClosure (m : Calculus) (start : List ℕ) (choice : ℕ → Bool) : ℕ → Type 0 where
  from_start : {c : ℕ} → has start c ≡ true → NumberClosure m start choice c
  from_claim : {c y : ℕ} → NumberClosure m start choice c → m.gives c (choice c) y → NumberClosure m start choice y

pub record NumberExpansion (m : Calculus) (start : List ℕ) (N : ℕ → Bool) : Type 0 where
  pub choice : ℕ → Bool
  pub within : (c : ℕ) → N c ≡ true → NumberClosure m start choice c
  pub whole : (c : ℕ) → NumberClosure m start choice c → N c ≡ true
  pub fine : Fine m N

-- from the cursor i and the trail t the walk comes to an end with the trail u
pub data Reaches (m : Calculus) : ℕ → List ℕ → List ℕ → Type 0 where
  ends : {i : ℕ} {t : List ℕ} → length t ≤ i → Reaches m i t t
  turns : {i : ℕ} {t u : List ℕ} (b : Bool) (xs : List ℕ) → ListsGiven m (slice_index t i) b xs → i < length t → Reaches m (i + 1) (grown t xs) u → Reaches m i t u

-- N is reached with no clash
abbrev pub Reached : Calculus → ℕ → List ℕ → (ℕ → Bool) → Type 0
Reached m i t N = (u : List ℕ) × Reaches m i t u × Fine m (has u) × Same N (has u)

-- what each of the first i claims of t gives by the choice is in t
abbrev pub Done : Calculus → (ℕ → Bool) → ℕ → List ℕ → Type 0
Done m choice i t = (j : ℕ) → j < i → (y : ℕ) → m.gives (slice_index t j) (choice (slice_index t j)) y → has t y ≡ true

-- N is an expansion of t by a choice that fits the first i claims
abbrev pub Leads : Calculus → ℕ → List ℕ → (ℕ → Bool) → Type 0
Leads m i t N = (e : NumberExpansion m t N) × Done m e.choice i t

-- no set without a clash has all claims of t
abbrev pub Stuck : Calculus → List ℕ → Type 0
Stuck m t = (N : ℕ → Bool) → Fine m N → ((c : ℕ) → has t c ≡ true → N c ≡ true) → ⊥

-- what adding the claims xs to claims t that do not clash answers: that the whole clashes, or not
abbrev pub Adding : Declared → ℕ → List ℕ → List ℕ → Option ClaimSet → Type 0
Adding held x t xs r = (d : Document) → Shows held d → Fine (calculus d x) (has t) → MatchOption r (Stuck (calculus d x) (grown t xs)) (λ _. Fine (calculus d x) (has (grown t xs)))
