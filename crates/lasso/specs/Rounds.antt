-- The states of an until's automaton, found step by step on a lasso: by the automaton as it lies in memory, and by words of truths, of which bit e is form e.
use Rattle.std.specs.Prelude.{◌≡◌, ℕ, ◌+◌, ◌<◌, ◌≤◌, Bool, true, cond, ◌⊎◌, ◌↔◌, List, length, nat_lt, slice_index}
use Rattle.program.specs.Masks.{Bit, cell}
use Rattle.program.specs.declared.automaton.Automaton.{Automaton}
use Rattle.lasso.specs.Lassos.{step_in}
use Rattle.lasso.specs.Sessions.{bit_of}
use Rattle.lasso.specs.declared.step.Step.{Step}

-- the step after step i, of n
abbrev pub next_place : ℕ → ℕ → ℕ → ℕ
next_place n stem i = cond (nat_lt (i + 1) n) (i + 1) stem

-- whether form e is entered as true at step i
abbrev pub tells : List ℕ → ℕ → ℕ → Bool
tells truths i e = bit_of (slice_index truths i) e

-- the action leads from state q to state n
abbrev pub LeadsBy : Automaton → ℕ → ℕ → ℕ → Type 0
LeadsBy a q action n = (q < a.states) × (action < 16) × Bit (cell a.next q action) n

-- where g holds the final states are entered, and where f holds those that lead to a state of the step after
abbrev pub Enters : Automaton → ℕ → Bool → Bool → ℕ → ℕ → Type 0
Enters a action f g next q = ((g ≡ true) × Bit a.finals q) ⊎ ((f ≡ true) × ((n : ℕ) × LeadsBy a q action n × Bit next n))

-- the same at step i, for the forms f and g
abbrev pub EntersAt : Automaton → List Step → List ℕ → ℕ → ℕ → ℕ → ℕ → ℕ → Type 0
EntersAt a steps truths f g i next q = Enters a (step_in steps i).action (tells truths i f) (tells truths i g) next q

-- the states of each step from which a way leads to a final state where g holds, through steps where f holds
pub data Reaches (a : Automaton) (steps : List Step) (stem : ℕ) (truths : List ℕ) (f g : ℕ) : ℕ → ℕ → Type 0 where
  ends : {i q : ℕ} → tells truths i g ≡ true → Bit a.finals q → Reaches a steps stem truths f g i q
  goes : {i q n : ℕ} → tells truths i f ≡ true → LeadsBy a q (step_in steps i).action n
      → Reaches a steps stem truths f g (next_place (length steps) stem i) n → Reaches a steps stem truths f g i q

-- from the last step back to step i, each step's states anew from those of the step after
pub record Rounded (a : Automaton) (steps : List Step) (stem : ℕ) (truths : List ℕ) (f g : ℕ) (old : List ℕ) (i : ℕ) (new : List ℕ) : Type 0 where
  pub kept : (k : ℕ) → k < i → slice_index new k ≡ slice_index old k
  pub small : (k : ℕ) → i ≤ k → k < length steps → slice_index new k < 65536
  pub inner : (k q : ℕ) → i ≤ k → k + 1 < length steps → Bit (slice_index new k) q ↔ EntersAt a steps truths f g k (slice_index new (k + 1)) q
  pub last : (k q : ℕ) → i ≤ k → k + 1 ≡ length steps → Bit (slice_index new k) q ↔ EntersAt a steps truths f g k (slice_index old stem) q
