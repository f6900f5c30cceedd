-- The automaton of a program as a table of masks, over actions below 16.
use Rattle.std.specs.Prelude.{◌≡◌, ℕ, ◌+◌, ◌<◌, ◌↔◌, List, [], ◌∷◌, length}
use Rattle.std.specs.List.{AllByRecursion}
use Rattle.program.specs.Words.{Program, Words}
use Rattle.program.specs.Automata.{names, Leads, Final}
use Rattle.program.specs.Masks.{Bit, cell}

-- the table has the steps and the final states of the program's automaton
pub record AutomatonOf (p : Program) (states : ℕ) (next : List (List ℕ)) (finals : ℕ) : Type 0 where
  pub count : states ≡ length (names p) + 1
  pub leads : (q c n : ℕ) → c < 16 → Bit (cell next q c) n ↔ Leads p q c n
  pub ends : (q : ℕ) → Bit finals q ↔ Final p q

-- the table leads from state q, by the word, to a final state
abbrev pub Accepted : List (List ℕ) → ℕ → ℕ → List ℕ → Type 0
Accepted next finals q [] = Bit finals q
Accepted next finals q (c ∷ w) = (n : ℕ) × Bit (cell next q c) n × Accepted next finals n w

-- from state 0 it accepts exactly the program's words
abbrev pub AcceptsWordsOf : Program → List (List ℕ) → ℕ → Type 0
AcceptsWordsOf p next finals = (w : List ℕ) → AllByRecursion (λ c. c < 16) w → Accepted next finals 0 w ↔ Words p w
