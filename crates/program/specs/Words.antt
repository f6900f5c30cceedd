-- Programs of actions, and their words. An action is a number.
use Rattle.std.specs.Prelude.{◌≡◌, ℕ, zero, suc, ◌⊎◌, List, [], ◌∷◌, ◌++◌}

-- an action, one of two, one after another, and any number of times
pub data Program : Type 0 where
  act : ℕ → Program
  either : Program → Program → Program
  seq : Program → Program → Program
  star : Program → Program

-- the words made of i words of a set, one after another
abbrev pub Power : (List ℕ → Type 0) → ℕ → List ℕ → Type 0
Power P zero w = w ≡ []
Power P (suc i) w = (u : List ℕ) × (v : List ℕ) × P u × Power P i v × (w ≡ u ++ v)

-- the words of a program
abbrev pub Words : Program → List ℕ → Type 0
Words (act a) w = w ≡ a ∷ []
Words (either p r) w = Words p w ⊎ Words r w
Words (seq p r) w = (u : List ℕ) × (v : List ℕ) × Words p u × Words r v × (w ≡ u ++ v)
Words (star p) w = (i : ℕ) × Power (Words p) i w
