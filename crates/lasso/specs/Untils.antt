-- The until of a program, from a state of its automaton.
use Rattle.std.specs.Prelude.{ℕ, ◌+◌, ◌<◌}
use Rattle.program.specs.Words.{Program}
use Rattle.program.specs.Automata.{Accepts}
use Rattle.document.specs.Formulas.{Formula}
use Rattle.lasso.specs.Readings.{Reading, actions, Truth}

-- along some word that leads from state q to a final one, f holds at each step, and g where the word ends
abbrev pub UntilFrom : Reading → ℕ → Formula → Program → ℕ → Formula → Type 0
UntilFrom s i f p q g = (m : ℕ) × Accepts p q (actions s i m) × Truth s (i + m) g × ((k : ℕ) → k < m → Truth s (i + k) f)
