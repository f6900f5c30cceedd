-- Formulas of the logic. Actions and propositions are numbers.
use Rattle.std.specs.Prelude.{ℕ}
use Rattle.program.specs.Words.{Program}

-- true; a proposition; not, and, or; after this action, at the next step; and the until of a program: along some word of
-- the program the first formula holds at each step, and the second where the word ends
pub data Formula : Type 0 where
  truth : Formula
  prop : ℕ → Formula
  not : Formula → Formula
  and or : Formula → Formula → Formula
  next : ℕ → Formula → Formula
  until : Formula → Program → Formula → Formula
