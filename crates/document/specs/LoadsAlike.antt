-- What comes of a text is said twice: in Outcomes a name stands for any place where it is declared, in Coming for the first
-- such place. The names of a kind are all different as far as lines are taken, so a name has one place at most, and both say
-- the same of every text.
use Rattle.std.specs.Prelude.{ℕ, ◌↔◌, List}
use Rattle.document.specs.Outcomes.{Outcome, Loads}
use Rattle.document.specs.Coming.{LoadsByFirst}

-- the law: whether names are found by their place or by their first place, a text has the same outcome
abbrev pub LoadsAlike : Type 0
LoadsAlike = (text : List ℕ) (o : Outcome) → Loads text o ↔ LoadsByFirst text o
