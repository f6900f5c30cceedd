-- The row of a program.
use Rattle.std.specs.Prelude.{◌≡◌, ℕ, ◌+◌, ◌<◌, ◌≤◌, length, slice_index}
use Rattle.program.specs.Words.{Program}
use Rattle.program.specs.Automata.{names, nullable, First, Last, Follow}
use Rattle.program.specs.Masks.{Marks}
use Rattle.program.specs.declared.row.Row.{Row}

-- a row says of at most 15 names which they are, and which can begin, end and follow
pub record RowOf (p : Program) (row : Row) : Type 0 where
  pub count : row.names ≡ length (names p)
  pub few : length (names p) ≤ 15
  pub acts : (k : ℕ) → k < length (names p) → slice_index row.actions (k + 1) ≡ slice_index (names p) k
  pub empty : row.nullable ≡ nullable p
  pub begins : Marks row.first (First p 1)
  pub ends : Marks row.last (Last p 1)
  pub goes_on : (m : ℕ) → m < 16 → Marks (slice_index row.follow m) (Follow p 1 m)
