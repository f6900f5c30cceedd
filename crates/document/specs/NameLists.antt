-- The names that a list in memory holds.
use Rattle.std.specs.Prelude.{ℕ, List, map, take}
use Rattle.program.specs.Names.{spelled}
use Rattle.program.specs.declared.name.Name.{Name}

-- the first of these names, so many, as bytes
abbrev pub spellings : ℕ → List Name → List (List ℕ)
spellings count list = map spelled (take count list)
