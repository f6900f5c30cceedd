-- The names that are kept of one kind.
use Rattle.std.specs.Prelude.{ℕ, List}
use Rattle.document.specs.NameLists.{spellings}
use Rattle.document.specs.declared.names.Names.{Names}

-- the names, in order, as bytes
abbrev pub names_of : Names → List (List ℕ)
names_of n = spellings n.count n.list
