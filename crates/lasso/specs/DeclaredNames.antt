-- The names that a document in memory declares.
use Rattle.std.specs.Prelude.{ℕ, List}
use Rattle.document.specs.Kept.{names_of}
use Rattle.document.specs.declared.declared.Declared.{Declared}

-- the names of actions, by their numbers
abbrev pub acts_of : Declared → List (List ℕ)
acts_of d = names_of d.acts

-- the names of propositions, by their numbers
abbrev pub props_of : Declared → List (List ℕ)
props_of d = names_of d.props
