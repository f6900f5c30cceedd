-- What the alternatives of a claim may be.
use Rattle.std.specs.Prelude.{ℕ, ◌≤◌, List, [], ◌∷◌, length}
use Rattle.tableau.specs.declared.rules.Few.{Few}
use Rattle.tableau.specs.declared.rules.Few.TheVariants.{Single, Pair}
use Rattle.tableau.specs.declared.rules.Alternatives.{Alternatives}
use Rattle.tableau.specs.declared.rules.Alternatives.TheVariants.{Nothing, One, Two}

-- the claims of a few
abbrev pub listed : Few → List ℕ
listed (Single a) = a ∷ []
listed (Pair a b) = a ∷ b ∷ []

-- each alternative has at most two claims
abbrev pub Small : Alternatives → Type 0
Small Nothing = Unit {0}
Small (One f) = length (listed f) ≤ 2
Small (Two f h) = (length (listed f) ≤ 2) × (length (listed h) ≤ 2)
