-- Lines and fields of a text.
use Rattle.std.specs.Prelude.{ℕ, cond, List, [], ◌∷◌, ◌==◌}

-- a byte in front of the first piece
abbrev pub put_first : ℕ → List (List ℕ) → List (List ℕ)
put_first x [] = (x ∷ []) ∷ []
put_first x (p ∷ ps) = (x ∷ p) ∷ ps

-- the pieces between the places where the byte b stands: one more than there are such places
abbrev pub pieces : ℕ → List ℕ → List (List ℕ)
pieces b [] = [] ∷ []
pieces b (x ∷ xs) = cond (x == b) ([] ∷ pieces b xs) (put_first x (pieces b xs))

-- the fields of a line are parted by tabs
abbrev pub fields : List ℕ → List (List ℕ)
fields line = pieces 9 line
