-- The marks of a line, read name by name.
use Rattle.std.specs.Prelude.{◌≡◌, ℕ, ◌+◌, ◌^◌, ◌<◌, ◌≤◌, Some, None, ◌⊎◌, List, [], length, ◌≢◌, bit_or, slice_index_or}
use Rattle.std.specs.List.{AllByRecursion}
use Rattle.std.specs.Option.{option_map}
use Rattle.program.specs.Names.{Named}
use Rattle.program.specs.Spellings.{Missing, NumberIn}
use Rattle.lasso.specs.LassoTexts.{marked, joined}
use Rattle.lasso.specs.LassoLines.{Ordered}
use Rattle.lasso.specs.declared.scan.Marks.{Marks}

-- a well-formed name is added: one that is not declared, or a proposition that comes after those before
abbrev pub AddsMark : List (List ℕ) → List ℕ → Marks → Marks → Type 0
AddsMark props name old new =
    Named name
    × ((Missing props name × (new ≡ record { mask = None; floor = old.floor }))
    ⊎ ((p : ℕ) × NumberIn props name p × (old.floor ≤ p) × (new ≡ record { mask = option_map (λ m. bit_or m (2 ^ p)) old.mask; floor = p + 1 })))

-- a name that is malformed, or a proposition that does not come after those before
abbrev pub RefusesMark : List (List ℕ) → List ℕ → Marks → Type 0
RefusesMark props name old = (Named name → ⊥) ⊎ ((p : ℕ) × NumberIn props name p × (p < old.floor))

-- these names in this order: declared, and then the mask stands for them, or not all declared
pub record MarksRead (props names : List (List ℕ)) (m : Marks) : Type 0 where
  pub named : AllByRecursion Named names
  pub ordered : Ordered props names
  pub known : (v : ℕ) → m.mask ≡ Some v → (marked props 0 v ≡ names) × (v < 2 ^ length props)
  pub unknown : m.mask ≡ None → (i : ℕ) × (i < length names) × Missing props (slice_index_or names i [])

-- the field is no names in order, joined by commas, and no dash
abbrev pub NoMarks : List (List ℕ) → List ℕ → Type 0
NoMarks props field = (names : List (List ℕ)) → AllByRecursion Named names → Ordered props names → field ≢ joined names
