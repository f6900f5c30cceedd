-- The two parts of a lasso.
use Rattle.std.specs.Prelude.{Bool, true, false}
use Rattle.lasso.specs.declared.part.Part.{Part}
use Rattle.lasso.specs.declared.part.Part.TheVariants.{Stem, Loop}

abbrev pub is_stem : Part → Bool
is_stem Stem = true
is_stem Loop = false
