use Rattle.std.proofs.Common.{rules, ℕ, List, length, map, MatchOption, Option, Some, None}
use Rattle.program.specs.Names.{spelled, Absent, Number}
use Rattle.program.specs.Spellings.{Missing, NumberIn}
use Rattle.program.specs.declared.name.Name.{Name}
use Rattle.program.proofs.Spellings.{missing_in, number_in}
use Rattle.program.proofs.name.find.Goals as goal

-- what was found, by the bytes of the names
found_in : (names : List Name) (bs : List ℕ) (r : Option ℕ) → MatchOption r (Absent names (length names) bs) (Number names bs)
    → MatchOption r (Missing (map spelled names) bs) (NumberIn (map spelled names) bs)
found_in names bs None h = missing_in names bs h
found_in names bs (Some i) h = number_in names bs i h

pub returns-clause-by_bytes : goal.returns-clause-by_bytes
returns-clause-by_bytes c = found_in c.args.names.now c.args.field.now c.position.result (search rules)
