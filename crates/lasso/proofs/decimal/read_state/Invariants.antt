use Rattle.std.proofs.Common.{◌≡◌, take}
use Rattle.std.specs.List.{AllByRecursion}
use Rattle.lasso.proofs.Decimals.{number, Digit}
use Rattle.lasso.proofs.decimal.read_state.Given as goal

abbrev pub invariant-loop-b : goal.invariant-loop-b
invariant-loop-b l = (l.value ≡ number 0 (take l.b-index l.field)) × AllByRecursion Digit (take l.b-index l.field)
