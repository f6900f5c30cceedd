-- The code of each refusal.
use Rattle.std.specs.Prelude.{ℕ}
use Rattle.study.specs.declared.refusal.Refusal.{Refusal}
use Rattle.study.specs.declared.refusal.Refusal.TheVariants.{Blank, Incomplete, Places, Pairs, NoStates, NotLasso, TextRoom}

abbrev pub refusal_code : Refusal → ℕ
refusal_code Blank = 7
refusal_code Incomplete = 8
refusal_code Places = 9
refusal_code Pairs = 10
refusal_code NoStates = 11
refusal_code NotLasso = 12
refusal_code TextRoom = 13
