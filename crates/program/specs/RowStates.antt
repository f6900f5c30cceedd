-- The states of a row's automaton.
use Rattle.std.specs.Prelude.{ℕ, ◌+◌, cond, nat_lt}
use Rattle.program.specs.declared.row.Row.{Row}

-- one for each name after state 0, at most 16
abbrev pub states_in : Row → ℕ
states_in row = cond (nat_lt row.names 16) (row.names + 1) 16
