-- The code, the line and the column of a fault.
use Rattle.std.specs.Prelude.{ℕ}
use Rattle.program.specs.declared.fault.ProgramFault.{ProgramFault}
use Rattle.program.specs.declared.fault.ProgramFault.TheVariants.{Malformed, Undeclared, TooMany}
use Rattle.document.specs.declared.fault.LineFault.{LineFault}
use Rattle.document.specs.declared.fault.LineFault.TheVariants.{Shape, Program, Naming, Limit, Order}
use Rattle.document.specs.declared.fault.LoadFault.{LoadFault}
use Rattle.document.specs.declared.fault.LoadFault.TheVariants.{TooLong, Line}

-- 3: malformed; 4: an action is not declared; 5: above 15 names
abbrev pub program_fault_code : ProgramFault → ℕ
program_fault_code (Malformed c) = 3
program_fault_code Undeclared = 4
program_fault_code TooMany = 5

abbrev pub program_fault_column : ProgramFault → ℕ
program_fault_column (Malformed c) = c
program_fault_column Undeclared = 0
program_fault_column TooMany = 0

-- 2: shape; 4: names; 5: limits; 6: the goal's place
abbrev pub line_fault_code : LineFault → ℕ
line_fault_code Shape = 2
line_fault_code (Program f) = program_fault_code f
line_fault_code Naming = 4
line_fault_code Limit = 5
line_fault_code Order = 6

abbrev pub line_fault_column : LineFault → ℕ
line_fault_column Shape = 0
line_fault_column (Program f) = program_fault_column f
line_fault_column Naming = 0
line_fault_column Limit = 0
line_fault_column Order = 0

-- 1: too long, with line 0
abbrev pub load_fault_code : LoadFault → ℕ
load_fault_code TooLong = 1
load_fault_code (Line f) = line_fault_code f.fault

abbrev pub load_fault_line : LoadFault → ℕ
load_fault_line TooLong = 0
load_fault_line (Line f) = f.line

abbrev pub load_fault_column : LoadFault → ℕ
load_fault_column TooLong = 0
load_fault_column (Line f) = line_fault_column f.fault
