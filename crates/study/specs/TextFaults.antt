-- The code and the line of a refused lasso text, and what a scan's fault is.
use Rattle.std.specs.Prelude.{ℕ}
use Rattle.document.specs.Faults.{line_fault_code}
use Rattle.study.specs.Refusals.{refusal_code}
use Rattle.lasso.specs.declared.scan.ScanFault.{ScanFault}
use Rattle.lasso.specs.declared.scan.ScanFault.TheVariants as scan
use Rattle.study.specs.declared.refusal.Refusal.TheVariants.{NotLasso, Places}
use Rattle.study.specs.declared.refusal.TextFault.{TextFault}
use Rattle.study.specs.declared.refusal.TextFault.TheVariants.{Refused, Line}

abbrev pub text_code : TextFault → ℕ
text_code (Refused f) = refusal_code f
text_code (Line f) = line_fault_code f.fault

abbrev pub text_line : TextFault → ℕ
text_line (Refused f) = 0
text_line (Line f) = f.line

abbrev pub text_fault : ScanFault → TextFault
text_fault (scan.Line at) = Line at
text_fault scan.NotLasso = Refused NotLasso
text_fault scan.Places = Refused Places
