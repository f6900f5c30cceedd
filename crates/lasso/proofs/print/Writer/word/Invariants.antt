use Rattle.std.proofs.Common.{take}
use Rattle.lasso.specs.Written.{Wrote}
use Rattle.lasso.proofs.print.Writer.word.Given as goal

abbrev pub invariant-loop-byte : goal.invariant-loop-byte
invariant-loop-byte l = Wrote l.initial.self l.self (take l.byte-index l.word)
