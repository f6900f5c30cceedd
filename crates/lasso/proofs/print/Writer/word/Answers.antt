use Rattle.std.proofs.Common.{refl, arith}
use Rattle.lasso.proofs.Written.{wrote_more}
use Rattle.lasso.proofs.print.Writer.word.Goals as goal

pub loop-byte-preserved : goal.loop-byte-preserved
loop-byte-preserved c = wrote_more c.args.word.now c.loop-byte.byte-index (omega arith) c.loop-byte.invariant _ refl c.byte.ensures
