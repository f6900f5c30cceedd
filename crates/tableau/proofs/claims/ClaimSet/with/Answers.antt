use Rattle.std.proofs.Common.{arith}
use Rattle.tableau.proofs.Words.{word_with}
use Rattle.tableau.proofs.claims.ClaimSet.with.Goals as goal

pub returns : goal.returns
returns c x = word_with c.args.self.words c.args.c x (omega arith) (omega arith)
