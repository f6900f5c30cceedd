use Rattle.std.proofs.Common.{arith}
use Rattle.tableau.proofs.Words.{words_apart, words_same}
use Rattle.tableau.proofs.claims.ClaimSet.same.Goals as goal

pub returns-then-word-other : goal.returns-then-word-other
returns-then-word-other c = words_apart c.args.self.now.words c.args.other.now.words c.loop-k.k (omega arith) (omega arith) c.if-word-other.true

pub returns : goal.returns
returns c = words_same c.args.self.now.words c.args.other.now.words (omega arith) (omega arith) (λ j h. c.loop-k.invariant j (omega arith))
