use Rattle.tableau.specs.Meant.{meant}
use Rattle.tableau.proofs.claim.number.Goals as goal
use Rattle.tableau.proofs.Numbering.{number_fits}

pub returns : goal.returns
returns c = λ d s k.
    number_fits c.args.declared.now d s (meant c.args.claim) k c.speaks_of.result c.base-base.result c.place_in.result
    c.speaks_of.ensures c.base-base.ensures.is (c.place_in.ensures.is d s k)
