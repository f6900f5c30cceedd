use Rattle.tableau.specs.Meant.{meant}
use Rattle.tableau.proofs.rules.Rules.alternatives.Goals as goal
use Rattle.tableau.proofs.Offering.{offered_offers}

pub returns-in-Some-clause-offers : goal.returns-in-Some-clause-offers
returns-in-Some-clause-offers c = λ d s.
    let k = c.in-Some.ensures d s in
    offered_offers d c.args.self.phase c.args.c (meant c.in-Some.claim) c.of_claim.result k.0 k.1 (c.of_claim.ensures d s k.0)
