use Rattle.std.proofs.Common.{Decides, subst}
use Rattle.std.proofs.lemmas.Bool.Decides.{Decides-like}
use Rattle.tableau.specs.Calculus.{ClashesWith}
use Rattle.tableau.specs.Claims.{member}
use Rattle.tableau.specs.Meant.{meant}
use Rattle.tableau.specs.Numbers.{Shows}
use Rattle.tableau.specs.declared.told.Told.{Told}
use Rattle.tableau.proofs.rules.Rules.clashes.Goals as goal
use Rattle.tableau.proofs.Offering.{clash_number}

pub returns-in-Some : goal.returns-in-Some
returns-in-Some c = λ d s.
    let k = c.in-Some.ensures d s in
    let n = clash_number d c.args.self.phase c.args.c (member c.args.set.words) (meant c.in-Some.claim) k.0 k.1 in
    let decides = subst (λ (t : Told). Shows t.declared.now d → Decides c.clashes_claim.result (ClashesWith d (member t.set.words) (meant c.in-Some.claim))) c.told.ensures (λ shown. c.clashes_claim.ensures d shown k.0) in
    Decides-like c.clashes_claim.result n.0 n.1 (decides s)
