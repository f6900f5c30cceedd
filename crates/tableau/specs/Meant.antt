-- The claim that a claim in memory means.
use Rattle.tableau.specs.Graphs.{Sign.T, Sign.F, Claim, form, until_true, until_false, step_true, step_false}
use Rattle.tableau.specs.declared.claim.Claim.{Claim as Held}
use Rattle.tableau.specs.declared.claim.Claim.TheVariants.{True, False, TrueUntil, FalseUntil, TrueStep, FalseStep}

abbrev pub meant : Held → Claim
meant (True e) = form T e
meant (False e) = form F e
meant (TrueUntil e q l) = until_true e q l
meant (FalseUntil e q) = until_false e q
meant (TrueStep e q l) = step_true e q l
meant (FalseStep e q) = step_false e q
