use Rattle.std.proofs.Common.{sym, subst}
use Rattle.tableau.specs.Expansions.{Adding}
use Rattle.tableau.specs.Offers.{listed}
use Rattle.tableau.specs.Walk.{on}
use Rattle.tableau.specs.declared.rules.Few.{Few}
use Rattle.tableau.proofs.rules.Rules.add_few.Goals as goal

pub returns-in-Pair-clause-fine : goal.returns-in-Pair-clause-fine
returns-in-Pair-clause-fine c = subst (λ (v : Few). Adding c.args.self.declared.now c.args.self.phase (on c.args.trail.now) (listed v) c.add-in-Pair.result) (sym c.in-Pair.is) c.add-in-Pair.ensures.fine
