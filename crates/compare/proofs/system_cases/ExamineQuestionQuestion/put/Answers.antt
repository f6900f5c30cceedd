use Rattle.std.proofs.Common.{◌≡◌, List, Option, None, Result, Ok, Err, IfOk, ◌∙◌, subst}
use Rattle.lasso.specs.declared.step.Step.{Step}
use Rattle.search.specs.Lasso.{Searches}
use Rattle.search.specs.declared.found.Found.{Found}
use Rattle.study.specs.Goals.{pairs, pair_step}
use Rattle.study.specs.Served.{Loaded}
use Rattle.study.specs.Standing.{stands}
use Rattle.study.specs.declared.study.Study.{Study}
use Rattle.system.specs.TransitionGraph.{TransitionGraph}
use Rattle.tableau.specs.declared.node.Used.{Used}
use Rattle.compare.specs.Tabled.{ExamineSays}
use Rattle.compare.specs.declared.answer.How.TheVariants as how
use Rattle.compare.specs.declared.answer.Settled.{Settled}
use Rattle.compare.specs.declared.fault.Fault.{Fault}
use Rattle.compare.proofs.system_cases.ExamineQuestionQuestion.put.Goals as goal

module _ (study : Study) (graph : TransitionGraph) (used : Used) (found : Option Found) (before after : List Step) where
  -- where none is said, nothing was found
  says : (r : Result Settled Fault) → IfOk r (λ s. (s.used ≡ used) × (s.how ≡ how.None → found ≡ None)) → used ≡ study.grown.used
      → Loaded study.document (λ d. Searches (pairs (stands study d) graph) (pair_step (stands study d) graph) before after found) → ExamineSays study graph r
  says (Ok s) h u e =
      let none : s.how ≡ how.None → Searches (pairs (stands study e.0) graph) (pair_step (stands study e.0) graph) before after None =
      λ n. subst (λ (f : Option Found). Searches (pairs (stands study e.0) graph) (pair_step (stands study e.0) graph) before after f) (h.1 n) e.2 in
      (h.0 ∙ u, λ n. (e.0, e.1, (none n).0))
  says (Err f) h u e = tt

pub returns : goal.returns
returns g c =
    says c.args.self.study.now (g.S.System.meaning c.args.system) c.used.result c.in_ok-found.found c.args.self.steps.now c.examine.new.steps c.settled.result
    c.settled.ensures c.used.ensures c.in_ok-found.ensures.settles
