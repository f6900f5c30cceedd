use Rattle.std.proofs.Common.{ℕ, List, Decides, sym, ap, ◌∙◌, subst, arith}
use Rattle.std.proofs.lemmas.Bool.{and_parts, ltb-true}
use Rattle.std.proofs.lemmas.Bool.Decides.{Decides-at}
use Rattle.document.specs.Documents.{Document, WellFormed, formula_at}
use Rattle.document.specs.Represents.{Represents}
use Rattle.document.specs.declared.document.Document.{Document as Held}
use Rattle.lasso.specs.Judged.{Judges}
use Rattle.lasso.specs.Lassos.{IsLasso, step_in}
use Rattle.lasso.specs.Readings.{Truth}
use Rattle.lasso.specs.Sessions.{reading}
use Rattle.lasso.specs.declared.step.Step.{Step}
use Rattle.lasso.proofs.Alike.{truth_alike}
use Rattle.lasso.proofs.Decided.{truth_decided}
use Rattle.lasso.proofs.Meetings.{meets_alike}
use Rattle.lasso.proofs.Truths.{judged_tells}
use Rattle.lasso.proofs.judge.judge.Goals as goal

judges : (held : Held) (steps : List Step) (stem : ℕ) → IsLasso held.declared.acts.count held.declared.props.count steps stem
    → (d : Document) → Represents held d → WellFormed d → Judges held.declared steps d
judges held steps stem lasso d same good = record {
  good = good;
  lines = same.lines;
  count = same.forms;
  rows = same.rows;
  low = λ i l.
      let b = ltb-true (step_in steps i).action held.declared.acts.count (and_parts _ _ (lasso.declared i l)).0 in
      omega (arith, same.acts, good.few_acts);
}

pub loop-e-preserved : goal.loop-e-preserved
loop-e-preserved c d J = c.judge_form.ensures d J (c.loop-e.invariant d J)

pub returns : goal.returns
returns c = record {
  decides = λ d same good.
      let steps = c.args.lasso.steps.now in
      let J = subst (λ held. Judges held steps d) (sym c.declared-declared.ensures) (judges c.args.document.now steps c.args.lasso.stem c.requires.lasso d same good) in
      let all = c.count-e-end.ensures.is ∙ ap (λ x. x.count) c.forms.ensures.is ∙ ap (λ x. x.forms.count) c.declared-declared.ensures in
      let t =
      judged_tells d steps c.args.lasso.stem c.loop-e.e 0 c.loop-e.truths (c.loop-e.invariant d J) c.goal.result 0
      (omega (arith, c.loop-e-test.false, c.goal.ensures.aimed)) (omega arith) in
      subst (λ (e : ℕ). Decides c.has.result (Truth (reading steps c.args.lasso.stem) 0 (formula_at d e))) (c.goal.ensures.is ∙ same.goal)
      (Decides-at c.has.result _ c.has.ensures t);
  laws = (truth_decided, (truth_alike, meets_alike));
}
