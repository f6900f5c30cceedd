use Rattle.std.proofs.Common.{◌≡◌, ◌+◌, sym, subst, rules}
use Rattle.document.specs.Faults.{line_fault_code}
use Rattle.document.specs.Texts.{pieces}
use Rattle.document.specs.declared.fault.LineAt.{LineAt}
use Rattle.lasso.specs.DeclaredNames.{acts_of, props_of}
use Rattle.lasso.specs.LassoLines.{FirstFault}
use Rattle.lasso.proofs.Options.{must_err, must_ok}
use Rattle.lasso.proofs.StepLines.{exit_at}
use Rattle.lasso.proofs.Surveys.{passed_refused, passed_more, passed_all}
use Rattle.lasso.proofs.scan.survey.Goals as goal

pub returns-in_err-read : goal.returns-in_err-read
returns-in_err-read c =
    let acts = acts_of c.args.declared.now in
    let props = props_of c.args.declared.now in
    let f = must_err _ _ c.read_next.result c.in_err-read.ensures.cases (λ x e. cc) in
    let is : c.in_err-read.field-0.0 ≡ record { line = c.loop-line.seen.steps + 1; fault = f.0 } = search rules in
    let h = rw f.1 at c.read_next.ensures in
    let P : LineAt → Type 0 = λ at. FirstFault acts props 1 (pieces 10 c.args.text.now) (line_fault_code at.fault) at.line in
    exit_at c.from_residual.result c.in_err-read.field-0.0 _ _ c.from_residual.ensures.1
    (subst P (sym is) (passed_refused acts props c.args.text.now c.loop-line.line-iterator.left.now c.next.new.self.left.now c.loop-line.seen c.loop-line.invariant.2
    c.in-Some.line c.in-Some.ensures.steps (line_fault_code f.0) h))

pub loop-line-preserved : goal.loop-line-preserved
loop-line-preserved c =
    let e = must_ok _ _ c.read_next.result c.in_ok-read.ensures.cases (λ x e. e) in
    let same : e.0 ≡ c.in_ok-read.read = cc in
    let h = rw (e.1, same) at c.read_next.ensures in (
      tt,
      tt,
      passed_more (acts_of c.args.declared.now) (props_of c.args.declared.now) c.args.text.now c.loop-line.line-iterator.left.now c.next.new.self.left.now
          c.loop-line.seen c.loop-line.invariant.2 c.in-Some.line c.in-Some.ensures.steps c.in_ok-read.read h c.with-seen.result c.with-seen.ensures.is c.with-seen.ensures.steps,
    )

pub returns : goal.returns
returns c =
    passed_all (acts_of c.args.declared.now) (props_of c.args.declared.now) c.args.text.now c.loop-line.line-iterator.left.now c.loop-line.seen
    c.in-None.ensures.steps.0 c.loop-line.invariant.2
