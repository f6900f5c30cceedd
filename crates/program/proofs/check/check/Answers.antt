use Rattle.std.proofs.Common.{◌+◌, sym, ap, ◌∙◌, subst, arith}
use Rattle.program.specs.Steps.{stepped}
use Rattle.program.specs.Text.{FaultAt}
use Rattle.program.proofs.Columns.{goes_more, ends_whole, ends_early, ends_refused}
use Rattle.program.proofs.check.check.Goals as goal
use Rattle.program.proofs.check.check.Goals.{then-at-text+else-is_whole as at-the-end, else-at-text+in-None as at-a-byte}

pub read-preserved : goal.read-preserved
read-preserved c = (
  omega arith,
  goes_more c.args.text.now c.read.at c.read.prefix c.in-Some.next (omega arith) c.read.invariant.1
      (ap (stepped c.read.prefix) (sym c.from.ensures) ∙ sym c.step.ensures ∙ c.in-Some.is),
)

pub returns-then-is_whole : goal.returns-then-is_whole
returns-then-is_whole c =
    ends_whole c.args.text.now c.read.at c.read.prefix (omega arith) c.read.invariant.1 (sym c.is_whole.ensures ∙ c.if-is_whole.true)

pub returns : goal.returns
returns c =
    let text = c.args.text.now in
    elim c.if-at-text.branch [
      | at-the-end w ↦
          subst (λ v. FaultAt text (v + 1)) (sym w.end-is)
          (ends_early text c.read.at c.read.prefix c.read.invariant.0 w.if-at-text.true c.read.invariant.1 (sym w.is_whole.ensures ∙ w.if-is_whole.false))
      | at-a-byte w ↦
          subst (λ v. FaultAt text (v + 1)) (sym w.end-is)
          (ends_refused text c.read.at c.read.prefix w.if-at-text.false c.read.invariant.1
          (ap (stepped c.read.prefix) (sym w.from.ensures) ∙ sym w.step.ensures ∙ w.in-None.is))
    ]
