use Rattle.std.proofs.Common.{◌≤◌, List, length}
use Rattle.lasso.specs.DeclaredNames.{acts_of, props_of}
use Rattle.document.specs.Texts.{pieces}
use Rattle.lasso.specs.LassoLines.{AllRead}
use Rattle.lasso.specs.declared.scan.StepLine.{StepLine}
use Rattle.lasso.proofs.Fills.{Going}
use Rattle.lasso.proofs.scan.fill.Given as goal

abbrev pub invariant-loop-place : goal.invariant-loop-place
invariant-loop-place l = (ss : List StepLine) → AllRead (acts_of l.declared) (props_of l.declared) (pieces 10 l.text) ss → length ss ≤ length l.initial.steps
    → Going (acts_of l.declared) (props_of l.declared) l.text l.lines.left.now (length ss) l.place-index l.initial.steps l.steps
