use Rattle.std.proofs.Common.{◌≡◌, length, length-take, sym, refl, ◌∙◌, subst, inl, inr, ⊎_elim, arith}
use Rattle.std.proofs.lemmas.Option.{same_Some, none-some}
use Rattle.document.specs.Faults.{line_fault_code}
use Rattle.lasso.specs.DeclaredNames.{acts_of, props_of}
use Rattle.document.specs.Texts.{pieces}
use Rattle.document.specs.declared.declared.Declared.{Declared}
use Rattle.lasso.specs.LassoLines.{FirstFault}
use Rattle.lasso.specs.Scans.{at_fault, refused, Scans, scan_code, scan_line}
use Rattle.lasso.specs.Tallies.{Surveyed}
use Rattle.lasso.specs.declared.scan.ScanFault.{ScanFault}
use Rattle.lasso.specs.declared.scan.ScanFault.TheVariants.{Line}
use Rattle.lasso.specs.declared.step.Step.{Step}
use Rattle.lasso.proofs.Fills.{filled_front}
use Rattle.lasso.proofs.Options.{nothing}
use Rattle.lasso.proofs.StepLines.{exit_at}
use Rattle.lasso.proofs.TextLaws.{scan_not, scan_room, scan_taken, tallied_too}
use Rattle.lasso.proofs.scan.scan.Goals as goal

pub returns-in_err-seen-clause-outcome : goal.returns-in_err-seen-clause-outcome
returns-in_err-seen-clause-outcome c =
    let at = c.in_err-seen.field-0.0 in
    let f = subst (λ (d : Declared). FirstFault (acts_of d) (props_of d) 1 (pieces 10 c.args.text.now) (line_fault_code at.fault) at.line) c.declared-declared.ensures c.in_err-seen.ensures in
    exit_at c.from_residual.result (Line at) _ _ c.from_residual.ensures.1 (at_fault f, refl)

pub returns-in_err-stem-clause-outcome : goal.returns-in_err-stem-clause-outcome
returns-in_err-stem-clause-outcome c =
    let d = c.args.document.now.declared in
    let t = c.in_ok-seen.seen in
    let text = c.args.text.now in
    let before = c.args.steps.now in
    let v = subst (λ (d : Declared). Surveyed (acts_of d) (props_of d) text t) c.declared-declared.ensures c.in_ok-seen.ensures in
    let n = nothing t.stem _ _ c.in_err-stem.ensures.value in
    let P : ScanFault → Type 0 = λ f. Scans (acts_of d) (props_of d) text (length before) (refused (scan_code f) (scan_line f)) × (before ≡ before) in
    exit_at c.from_residual-in_err-stem.result c.in_err-stem.field-0.0 _ _ c.from_residual-in_err-stem.ensures.1
    (subst P (sym n.1) (scan_not (acts_of d) (props_of d) text (length before) t v (λ k e. absurd (none-some _ (sym n.0 ∙ e))), refl))

pub returns-then-stem-seen-clause-outcome : goal.returns-then-stem-seen-clause-outcome
returns-then-stem-seen-clause-outcome c =
    let d = c.args.document.now.declared in
    let t = c.in_ok-seen.seen in
    let v = subst (λ (d : Declared). Surveyed (acts_of d) (props_of d) c.args.text.now t) c.declared-declared.ensures c.in_ok-seen.ensures in (
      scan_not (acts_of d) (props_of d) c.args.text.now (length c.args.steps.now) t v
          (λ k e.
          let s : c.in_ok-stem.stem ≡ k = same_Some _ _ (sym c.in_ok-stem.ensures.ok_part ∙ e) in
          ⊎_elim (λ x. inl (omega arith)) (λ x. inr x.1) c.then-stem-seen.either),
      refl,
    )

pub returns-then-seen-steps-clause-outcome : goal.returns-then-seen-steps-clause-outcome
returns-then-seen-steps-clause-outcome c =
    let d = c.args.document.now.declared in
    let t = c.in_ok-seen.seen in
    let v = subst (λ (d : Declared). Surveyed (acts_of d) (props_of d) c.args.text.now t) c.declared-declared.ensures c.in_ok-seen.ensures in (
      scan_room (acts_of d) (props_of d) c.args.text.now (length c.args.steps.now) t v c.in_ok-stem.stem c.in_ok-stem.ensures.ok_part
          c.if-stem-seen.false c.if-seen-gt-MOST_STEPS.false c.if-seen-steps.true,
      refl,
    )

pub returns-clause-outcome : goal.returns-clause-outcome
returns-clause-outcome c =
    let d = c.args.document.now.declared in
    let t = c.in_ok-seen.seen in
    let before = c.args.steps.now in
    let v = subst (λ (d : Declared). Surveyed (acts_of d) (props_of d) c.args.text.now t) c.declared-declared.ensures c.in_ok-seen.ensures in
    let fills = (rw c.declared-declared.ensures at c.fill.ensures) v.0 v.1 (omega (arith, v.2.steps, length-take {A = Step})) in
    let w : Surveyed (acts_of d) (props_of d) c.args.text.now t =
    (fills.0, fills.1, tallied_too (acts_of d) (props_of d) c.args.text.now t v fills.0 fills.1) in
    scan_taken (acts_of d) (props_of d) c.args.text.now (length before) t w c.in_ok-stem.stem c.in_ok-stem.ensures.ok_part c.if-stem-seen.false
    c.if-seen-gt-MOST_STEPS.false before _ refl c.if-seen-steps.false
    (filled_front fills.0 _ before c.fill.new.steps (omega (arith, w.2.steps, length-take {A = Step})) fills.2)
