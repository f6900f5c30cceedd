use Rattle.std.proofs.Common.{◌≡◌, ◌+◌, ◌<◌, ◌≤◌, length, ap, ◌∙◌, arith, below_more}
use Rattle.document.specs.Documents.{form_at, weight_of}
use Rattle.document.specs.Forms.{base_in, form_in, weight_in}
use Rattle.document.specs.declared.form.Form.{Form}
use Rattle.tableau.specs.Meant.{meant}
use Rattle.tableau.proofs.claim.claim_of.Goals as goal
use Rattle.tableau.proofs.claim.claim_of.Goals.{else-base-number-via-then-base-number+else-number-base, else-base-number-via-else-base-number}
use Rattle.tableau.proofs.Numbering.{count_read, numbered, unnumbered, form_held}

pub returns-then-number-base : goal.returns-then-number-base
returns-then-number-base c = λ d s.
    let e = c.loop-e.e in
    let held = c.args.declared.now in
    let end = count_read c.count-e-end.ensures.is c.forms.ensures.is in
    let n = s.count in
    let few = s.good.few_forms in
    let l : e < length d.forms = omega arith in
    let there : e < held.forms.count = omega arith in
    let first : c.base-base.result ≡ base_in held.lines e = c.base-base.ensures.is (omega arith) in
    let w : c.weight_of.result ≡ weight_of d.progs (form_at d e) = c.weight_of.ensures.is ∙ ap (λ (f : Form). weight_in held.rows f) (c.form-form.ensures.is there) ∙ form_held held d s e l in
    numbered held d s e c.args.c c.base-base.result (meant c.claim_in.result) l first c.if-base-number.true (c.claim_in.ensures d s l (omega arith))

pub loop-e-preserved : goal.loop-e-preserved
loop-e-preserved c =
    let e = c.loop-e.e in
    let held = c.args.declared.now in
    let end = count_read c.count-e-end.ensures.is c.forms.ensures.is in
    let first : c.base-base.result ≡ base_in held.lines e = c.base-base.ensures.is (omega arith) in
    let there : e < held.forms.count = omega arith in
    below_more
    (λ h. base_in c.args.declared.now.lines h ≤ c.args.c → c.args.c < base_in c.args.declared.now.lines h + weight_in c.args.declared.now.rows (form_in c.args.declared.now.lines h) → ⊥)
    c.loop-e.e c.loop-e.invariant
    (λ low high. elim c.else-base-number.branch [
      | else-base-number-via-then-base-number+else-number-base w ↦
          let weighs : w.weight_of.result ≡ weight_in held.rows (form_in held.lines e) = w.weight_of.ensures.is ∙ ap (λ (f : Form). weight_in held.rows f) (c.form-form.ensures.is there) in
          omega arith
      | else-base-number-via-else-base-number w ↦ omega arith
    ])

pub returns : goal.returns
returns c = λ d s k own is.
    let end = count_read c.count-e-end.ensures.is c.forms.ensures.is in
    let n = s.count in
    unnumbered c.args.declared.now d s c.args.c k own is (λ h l. c.loop-e.invariant h (omega arith))
