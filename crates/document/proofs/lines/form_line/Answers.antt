use Rattle.std.proofs.Common.{◌+◌, ◌<◌, ◌≤◌, [], ◌∷◌, ◌++◌, ap, ◌∙◌, subst, arith}
use Rattle.program.specs.Spellings.{Missing}
use Rattle.document.specs.Forms.{weight_in}
use Rattle.document.specs.Kept.{names_of}
use Rattle.document.specs.Declaring.{KnownName}
use Rattle.document.specs.Told.{Declares}
use Rattle.document.specs.declared.fault.LineFault.TheVariants.{Shape, Naming, Limit}
use Rattle.document.proofs.FormLines.{form_shape, form_known, form_unknown, form_full, form_heavy, form_done}
use Rattle.document.proofs.Refused.{refused, at_both}
use Rattle.document.proofs.lines.form_line.Goals as goal

pub returns-in_err-kind : goal.returns-in_err-kind
returns-in_err-kind c = λ w d h.
    refused (Declares d c.args.line.now) d c.args.line.now c.from_residual.result c.in_err-kind.field-0.0 Shape c.from_residual.ensures.1
    c.in_err-kind.ensures.0 (form_shape c.args.declared c.args.line.now w d c.in_err-kind.ensures.1)

pub returns-in_err-unused : goal.returns-in_err-unused
returns-in_err-unused c = λ w d h.
    let s = c.args.declared in
    let bytes = c.args.line.now in
    let head = c.in_ok-kind.ensures in
    refused (Declares d bytes) d bytes c.from_residual-in_err-unused.result c.in_err-unused.field-0.0 Naming
    c.from_residual-in_err-unused.ensures.1 c.in_err-unused.ensures.0
    (form_known s bytes w c.in_ok-kind.kind head.0
    (at_both KnownName (ap names_of c.forms.ensures.is) (c.as_bytes.ensures.is ∙ head.1) c.in_err-unused.ensures.1)
    d h)

pub returns-in_err-form : goal.returns-in_err-form
returns-in_err-form c = λ w d h.
    let bytes = c.args.line.now in
    let t = c.in_err-form.ensures.told d h in
    refused (Declares d bytes) d bytes c.from_residual-in_err-form.result c.in_err-form.field-0.0 Naming c.from_residual-in_err-form.ensures.1 t.0
    (form_unknown c.args.declared bytes w c.in_ok-kind.kind c.in_ok-kind.ensures.0 d t.1)

pub returns-in_err-room : goal.returns-in_err-room
returns-in_err-room c = λ w d h.
    let s = c.args.declared in
    let bytes = c.args.line.now in
    let head = c.in_ok-kind.ensures in
    refused (Declares d bytes) d bytes c.from_residual-in_err-room.result c.in_err-room.field-0.0 Limit c.from_residual-in_err-room.ensures.1
    c.in_err-room.ensures.0
    (form_full s bytes w c.in_ok-kind.kind head.0 c.in_ok-form.form c.in_ok-form.ensures.told
    (at_both Missing (ap names_of c.forms.ensures.is) (c.as_bytes.ensures.is ∙ head.1) c.in_ok-unused.ensures)
    (subst (λ v. 64 ≤ v.count) c.forms-2.ensures.is c.in_err-room.ensures.1) d h)

pub returns-then-weight-weight_of-gt256 : goal.returns-then-weight-weight_of-gt256
returns-then-weight-weight_of-gt256 c = λ w d h.
    let s = c.args.declared in
    let head = c.in_ok-kind.ensures in
    let heavy : 256 < s.weight + weight_in s.rows c.in_ok-form.form = omega (arith, c.weight.ensures.is, c.weight_of.ensures.is) in
    form_heavy s c.args.line.now w c.in_ok-kind.kind head.0 c.in_ok-form.form c.in_ok-form.ensures.told c.in_ok-form.ensures.earlier
    (at_both Missing (ap names_of c.forms.ensures.is) (c.as_bytes.ensures.is ∙ head.1) c.in_ok-unused.ensures)
    heavy d h

pub returns : goal.returns
returns c = λ w d h.
    let s = c.args.declared in
    let bytes = c.args.line.now in
    let head = c.in_ok-kind.ensures in
    let f = c.in_ok-form.form in
    let few : s.forms.count < 64 = subst (λ v. v.count < 64) c.forms-2.ensures.is c.in_ok-room.ensures in
    let light : s.weight + weight_in s.rows f ≤ 256 = omega (arith, c.weight.ensures.is, c.weight_of.ensures.is) in
    form_done s bytes w c.in_ok-kind.kind head.0 f c.in_ok-form.ensures.told c.in_ok-form.ensures.earlier
    (at_both Missing (ap names_of c.forms.ensures.is) (c.as_bytes.ensures.is ∙ head.1) c.in_ok-unused.ensures)
    c.with_form.result few light c.with_form.ensures.count (c.with_form.ensures.forms ∙ ap (λ n. names_of s.forms ++ n ∷ []) head.1)
    c.with_form.ensures.line c.with_form.ensures.weight c.with_form.ensures.rest d h
