use Rattle.std.proofs.Common.{◌∙◌}
use Rattle.document.specs.Told.{Declares}
use Rattle.document.specs.declared.fault.LineFault.TheVariants.{Shape}
use Rattle.document.proofs.FormLines.{unknown_word}
use Rattle.document.proofs.Refused.{refused}
use Rattle.document.proofs.lines.declaration.Goals as goal

pub returns-in_err-try_from : goal.returns-in_err-try_from
returns-in_err-try_from c = λ w d h.
    refused (Declares d c.args.line.now) d c.args.line.now c.from_residual.result c.in_err-try_from.field-0.0 Shape c.from_residual.ensures.1
    c.in_err-try_from.ensures.0 (unknown_word d c.args.line.now (λ k e. c.in_err-try_from.ensures.1 k (c.field.ensures ∙ e)))
