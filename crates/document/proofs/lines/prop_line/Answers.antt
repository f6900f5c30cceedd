use Rattle.std.proofs.Common.{◌∷◌, ◌++◌, [], refl, ap, ◌∙◌, subst}
use Rattle.document.specs.Kept.{names_of}
use Rattle.document.specs.Told.{NameTaken, NameRefused, Declares}
use Rattle.document.proofs.Lined.{prop_fault, prop_done}
use Rattle.document.proofs.Refused.{refused}
use Rattle.document.proofs.lines.prop_line.Goals as goal

pub returns-in_err-name : goal.returns-in_err-name
returns-in_err-name c = λ w d h.
    let s = c.args.declared in
    let bytes = c.args.line.now in
    let f = c.in_err-name.field-0.0 in
    refused (Declares d bytes) d bytes c.from_residual.result f f c.from_residual.ensures.1 refl
    (prop_fault s bytes w f (subst (λ v. NameRefused (names_of v) v.count 16 bytes f) c.props.ensures.is c.in_err-name.ensures) d h)

pub returns : goal.returns
returns c = λ w d h.
    let s = c.args.declared in
    let bytes = c.args.line.now in
    let t = subst (λ v. NameTaken (names_of v) v.count 16 bytes c.in_ok-name.name) c.props.ensures.is c.in_ok-name.ensures in
    prop_done s bytes w c.with_prop.result t.0 t.1 t.3 t.4 (c.with_prop.ensures.props ∙ ap (λ n. names_of s.props ++ n ∷ []) t.2) c.with_prop.ensures.rest d h
