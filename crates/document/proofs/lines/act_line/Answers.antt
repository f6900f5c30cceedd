use Rattle.std.proofs.Common.{◌∷◌, ◌++◌, [], refl, ap, ◌∙◌, subst}
use Rattle.document.specs.Kept.{names_of}
use Rattle.document.specs.Told.{NameTaken, NameRefused, Declares}
use Rattle.document.proofs.Lined.{act_fault, act_done}
use Rattle.document.proofs.Refused.{refused}
use Rattle.document.proofs.lines.act_line.Goals as goal

pub returns-in_err-name : goal.returns-in_err-name
returns-in_err-name c = λ w d h.
    let s = c.args.declared in
    let bytes = c.args.line.now in
    let f = c.in_err-name.field-0.0 in
    refused (Declares d bytes) d bytes c.from_residual.result f f c.from_residual.ensures.1 refl
    (act_fault s bytes w f (subst (λ v. NameRefused (names_of v) v.count 16 bytes f) c.acts.ensures.is c.in_err-name.ensures) d h)

pub returns : goal.returns
returns c = λ w d h.
    let s = c.args.declared in
    let bytes = c.args.line.now in
    let t = subst (λ v. NameTaken (names_of v) v.count 16 bytes c.in_ok-name.name) c.acts.ensures.is c.in_ok-name.ensures in
    act_done s bytes w c.with_act.result t.0 t.1 t.3 t.4 (c.with_act.ensures.acts ∙ ap (λ n. names_of s.acts ++ n ∷ []) t.2) c.with_act.ensures.rest d h
