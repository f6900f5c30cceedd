use Rattle.std.proofs.Common.{◌≡◌, [], ◌∷◌, get_or, ap, ◌∙◌, arith}
use Rattle.document.specs.Kept.{names_of}
use Rattle.document.specs.declared.names.Names.{Names}
use Rattle.lasso.specs.DeclaredNames.{acts_of, props_of}
use Rattle.lasso.specs.LassoTexts.{decimal, joined, marked}
use Rattle.lasso.proofs.Decimals.{digits_decimal}
use Rattle.lasso.proofs.Written.{wrote_then, wrote_as}
use Rattle.lasso.proofs.print.Writer.step.Goals as goal

pub returns-clause-wrote : goal.returns-clause-wrote
returns-clause-wrote c low known =
    let s = c.args.step in
    let acts = acts_of c.args.declared.now in
    let props = props_of c.args.declared.now in
    let same : c.acts.result.now ≡ c.args.declared.now.acts = c.acts.ensures.is in
    let count = ap (λ (n : Names). n.count) same in
    let name = c.at.ensures (omega (arith, count)) ∙ ap (λ (n : Names). get_or (names_of n) s.action []) same in
    let marks = ap (λ (n : Names). joined (marked (names_of n) 0 s.marks)) c.props.ensures.is in
    wrote_then
    (wrote_then c.part.ensures
    (wrote_then {v = 9 ∷ []} c.byte.ensures
    (wrote_then (wrote_as (get_or acts s.action []) c.name.ensures.wrote name)
    (wrote_then {v = 9 ∷ []} c.byte-2.ensures
    (wrote_then (wrote_as (decimal s.state) c.state.ensures.wrote (digits_decimal s.state low))
    (wrote_then {v = 9 ∷ []} c.byte-3.ensures
    (wrote_as (joined (marked props 0 s.marks)) c.marks.ensures.wrote marks)))))))
    c.byte-4.ensures
