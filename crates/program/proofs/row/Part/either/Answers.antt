use Rattle.std.proofs.Common.{◌≡◌, true, cond, sym, refl, ◌∙◌}
use Rattle.std.proofs.lemmas.Bool.{cond-true, cond-false}
use Rattle.program.proofs.Parts.{either_part}
use Rattle.program.proofs.row.Part.either.Goals as goal
use Rattle.program.proofs.row.Part.either.Goals.{then-self, else-self}

pub returns : goal.returns
returns c =
    let l = c.args.self.nullable in
    let r = c.args.right.nullable in
    let e : c.if-self.result ≡ cond l true r =
    elim c.if-self.branch
    [ then-self w ↦ w.result-is ∙ w.if-self.true ∙ sym (cond-true l true r w.if-self.true) | else-self w ↦ w.result-is ∙ sym (cond-false l true r w.if-self.false) ]
    in
    record { «end» = refl; is = λ p q i f g. either_part p q i c.args.self c.args.right f g _ _ e }
