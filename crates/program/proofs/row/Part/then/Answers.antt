use Rattle.std.proofs.Common.{◌≡◌, false, cond, sym, refl, ◌∙◌}
use Rattle.std.proofs.lemmas.Bool.{cond-true, cond-false}
use Rattle.program.proofs.Parts.{seq_part}
use Rattle.program.proofs.row.Part.then.Goals as goal
use Rattle.program.proofs.row.Part.then.Goals.{then-self, else-self}

pub returns : goal.returns
returns c =
    let l = c.args.self.nullable in
    let r = c.args.right.nullable in
    let e : c.if-self.result ≡ cond l r false =
    elim c.if-self.branch [
      | then-self w ↦ w.result-is ∙ sym (cond-true l r false w.if-self.true)
      | else-self w ↦ w.result-is ∙ w.if-self.false ∙ sym (cond-false l r false w.if-self.false)
    ] in
    record { «end» = refl; is = λ p q i f g. seq_part p q i c.args.self c.args.right f g _ _ _ _ e c.joined_if.ensures c.joined_if-2.ensures }
