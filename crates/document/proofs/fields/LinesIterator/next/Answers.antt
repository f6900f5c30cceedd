use Rattle.std.proofs.Common.{◌≡◌, ℕ, suc, ◌+◌, ◌-◌, ◌<◌, Bool, eqb, ◌∷◌, length, take, drop, Some, None, sym, refl, ap, ◌∙◌, subst, arith, rules}
use Rattle.std.specs.List.{position}
use Rattle.std.proofs.lemmas.Bool.{eqb-true, eqb-false}
use Rattle.std.proofs.lemmas.List.{length-drop, take_rest}
use Rattle.std.proofs.lemmas.List.Sums.{fails_before_first}
use Rattle.std.proofs.lemmas.List.Quantifiers.{position-Some}
use Rattle.document.specs.Texts.{pieces}
use Rattle.document.proofs.Pieces.{position_none, pieces_none, pieces_first}
use Rattle.document.proofs.fields.LinesIterator.next.Goals as goal

pub returns-in-Some-clause-steps : goal.returns-in-Some-clause-steps
returns-in-Some-clause-steps c =
    let left = c.args.self.now.left.now in
    let end = c.in-Some.end in
    let test : ℕ → Bool = λ b. eqb b 10 in
    let is : position test left ≡ Some end = sym c.place.ensures ∙ c.in-Some.is in
    let first = position-Some test left end 0 is in
    let rest : drop (suc end) left ≡ take (length left - (end + 1)) (drop (end + 1) left) = let e : suc end ≡ end + 1 = omega arith in ap (λ k. drop k left) e ∙ sym (take_rest left (end + 1)) in
    let long = length-drop (suc end) left in (
      subst (λ v. length v < length left) rest (omega (arith, first.0)),
      pieces_first 10 end left first.0 (λ j l. eqb-false _ _ (first.2 j l)) (eqb-true _ _ first.1) ∙ ap (λ v. take end left ∷ pieces 10 v) rest,
    )

pub returns-in-None-clause-steps : goal.returns-in-None-clause-steps
returns-in-None-clause-steps c =
    let left = c.args.self.now.left.now in
    let test : ℕ → Bool = λ b. eqb b 10 in
    let is : position test left ≡ None = sym c.place.ensures ∙ c.in-None.is in
    let past = position_none test left is in
    let some : 0 < length left = search rules in
    (some, (refl, pieces_none 10 left (λ k l. eqb-false _ _ (fails_before_first test left k 0 (omega arith))), refl))
