use Rattle.std.proofs.Common.{refl, ◌≡◌, MatchOption, Bool, true, false, Option, length, sym, ap, ◌∙◌, subst, ⊎_elim, arith}
use Rattle.std.specs.Bool.{then_some}
use Rattle.std.specs.List.{AllByRecursion}
use Rattle.std.proofs.lemmas.Bool.{eqb-false, leb-true, leb-false}
use Rattle.std.proofs.lemmas.List.{take_all}
use Rattle.lasso.proofs.Decimals.{number, Digit, Numeral, numeral_is, decimal_spells}
use Rattle.lasso.proofs.decimal.read_state.Goals as goal

-- what the test says, of the number or of none
picked : {T : Type 0} (P : Type 0) (Q : T → Type 0) (b : Bool) (x : T) (r : Option T) → r ≡ then_some b x → (b ≡ true → Q x) → (b ≡ false → P) → MatchOption r P Q
picked P Q true x r is p q = rw is (p refl)
picked P Q false x r is p q = rw is (q refl)

pub returns-clause-spells : goal.returns-clause-spells
returns-clause-spells c =
    let field = c.args.field.now in
    let all = take_all c.loop-b.b-index field (omega arith) in
    let digits = subst (AllByRecursion Digit) all c.loop-b.invariant.1 in
    let numeral : Numeral field = record {
      some = omega (arith, eqb-false (length field) 0 (sym c.if-is_empty.ensures));
      few = omega arith;
      head = λ l e. ⊎_elim (λ p. omega (arith, p.1)) (λ p. p e) c.else-field-eq48.either;
      digits = digits;
    } in
    let spelled = numeral_is field c.loop-b.value numeral (c.loop-b.invariant.0 ∙ ap (number 0) all) in
    picked _ _ _ c.loop-b.value c.then_some.result c.then_some.ensures (λ t. (leb-true c.loop-b.value 4095 t, spelled))
    (λ t n h e. omega (arith, leb-false c.loop-b.value 4095 t, c.loop-b.invariant.0, ap (number 0) all, ap (number 0) e, (decimal_spells n h).1))
