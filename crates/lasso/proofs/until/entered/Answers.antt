use Rattle.std.proofs.Common.{◌≡◌, ℕ, true, ◌↔◌, sym, ◌∙◌, subst, inl, inr, ⊎_elim}
use Rattle.std.proofs.lemmas.Bool.{both_ways}
use Rattle.program.specs.Masks.{Bit}
use Rattle.program.proofs.Bits.{bit_of_or, bit_none}
use Rattle.lasso.specs.Rounds.{LeadsBy}
use Rattle.lasso.proofs.until.entered.Goals as goal
use Rattle.lasso.proofs.until.entered.Goals.{then-g, else-g, then-f, else-f}

pub returns : goal.returns
returns c q =
    let b = bit_of_or c.if-g.ending c.if-f.going q in
    (λ t. ⊎_elim (λ x. inl (ending.0 x)) (λ x. inr (going.0 x)) (b.0 t), λ t. b.1 (⊎_elim (λ x. inl (ending.1 x)) (λ x. inr (going.1 x)) t))
  where
    ending : Bit c.if-g.ending q ↔ ((c.args.g ≡ true) × Bit c.args.automaton.now.finals q)
    ending = elim c.if-g.branch [
      | then-g w ↦
          let e = w.ending-is ∙ w.finals-ending.ensures.is in
          (λ t. (w.if-g.true, subst (λ (v : ℕ). Bit v q) e t), λ t. subst (λ (v : ℕ). Bit v q) (sym e) t.1)
      | else-g w ↦
          (λ t. absurd (bit_none q (subst (λ (v : ℕ). Bit v q) w.ending-is t)), λ t. absurd (both_ways c.args.g w.if-g.false t.0))
    ]

    going : Bit c.if-f.going q ↔ ((c.args.f ≡ true) × ((n : ℕ) × LeadsBy c.args.automaton.now q c.args.action n × Bit c.args.next n))
    going = elim c.if-f.branch [
      | then-f w ↦
          let h = w.leading-going.ensures q in
          (λ t. (w.if-f.true, h.0 (subst (λ (v : ℕ). Bit v q) w.going-is t)), λ t. subst (λ (v : ℕ). Bit v q) (sym w.going-is) (h.1 t.1))
      | else-f w ↦
          (λ t. absurd (bit_none q (subst (λ (v : ℕ). Bit v q) w.going-is t)), λ t. absurd (both_ways c.args.f w.if-f.false t.0))
    ]
