use Rattle.std.proofs.Common.{◌≡◌, ℕ, ◌+◌, ◌*◌, ◌%◌, ◌^◌, ◌<◌, ◌≤◌, ◌↔◌, List, length, get_or, set, sym, ap, ◌∙◌, subst, inl, inr, ⊎_elim, arith, length-set}
use lib.Bits.{bit_or}
use Rattle.std.proofs.lemmas.Nat.{one_shl}
use Rattle.std.proofs.lemmas.Bool.{cases_order}
use Rattle.program.specs.Masks.{Bit}
use Rattle.program.proofs.Bits.{bit_more, bit_one}
use Rattle.program.proofs.automaton.named.Goals as goal
use Rattle.program.proofs.automaton.named.Goals.{then-i-ge1+then-action-lt16 as named, else-i-ge1 as named_not}
use Rattle.program.proofs.automaton.named.Goals.{else-i-ge1-via-then-i-ge1+else-action-lt16 as too_high, else-i-ge1-via-else-i-ge1 as at_zero}

-- the masks after the names below i
Upto : List ℕ → List ℕ → ℕ → Type 0
Upto acts xs i = (length xs ≡ 16) × ((a n : ℕ) → a < 16 → n < 16 → Bit (get_or xs a 0) n ↔ ((1 ≤ n) × (n < i) × (get_or acts n 0 ≡ a)))

module _ (acts xs : List ℕ) (i : ℕ) (within : i < 16) (inv : Upto acts xs i) where
  one_more : (ys : List ℕ) → 1 ≤ i → get_or acts i 0 < 16 → ys ≡ set xs (get_or acts i 0) (bit_or (get_or xs (get_or acts i 0) 0) ((1 * 2 ^ i) % 65536)) → Upto acts ys (i + 1)
  unfolding Upto
  one_more ys from h is = (
    ap length is ∙ length-set xs (get_or acts i 0) _ ∙ inv.0,
    λ a n p q.
        let more = bit_more xs (get_or acts i 0) ((1 * 2 ^ i) % 65536) a n (omega (arith, inv.0)) in
        let old = inv.1 a n p q in
        let shl = one_shl i 16 within in
        let one = bit_one i n in (
          λ b.
              ⊎_elim
              (λ x. let y = old.0 x in (y.0, omega (arith, y.1), y.2))
              (λ x. let e = one.0 (subst (λ v. Bit v n) shl x.1) in (omega arith, omega arith, ap (λ v. get_or acts v 0) e ∙ sym x.0))
              (more.0 (subst (λ l. Bit (get_or l a 0) n) is b)),
          λ t.
              subst (λ l. Bit (get_or l a 0) n) (sym is)
              (more.1
              (⊎_elim
              (λ e. inr (sym t.2 ∙ ap (λ v. get_or acts v 0) e, subst (λ v. Bit v n) (sym shl) (one.1 e)))
              (⊎_elim (λ l. inl (old.1 (t.0, l, t.2))) (λ g. absurd (omega (arith, t.1))))
              (cases_order n i))),
        ),
  )

  none_more : (ys : List ℕ) → (1 ≤ i → get_or acts i 0 < 16 → ⊥) → ys ≡ xs → Upto acts ys (i + 1)
  unfolding Upto
  none_more ys h is = (
    ap length is ∙ inv.0,
    λ a n p q.
        let old = inv.1 a n p q in (
          λ b. let y = old.0 (subst (λ l. Bit (get_or l a 0) n) is b) in (y.0, omega (arith, y.1), y.2),
          λ t.
              subst (λ l. Bit (get_or l a 0) n) (sym is)
              (⊎_elim
              (λ e. absurd (h (omega (arith, t.0)) (omega (arith, t.2, ap (λ v. get_or acts v 0) e))))
              (⊎_elim (λ l. old.1 (t.0, l, t.2)) (λ g. absurd (omega (arith, t.1))))
              (cases_order n i)),
        ),
  )

pub loop-i-preserved : goal.loop-i-preserved
unfolding Upto
loop-i-preserved c =
    let acts = c.args.row.now.actions in
    let same = c.from-action.ensures in
    elim c.if-i-ge1.branch [
      | named w ↦ one_more acts c.loop-i.named c.loop-i.i (omega arith) c.loop-i.invariant _ w.if-i-ge1.true (omega (arith, same, w.if-action-lt16.true))
          (subst (λ v. c.if-i-ge1.named ≡ set c.loop-i.named v (bit_or (get_or c.loop-i.named v 0) ((1 * 2 ^ c.loop-i.i) % 65536))) same w.named-is)
      | named_not w ↦ elim w.else-i-ge1.branch [
        | too_high v ↦ none_more acts c.loop-i.named c.loop-i.i (omega arith) c.loop-i.invariant _ (λ pos low. omega (arith, low, v.if-action-lt16.false, same)) w.named-is
        | at_zero v ↦ none_more acts c.loop-i.named c.loop-i.i (omega arith) c.loop-i.invariant _ (λ pos low. omega (arith, pos, v.if-i-ge1.false)) w.named-is
      ]
    ]

pub returns : goal.returns
returns c a n h k =
    let t = c.loop-i.invariant.1 a n h k in
    (λ b. let x = t.0 b in (x.0, x.2), λ y. t.1 (y.0, omega arith, y.1))
