use Rattle.std.proofs.Common.{◌≡◌, ℕ, ◌+◌, ◌<◌, ◌≤◌, ◌⊎◌, List, length, get_or, set, sym, ◌∙◌, subst, inl, inr, ⊎_elim, arith, length-set}
use lib.Bits.{bit_or}
use Rattle.std.proofs.lemmas.List.{set-get_or}
use Rattle.std.proofs.lemmas.Bool.{cases_order}
use Rattle.program.specs.Masks.{Bit, Marks}
use Rattle.program.proofs.Bits.{bit_more, has_bit, has_no_bit}
use Rattle.program.proofs.row.Draft.connect.Goals as goal
use Rattle.program.proofs.row.Draft.connect.Goals.{then-i-ge1+then-has as joins, else-i-ge1 as joins_not}
use Rattle.program.proofs.row.Draft.connect.Goals.{else-i-ge1-via-then-i-ge1+else-has as has_not, else-i-ge1-via-else-i-ge1 as at_zero}

-- the masks after the names below i
Upto : List ℕ → List ℕ → ℕ → ℕ → ℕ → Type 0
Upto old xs from to i = (m : ℕ) → m < 16 → Marks (get_or xs m 0) (λ n. Bit (get_or old m 0) n ⊎ ((1 ≤ m) × (m < i) × Bit from m × Bit to n))

module _ (old xs : List ℕ) (from to i : ℕ) (within : i < length xs) (inv : Upto old xs from to i) where
  one_more : 1 ≤ i → Bit from i → Upto old (set xs i (bit_or (get_or xs i 0) to)) from to (i + 1)
  unfolding Upto
  one_more pos f m h n l =
      let more = bit_more xs i to m n within in
      let was = inv m h n l in (
        λ b.
            ⊎_elim
            (λ x. ⊎_elim inl (λ y. inr (y.0, omega (arith, y.1), y.2, y.3)) (was.0 x))
            (λ x. inr (omega (arith, x.0), omega (arith, x.0), subst (Bit from) (sym x.0) f, x.1))
            (more.0 b),
        λ t.
            more.1
            (⊎_elim (λ x. inl (was.1 (inl x)))
            (λ x.
            ⊎_elim (λ e. inr (e, x.3))
            (⊎_elim (λ low. inl (was.1 (inr (x.0, low, x.2, x.3)))) (λ high. absurd (omega (arith, x.1))))
            (cases_order m i))
            t),
      )

  none_more : (1 ≤ i → Bit from i → ⊥) → Upto old xs from to (i + 1)
  unfolding Upto
  none_more f m h n l =
      let was = inv m h n l in (
        λ b. ⊎_elim inl (λ y. inr (y.0, omega (arith, y.1), y.2, y.3)) (was.0 b),
        λ t.
            ⊎_elim (λ x. was.1 (inl x))
            (λ x.
            ⊎_elim (λ e. absurd (f (omega (arith, x.0)) (subst (Bit from) e x.2)))
            (⊎_elim (λ low. was.1 (inr (x.0, low, x.2, x.3))) (λ high. absurd (omega (arith, x.1))))
            (cases_order m i))
            t,
      )

-- the loop's invariant after the name i
Kept : List ℕ → List ℕ → ℕ → ℕ → ℕ → Type 0
Kept old xs from to i = (length xs ≡ 16) × Upto old xs from to i

module _ (old xs ys : List ℕ) (from to i : ℕ) (within : i < 16) (inv : Kept old xs from to i) where
  joined : 1 ≤ i → Bit from i → ys ≡ set xs i (bit_or (get_or xs i 0) to) → Kept old ys from to (i + 1)
  unfolding Kept
  joined pos f is =
      rw is (length-set xs i _ ∙ inv.0, one_more old xs from to i (omega (arith, inv.0)) inv.1 pos f)

  left : (1 ≤ i → Bit from i → ⊥) → ys ≡ xs → Kept old ys from to (i + 1)
  unfolding Kept
  left f is = rw is (inv.0, none_more old xs from to i (omega (arith, inv.0)) inv.1 f)

pub loop-i-preserved : goal.loop-i-preserved
unfolding Kept Upto
loop-i-preserved c =
    let from = c.args.from in
    let i = c.loop-i.i in
    elim c.if-i-ge1.branch [
      | joins w ↦
          joined c.args.self.now.follow c.loop-i.follow-items _ from c.args.to i (omega arith) c.loop-i.invariant w.if-i-ge1.true
          (has_bit from i w.from.result w.has.result w.from.ensures w.has.ensures w.if-has.true) w.follow-items-is
      | joins_not w ↦ elim w.else-i-ge1.branch [
        | has_not v ↦
            left c.args.self.now.follow c.loop-i.follow-items _ from c.args.to i (omega arith) c.loop-i.invariant
            (λ pos. has_no_bit from i v.from.result v.has.result v.from.ensures v.has.ensures v.if-has.false) (w.follow-items-is ∙ v.follow-items-is ∙ set-get_or c.loop-i.follow-items i 0)
        | at_zero v ↦
            left c.args.self.now.follow c.loop-i.follow-items _ from c.args.to i (omega arith) c.loop-i.invariant
            (λ pos b. omega (arith, pos, v.if-i-ge1.false)) (w.follow-items-is ∙ v.follow-items-is ∙ set-get_or c.loop-i.follow-items i 0)
      ]
    ]
