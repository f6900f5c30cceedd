-- Words of truths: the truth of forms is entered step by step.
use Rattle.std.proofs.Common.{◌≡◌, ℕ, ◌+◌, ◌*◌, ◌%◌, ◌^◌, ◌<◌, ◌≤◌, List, length, get_or, set, Decides, sym, ap, ◌∙◌, subst, inl, inr, ⊎_elim, arith}
use lib.Bits.{bit_or}
use Rattle.std.proofs.lemmas.Nat.{one_shl}
use Rattle.std.proofs.lemmas.Bool.{cases_eq}
use Rattle.std.proofs.lemmas.Bool.Decides.{Decides-eqb}
use Rattle.program.specs.Masks.{Bit}
use Rattle.program.proofs.Bits.{bit_more, bit_none, bit_one}
use Rattle.document.specs.Documents.{Document, formula_at}
use Rattle.lasso.specs.Judged.{Judged}
use Rattle.lasso.specs.Readings.{Truth}
use Rattle.lasso.specs.Rounds.{tells}
use Rattle.lasso.specs.Sessions.{reading}
use Rattle.lasso.specs.declared.step.Step.{Step}

module _ (d : Document) (steps : List Step) (stem : ℕ) where
  pub judged_none : (truths : List ℕ) → ((k : ℕ) → k < length steps → get_or truths k 0 ≡ 0) → Judged d steps stem 0 0 truths
  judged_none truths z h k l = (
    λ b. absurd (bit_none h (rw (z k l) at b)),
    λ t. ⊎_elim (λ x. absurd (omega arith)) (λ x. absurd (omega (arith, x.1))) t.0,
  )

  -- the truth of an earlier form is read off
  pub judged_tells : (e i : ℕ) (truths : List ℕ) → Judged d steps stem e i truths → (h k : ℕ) → h < e → k < length steps
      → Decides (tells truths k h) (Truth (reading steps stem) k (formula_at d h))
  judged_tells e i truths j h k b l =
      let t = Decides-eqb _ 1 in
      let s = j h k l in
      (λ x. (s.0 (t.0 x)).1, λ x. t.1 (s.1 (inl b, x)))

  module _ (e i : ℕ) (truths : List ℕ) (l : i < length steps) (j : Judged d steps stem e i truths) where
    -- where the form is true, its bit is entered
    pub judged_true : e < 64 → length truths ≡ length steps → Truth (reading steps stem) i (formula_at d e)
        → (new : List ℕ) → new ≡ set truths i (bit_or (get_or truths i 0) ((1 * 2 ^ e) % 18446744073709551616)) → Judged d steps stem e (i + 1) new
    judged_true small len x new is h k b =
        let more = bit_more truths i (2 ^ e) k h (omega arith) in
        let word = is ∙ ap (λ (v : ℕ). set truths i (bit_or (get_or truths i 0) v)) (one_shl e 64 small) in
        let one = bit_one e h in
        let old = j h k b in (
          λ t.
              ⊎_elim (λ y. let u = old.0 y in (⊎_elim inl (λ v. inr (v.0, omega (arith, v.1))) u.0, u.1))
              (λ y. let v = one.0 y.1 in (inr (v, omega (arith, y.0)), moved h k v y.0 x))
              (more.0 (subst (λ xs. Bit (get_or xs k 0) h) word t)),
          λ t.
              subst (λ xs. Bit (get_or xs k 0) h) (sym word)
              (more.1
              (⊎_elim (λ y. inl (old.1 (inl y, t.1)))
              (λ y. ⊎_elim (λ c. inr (c, one.1 y.0)) (λ c. inl (old.1 (inr (y.0, omega (arith, y.1)), t.1))) (cases_eq k i)) t.0)),
        )
      where
        moved : (h k : ℕ) → h ≡ e → k ≡ i → Truth (reading steps stem) i (formula_at d e) → Truth (reading steps stem) k (formula_at d h)
        moved h k p q x = rw (p, q) x

    -- where it is false, nothing is
    pub judged_false : (Truth (reading steps stem) i (formula_at d e) → ⊥) → (new : List ℕ) → new ≡ truths → Judged d steps stem e (i + 1) new
    judged_false n new is h k b =
        let old = j h k b in (
          λ t. let u = old.0 (subst (λ xs. Bit (get_or xs k 0) h) is t) in (⊎_elim inl (λ v. inr (v.0, omega (arith, v.1))) u.0, u.1),
          λ t.
              subst (λ xs. Bit (get_or xs k 0) h) (sym is)
              (⊎_elim (λ y. old.1 (inl y, t.1))
              (λ y. ⊎_elim (λ c. absurd (n (moved h k y.0 c t.1))) (λ c. old.1 (inr (y.0, omega (arith, y.1)), t.1)) (cases_eq k i)) t.0),
        )
      where
        moved : (h k : ℕ) → h ≡ e → k ≡ i → Truth (reading steps stem) k (formula_at d h) → Truth (reading steps stem) i (formula_at d e)
        moved h k p q x = rw (← p, ← q) x

  -- the form is judged at each step
  pub judged_all : (e i : ℕ) (truths : List ℕ) → length steps ≤ i → Judged d steps stem e i truths → Judged d steps stem (e + 1) 0 truths
  judged_all e i truths b j h k l = let old = j h k l in (
    λ t. let u = old.0 t in (⊎_elim (λ v. inl (omega arith)) (λ v. inl (omega (arith, v.0))) u.0, u.1),
    λ t. old.1 (
      ⊎_elim (λ v. ⊎_elim (λ c. inr (c, omega arith)) (λ c. inl (omega arith)) (cases_eq h e)) (λ v. absurd (omega (arith, v.1))) t.0,
      t.1,
    ),
  )
