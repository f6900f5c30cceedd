-- The until unrolled: the rest of a word from a state of its automaton.
use Rattle.std.proofs.Common.{ℕ, zero, suc, ◌+◌, ◌<◌, ◌⊎◌, ◌↔◌, inl, inr, not-suc-le-zero, add-zero, add-suc, suc-add, arith}
use Rattle.program.specs.Words.{Program}
use Rattle.program.specs.Automata.{Accepts, Leads, Final}
use Rattle.program.proofs.Glushkov.{accepts_its_words}
use Rattle.document.specs.Formulas.{Formula, until}
use Rattle.lasso.specs.Readings.{Reading, actions, Truth}
use Rattle.lasso.specs.Untils.{UntilFrom}

-- the m steps from i on lead from state q to a final one, through f and up to g
abbrev pub Rest : Reading → Formula → Program → Formula → ℕ → ℕ → ℕ → Type 0
Rest s f p g m i q = Accepts p q (actions s i m) × Truth s (i + m) g × ((k : ℕ) → k < m → Truth s (i + k) f)

module _ (s : Reading) (f : Formula) (p : Program) (g : Formula) where
  pub rest_none : (i q : ℕ) → Final p q → Truth s i g → Rest s f p g 0 i q
  rest_none i q e x = (e, rw add-zero x, λ k l. absurd (not-suc-le-zero l))

  pub rest_ends : (i q : ℕ) → Rest s f p g 0 i q → Final p q × Truth s i g
  rest_ends i q (e, x, _) = (e, rw add-zero at x)

  -- one step more
  pub rest_more : (m i q r : ℕ) → Truth s i f → Leads p q (s i).action r → Rest s f p g m (suc i) r → Rest s f p g (suc m) i q
  rest_more m i q r here lead (w, x, y) = ((r, lead, w), rw (add-suc, ← suc-add) x, go)
    where
      go : (k : ℕ) → k < suc m → Truth s (i + k) f
      go zero l = rw add-zero here
      go (suc k) l = rw (add-suc, ← suc-add) (y k (omega arith))

  pub rest_step : (m i q : ℕ) → Rest s f p g (suc m) i q → (r : ℕ) × Truth s i f × Leads p q (s i).action r × Rest s f p g m (suc i) r
  rest_step m i q ((r, lead, w), x, y) = (
    r,
    rw add-zero at (y 0 (omega arith)),
    lead,
    (w, rw (suc-add, ← add-suc) x, λ k l. rw (suc-add, ← add-suc) (y (suc k) (omega arith))),
  )

  -- it ends here, or f holds and it goes on in a next state
  pub until_ends : (q i : ℕ) → Final p q → Truth s i g → UntilFrom s i f p q g
  until_ends q i e x = let h = rest_none i q e x in (0, h.0, h.1, h.2)

  pub until_goes : (q i r : ℕ) → Truth s i f → Leads p q (s i).action r → UntilFrom s (suc i) f p r g → UntilFrom s i f p q g
  until_goes q i r here lead (m, w, x, y) = let h = rest_more m i q r here lead (w, x, y) in (suc m, h.0, h.1, h.2)

  pub until_unrolls : (q i : ℕ) → UntilFrom s i f p q g
      → (Final p q × Truth s i g) ⊎ ((r : ℕ) × Truth s i f × Leads p q (s i).action r × UntilFrom s (suc i) f p r g)
  until_unrolls q i (zero, w, x, y) = inl (rest_ends i q (w, x, y))
  until_unrolls q i (suc m, w, x, y) = let (r, here, lead, h) = rest_step m i q (w, x, y) in inr (r, here, lead, (m, h.0, h.1, h.2))

  -- an until is the until from the start of its program's automaton
  pub until_from_start : (i : ℕ) → UntilFrom s i f p 0 g ↔ Truth s i (until f p g)
  until_from_start i = (
    λ (m, w, x, y). (m, (accepts_its_words p (actions s i m)).0 w, x, y),
    λ (m, w, x, y). (m, (accepts_its_words p (actions s i m)).1 w, x, y),
  )
