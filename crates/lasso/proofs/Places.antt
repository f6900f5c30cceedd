-- Where the steps of a lasso stand, read onward.
use Rattle.std.proofs.Common.{◌≡◌, ℕ, suc, ◌+◌, ◌-◌, ◌%◌, ◌<◌, ◌≤◌, List, length, sym, ap, ◌∙◌, ⊎_elim, mod-lt, mod-eq_of_lt, arith}
use native.Mathlib.Nat.{mod-add-mod, add-mod_right}
use Rattle.std.proofs.lemmas.Bool.{cases_lt, lt-ltb, le-ltb, cond-true, cond-false}
use Rattle.lasso.specs.Lassos.{step_in}
use Rattle.lasso.specs.Readings.{place_of}
use Rattle.lasso.specs.Rounds.{next_place}
use Rattle.lasso.specs.Sessions.{moment, reading}
use Rattle.lasso.specs.declared.step.Step.{Step}
use Rattle.lasso.proofs.Alike.{Alike, same_steps}

module _ (n stem : ℕ) (short : stem < n) where
  pub place_before : (i : ℕ) → i < n → place_of n stem i ≡ i
  place_before i h = rw lt-ltb

  place_after : (i : ℕ) → stem ≤ i → place_of n stem i ≡ stem + (i - stem) % (n - stem)
  place_after i h = ⊎_elim inside outside (cases_lt i n)
    where
      inside : i < n → place_of n stem i ≡ stem + (i - stem) % (n - stem)
      inside b =
          let c : i - stem < n - stem = omega arith in
          let e : i ≡ stem + (i - stem) = omega arith in
          place_before i b ∙ e ∙ ap (λ (x : ℕ). stem + x) (sym (mod-eq_of_lt c))

      outside : n ≤ i → place_of n stem i ≡ stem + (i - stem) % (n - stem)
      outside b = rw (le-ltb i n b)

  pub place_inside : (i : ℕ) → place_of n stem i < n
  place_inside i = ⊎_elim inside outside (cases_lt i n)
    where
      inside : i < n → place_of n stem i < n
      inside b = rw (place_before i b) b

      outside : n ≤ i → place_of n stem i < n
      outside b = let p : 0 < n - stem = omega arith in rw (place_after i (omega arith)) (omega (arith, mod-lt (i - stem) p))

  -- reading on from a step is reading on from its place
  pub place_on : (i k : ℕ) → place_of n stem (place_of n stem i + k) ≡ place_of n stem (i + k)
  place_on i k = ⊎_elim (λ b. ap (λ (x : ℕ). place_of n stem (x + k)) (place_before i b)) outside (cases_lt i n)
    where
      outside : n ≤ i → place_of n stem (place_of n stem i + k) ≡ place_of n stem (i + k)
      outside b =
          let v : ℕ = (i - stem) % (n - stem) in
          let e : (stem + v + k) - stem ≡ v + k = omega arith in
          let d : (i - stem) + k ≡ (i + k) - stem = omega arith in
          ap (λ (x : ℕ). place_of n stem (x + k)) (place_after i (omega arith))
          ∙ place_after (stem + v + k) (omega arith)
          ∙ ap (λ (x : ℕ). stem + x % (n - stem)) e
          ∙ ap (λ (x : ℕ). stem + x) (mod-add-mod (i - stem) (n - stem) k)
          ∙ ap (λ (x : ℕ). stem + x % (n - stem)) d
          ∙ sym (place_after (i + k) (omega arith))

  pub next_inner : (i : ℕ) → i + 1 < n → next_place n stem i ≡ i + 1
  next_inner i h = cond-true _ _ _ (lt-ltb (i + 1) n h)

  pub next_last : (i : ℕ) → i + 1 ≡ n → next_place n stem i ≡ stem
  next_last i h = cond-false _ _ _ (le-ltb (i + 1) n (omega arith))

  pub next_inside : (i : ℕ) → next_place n stem i < n
  next_inside i =
      ⊎_elim (λ h. let e = next_inner i h in omega arith)
      (λ h. let e : next_place n stem i ≡ stem = cond-false _ _ _ (le-ltb (i + 1) n h) in omega arith) (cases_lt (i + 1) n)

  -- the step after the last stands at the stem
  place_next : (i : ℕ) → i < n → place_of n stem (suc i) ≡ next_place n stem i
  place_next i h = ⊎_elim inner last (cases_lt (i + 1) n)
    where
      inner : i + 1 < n → place_of n stem (suc i) ≡ next_place n stem i
      inner b = let e : suc i ≡ i + 1 = omega arith in place_before (suc i) (omega arith) ∙ e ∙ sym (next_inner i b)

      last : n ≤ i + 1 → place_of n stem (suc i) ≡ next_place n stem i
      last b =
          let e : suc i - stem ≡ 0 + (n - stem) = omega arith in
          let z : 0 < n - stem = omega arith in
          let t : stem + 0 ≡ stem = omega arith in
          place_after (suc i) (omega arith)
          ∙ ap (λ (x : ℕ). stem + x % (n - stem)) e
          ∙ ap (λ (x : ℕ). stem + x) (add-mod_right 0 (n - stem) ∙ mod-eq_of_lt z)
          ∙ t ∙ sym (next_last i (omega arith))

  pub next_on : (i : ℕ) → i < n → (k : ℕ) → place_of n stem (suc i + k) ≡ place_of n stem (next_place n stem i + k)
  next_on i h k = sym (place_on (suc i) k) ∙ ap (λ (x : ℕ). place_of n stem (x + k)) (place_next i h)

module _ (steps : List Step) (stem : ℕ) (short : stem < length steps) where
  pub reading_here : (i : ℕ) → i < length steps → reading steps stem i ≡ moment (step_in steps i)
  reading_here i h = ap (λ (x : ℕ). moment (step_in steps x)) (place_before (length steps) stem short i h)

  pub alike_next : (i : ℕ) → i < length steps → Alike (reading steps stem) (suc i) (reading steps stem) (next_place (length steps) stem i)
  alike_next i h =
      same_steps (reading steps stem) (suc i) (reading steps stem) (next_place (length steps) stem i)
      (λ k. ap (λ (x : ℕ). moment (step_in steps x)) (next_on (length steps) stem short i h k))
