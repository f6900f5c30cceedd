use Rattle.std.proofs.Common.{◌≡◌, ℕ, zero, suc, ◌+◌, ◌<◌, ◌≤◌, length, sym, subst, add-zero, arith}
use Rattle.program.specs.Words.{Program}
use Rattle.program.specs.Automata.{Accepts, Leads, Final, names}
use Rattle.document.specs.Formulas.{Formula}
use Rattle.lasso.specs.Readings.{Reading, actions, Truth}
use Rattle.lasso.specs.Untils.{UntilFrom}
use Rattle.tableau.proofs.FiniteSets.{both_dec, finite_below, some_dec}

-- the least number with a property
pub record Least (P : ℕ → Type 0) : Type 0 where
  pub value : ℕ
  pub holds : P value
  pub under : (k : ℕ) → P k → value ≤ k

pub least : (P : ℕ → Type 0) → ((n : ℕ) → Dec (P n)) → (m : ℕ) → P m → Least P
least P D zero h = record { value = 0; holds = h; under = λ k p. omega arith }
least P D (suc m) h = go (D 0) (least (λ n. P (suc n)) (λ n. D (suc n)) m h)
  where
    above : ((P 0) → ⊥) → (b : Least (λ n. P (suc n))) → (k : ℕ) → P k → suc b.value ≤ k
    above n b zero p = absurd (n p)
    above n b (suc k) p = let u : b.value ≤ k = b.under k p in omega arith

    go : Dec (P 0) → Least (λ n. P (suc n)) → Least P
    go (yes p) b = record { value = 0; holds = p; under = λ k q. omega arith }
    go (no n) b = record { value = suc b.value; holds = b.holds; under = above n b }

abbrev pub value_of : {P : ℕ → Type 0} → Dec (Least P) → ℕ
value_of (yes b) = b.value
value_of (no n) = 0

pub value_holds : (P : ℕ → Type 0) (b : Dec (Least P)) (m : ℕ) → ((n : ℕ) → Dec (P n)) → P m → P (value_of b)
value_holds P (yes b) m D h = b.holds
value_holds P (no n) m D h = absurd (n (least P D m h))

pub value_under : (P : ℕ → Type 0) (b : Dec (Least P)) (m : ℕ) → P m → value_of b ≤ m
value_under P (yes b) m h = b.under m h
value_under P (no n) m h = omega arith

module _ (s : Reading) (f : Formula) (p : Program) (g : Formula) where
  -- a witness of length m for the Until, from state q
  abbrev pub Rest : ℕ → ℕ → ℕ → Type 0
  Rest i q zero = Final p q × Truth s i g
  Rest i q (suc m) = Truth s i f × ((r : ℕ) × Leads p q (s i).action r × Rest (suc i) r m)

  Witness : ℕ → ℕ → ℕ → Type 0
  Witness i q m = Accepts p q (actions s i m) × Truth s (i + m) g × ((k : ℕ) → k < m → Truth s (i + k) f)

  moved : (h : Formula) (i j : ℕ) → i ≡ j → Truth s i h → Truth s j h
  moved h i j e t = subst (λ k. Truth s k h) e t

  witness_rest : (m i q : ℕ) → Witness i q m → Rest i q m
  unfolding Witness
  witness_rest zero i q w = (w.0, moved g (i + 0) i (add-zero i) w.1)
  witness_rest (suc m) i q w = (
    moved f (i + 0) i (add-zero i) (w.2 0 (omega arith)),
    (
      w.0.0,
      w.0.1,
      witness_rest m (suc i) w.0.0
          (w.0.2, moved g (i + suc m) (suc i + m) (omega arith) w.1, λ k h. moved f (i + suc k) (suc i + k) (omega arith) (w.2 (suc k) (omega arith))),
    ),
  )

  all_along : (m i : ℕ) → Truth s i f → ((k : ℕ) → k < m → Truth s (suc i + k) f) → (k : ℕ) → k < suc m → Truth s (i + k) f
  all_along m i t u zero h = moved f i (i + 0) (sym (add-zero i)) t
  all_along m i t u (suc k) h = moved f (suc i + k) (i + suc k) (omega arith) (u k (omega arith))

  rest_witness : (m i q : ℕ) → Rest i q m → Witness i q m
  unfolding Witness
  rest_witness zero i q (a, t) = (a, moved g i (i + 0) (sym (add-zero i)) t, λ k h. absurd (omega arith))
  rest_witness (suc m) i q (t, r) =
      let w : Witness (suc i) r.0 m = rest_witness m (suc i) r.0 r.2 in
      ((r.0, r.1, w.0), moved g (suc i + m) (i + suc m) (omega arith) w.1, all_along m i t w.2)

  pub rest_until : (i q m : ℕ) → Rest i q m → UntilFrom s i f p q g
  unfolding Witness
  rest_until i q m r = let w = rest_witness m i q r in (m, w.0, w.1, w.2)

  pub until_rest : (i q : ℕ) → UntilFrom s i f p q g → (m : ℕ) × Rest i q m
  unfolding Witness
  until_rest i q (m, a, t, u) = (m, witness_rest m i q (a, t, u))

  -- the state that a witness goes on to
  target_in : (i q m : ℕ) → Rest i q m → ℕ
  target_in i q zero h = 0
  target_in i q (suc m) h = h.1.0

  pub target_of : (i q : ℕ) → Dec (Least (Rest i q)) → ℕ
  target_of i q (yes b) = target_in i q b.value b.holds
  target_of i q (no n) = 0

  falls_in : (i q m : ℕ) (h : Rest i q m) (k : ℕ) → m ≡ suc k → Leads p q (s i).action (target_in i q m h) × Rest (suc i) (target_in i q m h) k
  unfolding target_in
  falls_in i q zero h k e = absurd (omega arith)
  falls_in i q (suc m) h k e =
      let e' : m ≡ k = omega arith in
      (h.1.1, subst (Rest (suc i) h.1.0) e' h.1.2)

  pub target_falls : (i q : ℕ) (b : Dec (Least (Rest i q))) (k : ℕ) → value_of b ≡ suc k
      → Leads p q (s i).action (target_of i q b) × Rest (suc i) (target_of i q b) k
  unfolding target_of
  target_falls i q (yes b) k e = falls_in i q b.value b.holds k e
  target_falls i q (no n) k e = absurd (omega arith)

  module _ (decided : (i : ℕ) (f : Formula) → Dec (Truth s i f)) (final : (p : Program) (q : ℕ) → Dec (Final p q))
      (leads : (p : Program) (q c n : ℕ) → Dec (Leads p q c n)) (states : (p : Program) (q c n : ℕ) → Leads p q c n → n ≤ length (names p)) where
    pub rest_dec : (m i q : ℕ) → Dec (Rest i q m)
    rest_dec zero i q = both_dec (final p q) (decided i g)
    rest_dec (suc m) i q =
        both_dec (decided i f)
        (some_dec (Leads p q (s i).action) (λ r. Rest (suc i) r m)
        (finite_below _ (suc (length (names p))) (λ n h. let b : n ≤ length (names p) = states p q (s i).action n h in omega arith) (leads p q (s i).action))
        (rest_dec m (suc i)))

    pub least_rest : (i q : ℕ) → Dec (UntilFrom s i f p q g) → Dec (Least (Rest i q))
    least_rest i q (yes u) = let r = until_rest i q u in yes (least (Rest i q) (λ m. rest_dec m i q) r.0 r.1)
    least_rest i q (no n) = no (λ b. n (rest_until i q b.value b.holds))
