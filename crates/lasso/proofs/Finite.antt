-- A way of steps to a goal is decided where positions fall into finitely many kinds.
use Rattle.std.proofs.Common.{◌≡◌, ℕ, zero, suc, ◌+◌, ◌<◌, ◌≤◌, ◌⊎◌, subst, inl, inr, ⊎_elim, le_trans, le_refl, not-suc-le-zero, arith}
use mathlib.Core.Logic.Dec
use mathlib.Core.HLevel.{dec→stable}
use native.Mathlib.Decide.{map_dec}
use Rattle.std.proofs.lemmas.Bool.{cases_lt}
use Rattle.program.proofs.States.{dec_below}

below_suc : (P : ℕ → Type 0) (m : ℕ) → ((k : ℕ) → k < m → P k) → P m → (k : ℕ) → k < suc m → P k
below_suc P m h p k l = ⊎_elim (h k) (λ b. let e : m ≡ k = omega arith in subst P e p) (cases_lt k m)

pub dec_all : {P : ℕ → Type 0} → ((k : ℕ) → Dec (P k)) → (m : ℕ) → Dec ((k : ℕ) → k < m → P k)
dec_all d zero = yes (λ k l. absurd (not-suc-le-zero l))
dec_all {P} d (suc m) =
    map_dec (λ h. below_suc P m h.0 h.1) (λ h. (λ k l. h k (omega arith), h m (omega arith))) (Dec.and (dec_all d m) (d m))

abbrev sum : (ℕ → ℕ) → ℕ → ℕ
sum f zero = 0
sum f (suc n) = sum f n + f n

sum_le : (f g : ℕ → ℕ) → ((i : ℕ) → f i ≤ g i) → (n : ℕ) → sum f n ≤ sum g n
sum_le f g h zero = omega arith
sum_le f g h (suc n) = omega (arith, sum_le f g h n, h n)

sum_lt : (f g : ℕ → ℕ) → ((i : ℕ) → f i ≤ g i) → (i n : ℕ) → i < n → f i < g i → sum f n < sum g n
sum_lt f g h i zero l e = absurd (not-suc-le-zero l)
sum_lt f g h i (suc n) l e = ⊎_elim (λ b. omega (arith, sum_lt f g h i n b e, h n)) (λ b. at (omega arith)) (cases_lt i n)
  where
    at : i ≡ n → sum f n + f n < sum g n + g n
    at b = let e' : f n < g n = rw b at e in omega (arith, sum_le f g h n)

-- 1 for what does not hold
abbrev fault : {A : Type 0} → Dec A → ℕ
fault (yes a) = 0
fault (no h) = 1

fault_le : {A B : Type 0} (a : Dec A) (b : Dec B) → (A → B) → fault b ≤ fault a
fault_le a (yes y) f = omega arith
fault_le (yes x) (no h) f = absurd (h (f x))
fault_le (no k) (no h) f = omega arith

fault_lt : {A B : Type 0} (a : Dec A) (b : Dec B) → ¬ A → B → fault b < fault a
fault_lt (yes x) b h y = absurd (h x)
fault_lt (no k) (yes x) h y = omega arith
fault_lt (no k) (no g) h y = absurd (g y)

-- a growing family of decided sets of finitely many points stands still at some stage
module _ (P : ℕ → ℕ → ℕ → Type 0) (dec : (k i q : ℕ) → Dec (P k i q)) (grows : (k i q : ℕ) → P k i q → P (suc k) i q) (n R : ℕ) where
  abbrev Settled : ℕ → Type 0
  Settled k = (i q : ℕ) → i < n → q < R → P (suc k) i q → P k i q

  abbrev faults : ℕ → ℕ → ℕ → ℕ
  faults k i q = fault (dec k i q)

  abbrev missing : ℕ → ℕ
  missing k = sum (λ i. sum (faults k i) R) n

  settled_or_falls : (k : ℕ) → Settled k ⊎ (missing (suc k) < missing k)
  settled_or_falls k =
      go (dec_below (λ i. (q : ℕ) × (q < R) × (P (suc k) i q × ¬ P k i q))
      (λ i. dec_below (λ q. P (suc k) i q × ¬ P k i q) (λ q. Dec.and (dec (suc k) i q) (Dec.not (dec k i q))) R) n)
    where
      fewer : (i q : ℕ) → faults (suc k) i q ≤ faults k i q
      fewer i q = fault_le (dec k i q) (dec (suc k) i q) (grows k i q)

      go : Dec ((i : ℕ) × (i < n) × ((q : ℕ) × (q < R) × (P (suc k) i q × ¬ P k i q))) → Settled k ⊎ (missing (suc k) < missing k)
      go (yes (i, l, (q, b, (x, y)))) = inr (
          sum_lt (λ i. sum (faults (suc k) i) R) (λ i. sum (faults k i) R) (λ i. sum_le (faults (suc k) i) (faults k i) (fewer i) R) i n l
          (sum_lt (faults (suc k) i) (faults k i) (fewer i) q R b (fault_lt (dec k i q) (dec (suc k) i q) y x)))
      go (no h) = inl (λ i q l b p. dec→stable (dec k i q) (λ x. h (i, l, (q, b, (p, x)))))

  settle : (c k : ℕ) → missing k ≤ c → (K : ℕ) × Settled K
  settle zero k h = ⊎_elim (λ x. (k, x)) (λ x. absurd (not-suc-le-zero (le_trans x h))) (settled_or_falls k)
  settle (suc c) k h = ⊎_elim (λ x. (k, x)) (λ x. settle c (suc k) (omega arith)) (settled_or_falls k)

-- H m i q: a way of m steps leads from state q at position i to a goal; states are bounded
module _ (H : ℕ → ℕ → ℕ → Type 0) (dec : (m i q : ℕ) → Dec (H m i q)) (n R : ℕ)
    (kind : (i : ℕ) → (j : ℕ) × (j < n) × ((m q : ℕ) → H m i q → H m j q) × ((m q : ℕ) → H m j q → H m i q))
    (peel : (m i q : ℕ) → H (suc m) i q → (r : ℕ) × (r < R) × H m (suc i) r × ((k : ℕ) → H k (suc i) r → H (suc k) i q)) where
  abbrev Within : ℕ → ℕ → ℕ → Type 0
  Within k i q = (m : ℕ) × (m < suc k) × H m i q

  within_all : (K : ℕ) → ((i q : ℕ) → i < n → q < R → Within (suc K) i q → Within K i q) → (m i q : ℕ) → q < R → H m i q → Within K i q
  within_all K stands zero i q b h = (0, omega arith, h)
  within_all K stands (suc m) i q b h =
      let (r, c, x, further) = peel m i q h in
      let (k, l, y) = within_all K stands m (suc i) r c x in
      let (j, a, to, from) = kind i in
      let (k', l', z) = stands j q a b (suc k, omega arith, to (suc k) q (further k y)) in
      (k', l', from k' q z)

  -- whether any way at all leads there is decided
  pub dec_reach : (i q : ℕ) → q < R → Dec ((m : ℕ) × H m i q)
  dec_reach i q b = go (settle Within (λ k i q. dec_below (λ m. H m i q) (λ m. dec m i q) (suc k)) (λ k i q h. (h.0, omega arith, h.2)) n R _ 0 (le_refl _))
    where
      go : (K : ℕ) × ((i q : ℕ) → i < n → q < R → Within (suc K) i q → Within K i q) → Dec ((m : ℕ) × H m i q)
      go (K, stands) = map_dec (λ h. (h.0, h.2)) (λ h. within_all K stands h.0 i q b h.1) (dec_below (λ m. H m i q) (λ m. dec m i q) (suc K))
