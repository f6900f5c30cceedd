-- The bits of masks.
use Rattle.std.proofs.Common.{◌≡◌, ℕ, Bool, true, false, eqb, suc, ◌+◌, ◌-◌, ◌/◌, ◌%◌, ◌^◌, ◌<◌, ◌≤◌, min, max, ◌⊎◌, ◌↔◌, List, length, get_or, set, sym, ap, ◌∙◌, subst, inl, inr, ⊎_elim, pow-suc, arith, pow_mono}
use native.Mathlib.Nat.{div-eq_of_lt, div_self}
use lib.Bits.{bit_and, bit_or, and_step, or_step, and_shr, or_shr, and_mask}
use lib.Pow.{mod-mod-pow}
use Rattle.std.proofs.lemmas.Nat.{field_of, mod_below, pow-add, pow_below, pow_pos, shl-shr}
use Rattle.std.proofs.lemmas.List.{get_or-set_same, get_or-set_other}
use Rattle.std.proofs.lemmas.Bool.{cases_eq, cases_lt, cases_order, eqb-true, eqb-false}
use Rattle.program.specs.Masks.{Bit}

odd_or : (x y : ℕ) → bit_or x y % 2 ≡ max (x % 2) (y % 2)
odd_or x y = omega (arith, or_step x y)

odd_and : (x y : ℕ) → bit_and x y % 2 ≡ min (x % 2) (y % 2)
odd_and x y = omega (arith, and_step x y)

pub bit_of_or : (a b n : ℕ) → Bit (bit_or a b) n ↔ (Bit a n ⊎ Bit b n)
bit_of_or a b n =
    let e = ap (λ v. v % 2) (or_shr a b n) ∙ odd_or (a / 2 ^ n) (b / 2 ^ n) in
    (λ h. split (a / 2 ^ n) (b / 2 ^ n) (sym e ∙ h), ⊎_elim (λ h. omega (arith, e)) (λ h. omega (arith, e)))
  where
    split : (x y : ℕ) → max (x % 2) (y % 2) ≡ 1 → (x % 2 ≡ 1) ⊎ (y % 2 ≡ 1)
    split x y h = ⊎_elim (λ l. inr (omega arith)) (λ l. inl (omega arith)) (cases_lt (x % 2) 1)

pub bit_of_and : (a b n : ℕ) → Bit (bit_and a b) n ↔ (Bit a n × Bit b n)
bit_of_and a b n =
    let e = ap (λ v. v % 2) (and_shr a b n) ∙ odd_and (a / 2 ^ n) (b / 2 ^ n) in
    (λ h. (omega (arith, e), omega (arith, e)), λ h. omega (arith, e))

-- no bit past the top
pub bit_past : (m n : ℕ) → m < 2 ^ n → Bit m n → ⊥
bit_past m n h b = let z = div-eq_of_lt h in omega arith

pub bit_none : (n : ℕ) → Bit 0 n → ⊥
bit_none n = bit_past 0 n (pow_pos n)

-- one bit alone
pub bit_one : (k n : ℕ) → Bit (2 ^ k) n ↔ (n ≡ k)
bit_one k n = (to, λ e. subst (λ v. Bit (2 ^ k) v) (sym e) (let d = div_self (pow_pos k) in omega arith))
  where
    shifted : (j : ℕ) → 2 ^ (suc j + n) / 2 ^ n % 2 ≡ 0
    shifted j =
        let e = ap (λ v. v / 2 ^ n % 2) (pow-add 2 (suc j) n) in
        let f = ap (λ v. v % 2) (shl-shr (2 ^ suc j) n) in
        e ∙ f ∙ omega (arith, pow-suc 2 j)

    to : Bit (2 ^ k) n → n ≡ k
    to b =
        ⊎_elim (λ e. e)
        (⊎_elim
        (λ l. let e : suc (k - n - 1) + n ≡ k = omega arith in absurd (omega (arith, shifted (k - n - 1), ap (λ v. 2 ^ v / 2 ^ n % 2) e)))
        (λ g. absurd (bit_past (2 ^ k) n (pow_below k n g) b)))
        (cases_order n k)

-- the first k bits alone
pub bit_below : (m k n : ℕ) → Bit (bit_and m (2 ^ k - 1)) n ↔ (Bit m n × (n < k))
bit_below m k n = ⊎_elim inside outside (cases_lt n k)
  where
    e : bit_and m (2 ^ k - 1) / 2 ^ n % 2 ≡ m % 2 ^ k / 2 ^ n % 2
    e = ap (λ v. v / 2 ^ n % 2) (and_mask m k)

    kept : (j : ℕ) → m % 2 ^ (j + 1 + n) / 2 ^ n % 2 ≡ m / 2 ^ n % 2
    kept j = ap (λ v. v % 2) (field_of m (j + 1) n) ∙ mod-mod-pow (m / 2 ^ n) j 1

    inside : n < k → Bit (bit_and m (2 ^ k - 1)) n ↔ (Bit m n × (n < k))
    inside l =
        let j : k - n - 1 + 1 + n ≡ k = omega arith in
        let same = e ∙ ap (λ v. m % 2 ^ v / 2 ^ n % 2) (sym j) ∙ kept (k - n - 1) in
        (λ b. (omega (arith, same), l), λ t. omega (arith, same))

    outside : k ≤ n → Bit (bit_and m (2 ^ k - 1)) n ↔ (Bit m n × (n < k))
    outside g =
        let low = mod_below m (2 ^ k) (pow_pos k) in
        let up = pow_mono g in
        (λ b. absurd (bit_past (m % 2 ^ k) n (omega arith) (sym e ∙ b)), λ t. absurd (omega arith))

-- one mask of a list takes on more bits
pub bit_more : (xs : List ℕ) (i m k n : ℕ) → i < length xs → Bit (get_or (set xs i (bit_or (get_or xs i 0) m)) k 0) n ↔ (Bit (get_or xs k 0) n ⊎ ((k ≡ i) × Bit m n))
bit_more xs i m k n h =
    ⊎_elim
    (λ e.
    let same : get_or (set xs i (bit_or (get_or xs i 0) m)) k 0 ≡ bit_or (get_or xs k 0) m =
    ap (λ v. get_or (set xs i (bit_or (get_or xs i 0) m)) v 0) e ∙ get_or-set_same xs i (bit_or (get_or xs i 0) m) 0 h ∙ ap (λ v. bit_or (get_or xs v 0) m) (sym e) in
    let b = bit_of_or (get_or xs k 0) m n in
    (λ t. ⊎_elim inl (λ y. inr (e, y)) (b.0 (subst (λ v. Bit v n) same t)), λ t. subst (λ v. Bit v n) (sym same) (b.1 (⊎_elim inl (λ y. inr y.1) t))))
    (λ ne.
    let same = get_or-set_other xs i k (bit_or (get_or xs i 0) m) 0 ne in
    (λ t. inl (subst (λ v. Bit v n) same t), λ t. subst (λ v. Bit v n) (sym same) (⊎_elim (λ b. b) (λ y. absurd (ne y.0)) t)))
    (cases_eq k i)

-- a shift and a mask read one bit
pub bit_read : (m n : ℕ) → bit_and (m / 2 ^ n) 1 ≡ m / 2 ^ n % 2
bit_read m n = and_mask (m / 2 ^ n) 1

-- what the test of a bit says of a mask that was widened
pub has_bit : (m n w : ℕ) (b : Bool) → w ≡ m → b ≡ eqb (w / 2 ^ n % 2) 1 → b ≡ true → Bit m n
has_bit m n w b e h t = eqb-true (m / 2 ^ n % 2) 1 (ap (λ v. eqb (v / 2 ^ n % 2) 1) (sym e) ∙ sym h ∙ t)

pub has_no_bit : (m n w : ℕ) (b : Bool) → w ≡ m → b ≡ eqb (w / 2 ^ n % 2) 1 → b ≡ false → Bit m n → ⊥
has_no_bit m n w b e h t = eqb-false (m / 2 ^ n % 2) 1 (ap (λ v. eqb (v / 2 ^ n % 2) 1) (sym e) ∙ sym h ∙ t)
