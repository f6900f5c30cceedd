-- Masks as sets of bits.
use Rattle.std.proofs.Common.{◌≡◌, ℕ, zero, suc, ◌+◌, ◌/◌, ◌%◌, ◌^◌, ◌≤◌, sym, ap, ◌∙◌, ⊎_elim, arith}
use lib.Bits.{bit_and}
use Rattle.std.proofs.lemmas.Nat.{shr-shr}
use Rattle.std.proofs.lemmas.Bool.{cases_lt}
use Rattle.program.specs.Masks.{Bit}
use Rattle.program.proofs.Bits.{bit_of_and, bit_none}

bit_half : (m n : ℕ) → m / 2 / 2 ^ n % 2 ≡ m / 2 ^ (1 + n) % 2
bit_half m n = ap (λ v. v % 2) (shr-shr m 1 n)

-- a mask with no bit but those of another is no larger
pub subset_le : (a b : ℕ) → ((n : ℕ) → Bit a n → Bit b n) → a ≤ b
subset_le a b = go a a b (omega arith)
  where
    go : (k a b : ℕ) → a ≤ k → ((n : ℕ) → Bit a n → Bit b n) → a ≤ b
    go zero a b h s = omega arith
    go (suc k) a b h s =
        let half = go k (a / 2) (b / 2) (omega arith) (λ n t. bit_half b n ∙ s (1 + n) (sym (bit_half a n) ∙ t)) in
        ⊎_elim (λ l. omega arith) (λ l. let t = s 0 (omega arith) in omega arith) (cases_lt (a % 2) 1)

-- a mask that is not 0 has a bit
some_bit : (m : ℕ) → (m ≡ 0 → ⊥) → (n : ℕ) × Bit m n
some_bit m = go m m (omega arith)
  where
    go : (k m : ℕ) → m ≤ k → (m ≡ 0 → ⊥) → (n : ℕ) × Bit m n
    go zero m h p = absurd (p (omega arith))
    go (suc k) m h p =
        ⊎_elim
        (λ l. let t = go k (m / 2) (omega arith) (λ z. p (omega arith)) in (1 + t.0, sym (bit_half m t.0) ∙ t.1))
        (λ l. (0, omega arith)) (cases_lt (m % 2) 1)

-- two masks have a bit in common
pub common : (a b : ℕ) → (bit_and a b ≡ 0 → ⊥) → (n : ℕ) × Bit a n × Bit b n
common a b p =
    let t = some_bit (bit_and a b) p in
    let s = (bit_of_and a b t.0).0 t.1 in
    (t.0, s.0, s.1)

pub uncommon : (a b n : ℕ) → bit_and a b ≡ 0 → Bit a n → Bit b n → ⊥
uncommon a b n e x y = bit_none n (rw e at ((bit_of_and a b n).1 (x, y)))
