-- The words of a set, bit by bit.
use Rattle.std.proofs.Common.{◌≡◌, ℕ, zero, suc, ◌+◌, ◌-◌, ◌*◌, ◌/◌, ◌%◌, ◌^◌, ◌<◌, ◌||◌, eqb, List, length, get_or, set, sym, refl, ap, ◌∙◌, subst, inl, inr, mod-lt, one-mul, pow-suc, arith}
use mathlib.Core.Bool.{or-false, or-true}
use native.Mathlib.Nat.{div_self, div-eq_of_lt}
use lib.Bits.{bit_or, or_shr, or_mod, or_zero_r, shifted_even}
use Rattle.std.proofs.lemmas.Nat.{pow_pos, pow-add, pow_below, shl-shr, one_shl, div-mul-add, mod-mul-add, shr-shr}
use Rattle.std.proofs.lemmas.Bool.{cases_eq, cases_order, eq-eqb, ne_eqb, eqb-true, eqb-false}
use Rattle.std.proofs.lemmas.List.{get_or_past, get_or-set_same, get_or-set_other}
use Rattle.tableau.specs.Claims.{member, Same}

-- numbers with the same bits are the same
pub bits_same : (n a b : ℕ) → a < 2 ^ n → b < 2 ^ n → ((i : ℕ) → i < n → a / 2 ^ i % 2 ≡ b / 2 ^ i % 2) → a ≡ b
bits_same zero a b p q h = omega arith
bits_same (suc n) a b p q h =
    let pa : a < 2 ^ n * 2 = subst (λ v. a < v) (pow-suc 2 n) p in
    let pb : b < 2 ^ n * 2 = subst (λ v. b < v) (pow-suc 2 n) q in
    let halves = bits_same n (a / 2) (b / 2) (omega arith) (omega arith) (λ i l. ap (λ v. v % 2) (shr-shr a 1 i ∙ ap (λ v. a / 2 ^ v) (omega arith)) ∙ h (suc i) (omega arith) ∙ ap (λ v. v % 2) (ap (λ v. b / 2 ^ v) (omega arith) ∙ sym (shr-shr b 1 i))) in
    let low : a / 1 % 2 ≡ b / 1 % 2 = h 0 (omega arith) in
    omega arith

-- the bits of a power of two
bit_at : (j : ℕ) → 2 ^ j / 2 ^ j % 2 ≡ 1
bit_at j = ap (λ v. v % 2) (div_self (pow_pos j))

bit_above : (j i : ℕ) → j < i → 2 ^ j / 2 ^ i % 2 ≡ 0
bit_above j i h = ap (λ v. v % 2) (div-eq_of_lt (pow_below j i h))

bit_below : (j i : ℕ) → i < j → 2 ^ j / 2 ^ i % 2 ≡ 0
bit_below j i h =
    let d : ℕ = j - i - 1 in
    let e : j ≡ suc d + i = omega arith in
    let q : 2 ^ j / 2 ^ i ≡ 2 ^ suc d = ap (λ v. 2 ^ v / 2 ^ i) e ∙ ap (λ v. v / 2 ^ i) (pow-add 2 (suc d) i) ∙ shl-shr (2 ^ suc d) i in
    ap (λ v. v % 2) q ∙ ap (λ v. v % 2) (sym (one-mul (2 ^ suc d))) ∙ shifted_even 1 d

or_bit : (a b i : ℕ) → bit_or a b / 2 ^ i % 2 ≡ bit_or (a / 2 ^ i % 2) (b / 2 ^ i % 2)
or_bit a b i = ap (λ v. v % 2) (or_shr a b i) ∙ or_mod (a / 2 ^ i) (b / 2 ^ i) 1

or_one : (v : ℕ) → v < 2 → bit_or v 1 ≡ 1
or_one zero h = refl
or_one (suc zero) h = refl
or_one (suc (suc v)) h = absurd (omega arith)

-- one bit more
bit_with : (a j i : ℕ) → eqb (bit_or a (2 ^ j) / 2 ^ i % 2) 1 ≡ (eqb (a / 2 ^ i % 2) 1 || eqb j i)
bit_with a j i = elim (cases_order j i) [
  | inl e ↦
      let f : bit_or a (2 ^ j) / 2 ^ i % 2 ≡ 1 = or_bit a (2 ^ j) i ∙ ap (λ v. bit_or (a / 2 ^ i % 2) v) (ap (λ v. 2 ^ j / 2 ^ v % 2) (sym e) ∙ bit_at j) ∙ or_one (a / 2 ^ i % 2) (omega arith) in
      eq-eqb _ _ f ∙ sym (or-true (eqb (a / 2 ^ i % 2) 1)) ∙ ap (λ v. eqb (a / 2 ^ i % 2) 1 || v) (sym (eq-eqb j i e))
  | inr o ↦
      let ne : j ≡ i → ⊥ = λ e. elim o [ inl l ↦ omega arith | inr l ↦ omega arith ] in
      let z : 2 ^ j / 2 ^ i % 2 ≡ 0 = elim o [ inl l ↦ bit_above j i l | inr l ↦ bit_below j i l ] in
      let f : bit_or a (2 ^ j) / 2 ^ i % 2 ≡ a / 2 ^ i % 2 = or_bit a (2 ^ j) i ∙ ap (λ v. bit_or (a / 2 ^ i % 2) v) z ∙ or_zero_r (a / 2 ^ i % 2) in
      ap (λ v. eqb v 1) f ∙ sym (or-false (eqb (a / 2 ^ i % 2) 1)) ∙ ap (λ v. eqb (a / 2 ^ i % 2) 1 || v) (sym (ne_eqb j i ne))
]

same_test : (c x : ℕ) → c / 64 ≡ x / 64 → eqb (c % 64) (x % 64) ≡ eqb c x
same_test c x q = elim (cases_eq c x) [
  | inl e ↦ eq-eqb (c % 64) (x % 64) (ap (λ v. v % 64) e) ∙ sym (eq-eqb c x e)
  | inr n ↦ ne_eqb (c % 64) (x % 64) (λ e. n (omega arith)) ∙ sym (ne_eqb c x n)
]

-- the set with one claim more
pub word_with : (ws : List ℕ) (c x : ℕ) → length ws ≡ 4 → c < 256 → member (set ws (c / 64) (bit_or (get_or ws (c / 64) 0) ((1 * 2 ^ (c % 64)) % 2 ^ 64))) x ≡ (member ws x || eqb c x)
word_with ws c x len lt =
    let w : ℕ = get_or ws (c / 64) 0 in
    let p : (1 * 2 ^ (c % 64)) % 2 ^ 64 ≡ 2 ^ (c % 64) = one_shl (c % 64) 64 (omega arith) in
    elim (cases_eq (c / 64) (x / 64)) [
      | inl e ↦
          ap (λ v. eqb (v / 2 ^ (x % 64) % 2) 1) (ap (λ v. get_or (set ws (c / 64) (bit_or w ((1 * 2 ^ (c % 64)) % 2 ^ 64))) v 0) (sym e) ∙ get_or-set_same ws (c / 64) (bit_or w ((1 * 2 ^ (c % 64)) % 2 ^ 64)) 0 (omega arith) ∙ ap (bit_or w) p)
          ∙ bit_with w (c % 64) (x % 64)
          ∙ ap (λ v. eqb (w / 2 ^ (x % 64) % 2) 1 || v) (same_test c x e)
          ∙ ap (λ v. eqb (get_or ws v 0 / 2 ^ (x % 64) % 2) 1 || eqb c x) e
      | inr n ↦
          ap (λ v. eqb (v / 2 ^ (x % 64) % 2) 1) (get_or-set_other ws (c / 64) (x / 64) (bit_or w ((1 * 2 ^ (c % 64)) % 2 ^ 64)) 0 (λ e. n (sym e)))
          ∙ sym (or-false (member ws x)) ∙ ap (λ v. member ws x || v) (sym (ne_eqb c x (λ e. n (ap (λ v. v / 64) e))))
    ]

-- sets of the same words are the same
pub words_same : (ws vs : List ℕ) → length ws ≡ 4 → length vs ≡ 4 → ((j : ℕ) → j < 4 → get_or ws j 0 ≡ get_or vs j 0) → Same (member ws) (member vs)
words_same ws vs l m h c = ap (λ v. eqb (v / 2 ^ (c % 64) % 2) 1) (each (c / 64))
  where
    each : (j : ℕ) → get_or ws j 0 ≡ get_or vs j 0
    each j = elim (cases_order j 3) [
      | inl e ↦ h j (omega arith)
      | inr (inl b) ↦ h j (omega arith)
      | inr (inr b) ↦ get_or_past ws j 0 (omega arith) ∙ sym (get_or_past vs j 0 (omega arith))
    ]

one_bit : (v w : ℕ) → v < 2 → w < 2 → eqb v 1 ≡ eqb w 1 → v ≡ w
one_bit v w p q e = elim (cases_eq v 1) [
  | inl a ↦ a ∙ sym (eqb-true w 1 (sym e ∙ eq-eqb v 1 a))
  | inr a ↦ let b = eqb-false w 1 (sym e ∙ ne_eqb v 1 a) in omega arith
]

-- sets with different words are different
pub words_apart : (ws vs : List ℕ) (k : ℕ) → get_or ws k 0 < 2 ^ 64 → get_or vs k 0 < 2 ^ 64 → (get_or ws k 0 ≡ get_or vs k 0 → ⊥) → Same (member ws) (member vs) → ⊥
words_apart ws vs k p q n same = n (bits_same 64 (get_or ws k 0) (get_or vs k 0) p q bit)
  where
    bit : (i : ℕ) → i < 64 → get_or ws k 0 / 2 ^ i % 2 ≡ get_or vs k 0 / 2 ^ i % 2
    bit i h =
        let d : (k * 64 + i) / 64 ≡ k = div-mul-add k 64 i h in
        let r : (k * 64 + i) % 64 ≡ i = mod-mul-add k 64 i h in
        let s = subst (λ v. eqb (get_or ws v 0 / 2 ^ ((k * 64 + i) % 64) % 2) 1 ≡ eqb (get_or vs v 0 / 2 ^ ((k * 64 + i) % 64) % 2) 1) d (same (k * 64 + i)) in
        let t = subst (λ v. eqb (get_or ws k 0 / 2 ^ v % 2) 1 ≡ eqb (get_or vs k 0 / 2 ^ v % 2) 1) r s in
        one_bit (get_or ws k 0 / 2 ^ i % 2) (get_or vs k 0 / 2 ^ i % 2) (mod-lt _ (omega arith)) (mod-lt _ (omega arith)) t
