-- Masks: numbers whose bits stand for names or states.
use Rattle.std.specs.Prelude.{◌≡◌, ℕ, ◌/◌, ◌%◌, ◌^◌, ◌<◌, ◌↔◌, List, [], slice_index, slice_index_or}

-- bit n of the mask is set
abbrev pub Bit : ℕ → ℕ → Type 0
Bit m n = m / 2 ^ n % 2 ≡ 1

-- of the numbers below 16, the bits of exactly those with P are set
abbrev pub Marks : ℕ → (ℕ → Type 0) → Type 0
Marks m P = (n : ℕ) → n < 16 → Bit m n ↔ P n

-- the mask in row i and column k of a table
abbrev pub cell : List (List ℕ) → ℕ → ℕ → ℕ
cell next i k = slice_index (slice_index_or next i []) k
