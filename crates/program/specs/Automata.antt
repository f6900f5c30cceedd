-- The automaton of a program: state 0, and a state for each of its action names, counted from 1.
use Rattle.std.specs.Prelude.{◌≡◌, ℕ, zero, suc, ◌+◌, ◌-◌, Bool, true, false, cond, ◌⊎◌, List, [], ◌∷◌, ◌++◌, length, slice_index}
use Rattle.program.specs.Words.{Program, Program.act, Program.either, Program.seq, Program.star}

-- the action names of a program, from left to right
abbrev pub names : Program → List ℕ
names (act a) = a ∷ []
names (either p r) = names p ++ names r
names (seq p r) = names p ++ names r
names (star p) = names p

-- whether the empty word is among its words
abbrev pub nullable : Program → Bool
nullable (act a) = false
nullable (either p r) = cond (nullable p) true (nullable r)
nullable (seq p r) = cond (nullable p) (nullable r) false
nullable (star p) = true

-- name n can begin a word of the program, whose names are counted from i on
abbrev pub First : Program → ℕ → ℕ → Type 0
First (act a) i n = n ≡ i
First (either p r) i n = First p i n ⊎ First r (i + length (names p)) n
First (seq p r) i n = First p i n ⊎ ((nullable p ≡ true) × First r (i + length (names p)) n)
First (star p) i n = First p i n

-- name n can end a word
abbrev pub Last : Program → ℕ → ℕ → Type 0
Last (act a) i n = n ≡ i
Last (either p r) i n = Last p i n ⊎ Last r (i + length (names p)) n
Last (seq p r) i n = Last r (i + length (names p)) n ⊎ ((nullable r ≡ true) × Last p i n)
Last (star p) i n = Last p i n

-- name n can stand right after name m
abbrev pub Follow : Program → ℕ → ℕ → ℕ → Type 0
Follow (act a) i m n = ⊥
Follow (either p r) i m n = Follow p i m n ⊎ Follow r (i + length (names p)) m n
Follow (seq p r) i m n = Follow p i m n ⊎ Follow r (i + length (names p)) m n ⊎ (Last p i m × First r (i + length (names p)) n)
Follow (star p) i m n = Follow p i m n ⊎ (Last p i m × First p i n)

-- the action c leads from state q to state n
abbrev pub Leads : Program → ℕ → ℕ → ℕ → Type 0
Leads p zero c n = First p 1 n × (slice_index (names p) (n - 1) ≡ c)
Leads p (suc q) c n = Follow p 1 (suc q) n × (slice_index (names p) (n - 1) ≡ c)

-- the states where a word may end
abbrev pub Final : Program → ℕ → Type 0
Final p zero = nullable p ≡ true
Final p (suc q) = Last p 1 (suc q)

-- the words that lead from a state to a final one
abbrev pub Accepts : Program → ℕ → List ℕ → Type 0
Accepts p q [] = Final p q
Accepts p q (c ∷ w) = (n : ℕ) × Leads p q c n × Accepts p n w

-- the states that a word leads to
abbrev pub Led : Program → ℕ → List ℕ → ℕ → Type 0
Led p q [] m = q ≡ m
Led p q (c ∷ w) m = (n : ℕ) × Leads p q c n × Led p n w m
