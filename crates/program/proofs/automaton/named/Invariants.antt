use Rattle.std.proofs.Common.{◌≡◌, ℕ, ◌<◌, ◌≤◌, ◌↔◌, length, get_or}
use Rattle.program.specs.Masks.{Bit}
use Rattle.program.proofs.automaton.named.Given as goal

abbrev pub invariant-loop-i : goal.invariant-loop-i
invariant-loop-i l =
    (length l.named ≡ 16)
    × ((a n : ℕ) → a < 16 → n < 16 → Bit (get_or l.named a 0) n ↔ ((1 ≤ n) × (n < l.i) × (get_or l.row.actions n 0 ≡ a)))
