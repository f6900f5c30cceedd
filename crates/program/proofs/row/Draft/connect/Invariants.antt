use Rattle.std.proofs.Common.{◌≡◌, ℕ, ◌<◌, ◌≤◌, ◌⊎◌, length, get_or}
use Rattle.program.specs.Masks.{Bit, Marks}
use Rattle.program.proofs.row.Draft.connect.Given as goal

abbrev pub invariant-loop-i : goal.invariant-loop-i
invariant-loop-i l =
    (length l.follow-items ≡ 16)
    × ((m : ℕ) → m < 16 → Marks (get_or l.follow-items m 0) (λ n. Bit (get_or l.initial.follow-items m 0) n ⊎ ((1 ≤ m) × (m < l.i) × Bit l.from m × Bit l.to n)))
