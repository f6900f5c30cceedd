use Rattle.std.proofs.Common.{◌≡◌, ℕ, [], ◌<◌, length, map, get_or}
use lib.Bits.{bit_and}
use Rattle.program.proofs.automaton.Automaton.new.Given as goal

abbrev pub invariant-loop-i : goal.invariant-loop-i
invariant-loop-i l =
    (length l.next ≡ 16)
    × ((i : ℕ) → i < l.i → get_or l.next i [] ≡ map (λ n. bit_and (bit_and (get_or l.row.follow i 0) n) l.all) l.named)
