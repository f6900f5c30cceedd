-- Work that is done again and again.
use Rattle.std.specs.Prelude.{ℕ, ◌+◌}

-- so many calls of the work, each of what the one before left: what the last of them gives, and what it leaves
pub data Ran {W T : Type 0} (calls : W → T → W → Type 0) (work : W) : ℕ → T → W → Type 0 where
  once : {t : T} {last : W} → calls work t last → Ran calls work 1 t last
  again : {n : ℕ} {s t : T} {mid last : W} → Ran calls work n s mid → calls mid t last → Ran calls work (n + 1) t last
