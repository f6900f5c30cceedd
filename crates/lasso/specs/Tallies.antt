-- Lines that are read, counted and written.
use Rattle.std.specs.Prelude.{◌≡◌, ℕ, ◌+◌, ◌<◌, ◌≤◌, true, false, cond, List, ◌++◌, map, length, drop, Option, Some, None, Result, IsOkAnd, MatchResult, ◌==◌, nat_lt}
use denote.Ref.{Bor}
use Rattle.document.specs.Faults.{line_fault_code}
use Rattle.document.specs.TextLines.{NextLine}
use Rattle.document.specs.declared.fault.LineFault.{LineFault}
use Rattle.document.specs.Texts.{pieces}
use Rattle.lasso.specs.declared.part.Part.{Part}
use Rattle.lasso.specs.declared.part.Part.TheVariants.{Stem, Loop}
use Rattle.lasso.specs.declared.scan.StepLine.{StepLine}
use Rattle.lasso.specs.declared.scan.Tally.{Tally}
use Rattle.lasso.specs.declared.step.Step.{Step}
use Rattle.lasso.specs.LassoLines.{Faulty, Reads, AllRead}
use Rattle.lasso.specs.Scans.{in_stem_at}

-- how many lines there are; and where the lines of the stem come first, how many these are
pub record Tallied (ss : List StepLine) (t : Tally) : Type 0 where
  pub steps : t.steps ≡ length ss
  pub ordered : (n : ℕ) → t.stem ≡ Some n → (n ≤ t.steps) × ((i : ℕ) → i < length ss → in_stem_at ss i ≡ nat_lt i n)
  pub mixed : t.stem ≡ None → (i : ℕ) × (j : ℕ) × (i < j) × (j < length ss) × (in_stem_at ss i ≡ false) × (in_stem_at ss j ≡ true)

-- the stem with one line of it more, if only such lines came before
abbrev pub longer : ℕ → Option ℕ → Option ℕ
longer steps None = None
longer steps (Some n) = cond (n == steps) (Some (n + 1)) None

-- one line more is counted
abbrev pub counted : Part → Tally → Tally
counted Stem t = record { steps = t.steps + 1; stem = longer t.steps t.stem }
counted Loop t = record { steps = t.steps + 1; stem = t.stem }

-- a line is cut off the front of a text, or a last one that no line feed ends
abbrev pub Cut : List ℕ → Result (Bor (List ℕ)) LineFault → List ℕ → Type 0
Cut text line rest = NextLine text (Some line) rest

-- a line is read
abbrev pub ReadsNext : List (List ℕ) → List (List ℕ) → Result (Bor (List ℕ)) LineFault → StepLine → Type 0
ReadsNext acts props line s = IsOkAnd line (λ body. Reads acts props body.now s)

-- every line is read and counted
abbrev pub Surveyed : List (List ℕ) → List (List ℕ) → List ℕ → Tally → Type 0
Surveyed acts props text t = (ss : List StepLine) × AllRead acts props (pieces 10 text) ss × Tallied ss t

-- the code of a line that is refused, if only since no line feed ends it
abbrev pub RefusedLine : List (List ℕ) → List (List ℕ) → Result (Bor (List ℕ)) LineFault → ℕ → Type 0
RefusedLine acts props line code = MatchResult line (λ body. Faulty acts props body.now code) (λ f. code ≡ line_fault_code f)

-- the first places hold the steps of the lines, and the others what they held
abbrev pub Filled : List StepLine → List Step → List Step → Type 0
Filled ss before after = after ≡ map (λ (s : StepLine). s.step) ss ++ drop (length ss) before

-- the same, for lines that are read of a text
abbrev pub FilledFrom : List (List ℕ) → List (List ℕ) → List ℕ → List Step → List Step → Type 0
FilledFrom acts props text before after = (ss : List StepLine) × AllRead acts props (pieces 10 text) ss × Filled ss before after
