-- What comes of a text that is scanned: a lasso, or the first fault.
use Rattle.std.specs.Prelude.{◌≡◌, ℕ, ◌<◌, ◌≤◌, Bool, true, false, ◌⊎◌, List, length, take, drop, Result, MatchResult, slice_index_or}
use Rattle.document.specs.Faults.{line_fault_code}
use Rattle.document.specs.Texts.{pieces}
use Rattle.lasso.specs.Lassos.{IsLasso}
use Rattle.lasso.specs.LassoLines.{AllRead, FirstFault}
use Rattle.lasso.specs.LassoTexts.{lasso_text}
use Rattle.lasso.specs.Parts.{is_stem}
use Rattle.lasso.specs.declared.part.Part.TheVariants.{Loop}
use Rattle.lasso.specs.declared.scan.ScanFault.{ScanFault}
use Rattle.lasso.specs.declared.scan.ScanFault.TheVariants.{Line, NotLasso, Places}
use Rattle.lasso.specs.declared.scan.StepLine.{StepLine}
use Rattle.lasso.specs.declared.scan.Scanned.{Scanned}
use Rattle.lasso.specs.declared.step.Step.{Step}

abbrev pub in_stem_at : List StepLine → ℕ → Bool
in_stem_at ss i = is_stem (slice_index_or ss i (record { step = record { state = 0; action = 0; marks = 0 }; part = Loop })).part

-- no loop line, if there is any line; a stem line after a loop line; or above 131,072 lines
abbrev pub SpellsNoLasso : List StepLine → Type 0
SpellsNoLasso ss =
    ((i : ℕ) → i < length ss → in_stem_at ss i ≡ true)
    ⊎ (((i : ℕ) × (j : ℕ) × (i < j) × (j < length ss) × (in_stem_at ss i ≡ false) × (in_stem_at ss j ≡ true)) ⊎ (131072 < length ss))

-- steps and their stem, or a code and a line, which is 0 where no line is refused
pub data Outcome : Type 0 where
  spelled : List Step → ℕ → Outcome
  refused : ℕ → ℕ → Outcome

-- what comes of a text that is scanned into so many places
pub data Scans (acts props : List (List ℕ)) (text : List ℕ) (places : ℕ) : Outcome → Type 0 where
  at_fault : {code line : ℕ} → FirstFault acts props 1 (pieces 10 text) code line → Scans acts props text places (refused code line)
  no_lasso : {ss : List StepLine} → AllRead acts props (pieces 10 text) ss → SpellsNoLasso ss → Scans acts props text places (refused 12 0)
  no_places : {steps : List Step} {stem : ℕ} → IsLasso (length acts) (length props) steps stem → text ≡ lasso_text acts props steps stem
      → places < length steps → Scans acts props text places (refused 9 0)
  taken : {steps : List Step} {stem : ℕ} → IsLasso (length acts) (length props) steps stem → text ≡ lasso_text acts props steps stem
      → length steps ≤ places → Scans acts props text places (spelled steps stem)

abbrev pub scan_code : ScanFault → ℕ
scan_code (Line at) = line_fault_code at.fault
scan_code NotLasso = 12
scan_code Places = 9

abbrev pub scan_line : ScanFault → ℕ
scan_line (Line at) = at.line
scan_line NotLasso = 0
scan_line Places = 0

-- what a scan of a text into places answers and leaves: the steps that the text spells in the first places and the others as they were, or the fault and all as it was
abbrev pub ScannedAs : List (List ℕ) → List (List ℕ) → List ℕ → List Step → List Step → Result Scanned ScanFault → Type 0
ScannedAs acts props text before after r =
    MatchResult r (λ s. Scans acts props text (length before) (spelled (take s.steps after) s.stem) × (s.steps ≤ length before) × (drop s.steps after ≡ drop s.steps before))
    (λ f. Scans acts props text (length before) (refused (scan_code f) (scan_line f)) × (after ≡ before))
