-- The lines of a lasso's text: what each of them spells, and which is refused first.
use Rattle.std.specs.Prelude.{◌≡◌, ℕ, suc, ◌<◌, ◌≤◌, true, ◌⊎◌, List, [], ◌∷◌, length, ◌≢◌, slice_index_or}
use Rattle.std.specs.List.{AllByRecursion}
use Rattle.program.specs.Names.{Named}
use Rattle.program.specs.Spellings.{Missing, NumberIn}
use Rattle.lasso.specs.Lassos.{fits}
use Rattle.lasso.specs.LassoTexts.{Words, worded, words_of}
use Rattle.lasso.specs.Parts.{is_stem}
use Rattle.lasso.specs.declared.scan.StepLine.{StepLine}

-- the names of one kind: well formed, and no two alike
pub record Apart (names : List (List ℕ)) : Type 0 where
  pub named : AllByRecursion Named names
  pub apart : (i j : ℕ) → i < j → j < length names → slice_index_or names i [] ≢ slice_index_or names j []

-- the declared propositions among the names stand in their order, none of them twice
abbrev pub Ordered : List (List ℕ) → List (List ℕ) → Type 0
Ordered props names = (i j a b : ℕ) → i < j → j < length names → NumberIn props (slice_index_or names i []) a → NumberIn props (slice_index_or names j []) b → a < b

-- words that make a step line, with declared names or others
pub record Shaped (props : List (List ℕ)) (w : Words) : Type 0 where
  pub action : Named w.action
  pub state : w.state ≤ 4095
  pub marks : AllByRecursion Named w.marks
  pub ordered : Ordered props w.marks

-- the action or a mark is not declared
abbrev pub Unknown : List (List ℕ) → List (List ℕ) → Words → Type 0
Unknown acts props w = Missing acts w.action ⊎ ((i : ℕ) × (i < length w.marks) × Missing props (slice_index_or w.marks i []))

-- the code of a line that is refused: 2 for its shape, else 4 for its names
pub data Faulty (acts props : List (List ℕ)) (line : List ℕ) : ℕ → Type 0 where
  shape : ((w : Words) → Shaped props w → line ≢ worded w) → Faulty acts props line 2
  naming : (w : Words) → Shaped props w → line ≡ worded w → Unknown acts props w → Faulty acts props line 4

-- a line that has no fault and is the line of this step
pub record Reads (acts props : List (List ℕ)) (line : List ℕ) (s : StepLine) : Type 0 where
  pub fit : fits (length acts) (length props) s.step ≡ true
  pub text : line ≡ worded (words_of acts props (is_stem s.part) s.step)
  pub shaped : Shaped props (words_of acts props (is_stem s.part) s.step)
  pub known : Unknown acts props (words_of acts props (is_stem s.part) s.step) → ⊥

-- the lines of a text are all read; what follows the last line feed is no line
pub data AllRead (acts props : List (List ℕ)) : List (List ℕ) → List StepLine → Type 0 where
  none : AllRead acts props ([] ∷ []) []
  more : {l m : List ℕ} {ms : List (List ℕ)} {s : StepLine} {ss : List StepLine}
      → Reads acts props l s → AllRead acts props (m ∷ ms) ss → AllRead acts props (l ∷ m ∷ ms) (s ∷ ss)

-- the code and the number of the first line that is refused, where the first line has number n
pub data FirstFault (acts props : List (List ℕ)) : ℕ → List (List ℕ) → ℕ → ℕ → Type 0 where
  unended : {n x : ℕ} {xs : List ℕ} → FirstFault acts props n ((x ∷ xs) ∷ []) 2 n
  faulty : {n code : ℕ} {l m : List ℕ} {ms : List (List ℕ)} → Faulty acts props l code → FirstFault acts props n (l ∷ m ∷ ms) code n
  later : {n code k : ℕ} {l m : List ℕ} {ms : List (List ℕ)} {s : StepLine}
      → Reads acts props l s → FirstFault acts props (suc n) (m ∷ ms) code k → FirstFault acts props n (l ∷ m ∷ ms) code k
