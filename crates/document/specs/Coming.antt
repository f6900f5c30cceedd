-- What comes of a text that is loaded, where a name stands for the first place at which it is declared.
use Rattle.std.specs.Prelude.{◌≡◌, ℕ, suc, ◌<◌, ◌≤◌, List, [], ◌∷◌, length, ◌≢◌}
use Rattle.program.specs.Spellings.{NumberIn}
use Rattle.document.specs.Declaring.{FaultyByFirst, FineByFirst, AddsByFirst}
use Rattle.document.specs.Lines.{Declarations, nothing, Line, goal_line, ReadsAs}
use Rattle.document.specs.Outcomes.{Outcome, taken, refused}
use Rattle.document.specs.Texts.{pieces}

-- what comes of the lines from number n on, after these declarations; the last piece has no line feed
pub data ComesByFirst : Declarations → ℕ → List (List ℕ) → Outcome → Type 0 where
  no_goal : {d : Declarations} {n : ℕ} → ComesByFirst d n ([] ∷ []) (refused 6 n 0)
  unended : {d : Declarations} {n x : ℕ} {xs : List ℕ} → ComesByFirst d n ((x ∷ xs) ∷ []) (refused 2 n 0)
  faulty : {d : Declarations} {n code column : ℕ} {l m : List ℕ} {ms : List (List ℕ)} → FaultyByFirst d l code column → ComesByFirst d n (l ∷ m ∷ ms) (refused code n column)
  declares : {d e : Declarations} {n : ℕ} {l m : List ℕ} {ms : List (List ℕ)} {o : Outcome} (x : Line)
      → ReadsAs l x → FineByFirst d x → AddsByFirst d x e → ComesByFirst e (suc n) (m ∷ ms) o → ComesByFirst d n (l ∷ m ∷ ms) o
  aims : {d : Declarations} {n goal : ℕ} {l : List ℕ} (f : List ℕ) → ReadsAs l (goal_line f) → FineByFirst d (goal_line f) → NumberIn d.form_names f goal
      → ComesByFirst d n (l ∷ [] ∷ []) (taken d goal)
  line_after : {d : Declarations} {n : ℕ} {l m : List ℕ} {ms : List (List ℕ)} (f : List ℕ) → ReadsAs l (goal_line f) → FineByFirst d (goal_line f) → (m ∷ ms ≢ [] ∷ [])
      → ComesByFirst d n (l ∷ m ∷ ms) (refused 6 (suc n) 0)

-- what comes of a text: above 16,384 bytes it is refused at once, else line by line
pub data LoadsByFirst (text : List ℕ) : Outcome → Type 0 where
  too_long : 16384 < length text → LoadsByFirst text (refused 1 0 0)
  read : {o : Outcome} → length text ≤ 16384 → ComesByFirst nothing 1 (pieces 10 text) o → LoadsByFirst text o

-- the law: a text has one outcome and no other
abbrev pub HasOneOutcomeByFirst : Type 0
HasOneOutcomeByFirst = (text : List ℕ) → (o : Outcome) × LoadsByFirst text o × ((q : Outcome) → LoadsByFirst text q → q ≡ o)
