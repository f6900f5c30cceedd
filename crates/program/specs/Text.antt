-- The text of programs. Bytes: 40 and 41 are the parentheses, 42 the star, 43 the plus, 59 the semicolon.
use Rattle.std.specs.Prelude.{ℕ, suc, ◌+◌, ◌<◌, ◌≤◌, List, [], ◌∷◌, ◌++◌, length, take}
use Rattle.program.specs.Names.{Named}

-- a program over names: a name, one of two, one after another, and any number of times
pub data Tree : Type 0 where
  leaf : List ℕ → Tree
  choice : Tree → Tree → Tree
  chain : Tree → Tree → Tree
  repeat : Tree → Tree

-- the parts of a text: the star binds tightest, then the semicolon, then the plus
pub data Kind : Type 0 where
  factor : Kind
  sequence : Kind
  sum : Kind

-- the bytes spell the tree as such a part, inside so many parentheses, of which there are at most 8
pub data Spells : Kind → ℕ → List ℕ → Tree → Type 0 where
  named : {d : ℕ} {bs : List ℕ} → Named bs → Spells factor d bs (leaf bs)
  group : {d : ℕ} {bs : List ℕ} {t : Tree} → d < 8 → Spells sum (suc d) bs t → Spells factor d (40 ∷ (bs ++ 41 ∷ [])) t
  star : {d : ℕ} {bs : List ℕ} {t : Tree} → Spells factor d bs t → Spells factor d (bs ++ 42 ∷ []) (repeat t)
  lone : {d : ℕ} {bs : List ℕ} {t : Tree} → Spells factor d bs t → Spells sequence d bs t
  semi : {d : ℕ} {ls rs : List ℕ} {s t : Tree} → Spells factor d ls s → Spells sequence d rs t → Spells sequence d (ls ++ 59 ∷ rs) (chain s t)
  single : {d : ℕ} {bs : List ℕ} {t : Tree} → Spells sequence d bs t → Spells sum d bs t
  plus : {d : ℕ} {ls rs : List ℕ} {s t : Tree} → Spells sequence d ls s → Spells sum d rs t → Spells sum d (ls ++ 43 ∷ rs) (choice s t)

-- the whole text is a program
abbrev pub WellFormed : List ℕ → Type 0
WellFormed text = (t : Tree) × Spells sum 0 text t

-- some program begins with these bytes
abbrev pub Begun : List ℕ → Type 0
Begun bs = (more : List ℕ) × WellFormed (bs ++ more)

-- the fault of a text that is no program: the least column, counted from 1, such that no program begins with the bytes
-- up to it, or the length plus 1 where some program begins with the whole text
pub record FaultAt (text : List ℕ) (column : ℕ) : Type 0 where
  pub within : (1 ≤ column) × (column ≤ length text + 1)
  pub before : (k : ℕ) → k < column → Begun (take k text)
  pub here : column ≤ length text → Begun (take column text) → ⊥
  pub unwell : WellFormed text → ⊥
