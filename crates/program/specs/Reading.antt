-- What the readers of a text's parts give. Internal: what they are for is said in Programs.
use Rattle.std.specs.Prelude.{◌≡◌, ℕ, suc, ◌+◌, ◌%◌, ◌<◌, ◌≤◌, false, ◌⊎◌, List, [], ◌∷◌, ◌++◌, length, drop, Result, MatchResult, slice_index}
use Rattle.program.specs.Automata.{names, nullable, First, Last, Follow}
use Rattle.program.specs.Masks.{Bit, Marks}
use Rattle.program.specs.Names.{naming, Named}
use Rattle.program.specs.Programs.{Means}
use Rattle.program.specs.Text.{Tree, leaf, Kind, factor, sequence, sum, Spells}
use Rattle.program.specs.Words.{Program}
use Rattle.program.specs.declared.fault.ProgramFault.{ProgramFault}
use Rattle.program.specs.declared.fault.ProgramFault.TheVariants.{Undeclared}
use Rattle.program.specs.declared.name.Name.{Name}
use Rattle.program.specs.declared.read.Reader.{Reader}
use Rattle.program.specs.declared.row.Draft.{Draft}
use Rattle.program.specs.declared.row.Part.{Part}

-- the masks of a program, whose names are counted from i on
pub record PartOf (p : Program) (i : ℕ) (part : Part) : Type 0 where
  pub empty : part.nullable ≡ nullable p
  pub begins : Marks part.first (First p i)
  pub ends : Marks part.last (Last p i)

-- the names of a program, as bytes, and what follows what, were entered into the draft
pub record Entered (p : Program) (old new : Draft) : Type 0 where
  pub count : new.names ≡ old.names + length (names p)
  pub kept : (k : ℕ) → k ≤ old.names → slice_index new.actions k ≡ slice_index old.actions k
  pub acts : (k : ℕ) → k < length (names p) → old.names + k < 15 → slice_index new.actions (old.names + k + 1) ≡ slice_index (names p) k % 256
  pub goes_on : (m : ℕ) → m < 16 → Marks (slice_index new.follow m) (λ n. Bit (slice_index old.follow m) n ⊎ Follow p (old.names + 1) m n)

-- each name of one mask may be followed by each of another
pub record Joined (from to : ℕ) (old new : Draft) : Type 0 where
  pub count : new.names ≡ old.names
  pub acts : new.actions ≡ old.actions
  pub goes_on : (m : ℕ) → m < 16 → Marks (slice_index new.follow m) (λ n. Bit (slice_index old.follow m) n ⊎ ((1 ≤ m) × Bit from m × Bit to n))

-- a name, or a sum in parentheses
pub data Atom : ℕ → List ℕ → Tree → Type 0 where
  word : {d : ℕ} {bs : List ℕ} → Named bs → Atom d bs (leaf bs)
  inner : {d : ℕ} {bs : List ℕ} {t : Tree} → Spells sum (suc d) bs t → Atom d (40 ∷ (bs ++ 41 ∷ [])) t

-- a name does not go on with the bytes
abbrev pub Unnamed : List ℕ → Type 0
Unnamed [] = Unit {0}
Unnamed (c ∷ bs) = naming c ≡ false

-- such a part does not go on with the bytes
abbrev pub Ends : Kind → List ℕ → Type 0
Ends factor [] = Unit {0}
Ends factor (c ∷ bs) = (c ≡ 41) ⊎ (c ≡ 43) ⊎ (c ≡ 59)
Ends sequence [] = Unit {0}
Ends sequence (c ∷ bs) = (c ≡ 41) ⊎ (c ≡ 43)
Ends sum [] = Unit {0}
Ends sum (c ∷ bs) = c ≡ 41

-- the program that the tree means was read, and the part and the reader came to a place
pub record ReadAs (acts : List Name) (t : Tree) (to at : ℕ) (old new : Draft) (part : Part) : Type 0 where
  pub program : Program
  pub means : Means acts t program
  pub reaches : at ≡ to
  pub «end» : part.«end» ≡ to
  pub masks : PartOf program (old.names + 1) part
  pub entered : Entered program old new

-- a name of the tree is not declared
abbrev pub Unread : List Name → Tree → ProgramFault → Type 0
Unread acts t f = (f ≡ Undeclared) × ((p : Program) → Means acts t p → ⊥)

-- what a reader at a place gives, where a part S stands that does not go on, and at what place it then is
abbrev pub ReadsAt : (List ℕ → Tree → Type 0) → (List ℕ → Type 0) → List ℕ → ℕ → List Name → Draft → ℕ → Draft → Result Part ProgramFault → Type 0
ReadsAt S E text at acts old after new r =
    (bs rest : List ℕ) (t : Tree)
    → S bs t
    → drop at text ≡ bs ++ rest
    → E rest
    → MatchResult r (ReadAs acts t (at + length bs) after old new) (Unread acts t)

-- the same of the reader, before and after
abbrev pub Reads : (List ℕ → Tree → Type 0) → (List ℕ → Type 0) → Reader → Reader → Result Part ProgramFault → Type 0
Reads S E old new = ReadsAt S E old.text.now old.at old.acts.now old.draft new.at new.draft

-- a name or a sum in parentheses, at some depth
abbrev pub AnAtom : List ℕ → Tree → Type 0
AnAtom bs t = (d : ℕ) × Atom d bs t

-- a part of the kind, at some depth
abbrev pub APart : Kind → List ℕ → Tree → Type 0
APart k bs t = (d : ℕ) × Spells k d bs t

abbrev pub AWord : List ℕ → Tree → Type 0
AWord bs t = Named bs × (t ≡ leaf bs)

-- where a name or a sum in parentheses stands
abbrev pub ReadsAtom : Reader → Reader → Result Part ProgramFault → Type 0
ReadsAtom = Reads AnAtom Unnamed

-- where a factor, a sequence or a sum stands
abbrev pub ReadsPart : Kind → Reader → Reader → Result Part ProgramFault → Type 0
ReadsPart k = Reads (APart k) (Ends k)

-- where a name stands
abbrev pub ReadsWord : Reader → Reader → Result Part ProgramFault → Type 0
ReadsWord = Reads AWord Unnamed

-- the byte stands at a place
abbrev pub At : List ℕ → ℕ → ℕ → Type 0
At text at c = (at < length text) × (slice_index text at ≡ c)

-- the byte stands at the reader's place
abbrev pub Sees : Reader → ℕ → Type 0
Sees reader c = At reader.text.now reader.at c

-- it goes on in the same text, over the same actions
pub record SameTexts (old new : Reader) : Type 0 where
  pub text : new.text ≡ old.text
  pub acts : new.acts ≡ old.acts

-- the sum that was read, one byte further where its closing parenthesis stands
abbrev pub ClosedOff : Reader → Reader → Part → Result Part ProgramFault → Type 0
ClosedOff old new inside r =
    MatchResult r
    (λ part. (new.at ≡ old.at + 1) × (new.draft ≡ old.draft) × (part ≡ record { nullable = inside.nullable; first = inside.first; last = inside.last; «end» = new.at }))
    (λ f. Sees old 41 → ⊥)
