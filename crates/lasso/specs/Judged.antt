-- Words of truths, filled form by form.
use Rattle.std.specs.Prelude.{◌≡◌, ℕ, ◌<◌, Bool, true, not, ◌&&◌, ◌||◌, ◌⊎◌, ◌↔◌, List, length, ◌==◌, slice_index}
use Rattle.program.specs.Masks.{Bit}
use Rattle.program.specs.Rows.{RowOf}
use Rattle.document.specs.Documents.{Document, WellFormed, form_at, formula_at, program_at}
use Rattle.document.specs.Forms.{form_in, row_at}
use Rattle.document.specs.declared.declared.Declared.{Declared}
use Rattle.document.specs.declared.form.Form.{Form}
use Rattle.document.specs.declared.form.Form.TheVariants.{True, Prop, Not, And, Or, Next, Until}
use Rattle.lasso.specs.Lassos.{step_in}
use Rattle.lasso.specs.Readings.{Truth}
use Rattle.lasso.specs.Sessions.{bit_of, reading}
use Rattle.lasso.specs.declared.step.Step.{Step}

-- whether a form holds at a step, by the truths of earlier forms there and at the step after, and an until by its states there
abbrev pub holds_by : Form → Step → ℕ → ℕ → ℕ → Bool
holds_by True s here next states = true
holds_by (Prop p) s here next states = bit_of s.marks p
holds_by (Not f) s here next states = not (bit_of here f)
holds_by (And f g) s here next states = bit_of here f && bit_of here g
holds_by (Or f g) s here next states = bit_of here f || bit_of here g
holds_by (Next a f) s here next states = s.action == a && bit_of next f
holds_by (Until f p g) s here next states = bit_of states 0

-- no until
abbrev pub Plain : Form → Type 0
Plain True = Unit {0}
Plain (Prop p) = Unit {0}
Plain (Not f) = Unit {0}
Plain (And f g) = Unit {0}
Plain (Or f g) = Unit {0}
Plain (Next a f) = Unit {0}
Plain (Until f p g) = ⊥

-- the lines and rows in memory are the forms and programs of the document, and the steps do actions below 16
pub record Judges (held : Declared) (steps : List Step) (d : Document) : Type 0 where
  pub good : WellFormed d
  pub lines : (e : ℕ) → e < length d.forms → form_in held.lines e ≡ form_at d e
  pub count : held.forms.count ≡ length d.forms
  pub rows : (p : ℕ) → p < length d.progs → RowOf (program_at d p) (row_at held.rows p)
  pub low : (i : ℕ) → i < length steps → (step_in steps i).action < 16

-- the truth of each form before e, and of form e at the steps before i, is entered, and nothing else
abbrev pub Judged : Document → List Step → ℕ → ℕ → ℕ → List ℕ → Type 0
Judged d steps stem e i truths = (h k : ℕ) → k < length steps
    → Bit (slice_index truths k) h ↔ (((h < e) ⊎ ((h ≡ e) × (k < i))) × Truth (reading steps stem) k (formula_at d h))

-- at each step state 0 is among the states where form e is true, and not elsewhere
abbrev pub Rests : Document → List Step → ℕ → ℕ → List ℕ → Type 0
Rests d steps stem e states = (i : ℕ) → i < length steps → Bit (slice_index states i) 0 ↔ Truth (reading steps stem) i (formula_at d e)
