-- The claims of a document and their numbers: two for a form that is no until; six runs of one number a state for an until.
use Rattle.std.specs.Prelude.{◌≡◌, ℕ, suc, ◌+◌, ◌*◌, ◌<◌, Bool, true, false, cond, length, take, ◌==◌}
use Rattle.program.specs.Automata.{names}
use Rattle.program.specs.Rows.{RowOf}
use Rattle.document.specs.Documents.{Document, WellFormed, form_at, program_at, weight}
use Rattle.document.specs.Forms.{base_in, form_in, row_at}
use Rattle.document.specs.declared.declared.Declared.{Declared}
use Rattle.document.specs.declared.form.Form.{Form}
use Rattle.document.specs.declared.form.Form.TheVariants.{True, Prop, Not, And, Or, Next, Until}
use Rattle.tableau.specs.Graphs.{Sign.T, Sign.F, Claim, form, until_true, until_false, step_true, step_false, program_of}

abbrev pub is_until : Form → Bool
is_until True = false
is_until (Prop p) = false
is_until (Not f) = false
is_until (And f g) = false
is_until (Or f g) = false
is_until (Next a f) = false
is_until (Until f p g) = true

-- the number of the first claim of form e: the weight of the forms before it
abbrev pub base : Document → ℕ → ℕ
base d e = weight d.progs (take e d.forms)

-- the states of the automaton of an until
abbrev pub states : Document → ℕ → ℕ
states d e = suc (length (names (program_of d (form_at d e))))

-- the form that a claim speaks of
abbrev pub speaks_of : Claim → ℕ
speaks_of (form s e) = e
speaks_of (until_true e q l) = e
speaks_of (until_false e q) = e
speaks_of (step_true e q l) = e
speaks_of (step_false e q) = e

-- the place of a claim among those of its form: T and F; or runs of T until with label 0 and 1, F until, T step with label 0 and 1, F step
abbrev pub place_in : Document → Claim → ℕ
place_in d (form T e) = 0
place_in d (form F e) = 1
place_in d (until_true e q l) = cond (l == 0) 0 1 * states d e + q
place_in d (until_false e q) = 2 * states d e + q
place_in d (step_true e q l) = cond (l == 0) 3 4 * states d e + q
place_in d (step_false e q) = 5 * states d e + q

-- the number of a claim
unfoldable pub number_of : Document → Claim → ℕ
number_of d k = base d (speaks_of k) + place_in d k

-- state q of form e, which is an until
pub record StateOf (d : Document) (e q : ℕ) : Type 0 where
  pub there : e < length d.forms
  pub fated : is_until (form_at d e) ≡ true
  pub known : q < states d e

-- the claim is one of the document's
abbrev pub ClaimOf : Document → Claim → Type 0
ClaimOf d (form s e) = (e < length d.forms) × (is_until (form_at d e) ≡ false)
ClaimOf d (until_true e q l) = StateOf d e q × (l < 2)
ClaimOf d (until_false e q) = StateOf d e q
ClaimOf d (step_true e q l) = StateOf d e q × (l < 2)
ClaimOf d (step_false e q) = StateOf d e q

-- the claim stands at this place among those of form e
pub record ClaimAt (d : Document) (e place : ℕ) (k : Claim) : Type 0 where
  pub own : ClaimOf d k
  pub speaks : speaks_of k ≡ e
  pub stands : place_in d k ≡ place

-- what is declared in memory is the document's: counts, forms, rows of programs, and first claim numbers
pub record Shows (held : Declared) (d : Document) : Type 0 where
  pub good : WellFormed d
  pub acts : held.acts.count ≡ d.acts
  pub props : held.props.count ≡ d.props
  pub count : held.forms.count ≡ length d.forms
  pub lines : (e : ℕ) → e < length d.forms → form_in held.lines e ≡ form_at d e
  pub rows : (p : ℕ) → p < length d.progs → RowOf (program_at d p) (row_at held.rows p)
  pub bases : (e : ℕ) → e < length d.forms → base_in held.lines e ≡ base d e
