-- What a document means: how many actions and propositions it declares, its programs, its forms and its goal, by number.
use Rattle.std.specs.Prelude.{ℕ, suc, ◌+◌, ◌*◌, ◌<◌, ◌≤◌, List, [], ◌∷◌, ◌++◌, length, slice_index_or}
use Rattle.program.specs.Words.{Program, act}
use Rattle.program.specs.Automata.{names}
use Rattle.document.specs.Formulas.{Formula}
use Rattle.document.specs.Formulas as formula
use Rattle.document.specs.declared.form.Form.{Form}
use Rattle.document.specs.declared.form.Form.TheVariants.{True, Prop, Not, And, Or, Next, Until}

pub record Document : Type 0 where
  pub acts : ℕ
  pub props : ℕ
  pub progs : List Program
  pub forms : List Form
  pub goal : ℕ

-- the formula of a form line, given those of earlier lines
abbrev pub built : List Program → List Formula → Form → Formula
built ps fs True = formula.truth
built ps fs (Prop p) = formula.prop p
built ps fs (Not f) = formula.not (slice_index_or fs f formula.truth)
built ps fs (And f g) = formula.and (slice_index_or fs f formula.truth) (slice_index_or fs g formula.truth)
built ps fs (Or f g) = formula.or (slice_index_or fs f formula.truth) (slice_index_or fs g formula.truth)
built ps fs (Next a f) = formula.next a (slice_index_or fs f formula.truth)
built ps fs (Until f p g) = formula.until (slice_index_or fs f formula.truth) (slice_index_or ps p (act 0)) (slice_index_or fs g formula.truth)

-- the formulas of the form lines, in order, after those of earlier lines
abbrev pub formulas : List Program → List Formula → List Form → List Formula
formulas ps fs [] = fs
formulas ps fs (e ∷ es) = formulas ps (fs ++ built ps fs e ∷ []) es

-- the formula of form e
abbrev pub formula_at : Document → ℕ → Formula
formula_at d e = slice_index_or (formulas d.progs [] d.forms) e formula.truth

abbrev pub goal_formula : Document → Formula
goal_formula d = formula_at d d.goal

abbrev pub form_at : Document → ℕ → Form
form_at d e = slice_index_or d.forms e True

abbrev pub program_at : Document → ℕ → Program
program_at d p = slice_index_or d.progs p (act 0)

-- how many claims speak of a form: 2, but 6 for each state of the automaton of an until
abbrev pub weight_of : List Program → Form → ℕ
weight_of ps True = 2
weight_of ps (Prop p) = 2
weight_of ps (Not f) = 2
weight_of ps (And f g) = 2
weight_of ps (Or f g) = 2
weight_of ps (Next a f) = 2
weight_of ps (Until f p g) = 6 * suc (length (names (slice_index_or ps p (act 0))))

abbrev pub weight : List Program → List Form → ℕ
weight ps [] = 0
weight ps (e ∷ es) = weight_of ps e + weight ps es

-- a form speaks of earlier forms, and of actions, propositions and programs that are there
abbrev pub Refers : Document → ℕ → Form → Type 0
Refers d e True = Unit {0}
Refers d e (Prop p) = p < d.props
Refers d e (Not f) = f < e
Refers d e (And f g) = (f < e) × (g < e)
Refers d e (Or f g) = (f < e) × (g < e)
Refers d e (Next a f) = (a < d.acts) × (f < e)
Refers d e (Until f p g) = (f < e) × (p < length d.progs) × (g < e)

-- what holds of every document that is taken
pub record WellFormed (d : Document) : Type 0 where
  pub active : 0 < d.acts
  pub few_acts : d.acts ≤ 16
  pub few_props : d.props ≤ 16
  pub few_progs : length d.progs ≤ 16
  pub few_forms : length d.forms ≤ 64
  pub short_progs : (p : ℕ) → p < length d.progs → length (names (program_at d p)) ≤ 15
  pub light : weight d.progs d.forms ≤ 256
  pub refers : (e : ℕ) → e < length d.forms → Refers d e (form_at d e)
  pub aimed : d.goal < length d.forms
