-- How declarations lie in memory.
use Rattle.std.specs.Prelude.{◌≡◌, ℕ, ◌<◌, length, take, slice_index_or}
use Rattle.program.specs.Rows.{RowOf}
use Rattle.program.specs.Words.{act}
use Rattle.document.specs.Documents.{weight}
use Rattle.document.specs.Forms.{base_in, forms_of, row_at}
use Rattle.document.specs.Kept.{names_of}
use Rattle.document.specs.Lines.{Declarations}
use Rattle.document.specs.declared.declared.Declared.{Declared}

-- what is held in memory are these declarations: the names of each kind, the row of each program, the forms, where the
-- claims of each form begin, and the weight of all
pub record Holds (held : Declared) (d : Declarations) : Type 0 where
  pub acts : d.acts ≡ names_of held.acts
  pub props : d.props ≡ names_of held.props
  pub prog_names : d.prog_names ≡ names_of held.progs
  pub form_names : d.form_names ≡ names_of held.forms
  pub forms : d.forms ≡ forms_of held.forms.count held.lines
  pub progs : length d.progs ≡ held.progs.count
  pub rows : (p : ℕ) → p < length d.progs → RowOf (slice_index_or d.progs p (act 0)) (row_at held.rows p)
  pub bases : (e : ℕ) → e < length d.forms → base_in held.lines e ≡ weight d.progs (take e d.forms)
  pub weighs : held.weight ≡ weight d.progs d.forms
