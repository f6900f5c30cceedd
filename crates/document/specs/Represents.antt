-- How a document lies in memory.
use Rattle.std.specs.Prelude.{◌≡◌, ℕ, ◌<◌, length}
use Rattle.program.specs.Rows.{RowOf}
use Rattle.document.specs.Documents.{Document, form_at, program_at}
use Rattle.document.specs.Forms.{form_in, row_at}
use Rattle.document.specs.declared.document.Document.{Document as Held}

-- what is held in memory is this document: as many actions and propositions, the row of each program, each form, the goal
pub record Represents (held : Held) (d : Document) : Type 0 where
  pub acts : held.declared.acts.count ≡ d.acts
  pub props : held.declared.props.count ≡ d.props
  pub progs : held.declared.progs.count ≡ length d.progs
  pub rows : (p : ℕ) → p < length d.progs → RowOf (program_at d p) (row_at held.declared.rows p)
  pub forms : held.declared.forms.count ≡ length d.forms
  pub lines : (e : ℕ) → e < length d.forms → form_in held.declared.lines e ≡ form_at d e
  pub goal : held.goal ≡ d.goal
