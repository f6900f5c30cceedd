-- Form lines by number.
use Rattle.std.specs.Prelude.{ℕ, ◌*◌, ◌<◌, Bool, true, false, ◌&&◌, List, [], map, take, nat_lt, slice_index_or}
use Rattle.program.specs.declared.row.Row.{Row}
use Rattle.program.specs.RowStates.{states_in}
use Rattle.document.specs.declared.declared.FormLine.{FormLine}
use Rattle.document.specs.declared.form.Form.{Form}
use Rattle.document.specs.declared.form.Form.TheVariants.{True, Prop, Not, And, Or, Next, Until}

-- form e speaks of declared propositions, actions and programs and of earlier forms
abbrev pub Earlier : (props acts progs e : ℕ) → Form → Type 0
Earlier props acts progs e True = Unit {0}
Earlier props acts progs e (Prop p) = p < props
Earlier props acts progs e (Not f) = f < e
Earlier props acts progs e (And f g) = (f < e) × (g < e)
Earlier props acts progs e (Or f g) = (f < e) × (g < e)
Earlier props acts progs e (Next a f) = (a < acts) × (f < e)
Earlier props acts progs e (Until f p g) = (f < e) × (p < progs) × (g < e)

-- the same as a test
abbrev pub earlier : (props acts progs e : ℕ) → Form → Bool
earlier props acts progs e True = true
earlier props acts progs e (Prop p) = nat_lt p props
earlier props acts progs e (Not f) = nat_lt f e
earlier props acts progs e (And f g) = nat_lt f e && nat_lt g e
earlier props acts progs e (Or f g) = nat_lt f e && nat_lt g e
earlier props acts progs e (Next a f) = nat_lt a acts && nat_lt f e
earlier props acts progs e (Until f p g) = nat_lt f e && (nat_lt p progs && nat_lt g e)

abbrev pub blank_line : FormLine
blank_line = record { form = True; base = 0 }

abbrev pub form_in : List FormLine → ℕ → Form
form_in lines e = (slice_index_or lines e blank_line).form

-- the number of a form's first claim
abbrev pub base_in : List FormLine → ℕ → ℕ
base_in lines e = (slice_index_or lines e blank_line).base

-- the first of these forms, so many
abbrev pub forms_of : ℕ → List FormLine → List Form
forms_of count lines = map (λ l. l.form) (take count lines)

abbrev pub blank_row : Row
blank_row = record { names = 0; actions = []; nullable = false; first = 0; last = 0; follow = [] }

abbrev pub row_at : List Row → ℕ → Row
row_at rows p = slice_index_or rows p blank_row

-- how many claims a form has: 2, but 6 for each state of an until
abbrev pub weight_in : List Row → Form → ℕ
weight_in rows True = 2
weight_in rows (Prop p) = 2
weight_in rows (Not f) = 2
weight_in rows (And f g) = 2
weight_in rows (Or f g) = 2
weight_in rows (Next a f) = 2
weight_in rows (Until f p g) = 6 * states_in (row_at rows p)

-- an until speaks of one of sixteen programs
abbrev pub Known : Form → Type 0
Known True = Unit {0}
Known (Prop p) = Unit {0}
Known (Not f) = Unit {0}
Known (And f g) = Unit {0}
Known (Or f g) = Unit {0}
Known (Next a f) = Unit {0}
Known (Until f p g) = p < 16
