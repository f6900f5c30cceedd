-- What is held in memory, and what one more declaration leaves of it.
use Rattle.std.proofs.Common.{◌≡◌, ℕ, suc, ◌+◌, ◌*◌, ◌<◌, ltb, List, [], ◌∷◌, ◌++◌, length, get_or, take, sym, refl, ap, ◌∙◌, subst, arith}
use Rattle.std.proofs.lemmas.List.{get_or_append_left, get_or-map, get_or-take, length-map, length-take-le}
use Rattle.std.proofs.lemmas.Bool.{cond-true, lt-ltb}
use Rattle.program.specs.Automata.{names}
use Rattle.program.specs.Names.{spelled}
use Rattle.program.specs.Rows.{RowOf}
use Rattle.program.specs.RowStates.{states_in}
use Rattle.program.specs.Words.{Program, act}
use Rattle.program.specs.declared.row.Row.{Row}
use Rattle.document.specs.Documents.{weight, weight_of}
use Rattle.document.specs.Forms.{Earlier, blank_line, form_in, forms_of, row_at, weight_in}
use Rattle.document.specs.Holds.{Holds}
use Rattle.document.specs.Kept.{names_of}
use Rattle.document.specs.Lines.{Declarations}
use Rattle.document.specs.declared.declared.Declared.{Declared}
use Rattle.document.specs.declared.form.Form.{Form}
use Rattle.document.specs.declared.names.Names.{Names}
use Rattle.document.specs.declared.form.Form.TheVariants.{True, Prop, Not, And, Or, Next, Until}
use Rattle.document.proofs.Operands.{earlier_so}

-- the declarations that are held, where these are the programs
abbrev pub told : Declared → List Program → Declarations
told held ps =
    record {
      acts = names_of held.acts;
      props = names_of held.props;
      prog_names = names_of held.progs;
      progs = ps;
      form_names = names_of held.forms;
      forms = forms_of held.forms.count held.lines;
    }

pub same : (x y : Declarations) → x.acts ≡ y.acts → x.props ≡ y.props → x.prog_names ≡ y.prog_names → x.progs ≡ y.progs → x.form_names ≡ y.form_names → x.forms ≡ y.forms → x ≡ y
same x y a b c d e f =
    ap (λ v. record { acts = v; props = x.props; prog_names = x.prog_names; progs = x.progs; form_names = x.form_names; forms = x.forms }) a
    ∙ ap (λ v. record { acts = y.acts; props = v; prog_names = x.prog_names; progs = x.progs; form_names = x.form_names; forms = x.forms }) b
    ∙ ap (λ v. record { acts = y.acts; props = y.props; prog_names = v; progs = x.progs; form_names = x.form_names; forms = x.forms }) c
    ∙ ap (λ v. record { acts = y.acts; props = y.props; prog_names = y.prog_names; progs = v; form_names = x.form_names; forms = x.forms }) d
    ∙ ap (λ v. record { acts = y.acts; props = y.props; prog_names = y.prog_names; progs = y.progs; form_names = v; forms = x.forms }) e
    ∙ ap (λ v. record { acts = y.acts; props = y.props; prog_names = y.prog_names; progs = y.progs; form_names = y.form_names; forms = v }) f

pub told_is : (held : Declared) (d : Declarations) → Holds held d → told held d.progs ≡ d
told_is held d h = same (told held d.progs) d (sym h.acts) (sym h.props) (sym h.prog_names) refl (sym h.form_names) (sym h.forms)

-- what holds of what is held, whatever the programs are, holds of all declarations that are held
pub of_all : (held : Declared) (P : Declarations → Type 0) → ((ps : List Program) → Holds held (told held ps) → P (told held ps)) → (d : Declarations) → Holds held d → P d
of_all held P f d h = let e = told_is held d h in subst P e (f d.progs (subst (Holds held) (sym e) h))

-- how many names of each kind
names_long : (n : Names) → length (names_of n) ≡ n.count
names_long n = length-map (take n.count n.list) spelled ∙ length-take-le n.count n.list (omega (arith, n.few, n.room))

pub acts_long : (held : Declared) → length (names_of held.acts) ≡ held.acts.count
acts_long held = names_long held.acts

pub props_long : (held : Declared) → length (names_of held.props) ≡ held.props.count
props_long held = names_long held.props

pub forms_long : (held : Declared) → length (forms_of held.forms.count held.lines) ≡ held.forms.count
forms_long held = length-map (take held.forms.count held.lines) _ ∙ length-take-le held.forms.count held.lines (omega (arith, held.forms.few, held.room))

-- the forms that are held, by number
pub form_held : (held : Declared) (e : ℕ) → e < held.forms.count → get_or (forms_of held.forms.count held.lines) e True ≡ form_in held.lines e
form_held held e h =
    get_or-map (λ l. l.form) (take held.forms.count held.lines) e blank_line True (omega (arith, length-take-le held.forms.count held.lines (omega (arith, held.forms.few, held.room))))
    ∙ ap (λ l. l.form) (get_or-take held.forms.count held.lines e blank_line h)

-- the states of a row that is a program's
row_states : (p : Program) (row : Row) → RowOf p row → states_in row ≡ suc (length (names p))
row_states p row h =
    let less : row.names < 16 = omega (arith, h.count, h.few) in
    cond-true (ltb row.names 16) (row.names + 1) 16 (lt-ltb row.names 16 less) ∙ omega (arith, h.count)

-- the weight of a form is that of its row
pub weight_is : (ps : List Program) (rows : List Row) (props acts e : ℕ) (f : Form) → ((p : ℕ) → p < length ps → RowOf (get_or ps p (act 0)) (row_at rows p)) → Earlier props acts (length ps) e f
    → weight_in rows f ≡ weight_of ps f
weight_is ps rows props acts e True h k = refl
weight_is ps rows props acts e (Prop p) h k = refl
weight_is ps rows props acts e (Not f) h k = refl
weight_is ps rows props acts e (And f g) h k = refl
weight_is ps rows props acts e (Or f g) h k = refl
weight_is ps rows props acts e (Next a f) h k = refl
weight_is ps rows props acts e (Until f p g) h k = ap (λ n. 6 * n) (row_states (get_or ps p (act 0)) (row_at rows p) (h p k.1))

-- one program more leaves the weight of a form
weight_of_kept : (ps : List Program) (q : Program) (props acts e : ℕ) (f : Form) → Earlier props acts (length ps) e f → weight_of (ps ++ q ∷ []) f ≡ weight_of ps f
weight_of_kept ps q props acts e True k = refl
weight_of_kept ps q props acts e (Prop p) k = refl
weight_of_kept ps q props acts e (Not f) k = refl
weight_of_kept ps q props acts e (And f g) k = refl
weight_of_kept ps q props acts e (Or f g) k = refl
weight_of_kept ps q props acts e (Next a f) k = refl
weight_of_kept ps q props acts e (Until f p g) k = ap (λ r. 6 * suc (length (names r))) (get_or_append_left ps (q ∷ []) (act 0) p k.1)

pub weight_kept : (ps : List Program) (q : Program) (props acts e : ℕ) (fs : List Form) → ((i : ℕ) → i < length fs → Earlier props acts (length ps) (e + i) (get_or fs i True))
    → weight (ps ++ q ∷ []) fs ≡ weight ps fs
weight_kept ps q props acts e [] h = refl
weight_kept ps q props acts e (f ∷ fs) h =
    let a = weight_of_kept ps q props acts (e + 0) f (h 0 (omega arith)) in
    let b = weight_kept ps q props acts (suc e) fs (λ i l. let s : e + suc i ≡ suc e + i = omega arith in subst (λ v. Earlier props acts (length ps) v (get_or fs i True)) s (h (suc i) (omega arith))) in
    omega arith

pub weight_push : (ps : List Program) (fs : List Form) (f : Form) → weight ps (fs ++ f ∷ []) ≡ weight ps fs + weight_of ps f
weight_push ps [] f = omega arith
weight_push ps (g ∷ fs) f = let h = weight_push ps fs f in omega arith

-- each form speaks of what is declared before it
pub refers : (held : Declared) (e : ℕ) → e < held.forms.count
    → Earlier held.props.count held.acts.count held.progs.count e (get_or (forms_of held.forms.count held.lines) e True)
refers held e h =
    subst (Earlier held.props.count held.acts.count held.progs.count e) (sym (form_held held e h))
    (earlier_so held.props.count held.acts.count held.progs.count e (form_in held.lines e) (held.ordered e h))
