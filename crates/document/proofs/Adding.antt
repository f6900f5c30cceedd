-- One more declaration in memory.
use Rattle.std.proofs.Common.{◌≡◌, ℕ, ◌+◌, ◌<◌, ◌≢◌, List, [], ◌∷◌, ◌++◌, length, map, get_or, take, set, sym, refl, ap, ◌∙◌, subst, ⊎_elim, zero-add, arith}
use Rattle.std.proofs.lemmas.List.{get_or-set_same, get_or-set_other, get_or_append_left, get_or_push, length_push, map_push, take_more_set, take-append-le, take_at, length-take-le, get_or-take}
use Rattle.std.proofs.lemmas.Bool.{cases_eq}
use Rattle.program.specs.Rows.{RowOf}
use Rattle.program.specs.Words.{Program, act}
use Rattle.program.specs.declared.row.Row.{Row}
use Rattle.document.specs.Documents.{weight, weight_of}
use Rattle.document.specs.Forms.{Earlier, blank_line, base_in, forms_of, row_at, weight_in}
use Rattle.document.specs.Holds.{Holds}
use Rattle.document.specs.declared.declared.Declared.{Declared}
use Rattle.document.specs.declared.declared.FormLine.{FormLine}
use Rattle.document.specs.declared.form.Form.{Form}
use Rattle.document.specs.declared.form.Form.TheVariants.{True}
use Rattle.document.proofs.Held.{told, forms_long, weight_is, weight_kept, weight_push, refers}

-- what lies in memory besides names
record Lies (ps : List Program) (n : ℕ) (rows : List Row) (fs : List Form) (lines : List FormLine) (w : ℕ) : Type 0 where
  pub progs : length ps ≡ n
  pub at_rows : (p : ℕ) → p < length ps → RowOf (get_or ps p (act 0)) (row_at rows p)
  pub at_bases : (e : ℕ) → e < length fs → base_in lines e ≡ weight ps (take e fs)
  pub weighs : w ≡ weight ps fs

lies : (s : Declared) (ps : List Program) → Holds s (told s ps) → Lies ps s.progs.count s.rows (forms_of s.forms.count s.lines) s.lines s.weight
lies s ps h = record { progs = h.progs; at_rows = h.rows; at_bases = h.bases; weighs = h.weighs }

holds : (s : Declared) (ps : List Program) → Lies ps s.progs.count s.rows (forms_of s.forms.count s.lines) s.lines s.weight → Holds s (told s ps)
holds s ps h =
    record { acts = refl; props = refl; prog_names = refl; form_names = refl; forms = refl; progs = h.progs; rows = h.at_rows; bases = h.at_bases; weighs = h.weighs }

-- one action or proposition more
pub holds_same : (s r : Declared) (ps : List Program) → r.progs ≡ s.progs → r.rows ≡ s.rows → r.forms ≡ s.forms → r.lines ≡ s.lines → r.weight ≡ s.weight
    → Holds s (told s ps) → Holds r (told r ps)
holds_same s r ps a b c d e h =
    holds r ps (subst (λ v. Lies ps v.count r.rows (forms_of r.forms.count r.lines) r.lines r.weight) (sym a)
    (subst (λ v. Lies ps s.progs.count v (forms_of r.forms.count r.lines) r.lines r.weight) (sym b)
    (subst (λ v. Lies ps s.progs.count s.rows (forms_of v.count r.lines) r.lines r.weight) (sym c)
    (subst (λ v. Lies ps s.progs.count s.rows (forms_of s.forms.count v) v r.weight) (sym d)
    (subst (λ v. Lies ps s.progs.count s.rows (forms_of s.forms.count s.lines) s.lines v) (sym e) (lies s ps h))))))

-- one program more
lies_prog : (ps : List Program) (n : ℕ) (rows : List Row) (fs : List Form) (lines : List FormLine) (w props acts : ℕ) (q : Program) (row : Row)
    → n < length rows → RowOf q row → ((e : ℕ) → e < length fs → Earlier props acts (length ps) e (get_or fs e True))
    → Lies ps n rows fs lines w → Lies (ps ++ q ∷ []) (n + 1) (set rows n row) fs lines w
lies_prog ps n rows fs lines w props acts q row room is known h =
    let long = length_push ps q in
    record {
      progs = omega (arith, h.progs);
      at_rows = λ p less.
          ⊎_elim
          (λ e. let i : length ps ≡ p = omega (arith, h.progs) in
          subst (λ (v : Program). RowOf v (row_at (set rows n row) p)) (sym (get_or_push ps q (act 0) p i))
          (subst (λ (v : ℕ). RowOf q (row_at (set rows n row) v)) (sym e) (subst (RowOf q) (sym (get_or-set_same rows n row _ room)) is)))
          (λ (ne : p ≢ n). let low : p < length ps = omega (arith, h.progs) in
          subst (λ (v : Program). RowOf v (row_at (set rows n row) p)) (sym (get_or_append_left ps (q ∷ []) (act 0) p low))
          (subst (RowOf (get_or ps p (act 0))) (sym (get_or-set_other rows n p row _ ne)) (h.at_rows p low)))
          (cases_eq p n);
      at_bases = λ e less. h.at_bases e less ∙ sym (weight_kept ps q props acts 0 (take e fs) (λ i l.
          let few : length (take e fs) ≡ e = length-take-le e fs (omega arith) in
          subst (λ v. Earlier props acts (length ps) v (get_or (take e fs) i True)) (sym (zero-add i))
          (subst (Earlier props acts (length ps) i) (sym (get_or-take e fs i True (omega arith))) (known i (omega arith)))));
      weighs = h.weighs ∙ sym (weight_kept ps q props acts 0 fs (λ i l. subst (λ v. Earlier props acts (length ps) v (get_or fs i True)) (sym (zero-add i)) (known i l)));
    }

pub holds_prog : (s r : Declared) (ps : List Program) (q : Program) (row : Row) → s.progs.count < 16 → RowOf q row
    → r.progs.count ≡ s.progs.count + 1 → r.rows ≡ set s.rows s.progs.count row → r.forms ≡ s.forms → r.lines ≡ s.lines → r.weight ≡ s.weight
    → Holds s (told s ps) → Holds r (told r (ps ++ q ∷ []))
holds_prog s r ps q row room is a b c d e h =
    holds r (ps ++ q ∷ []) (subst (λ v. Lies (ps ++ q ∷ []) v r.rows (forms_of r.forms.count r.lines) r.lines r.weight) (sym a)
    (subst (λ v. Lies (ps ++ q ∷ []) (s.progs.count + 1) v (forms_of r.forms.count r.lines) r.lines r.weight) (sym b)
    (subst (λ v. Lies (ps ++ q ∷ []) (s.progs.count + 1) (set s.rows s.progs.count row) (forms_of v.count r.lines) r.lines r.weight) (sym c)
    (subst (λ v. Lies (ps ++ q ∷ []) (s.progs.count + 1) (set s.rows s.progs.count row) (forms_of s.forms.count v) v r.weight) (sym d)
    (subst (λ v. Lies (ps ++ q ∷ []) (s.progs.count + 1) (set s.rows s.progs.count row) (forms_of s.forms.count s.lines) s.lines v) (sym e)
    (lies_prog ps s.progs.count s.rows (forms_of s.forms.count s.lines) s.lines s.weight s.props.count s.acts.count q row (omega (arith, s.room)) is
    (λ i l. subst (λ n. Earlier s.props.count s.acts.count n i (get_or (forms_of s.forms.count s.lines) i True)) (sym h.progs) (refers s i (omega (arith, forms_long s))))
    (lies s ps h)))))))

-- one form more
lies_form : (ps : List Program) (n : ℕ) (rows : List Row) (fs : List Form) (lines : List FormLine) (w : ℕ) (f : Form)
    → length fs < length lines → weight_in rows f ≡ weight_of ps f
    → Lies ps n rows fs lines w → Lies ps n rows (fs ++ f ∷ []) (set lines (length fs) (record { form = f; base = w })) (w + weight_in rows f)
lies_form ps n rows fs lines w f room is h =
    let long = length_push fs f in
    let line : FormLine = record { form = f; base = w } in
    record {
      progs = h.progs;
      at_rows = h.at_rows;
      at_bases = λ e less.
          ⊎_elim
          (λ (same : e ≡ length fs).
          ap (base_in (set lines (length fs) line)) same ∙ ap (λ l. l.base) (get_or-set_same lines (length fs) line blank_line room) ∙ h.weighs
          ∙ ap (weight ps) (sym (take_at fs (f ∷ []) e (sym same))))
          (λ (ne : e ≢ length fs).
          ap (λ l. l.base) (get_or-set_other lines (length fs) e line blank_line ne) ∙ h.at_bases e (omega arith) ∙ ap (weight ps) (sym (take-append-le e fs (f ∷ []) (omega arith))))
          (cases_eq e (length fs));
      weighs = let p = weight_push ps fs f in omega (arith, h.weighs);
    }

pub holds_form : (s r : Declared) (ps : List Program) (f : Form) → s.forms.count < 64 → Earlier s.props.count s.acts.count s.progs.count s.forms.count f
    → r.forms.count ≡ s.forms.count + 1 → r.lines ≡ set s.lines s.forms.count (record { form = f; base = s.weight })
    → r.weight ≡ s.weight + weight_in s.rows f → r.progs ≡ s.progs → r.rows ≡ s.rows
    → Holds s (told s ps) → (forms_of r.forms.count r.lines ≡ forms_of s.forms.count s.lines ++ f ∷ []) × Holds r (told r ps)
holds_form s r ps f room known a b d e g h =
    let n = s.forms.count in
    let fs = forms_of n s.lines in
    let line : FormLine = record { form = f; base = s.weight } in
    let more : forms_of r.forms.count r.lines ≡ fs ++ f ∷ []
    = ap (λ v. forms_of v r.lines) a ∙ ap (forms_of (n + 1)) b ∙ ap (map (λ l. l.form)) (take_more_set s.lines n line (omega (arith, s.room))) ∙ map_push (λ l. l.form) (take n s.lines) line in
    let long = forms_long s in (
      more,
      holds r ps (subst (λ v. Lies ps v.count r.rows (forms_of r.forms.count r.lines) r.lines r.weight) (sym e)
          (subst (λ v. Lies ps s.progs.count v (forms_of r.forms.count r.lines) r.lines r.weight) (sym g)
          (subst (λ v. Lies ps s.progs.count s.rows v r.lines r.weight) (sym more)
          (subst (λ v. Lies ps s.progs.count s.rows (fs ++ f ∷ []) v r.weight) (sym b)
          (subst (λ v. Lies ps s.progs.count s.rows (fs ++ f ∷ []) (set s.lines n line) v) (sym d)
          (subst (λ v. Lies ps s.progs.count s.rows (fs ++ f ∷ []) (set s.lines v line) (s.weight + weight_in s.rows f)) long
          (lies_form ps s.progs.count s.rows fs s.lines s.weight f (omega (arith, s.room))
          (weight_is ps s.rows s.props.count s.acts.count n f h.rows (subst (λ v. Earlier s.props.count s.acts.count v n f) (sym h.progs) known))
          (lies s ps h)))))))),
    )
