-- What lines declare grows, and stays within the limits where it ends within them.
use Rattle.std.proofs.Common.{◌≡◌, ℕ, ◌<◌, ◌≤◌, ◌≢◌, List, [], ◌∷◌, ◌++◌, length, get_or, sym, refl, subst, ⊎_elim, zero-add, arith}
use Rattle.std.proofs.lemmas.List.{get_or_append_left, get_or_push, length_push}
use Rattle.std.proofs.lemmas.Bool.{cases_eq}
use Rattle.program.specs.Automata.{names}
use Rattle.program.specs.Spellings.{SpellsProgramIn}
use Rattle.program.specs.Words.{Program, act}
use Rattle.program.proofs.Spellings.{one_program_in}
use Rattle.document.specs.Documents.{weight}
use Rattle.document.specs.Forms.{Earlier}
use Rattle.document.specs.Lines.{Declarations, nothing, Line, act_line, prop_line, goal_line, prog_line, true_form, prop_form, not_form, and_form, or_form, next_form, until_form}
use Rattle.document.specs.Declaring.{FormOfByFirst, WellNamedByFirst, FineByFirst, AddsFormByFirst, AddsByFirst}
use Rattle.document.specs.declared.form.Form.{Form}
use Rattle.document.specs.declared.form.Form.TheVariants.{True, Prop, Not, And, Or, Next, Until}
use Rattle.document.proofs.FormLines.{FormLine, one_form}
use Rattle.document.proofs.Held.{weight_kept, weight_push}

-- one declaration more, by sort
data Grows (d : Declarations) : Line → Declarations → Type 0 where
  by_act : (n : List ℕ) → Grows d (act_line n) (record { acts = d.acts ++ n ∷ []; props = d.props; prog_names = d.prog_names; progs = d.progs; form_names = d.form_names; forms = d.forms })
  by_prop : (n : List ℕ) → Grows d (prop_line n) (record { acts = d.acts; props = d.props ++ n ∷ []; prog_names = d.prog_names; progs = d.progs; form_names = d.form_names; forms = d.forms })
  by_prog : (n text : List ℕ) (p : Program) → SpellsProgramIn text d.acts p → Grows d (prog_line n text) (record { acts = d.acts; props = d.props; prog_names = d.prog_names ++ n ∷ []; progs = d.progs ++ p ∷ []; form_names = d.form_names; forms = d.forms })
  by_form : (x : Line) (n : List ℕ) (f : Form) → FormLine d x n → FormOfByFirst d x f → Grows d x (record { acts = d.acts; props = d.props; prog_names = d.prog_names; progs = d.progs; form_names = d.form_names ++ n ∷ []; forms = d.forms ++ f ∷ [] })

grows_form : (d m : Declarations) (x : Line) (n : List ℕ) → FormLine d x n → AddsFormByFirst d x n m → Grows d x m
grows_form d m x n s a = subst (Grows d x) (sym a.2) (by_form x n a.0 s a.1)

grows : (d m : Declarations) (x : Line) → AddsByFirst d x m → Grows d x m
grows d m (act_line n) a = subst (Grows d (act_line n)) (sym a) (by_act n)
grows d m (prop_line n) a = subst (Grows d (prop_line n)) (sym a) (by_prop n)
grows d m (goal_line n) a = absurd a
grows d m (prog_line n text) a = subst (Grows d (prog_line n text)) (sym a.2) (by_prog n text a.0 a.1)
grows d m (true_form n) a = grows_form d m (true_form n) n (record { new_in = λ x. x; new_out = λ x. x; fits_in = λ x. x; fits_out = λ x. x; sound = λ c m. m; placed = tt; adds = λ e x. x }) a
grows d m (prop_form n p) a = grows_form d m (prop_form n p) n (record { new_in = λ x. x; new_out = λ x. x; fits_in = λ x. x; fits_out = λ x. x; sound = λ c m. m; placed = tt; adds = λ e x. x }) a
grows d m (not_form n f) a = grows_form d m (not_form n f) n (record { new_in = λ x. x; new_out = λ x. x; fits_in = λ x. x; fits_out = λ x. x; sound = λ c m. m; placed = tt; adds = λ e x. x }) a
grows d m (and_form n f g) a = grows_form d m (and_form n f g) n (record { new_in = λ x. x; new_out = λ x. x; fits_in = λ x. x; fits_out = λ x. x; sound = λ c m. m; placed = tt; adds = λ e x. x }) a
grows d m (or_form n f g) a = grows_form d m (or_form n f g) n (record { new_in = λ x. x; new_out = λ x. x; fits_in = λ x. x; fits_out = λ x. x; sound = λ c m. m; placed = tt; adds = λ e x. x }) a
grows d m (next_form n u f) a = grows_form d m (next_form n u f) n (record { new_in = λ x. x; new_out = λ x. x; fits_in = λ x. x; fits_out = λ x. x; sound = λ c m. m; placed = tt; adds = λ e x. x }) a
grows d m (until_form n f p g) a = grows_form d m (until_form n f p g) n (record { new_in = λ x. x; new_out = λ x. x; fits_in = λ x. x; fits_out = λ x. x; sound = λ c m. m; placed = tt; adds = λ e x. x }) a

-- forms speak of what is declared before them
pub record Sound (d : Declarations) : Type 0 where
  pub same_progs : length d.prog_names ≡ length d.progs
  pub same_forms : length d.form_names ≡ length d.forms
  pub refers : (e : ℕ) → e < length d.forms → Earlier (length d.props) (length d.acts) (length d.progs) e (get_or d.forms e True)

pub sound_nothing : Sound nothing
sound_nothing = record { same_progs = refl; same_forms = refl; refers = λ e h. absurd (omega arith) }

earlier_more : (props acts progs props' acts' progs' e : ℕ) (f : Form) → props ≤ props' → acts ≤ acts' → progs ≤ progs' → Earlier props acts progs e f → Earlier props' acts' progs' e f
earlier_more props acts progs props' acts' progs' e True a b c h = tt
earlier_more props acts progs props' acts' progs' e (Prop p) a b c h = omega arith
earlier_more props acts progs props' acts' progs' e (Not f) a b c h = h
earlier_more props acts progs props' acts' progs' e (And f g) a b c h = h
earlier_more props acts progs props' acts' progs' e (Or f g) a b c h = h
earlier_more props acts progs props' acts' progs' e (Next u f) a b c h = (omega (arith, h.0), h.1)
earlier_more props acts progs props' acts' progs' e (Until f p g) a b c h = (h.0, omega (arith, h.1), h.2)

-- the form that a line declares speaks of what is declared
form_earlier : (d : Declarations) (x : Line) (f : Form) → Sound d → FormOfByFirst d x f → Earlier (length d.props) (length d.acts) (length d.progs) (length d.forms) f
form_earlier d (act_line n) f s h = absurd h
form_earlier d (prop_line n) f s h = absurd h
form_earlier d (goal_line n) f s h = absurd h
form_earlier d (prog_line n p) f s h = absurd h
form_earlier d (true_form n) f s h = rw h tt
form_earlier d (prop_form n p) f s h = rw h.2 h.1.0
form_earlier d (not_form n p) f s h = rw h.2 (omega (arith, s.same_forms, h.1.0))
form_earlier d (and_form n p q) f s h = rw h.4 (omega (arith, s.same_forms, h.2.0), omega (arith, s.same_forms, h.3.0))
form_earlier d (or_form n p q) f s h = rw h.4 (omega (arith, s.same_forms, h.2.0), omega (arith, s.same_forms, h.3.0))
form_earlier d (next_form n u q) f s h = rw h.4 (h.2.0, omega (arith, s.same_forms, h.3.0))
form_earlier d (until_form n p r q) f s h =
    rw h.6 (omega (arith, s.same_forms, h.3.0), omega (arith, s.same_progs, h.4.0), omega (arith, s.same_forms, h.5.0))

sound_grows : (d m : Declarations) (x : Line) → Sound d → Grows d x m → Sound m
sound_grows d m x s (by_act n) =
    let long = length_push d.acts n in
    record {
      same_progs = s.same_progs;
      same_forms = s.same_forms;
      refers = λ e h. earlier_more (length d.props) (length d.acts) (length d.progs) _ _ _ e (get_or d.forms e True) (omega arith) (omega arith) (omega arith) (s.refers e h);
    }
sound_grows d m x s (by_prop n) =
    let long = length_push d.props n in
    record {
      same_progs = s.same_progs;
      same_forms = s.same_forms;
      refers = λ e h. earlier_more (length d.props) (length d.acts) (length d.progs) (length (d.props ++ n ∷ [])) (length d.acts) (length d.progs) e (get_or d.forms e True) (omega arith) (omega arith) (omega arith) (s.refers e h);
    }
sound_grows d m x s (by_prog n text p h) =
    let a = length_push d.prog_names n in
    let b = length_push d.progs p in
    record {
      same_progs = omega (arith, s.same_progs);
      same_forms = s.same_forms;
      refers = λ e l. earlier_more (length d.props) (length d.acts) (length d.progs) (length d.props) (length d.acts) (length (d.progs ++ p ∷ [])) e (get_or d.forms e True) (omega arith) (omega arith) (omega arith) (s.refers e l);
    }
sound_grows d m x s (by_form y n f t h) =
    let a = length_push d.form_names n in
    let b = length_push d.forms f in
    record {
      same_progs = s.same_progs;
      same_forms = omega (arith, s.same_forms);
      refers = λ e l.
          ⊎_elim
          (λ (same : e ≡ length d.forms).
          subst (λ (v : Form). Earlier (length d.props) (length d.acts) (length d.progs) e v) (sym (get_or_push d.forms f True e (sym same)))
          (subst (λ (v : ℕ). Earlier (length d.props) (length d.acts) (length d.progs) v f) (sym same) (form_earlier d y f s h)))
          (λ (ne : e ≢ length d.forms).
          subst (λ (v : Form). Earlier (length d.props) (length d.acts) (length d.progs) e v) (sym (get_or_append_left d.forms (f ∷ []) True e (omega arith)))
          (s.refers e (omega arith)))
          (cases_eq e (length d.forms));
    }

pub sound_adds : (d m : Declarations) (x : Line) → Sound d → AddsByFirst d x m → Sound m
sound_adds d m x s a = sound_grows d m x s (grows d m x a)

-- within the limits
pub record Limits (d : Declarations) : Type 0 where
  pub few_acts : length d.acts ≤ 16
  pub few_props : length d.props ≤ 16
  pub few_progs : length d.progs ≤ 16
  pub few_forms : length d.forms ≤ 64
  pub short : (p : ℕ) → p < length d.progs → length (names (get_or d.progs p (act 0))) ≤ 15
  pub light : weight d.progs d.forms ≤ 256

pub limits_nothing : Limits nothing
limits_nothing = record { few_acts = omega arith; few_props = omega arith; few_progs = omega arith; few_forms = omega arith; short = λ p h. absurd (omega arith); light = omega arith }

-- one program more leaves the weight
kept : (d : Declarations) (p : Program) → Sound d → weight (d.progs ++ p ∷ []) d.forms ≡ weight d.progs d.forms
kept d p s =
    weight_kept d.progs p (length d.props) (length d.acts) 0 d.forms (λ i l. subst (λ v. Earlier (length d.props) (length d.acts) (length d.progs) v (get_or d.forms i True)) (sym (zero-add i)) (s.refers i l))

limits_grows : (d m : Declarations) (x : Line) → Sound d → Limits d → FineByFirst d x → Grows d x m → Limits m
limits_grows d m x s h fine (by_act n) =
    let long = length_push d.acts n in
    record { few_acts = omega (arith, fine.within); few_props = h.few_props; few_progs = h.few_progs; few_forms = h.few_forms; short = h.short; light = h.light }
limits_grows d m x s h fine (by_prop n) =
    let long = length_push d.props n in
    record { few_acts = h.few_acts; few_props = omega (arith, fine.within); few_progs = h.few_progs; few_forms = h.few_forms; short = h.short; light = h.light }
limits_grows d m x s h fine (by_prog n text p says) =
    let long = length_push d.progs p in
    record {
      few_acts = h.few_acts;
      few_props = h.few_props;
      few_progs = omega (arith, fine.within.0);
      few_forms = h.few_forms;
      short = λ i l.
          ⊎_elim
          (λ (same : i ≡ length d.progs). subst (λ (v : Program). length (names v) ≤ 15) (sym (get_or_push d.progs p (act 0) i (sym same))) (fine.within.1 p says))
          (λ (ne : i ≢ length d.progs).
          subst (λ (v : Program). length (names v) ≤ 15) (sym (get_or_append_left d.progs (p ∷ []) (act 0) i (omega arith))) (h.short i (omega arith)))
          (cases_eq i (length d.progs));
      light = omega (arith, kept d p s, h.light);
    }
limits_grows d m x s h fine (by_form y n f t is) =
    let long = length_push d.forms f in
    let w = t.fits_out fine.within in
    record { few_acts = h.few_acts; few_props = h.few_props; few_progs = h.few_progs; few_forms = omega (arith, w.0); short = h.short; light = w.1 f is }

pub limits_adds : (d m : Declarations) (x : Line) → Sound d → Limits d → FineByFirst d x → AddsByFirst d x m → Limits m
limits_adds d m x s h fine a = limits_grows d m x s h fine (grows d m x a)

-- where one more declaration is within the limits, the line is fine, and all before it is within them too
abbrev Back : Declarations → Line → Type 0
Back d x = FineByFirst d x × Limits d

back_grows : (d m : Declarations) (x : Line) → Sound d → WellNamedByFirst d x → Grows d x m → Limits m → Back d x
back_grows d m x s well (by_act n) h =
    let long = length_push d.acts n in (
      record { spelled = λ c e. e; well_named = well; within = omega (arith, h.few_acts); in_place = tt },
      record { few_acts = omega (arith, h.few_acts); few_props = h.few_props; few_progs = h.few_progs; few_forms = h.few_forms; short = h.short; light = h.light },
    )
back_grows d m x s well (by_prop n) h =
    let long = length_push d.props n in (
      record { spelled = λ c e. e; well_named = well; within = omega (arith, h.few_props); in_place = tt },
      record { few_acts = h.few_acts; few_props = omega (arith, h.few_props); few_progs = h.few_progs; few_forms = h.few_forms; short = h.short; light = h.light },
    )
back_grows d m x s well (by_prog n text p says) h =
    let long = length_push d.progs p in
    let last : length (names p) ≤ 15 = subst (λ (v : Program). length (names v) ≤ 15) (get_or_push d.progs p (act 0) (length d.progs) refl) (h.short (length d.progs) (omega arith)) in (
      record {
        spelled = λ c e. e.unwell (says.0, says.1);
        well_named = well;
        within = (omega (arith, h.few_progs), λ q other. subst (λ (v : Program). length (names v) ≤ 15) (one_program_in text d.acts p q says other) last);
        in_place = tt;
      },
      record {
        few_acts = h.few_acts;
        few_props = h.few_props;
        few_progs = omega (arith, h.few_progs);
        few_forms = h.few_forms;
        short = λ i l. subst (λ (v : Program). length (names v) ≤ 15) (get_or_append_left d.progs (p ∷ []) (act 0) i l) (h.short i (omega arith));
        light = omega (arith, kept d p s, h.light);
      },
    )
back_grows d m x s well (by_form y n f t is) h =
    let long = length_push d.forms f in
    let more = weight_push d.progs d.forms f in (
      record {
        spelled = t.sound;
        well_named = well;
        within = t.fits_in
            (omega (arith, h.few_forms), λ g other. subst (λ (v : Form). weight d.progs (d.forms ++ v ∷ []) ≤ 256) (one_form d y f g is other) h.light);
        in_place = t.placed;
      },
      record { few_acts = h.few_acts; few_props = h.few_props; few_progs = h.few_progs; few_forms = omega (arith, h.few_forms); short = h.short; light = omega (arith, h.light) },
    )

pub back : (d m : Declarations) (x : Line) → Sound d → WellNamedByFirst d x → AddsByFirst d x m → Limits m → FineByFirst d x × Limits d
back d m x s well a h = back_grows d m x s well (grows d m x a) h
