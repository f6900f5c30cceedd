-- Where the names of each kind are all different, a line says the same by the places of names as by their first places.
use Rattle.std.proofs.Common.{◌≡◌, ℕ, zero, suc, ◌<◌, List, [], ◌∷◌, ◌++◌, length, get_or, sym, ◌∙◌, subst, ⊎_elim, arith}
use Rattle.std.specs.List.{ContainsAt as Has}
use Rattle.std.proofs.lemmas.List.{get_or_append_left, get_or_push, length_push, get_or_default}
use Rattle.std.proofs.lemmas.Bool.{cases_lt}
use Rattle.program.specs.Spellings.{Missing, NumberIn, MeansIn, SpellsProgramIn}
use Rattle.program.specs.Text.{Tree, leaf, choice, chain, repeat}
use Rattle.program.specs.Words.{Program}
use Rattle.document.specs.Lines.{Declarations, nothing, Numbered, Line, act_line, prop_line, goal_line, prog_line, true_form, prop_form, not_form, and_form, or_form, next_form, until_form, Means, SpellsProgram, New}
use Rattle.document.specs.Lines as place
use Rattle.document.specs.Declaring.{KnownName, NewName}
use Rattle.document.specs.Declaring as first
use Rattle.document.specs.declared.form.Form.{Form}
use Rattle.document.proofs.Deciding.{first_below}

-- a name has a number exactly if it stands at that place
numbered_out : (ns : List (List ℕ)) (n : List ℕ) (i : ℕ) → Numbered ns n i → (i < length ns) × (get_or ns i [] ≡ n)
numbered_out [] n i h = absurd h
numbered_out (x ∷ ns) n zero h = (omega arith, h)
numbered_out (x ∷ ns) n (suc i) h = let t = numbered_out ns n i h in (omega (arith, t.0), t.1)

numbered_in : (ns : List (List ℕ)) (n : List ℕ) (i : ℕ) → i < length ns → get_or ns i [] ≡ n → Numbered ns n i
numbered_in [] n i l e = absurd (omega arith)
numbered_in (x ∷ ns) n zero l e = e
numbered_in (x ∷ ns) n (suc i) l e = numbered_in ns n i (omega arith) e

-- a name that some place has is known, and a new one is missing
known_to : (ns : List (List ℕ)) (n : List ℕ) → Has ns n → KnownName ns n
known_to ns n h = ⊎_elim (λ t. (t.0, (t.1, t.2, t.3))) (λ none. absurd (none h.0 h.1 (h.2 []))) (first_below ns n (length ns))

known_from : (ns : List (List ℕ)) (n : List ℕ) → KnownName ns n → Has ns n
known_from ns n k = (k.0, k.1.0, λ d. get_or_default ns k.0 d [] k.1.0 ∙ k.1.1)

new_to : (ns : List (List ℕ)) (n : List ℕ) → New ns n → Missing ns n
new_to ns n un = λ k l e. un (k, l, λ d. get_or_default ns k d [] l ∙ e)

new_from : (ns : List (List ℕ)) (n : List ℕ) → Missing ns n → New ns n
new_from ns n none = λ h. none h.0 h.1 (h.2 [])

-- the names are all different
abbrev Apart : List (List ℕ) → Type 0
Apart ns = (i j : ℕ) → i < j → j < length ns → get_or ns i [] ≡ get_or ns j [] → ⊥

apart_push : (ns : List (List ℕ)) (n : List ℕ) → Apart ns → Missing ns n → Apart (ns ++ n ∷ [])
apart_push ns n a none i j l b e =
    let long = length_push ns n in
    let here = get_or_append_left ns (n ∷ []) [] i (omega arith) in
    ⊎_elim (λ x. a i j l x (sym here ∙ e ∙ get_or_append_left ns (n ∷ []) [] j x))
    (λ x. none i (omega arith) (sym here ∙ e ∙ get_or_push ns n [] j (omega arith))) (cases_lt j (length ns))

number_to : (ns : List (List ℕ)) (n : List ℕ) (i : ℕ) → Apart ns → Numbered ns n i → NumberIn ns n i
number_to ns n i a h = let t = numbered_out ns n i h in (t.0, t.1, λ k l e. a k i l t.0 (e ∙ sym t.1))

number_from : (ns : List (List ℕ)) (n : List ℕ) (i : ℕ) → NumberIn ns n i → Numbered ns n i
number_from ns n i h = numbered_in ns n i h.0 h.1

-- programs
means_to : (acts : List (List ℕ)) (t : Tree) (p : Program) → Apart acts → Means acts t p → MeansIn acts t p
means_to acts (leaf bs) p a m = (m.0, number_to acts bs m.0 a m.1, m.2)
means_to acts (choice s t) p a m = (m.0, m.1, means_to acts s m.0 a m.2, means_to acts t m.1 a m.3, m.4)
means_to acts (chain s t) p a m = (m.0, m.1, means_to acts s m.0 a m.2, means_to acts t m.1 a m.3, m.4)
means_to acts (repeat t) p a m = (m.0, means_to acts t m.0 a m.1, m.2)

means_from : (acts : List (List ℕ)) (t : Tree) (p : Program) → MeansIn acts t p → Means acts t p
means_from acts (leaf bs) p m = (m.0, number_from acts bs m.0 m.1, m.2)
means_from acts (choice s t) p m = (m.0, m.1, means_from acts s m.0 m.2, means_from acts t m.1 m.3, m.4)
means_from acts (chain s t) p m = (m.0, m.1, means_from acts s m.0 m.2, means_from acts t m.1 m.3, m.4)
means_from acts (repeat t) p m = (m.0, means_from acts t m.0 m.1, m.2)

program_to : (text : List ℕ) (acts : List (List ℕ)) (p : Program) → Apart acts → SpellsProgram acts text p → SpellsProgramIn text acts p
program_to text acts p a s = (s.0, s.1, means_to acts s.0 p a s.2)

program_from : (text : List ℕ) (acts : List (List ℕ)) (p : Program) → SpellsProgramIn text acts p → SpellsProgram acts text p
program_from text acts p s = (s.0, s.1, means_from acts s.0 p s.2)

-- the names of each kind are all different
pub record AllApart (d : Declarations) : Type 0 where
  pub acts : Apart d.acts
  pub props : Apart d.props
  pub progs : Apart d.prog_names
  pub forms : Apart d.form_names

pub nothing_apart : AllApart nothing
nothing_apart = record { acts = none; props = none; progs = none; forms = none }
  where
    none : Apart []
    none = λ i j l h e. omega arith

one_form_more : (d : Declarations) (n : List ℕ) → AllApart d → Missing d.form_names n → (fs : List Form)
    → AllApart (record { acts = d.acts; props = d.props; prog_names = d.prog_names; progs = d.progs; form_names = d.form_names ++ n ∷ []; forms = fs })
one_form_more d n a new fs = record { acts = a.acts; props = a.props; progs = a.progs; forms = apart_push d.form_names n a.forms new }

pub more_apart : (d e : Declarations) (x : Line) → AllApart d → NewName d x → first.AddsByFirst d x e → AllApart e
more_apart d e (act_line n) a new is = subst AllApart (sym is) (record { acts = apart_push d.acts n a.acts new; props = a.props; progs = a.progs; forms = a.forms })
more_apart d e (prop_line n) a new is = subst AllApart (sym is) (record { acts = a.acts; props = apart_push d.props n a.props new; progs = a.progs; forms = a.forms })
more_apart d e (goal_line f) a new is = absurd is
more_apart d e (prog_line n t) a new is = subst AllApart (sym is.2) (record { acts = a.acts; props = a.props; progs = apart_push d.prog_names n a.progs new; forms = a.forms })
more_apart d e (true_form n) a new is = subst AllApart (sym is.2) (one_form_more d n a new _)
more_apart d e (prop_form n p) a new is = subst AllApart (sym is.2) (one_form_more d n a new _)
more_apart d e (not_form n f) a new is = subst AllApart (sym is.2) (one_form_more d n a new _)
more_apart d e (and_form n f g) a new is = subst AllApart (sym is.2) (one_form_more d n a new _)
more_apart d e (or_form n f g) a new is = subst AllApart (sym is.2) (one_form_more d n a new _)
more_apart d e (next_form n u f) a new is = subst AllApart (sym is.2) (one_form_more d n a new _)
more_apart d e (until_form n f p g) a new is = subst AllApart (sym is.2) (one_form_more d n a new _)

module _ (d : Declarations) where
  pub well_named_to : (x : Line) → AllApart d → place.WellNamed d x → first.WellNamedByFirst d x
  well_named_to (act_line n) a h = (new_to d.acts n h, tt)
  well_named_to (prop_line n) a h = (new_to d.props n h, tt)
  well_named_to (goal_line f) a h = (tt, known_to d.form_names f h)
  well_named_to (prog_line n text) a h = (new_to d.prog_names n h.0, (h.1.0, program_to text d.acts h.1.0 a.acts h.1.1))
  well_named_to (true_form n) a h = (new_to d.form_names n h, tt)
  well_named_to (prop_form n p) a h = (new_to d.form_names n h.0, known_to d.props p h.1)
  well_named_to (not_form n f) a h = (new_to d.form_names n h.0, known_to d.form_names f h.1)
  well_named_to (and_form n f g) a h = (new_to d.form_names n h.0, (known_to d.form_names f h.1, known_to d.form_names g h.2))
  well_named_to (or_form n f g) a h = (new_to d.form_names n h.0, (known_to d.form_names f h.1, known_to d.form_names g h.2))
  well_named_to (next_form n u f) a h = (new_to d.form_names n h.0, (known_to d.acts u h.1, known_to d.form_names f h.2))
  well_named_to (until_form n f p g) a h = (new_to d.form_names n h.0, (known_to d.form_names f h.1, known_to d.prog_names p h.2, known_to d.form_names g h.3))

  pub well_named_from : (x : Line) → first.WellNamedByFirst d x → place.WellNamed d x
  well_named_from (act_line n) h = new_from d.acts n h.0
  well_named_from (prop_line n) h = new_from d.props n h.0
  well_named_from (goal_line f) h = known_from d.form_names f h.1
  well_named_from (prog_line n text) h = (new_from d.prog_names n h.0, (h.1.0, program_from text d.acts h.1.0 h.1.1))
  well_named_from (true_form n) h = new_from d.form_names n h.0
  well_named_from (prop_form n p) h = (new_from d.form_names n h.0, known_from d.props p h.1)
  well_named_from (not_form n f) h = (new_from d.form_names n h.0, known_from d.form_names f h.1)
  well_named_from (and_form n f g) h = (new_from d.form_names n h.0, known_from d.form_names f h.1.0, known_from d.form_names g h.1.1)
  well_named_from (or_form n f g) h = (new_from d.form_names n h.0, known_from d.form_names f h.1.0, known_from d.form_names g h.1.1)
  well_named_from (next_form n u f) h = (new_from d.form_names n h.0, known_from d.acts u h.1.0, known_from d.form_names f h.1.1)
  well_named_from (until_form n f p g) h = (new_from d.form_names n h.0, known_from d.form_names f h.1.0, known_from d.prog_names p h.1.1, known_from d.form_names g h.1.2)

  form_to : (x : Line) (e : Form) → AllApart d → place.FormOf d x e → first.FormOfByFirst d x e
  form_to (act_line n) e a h = h
  form_to (prop_line n) e a h = h
  form_to (goal_line f) e a h = h
  form_to (prog_line n p) e a h = h
  form_to (true_form n) e a h = h
  form_to (prop_form n p) e a h = (h.0, number_to d.props p h.0 a.props h.1, h.2)
  form_to (not_form n f) e a h = (h.0, number_to d.form_names f h.0 a.forms h.1, h.2)
  form_to (and_form n f g) e a h = (h.0, h.1, number_to d.form_names f h.0 a.forms h.2, number_to d.form_names g h.1 a.forms h.3, h.4)
  form_to (or_form n f g) e a h = (h.0, h.1, number_to d.form_names f h.0 a.forms h.2, number_to d.form_names g h.1 a.forms h.3, h.4)
  form_to (next_form n u f) e a h = (h.0, h.1, number_to d.acts u h.0 a.acts h.2, number_to d.form_names f h.1 a.forms h.3, h.4)
  form_to (until_form n f p g) e a h = (h.0, h.1, h.2, number_to d.form_names f h.0 a.forms h.3, number_to d.prog_names p h.1 a.progs h.4, number_to d.form_names g h.2 a.forms h.5, h.6)

  form_from : (x : Line) (e : Form) → first.FormOfByFirst d x e → place.FormOf d x e
  form_from (act_line n) e h = h
  form_from (prop_line n) e h = h
  form_from (goal_line f) e h = h
  form_from (prog_line n p) e h = h
  form_from (true_form n) e h = h
  form_from (prop_form n p) e h = (h.0, number_from d.props p h.0 h.1, h.2)
  form_from (not_form n f) e h = (h.0, number_from d.form_names f h.0 h.1, h.2)
  form_from (and_form n f g) e h = (h.0, h.1, number_from d.form_names f h.0 h.2, number_from d.form_names g h.1 h.3, h.4)
  form_from (or_form n f g) e h = (h.0, h.1, number_from d.form_names f h.0 h.2, number_from d.form_names g h.1 h.3, h.4)
  form_from (next_form n u f) e h = (h.0, h.1, number_from d.acts u h.0 h.2, number_from d.form_names f h.1 h.3, h.4)
  form_from (until_form n f p g) e h = (h.0, h.1, h.2, number_from d.form_names f h.0 h.3, number_from d.prog_names p h.1 h.4, number_from d.form_names g h.2 h.5, h.6)

  fits_to : (x : Line) → place.FormFits d x → first.FormFitsByFirst d x
  fits_to x h = (h.0, λ e is. h.1 e (form_from x e is))

  fits_from : (x : Line) → AllApart d → first.FormFitsByFirst d x → place.FormFits d x
  fits_from x a h = (h.0, λ e is. h.1 e (form_to x e a is))

  pub within_to : (x : Line) → place.Within d x → first.WithinByFirst d x
  within_to (act_line n) h = h
  within_to (prop_line n) h = h
  within_to (goal_line f) h = h
  within_to (prog_line n text) h = (h.0, λ p says. h.1 p (program_from text d.acts p says))
  within_to (true_form n) h = fits_to (true_form n) h
  within_to (prop_form n p) h = fits_to (prop_form n p) h
  within_to (not_form n f) h = fits_to (not_form n f) h
  within_to (and_form n f g) h = fits_to (and_form n f g) h
  within_to (or_form n f g) h = fits_to (or_form n f g) h
  within_to (next_form n u f) h = fits_to (next_form n u f) h
  within_to (until_form n f p g) h = fits_to (until_form n f p g) h

  pub within_from : (x : Line) → AllApart d → first.WithinByFirst d x → place.Within d x
  within_from (act_line n) a h = h
  within_from (prop_line n) a h = h
  within_from (goal_line f) a h = h
  within_from (prog_line n text) a h = (h.0, λ p says. h.1 p (program_to text d.acts p a.acts says))
  within_from (true_form n) a h = fits_from (true_form n) a h
  within_from (prop_form n p) a h = fits_from (prop_form n p) a h
  within_from (not_form n f) a h = fits_from (not_form n f) a h
  within_from (and_form n f g) a h = fits_from (and_form n f g) a h
  within_from (or_form n f g) a h = fits_from (or_form n f g) a h
  within_from (next_form n u f) a h = fits_from (next_form n u f) a h
  within_from (until_form n f p g) a h = fits_from (until_form n f p g) a h

  adds_form_to : (x : Line) (n : List ℕ) (e : Declarations) → AllApart d → place.AddsForm d x n e → first.AddsFormByFirst d x n e
  adds_form_to x n e a h = (h.0, form_to x h.0 a h.1, h.2)

  adds_form_from : (x : Line) (n : List ℕ) (e : Declarations) → first.AddsFormByFirst d x n e → place.AddsForm d x n e
  adds_form_from x n e h = (h.0, form_from x h.0 h.1, h.2)

  pub adds_to : (x : Line) (e : Declarations) → AllApart d → place.Adds d x e → first.AddsByFirst d x e
  adds_to (act_line n) e a h = h
  adds_to (prop_line n) e a h = h
  adds_to (goal_line f) e a h = h
  adds_to (prog_line n text) e a h = (h.0, program_to text d.acts h.0 a.acts h.1, h.2)
  adds_to (true_form n) e a h = adds_form_to (true_form n) n e a h
  adds_to (prop_form n p) e a h = adds_form_to (prop_form n p) n e a h
  adds_to (not_form n f) e a h = adds_form_to (not_form n f) n e a h
  adds_to (and_form n f g) e a h = adds_form_to (and_form n f g) n e a h
  adds_to (or_form n f g) e a h = adds_form_to (or_form n f g) n e a h
  adds_to (next_form n u f) e a h = adds_form_to (next_form n u f) n e a h
  adds_to (until_form n f p g) e a h = adds_form_to (until_form n f p g) n e a h

  pub adds_from : (x : Line) (e : Declarations) → first.AddsByFirst d x e → place.Adds d x e
  adds_from (act_line n) e h = h
  adds_from (prop_line n) e h = h
  adds_from (goal_line f) e h = h
  adds_from (prog_line n text) e h = (h.0, program_from text d.acts h.0 h.1, h.2)
  adds_from (true_form n) e h = adds_form_from (true_form n) n e h
  adds_from (prop_form n p) e h = adds_form_from (prop_form n p) n e h
  adds_from (not_form n f) e h = adds_form_from (not_form n f) n e h
  adds_from (and_form n f g) e h = adds_form_from (and_form n f g) n e h
  adds_from (or_form n f g) e h = adds_form_from (or_form n f g) n e h
  adds_from (next_form n u f) e h = adds_form_from (next_form n u f) n e h
  adds_from (until_form n f p g) e h = adds_form_from (until_form n f p g) n e h

  pub fine_to : (x : Line) → AllApart d → place.Fine d x → first.FineByFirst d x
  fine_to x a f = record { spelled = f.spelled; well_named = well_named_to x a f.well_named; within = within_to x f.within; in_place = f.in_place }

  pub fine_from : (x : Line) → AllApart d → first.FineByFirst d x → place.Fine d x
  fine_from x a f = record { spelled = f.spelled; well_named = well_named_from x f.well_named; within = within_from x a f.within; in_place = f.in_place }

  pub faulty_to : {l : List ℕ} {c k : ℕ} → AllApart d → place.Faulty d l c k → first.FaultyByFirst d l c k
  faulty_to a (place.shape u) = first.shape u
  faulty_to a (place.program x r m) = first.program x r m
  faulty_to a (place.naming x r m u) = first.naming x r m (λ w. u (well_named_from x w))
  faulty_to a (place.limit x r m w u) = first.limit x r m (well_named_to x a w) (λ v. u (within_from x a v))
  faulty_to a (place.order x r m w v u) = first.order x r m (well_named_to x a w) (within_to x v) u

  pub faulty_from : {l : List ℕ} {c k : ℕ} → AllApart d → first.FaultyByFirst d l c k → place.Faulty d l c k
  faulty_from a (first.shape u) = place.shape u
  faulty_from a (first.program x r m) = place.program x r m
  faulty_from a (first.naming x r m u) = place.naming x r m (λ w. u (well_named_to x a w))
  faulty_from a (first.limit x r m w u) = place.limit x r m (well_named_from x w) (λ v. u (within_to x v))
  faulty_from a (first.order x r m w v u) = place.order x r m (well_named_from x w) (within_from x a v) u

  pub goal_to : (f : List ℕ) (i : ℕ) → AllApart d → Numbered d.form_names f i → NumberIn d.form_names f i
  goal_to f i a h = number_to d.form_names f i a.forms h

  pub goal_from : (f : List ℕ) (i : ℕ) → NumberIn d.form_names f i → Numbered d.form_names f i
  goal_from f i h = number_from d.form_names f i h
