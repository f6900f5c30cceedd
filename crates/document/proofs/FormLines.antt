-- What comes of form lines.
use Rattle.std.proofs.Common.{◌≡◌, ℕ, ◌+◌, ◌<◌, ◌≤◌, List, [], ◌∷◌, ◌++◌, length, get_or, set, codes, sym, refl, ap, ◌∙◌, subst, ⊎_elim, arith}
use Rattle.std.specs.List.{AllByRecursion}
use Rattle.std.proofs.lemmas.Bool.{cases_lt}
use Rattle.program.specs.Names.{Named}
use Rattle.program.specs.Spellings.{Missing}
use Rattle.program.specs.Words.{Program}
use Rattle.program.proofs.Spellings.{one_number_in}
use Rattle.document.specs.Documents.{weight}
use Rattle.document.specs.Forms.{Earlier, forms_of, weight_in}
use Rattle.document.specs.Holds.{Holds}
use Rattle.document.specs.Kept.{names_of}
use Rattle.document.specs.Kinds.{first_word, word_of, operands_of, form_with}
use Rattle.document.specs.Lines.{Declarations, Line, act_line, prop_line, goal_line, prog_line, true_form, prop_form, not_form, and_form, or_form, next_form, until_form, shown, named_fields, InPlace, MalformedAt, ReadsAs}
use Rattle.document.specs.Declaring.{NewByFirst, NewName, NamesKnown, KnownName, FormOfByFirst, FormFitsByFirst, WithinByFirst, FaultyByFirst, shape, naming, limit, AddsFormByFirst, AddsByFirst}
use Rattle.document.specs.Texts.{fields}
use Rattle.document.specs.Told.{word_in, Headed, Unheaded, Declares}
use Rattle.document.specs.declared.declared.Declared.{Declared}
use Rattle.document.specs.declared.form.Form.{Form}
use Rattle.document.specs.declared.form.Form.TheVariants as form
use Rattle.document.specs.declared.words.Word.{Word}
use Rattle.document.specs.declared.words.Word.TheVariants as word
use Rattle.document.specs.declared.words.Kind.{Kind}
use Rattle.document.specs.declared.words.Kind.TheVariants.{True, Prop, Not, And, Or, Next, Until}
use Rattle.document.proofs.Adding.{holds_form}
use Rattle.document.proofs.Held.{told, same, of_all, weight_is, weight_push, forms_long}
use Rattle.document.proofs.Refused.{not_both}
use Rattle.document.proofs.Short.{three, four, five, six}
use Rattle.document.proofs.Shown.{at_form, wrong_line}

-- a line begins with one of the words
pub word_known : (x : Line) → (k : Word) × (get_or (shown x) 0 [] ≡ first_word k)
word_known (act_line n) = (word.Act, refl)
word_known (prop_line n) = (word.Prop, refl)
word_known (goal_line f) = (word.Goal, refl)
word_known (prog_line n p) = (word.Prog, refl)
word_known (true_form n) = (word.Form, refl)
word_known (prop_form n p) = (word.Form, refl)
word_known (not_form n f) = (word.Form, refl)
word_known (and_form n f g) = (word.Form, refl)
word_known (or_form n f g) = (word.Form, refl)
word_known (next_form n a f) = (word.Form, refl)
word_known (until_form n f p g) = (word.Form, refl)

pub unknown_word : (d : Declarations) (bytes : List ℕ) → ((k : Word) → word_in bytes ≡ first_word k → ⊥) → FaultyByFirst d bytes 2 0
unknown_word d bytes un = shape (λ x r. let k = word_known x in un k.0 (ap (λ v. get_or v 0 []) r.0 ∙ k.1))

-- a form line has the word of a kind
kind_in : (x : Line) → get_or (shown x) 0 [] ≡ codes "form" → (k : Kind) × (get_or (shown x) 2 [] ≡ word_of k)
kind_in (act_line n) e = let z : ◌≡◌ {A = ℕ} 0 109 = ap (λ v. get_or v 3 0) e in absurd (omega arith)
kind_in (prop_line n) e = let z : ◌≡◌ {A = ℕ} 112 109 = ap (λ v. get_or v 3 0) e in absurd (omega arith)
kind_in (goal_line f) e = let z : ◌≡◌ {A = ℕ} 108 109 = ap (λ v. get_or v 3 0) e in absurd (omega arith)
kind_in (prog_line n p) e = let z : ◌≡◌ {A = ℕ} 103 109 = ap (λ v. get_or v 3 0) e in absurd (omega arith)
kind_in (true_form n) e = (True, refl)
kind_in (prop_form n p) e = (Prop, refl)
kind_in (not_form n f) e = (Not, refl)
kind_in (and_form n f g) e = (And, refl)
kind_in (or_form n f g) e = (Or, refl)
kind_in (next_form n a f) e = (Next, refl)
kind_in (until_form n f p g) e = (Until, refl)

-- what all form lines share
pub record FormLine (d : Declarations) (x : Line) (n : List ℕ) : Type 0 where
  pub new_in : NewByFirst d.form_names n → NewName d x
  pub new_out : NewName d x → NewByFirst d.form_names n
  pub fits_in : FormFitsByFirst d x → WithinByFirst d x
  pub fits_out : WithinByFirst d x → FormFitsByFirst d x
  pub sound : (c : ℕ) → MalformedAt x c → ⊥
  pub placed : InPlace d x
  pub adds : (e : Declarations) → AddsFormByFirst d x n e → AddsByFirst d x e

form_lines : (d : Declarations) (k : Kind) (fs : List (List ℕ)) → FormLine d (form_with k fs) (get_or fs 1 [])
form_lines d True fs = record { new_in = λ x. x; new_out = λ x. x; fits_in = λ x. x; fits_out = λ x. x; sound = λ c m. m; placed = tt; adds = λ e x. x }
form_lines d Prop fs = record { new_in = λ x. x; new_out = λ x. x; fits_in = λ x. x; fits_out = λ x. x; sound = λ c m. m; placed = tt; adds = λ e x. x }
form_lines d Not fs = record { new_in = λ x. x; new_out = λ x. x; fits_in = λ x. x; fits_out = λ x. x; sound = λ c m. m; placed = tt; adds = λ e x. x }
form_lines d And fs = record { new_in = λ x. x; new_out = λ x. x; fits_in = λ x. x; fits_out = λ x. x; sound = λ c m. m; placed = tt; adds = λ e x. x }
form_lines d Or fs = record { new_in = λ x. x; new_out = λ x. x; fits_in = λ x. x; fits_out = λ x. x; sound = λ c m. m; placed = tt; adds = λ e x. x }
form_lines d Next fs = record { new_in = λ x. x; new_out = λ x. x; fits_in = λ x. x; fits_out = λ x. x; sound = λ c m. m; placed = tt; adds = λ e x. x }
form_lines d Until fs = record { new_in = λ x. x; new_out = λ x. x; fits_in = λ x. x; fits_out = λ x. x; sound = λ c m. m; placed = tt; adds = λ e x. x }

shown_long : (k : Kind) (fs : List (List ℕ)) → length (shown (form_with k fs)) ≡ 3 + operands_of k
shown_long True fs = refl
shown_long Prop fs = refl
shown_long Not fs = refl
shown_long And fs = refl
shown_long Or fs = refl
shown_long Next fs = refl
shown_long Until fs = refl

-- the name and the operands of a form line are its fields that have to be names
first_named : (k : Kind) (fs : List (List ℕ)) → AllByRecursion Named (named_fields (form_with k fs)) → Named (get_or fs 1 [])
first_named True fs a = a.0
first_named Prop fs a = a.0
first_named Not fs a = a.0
first_named And fs a = a.0
first_named Or fs a = a.0
first_named Next fs a = a.0
first_named Until fs a = a.0

abbrev OperandsNamed : Kind → List (List ℕ) → Type 0
OperandsNamed k fs = (j : ℕ) → j < operands_of k → Named (get_or fs (3 + j) [])

at_0 : (P : ℕ → Type 0) → P 0 → (j : ℕ) → j < 1 → P j
at_0 P a j h = let e : 0 ≡ j = omega arith in subst P e a

at_1 : (P : ℕ → Type 0) → P 0 → P 1 → (j : ℕ) → j < 2 → P j
at_1 P a b j h = ⊎_elim (λ l. at_0 P a j l) (λ g. let e : 1 ≡ j = omega arith in subst P e b) (cases_lt j 1)

at_2 : (P : ℕ → Type 0) → P 0 → P 1 → P 2 → (j : ℕ) → j < 3 → P j
at_2 P a b c j h = ⊎_elim (λ l. at_1 P a b j l) (λ g. let e : 2 ≡ j = omega arith in subst P e c) (cases_lt j 2)

operands_named : (k : Kind) (fs : List (List ℕ)) → AllByRecursion Named (named_fields (form_with k fs)) → OperandsNamed k fs
operands_named True fs a = λ j h. absurd (omega arith)
operands_named Prop fs a = at_0 (λ j. Named (get_or fs (3 + j) [])) a.1.0
operands_named Not fs a = at_0 (λ j. Named (get_or fs (3 + j) [])) a.1.0
operands_named And fs a = at_1 (λ j. Named (get_or fs (3 + j) [])) a.1.0 a.1.1.0
operands_named Or fs a = at_1 (λ j. Named (get_or fs (3 + j) [])) a.1.0 a.1.1.0
operands_named Next fs a = at_1 (λ j. Named (get_or fs (3 + j) [])) a.1.0 a.1.1.0
operands_named Until fs a = at_2 (λ j. Named (get_or fs (3 + j) [])) a.1.0 a.1.1.0 a.1.1.1.0

all_named : (k : Kind) (fs : List (List ℕ)) → Named (get_or fs 1 []) → OperandsNamed k fs → AllByRecursion Named (named_fields (form_with k fs))
all_named True fs n a = (n, tt)
all_named Prop fs n a = (n, (a 0 (omega arith), tt))
all_named Not fs n a = (n, (a 0 (omega arith), tt))
all_named And fs n a = (n, (a 0 (omega arith), (a 1 (omega arith), tt)))
all_named Or fs n a = (n, (a 0 (omega arith), (a 1 (omega arith), tt)))
all_named Next fs n a = (n, (a 0 (omega arith), (a 1 (omega arith), tt)))
all_named Until fs n a = (n, (a 0 (omega arith), (a 1 (omega arith), (a 2 (omega arith), tt))))

reads : (k : Kind) (fs : List (List ℕ)) → get_or fs 0 [] ≡ codes "form" → get_or fs 2 [] ≡ word_of k → length fs ≡ 3 + operands_of k → fs ≡ shown (form_with k fs)
reads True fs e f h = three [] fs h ∙ ap (λ v. v ∷ get_or fs 1 [] ∷ get_or fs 2 [] ∷ []) e ∙ ap (λ v. codes "form" ∷ get_or fs 1 [] ∷ v ∷ []) f
reads Prop fs e f h = four [] fs h ∙ ap (λ v. v ∷ get_or fs 1 [] ∷ get_or fs 2 [] ∷ get_or fs 3 [] ∷ []) e ∙ ap (λ v. codes "form" ∷ get_or fs 1 [] ∷ v ∷ get_or fs 3 [] ∷ []) f
reads Not fs e f h = four [] fs h ∙ ap (λ v. v ∷ get_or fs 1 [] ∷ get_or fs 2 [] ∷ get_or fs 3 [] ∷ []) e ∙ ap (λ v. codes "form" ∷ get_or fs 1 [] ∷ v ∷ get_or fs 3 [] ∷ []) f
reads And fs e f h = five [] fs h ∙ ap (λ v. v ∷ get_or fs 1 [] ∷ get_or fs 2 [] ∷ get_or fs 3 [] ∷ get_or fs 4 [] ∷ []) e ∙ ap (λ v. codes "form" ∷ get_or fs 1 [] ∷ v ∷ get_or fs 3 [] ∷ get_or fs 4 [] ∷ []) f
reads Or fs e f h = five [] fs h ∙ ap (λ v. v ∷ get_or fs 1 [] ∷ get_or fs 2 [] ∷ get_or fs 3 [] ∷ get_or fs 4 [] ∷ []) e ∙ ap (λ v. codes "form" ∷ get_or fs 1 [] ∷ v ∷ get_or fs 3 [] ∷ get_or fs 4 [] ∷ []) f
reads Next fs e f h = five [] fs h ∙ ap (λ v. v ∷ get_or fs 1 [] ∷ get_or fs 2 [] ∷ get_or fs 3 [] ∷ get_or fs 4 [] ∷ []) e ∙ ap (λ v. codes "form" ∷ get_or fs 1 [] ∷ v ∷ get_or fs 3 [] ∷ get_or fs 4 [] ∷ []) f
reads Until fs e f h = six [] fs h ∙ ap (λ v. v ∷ get_or fs 1 [] ∷ get_or fs 2 [] ∷ get_or fs 3 [] ∷ get_or fs 4 [] ∷ get_or fs 5 [] ∷ []) e ∙ ap (λ v. codes "form" ∷ get_or fs 1 [] ∷ v ∷ get_or fs 3 [] ∷ get_or fs 4 [] ∷ get_or fs 5 [] ∷ []) f

-- the names that a form line uses are declared where it has a form
known_from : (d : Declarations) (k : Kind) (fs : List (List ℕ)) (f : Form) → FormOfByFirst d (form_with k fs) f → NamesKnown d (form_with k fs)
known_from d True fs f h = tt
known_from d Prop fs f h = (h.0, h.1)
known_from d Not fs f h = (h.0, h.1)
known_from d And fs f h = ((h.0, h.2), (h.1, h.3))
known_from d Or fs f h = ((h.0, h.2), (h.1, h.3))
known_from d Next fs f h = ((h.0, h.2), (h.1, h.3))
known_from d Until fs f h = ((h.0, h.3), (h.1, h.4), (h.2, h.5))

-- a line has one form at most
pub one_form : (d : Declarations) (x : Line) (f g : Form) → FormOfByFirst d x f → FormOfByFirst d x g → f ≡ g
one_form d (act_line n) f g a b = absurd a
one_form d (prop_line n) f g a b = absurd a
one_form d (goal_line n) f g a b = absurd a
one_form d (prog_line n p) f g a b = absurd a
one_form d (true_form n) f g a b = a ∙ sym b
one_form d (prop_form n p) f g a b = a.2 ∙ ap form.Prop (one_number_in d.props p a.0 b.0 a.1 b.1) ∙ sym b.2
one_form d (not_form n p) f g a b = a.2 ∙ ap form.Not (one_number_in d.form_names p a.0 b.0 a.1 b.1) ∙ sym b.2
one_form d (and_form n p q) f g a b =
    a.4 ∙ ap (λ v. form.And v a.1) (one_number_in d.form_names p a.0 b.0 a.2 b.2) ∙ ap (form.And b.0) (one_number_in d.form_names q a.1 b.1 a.3 b.3) ∙ sym b.4
one_form d (or_form n p q) f g a b =
    a.4 ∙ ap (λ v. form.Or v a.1) (one_number_in d.form_names p a.0 b.0 a.2 b.2) ∙ ap (form.Or b.0) (one_number_in d.form_names q a.1 b.1 a.3 b.3) ∙ sym b.4
one_form d (next_form n p q) f g a b =
    a.4 ∙ ap (λ v. form.Next v a.1) (one_number_in d.acts p a.0 b.0 a.2 b.2) ∙ ap (form.Next b.0) (one_number_in d.form_names q a.1 b.1 a.3 b.3) ∙ sym b.4
one_form d (until_form n p r q) f g a b =
    a.6 ∙ ap (λ v. form.Until v a.1 a.2) (one_number_in d.form_names p a.0 b.0 a.3 b.3)
    ∙ ap (λ v. form.Until b.0 v a.2) (one_number_in d.prog_names r a.1 b.1 a.4 b.4)
    ∙ ap (form.Until b.0 b.1) (one_number_in d.form_names q a.2 b.2 a.5 b.5) ∙ sym b.6

-- the weight with one form more
weight_more : (held : Declared) (ps : List Program) (f : Form) → Holds held (told held ps) → Earlier held.props.count held.acts.count held.progs.count held.forms.count f
    → weight ps (forms_of held.forms.count held.lines ++ f ∷ []) ≡ held.weight + weight_in held.rows f
weight_more held ps f h known =
    let a = weight_push ps (forms_of held.forms.count held.lines) f in
    let b = weight_is ps held.rows held.props.count held.acts.count held.forms.count f h.rows
    (subst (λ v. Earlier held.props.count held.acts.count v held.forms.count f) (sym h.progs) known) in
    omega (arith, h.weighs)

module _ (held : Declared) (bytes : List ℕ) (w : word_in bytes ≡ codes "form") where
  abbrev first : List ℕ
  first = get_or (fields bytes) 1 []

  pub form_shape : (d : Declarations) → Unheaded bytes → FaultyByFirst d bytes 2 0
  form_shape d un =
      ⊎_elim
      (λ no. shape (λ x r. let k = kind_in x (ap (λ v. get_or v 0 []) (sym r.0) ∙ w) in no k.0 (ap (λ v. get_or v 2 []) r.0 ∙ k.1)))
      (λ a.
      let fs = fields bytes in
      wrong_line d bytes (form_with a.0 fs) (at_form a.0 fs w a.1)
      (λ r. a.2 (a.1, ap length r.0 ∙ shown_long a.0 fs, first_named a.0 fs r.1, operands_named a.0 fs r.1)))
      un

  module _ (k : Kind) where
    abbrev line : Line
    line = form_with k (fields bytes)

    module _ (head : Headed k bytes) where
      form_reads : ReadsAs bytes line
      form_reads = (reads k (fields bytes) w head.0 head.1, all_named k (fields bytes) head.2 head.3)

      pub form_known : KnownName (names_of held.forms) first → (d : Declarations) → Holds held d → FaultyByFirst d bytes 4 0
      form_known known =
          of_all held (λ d. FaultyByFirst d bytes 4 0) (λ ps h.
          let s = form_lines (told held ps) k (fields bytes) in
          naming line form_reads s.sound (λ x. not_both (names_of held.forms) first (s.new_out x.0) known))

      pub form_unknown : (d : Declarations) → (NamesKnown d line → ⊥) → FaultyByFirst d bytes 4 0
      form_unknown d un = naming line form_reads (form_lines d k (fields bytes)).sound (λ x. un x.1)

      pub form_full : (f : Form) → ((d : Declarations) → Holds held d → FormOfByFirst d line f) → Missing (names_of held.forms) first → 64 ≤ held.forms.count
          → (d : Declarations) → Holds held d → FaultyByFirst d bytes 5 0
      form_full f is-form new high =
          of_all held (λ d. FaultyByFirst d bytes 5 0) (λ ps x.
          let d = told held ps in
          let s = form_lines d k (fields bytes) in
          limit line form_reads s.sound (s.new_in new, known_from d k (fields bytes) f (is-form d x)) (λ y. omega (arith, (s.fits_out y).0, forms_long held)))

      module _ (f : Form) (is-form : (d : Declarations) → Holds held d → FormOfByFirst d line f)
          (known : Earlier held.props.count held.acts.count held.progs.count held.forms.count f) (new : Missing (names_of held.forms) first) where
        pub form_heavy : 256 < held.weight + weight_in held.rows f → (d : Declarations) → Holds held d → FaultyByFirst d bytes 5 0
        form_heavy heavy =
            of_all held (λ d. FaultyByFirst d bytes 5 0) (λ ps x.
            let d = told held ps in
            let s = form_lines d k (fields bytes) in
            limit line form_reads s.sound (s.new_in new, known_from d k (fields bytes) f (is-form d x))
            (λ y. omega (arith, (s.fits_out y).1 f (is-form d x), weight_more held ps f x known)))

        pub form_done : (next : Declared) → held.forms.count < 64 → held.weight + weight_in held.rows f ≤ 256
            → next.forms.count ≡ held.forms.count + 1
            → names_of next.forms ≡ names_of held.forms ++ first ∷ []
            → next.lines ≡ set held.lines held.forms.count (record { form = f; base = held.weight })
            → next.weight ≡ held.weight + weight_in held.rows f
            → (next.acts ≡ held.acts) × (next.props ≡ held.props) × (next.progs ≡ held.progs) × (next.rows ≡ held.rows)
            → (d : Declarations) → Holds held d → Declares d bytes next
        form_done next few light more names_more lines heavier rest =
            of_all held (λ d. Declares d bytes next) (λ ps x.
            let d = told held ps in
            let s = form_lines d k (fields bytes) in
            let y = holds_form held next ps f few known more lines heavier rest.2 rest.3 x in
            let one : (g : Form) → FormOfByFirst d line g → weight ps (forms_of held.forms.count held.lines ++ g ∷ []) ≤ 256
            = λ g is-g. subst (λ v. weight ps (forms_of held.forms.count held.lines ++ v ∷ []) ≤ 256) (one_form d line f g (is-form d x) is-g) (omega (arith, weight_more held ps f x known)) in
            record {
              line = line;
              after = told next ps;
              reads = form_reads;
              fine = record {
                spelled = s.sound;
                well_named = (s.new_in new, known_from d k (fields bytes) f (is-form d x));
                within = s.fits_in (omega (arith, forms_long held), one);
                in_place = s.placed;
              };
              adds = s.adds (told next ps)
                  (f, is-form d x, same (told next ps) _ (ap names_of rest.0) (ap names_of rest.1) (ap names_of rest.2) refl names_more y.0);
              holds = y.1;
            })
