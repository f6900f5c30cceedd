-- What comes of lines that declare something.
use Rattle.std.proofs.Common.{◌≡◌, ℕ, ◌+◌, ◌<◌, ◌≤◌, List, [], ◌∷◌, ◌++◌, length, get_or, set, codes, sym, refl, ap, ◌∙◌, subst, ⊎_elim, arith}
use Rattle.program.specs.Automata.{names}
use Rattle.program.specs.Faults.{MalformedBy}
use Rattle.program.specs.Names.{Named}
use Rattle.program.specs.Spellings.{Missing, NumberIn}
use Rattle.program.specs.Spellings.{SpellsRowIn, RefusedIn, OneProgramIn}
use Rattle.program.specs.Text.{WellFormed, FaultAt}
use Rattle.program.specs.declared.fault.ProgramFault.{ProgramFault}
use Rattle.program.specs.declared.fault.ProgramFault.TheVariants.{Malformed, Undeclared, TooMany}
use Rattle.program.specs.declared.row.Row.{Row}
use Rattle.document.specs.Faults.{program_fault_code, program_fault_column, line_fault_code, line_fault_column}
use Rattle.document.specs.Forms.{forms_of}
use Rattle.document.specs.Holds.{Holds}
use Rattle.document.specs.Kept.{names_of}
use Rattle.document.specs.Lines.{Declarations, act_line, prop_line, prog_line, goal_line, ReadsAs}
use Rattle.document.specs.Declaring.{KnownName, FaultyByFirst, program, naming, limit, order}
use Rattle.document.specs.Texts.{fields}
use Rattle.document.specs.Told.{word_in, NewBelow, NameRefused, ProgUnheaded, Declares, Aims}
use Rattle.document.specs.declared.declared.Declared.{Declared}
use Rattle.document.specs.declared.document.Document.{Document}
use Rattle.document.specs.declared.fault.LineFault.{LineFault}
use Rattle.document.proofs.Adding.{holds_same, holds_prog}
use Rattle.document.proofs.Held.{told, same, of_all, acts_long, props_long}
use Rattle.document.proofs.Refused.{not_both}
use Rattle.document.proofs.Short.{two, three}
use Rattle.document.proofs.Shown.{at_act, at_prop, at_prog, at_goal, wrong_line, wrong_count, wrong_name}

-- a name that is not new, or is one too many
pub below_fault : (d : Declarations) (bytes : List ℕ) (names : List (List ℕ)) (count : ℕ) (n : List ℕ) (most : ℕ) (f : LineFault) → NewBelow names count n most f
    → (KnownName names n → FaultyByFirst d bytes 4 0) → (Missing names n → most ≤ count → FaultyByFirst d bytes 5 0) → FaultyByFirst d bytes (line_fault_code f) (line_fault_column f)
below_fault d bytes names count n most f h a b =
    ⊎_elim
    (λ x. subst (λ v. FaultyByFirst d bytes (line_fault_code v) (line_fault_column v)) (sym x.0) (a x.1))
    (λ x. subst (λ v. FaultyByFirst d bytes (line_fault_code v) (line_fault_column v)) (sym x.0) (b x.1 x.2))
    h

module _ (held : Declared) (bytes : List ℕ) where
  abbrev first : List ℕ
  first = get_or (fields bytes) 1 []

  -- `act NAME`
  module _ (w : word_in bytes ≡ codes "act") where
    act_reads : length (fields bytes) ≡ 2 → Named first → ReadsAs bytes (act_line first)
    act_reads count named = (two [] (fields bytes) count ∙ ap (λ v. v ∷ first ∷ []) w, (named, tt))

    pub act_fault : (f : LineFault) → NameRefused (names_of held.acts) held.acts.count 16 bytes f
        → (d : Declarations) → Holds held d → FaultyByFirst d bytes (line_fault_code f) (line_fault_column f)
    act_fault f h =
        of_all held (λ d. FaultyByFirst d bytes (line_fault_code f) (line_fault_column f)) (λ ps x.
        ⊎_elim
        (λ a. subst (λ v. FaultyByFirst (told held ps) bytes (line_fault_code v) (line_fault_column v)) (sym a.0)
        (wrong_line (told held ps) bytes (act_line first) (at_act (fields bytes) w) (λ r. a.1 (ap length r.0, r.1.0))))
        (λ a.
        let r = act_reads a.0 a.1 in
        below_fault (told held ps) bytes (names_of held.acts) held.acts.count first 16 f a.2
        (λ known. naming (act_line first) r (λ c m. m) (λ well. not_both (names_of held.acts) first well.0 known))
        (λ new high. limit (act_line first) r (λ c m. m) (new, tt) (λ few. omega (arith, acts_long held))))
        h)

    pub act_done : (next : Declared) → length (fields bytes) ≡ 2 → Named first → Missing (names_of held.acts) first → held.acts.count < 16
        → names_of next.acts ≡ names_of held.acts ++ first ∷ []
        → (next.props ≡ held.props) × (next.progs ≡ held.progs) × (next.rows ≡ held.rows) × (next.forms ≡ held.forms) × (next.lines ≡ held.lines) × (next.weight ≡ held.weight)
        → (d : Declarations) → Holds held d → Declares d bytes next
    act_done next count named new few more rest =
        of_all held (λ d. Declares d bytes next) (λ ps h.
        record {
          line = act_line first;
          after = told next ps;
          reads = act_reads count named;
          fine = record { spelled = λ c m. m; well_named = (new, tt); within = omega (arith, acts_long held); in_place = tt };
          adds = same (told next ps) _ more (ap names_of rest.0) (ap names_of rest.1) refl (ap names_of rest.3)
              (ap (λ v. forms_of v.count next.lines) rest.3 ∙ ap (forms_of held.forms.count) rest.4);
          holds = holds_same held next ps rest.1 rest.2 rest.3 rest.4 rest.5 h;
        })

  -- `prop NAME`
  module _ (w : word_in bytes ≡ codes "prop") where
    prop_reads : length (fields bytes) ≡ 2 → Named first → ReadsAs bytes (prop_line first)
    prop_reads count named = (two [] (fields bytes) count ∙ ap (λ v. v ∷ first ∷ []) w, (named, tt))

    pub prop_fault : (f : LineFault) → NameRefused (names_of held.props) held.props.count 16 bytes f
        → (d : Declarations) → Holds held d → FaultyByFirst d bytes (line_fault_code f) (line_fault_column f)
    prop_fault f h =
        of_all held (λ d. FaultyByFirst d bytes (line_fault_code f) (line_fault_column f)) (λ ps x.
        ⊎_elim
        (λ a. subst (λ v. FaultyByFirst (told held ps) bytes (line_fault_code v) (line_fault_column v)) (sym a.0)
        (wrong_line (told held ps) bytes (prop_line first) (at_prop (fields bytes) w) (λ r. a.1 (ap length r.0, r.1.0))))
        (λ a.
        let r = prop_reads a.0 a.1 in
        below_fault (told held ps) bytes (names_of held.props) held.props.count first 16 f a.2
        (λ known. naming (prop_line first) r (λ c m. m) (λ well. not_both (names_of held.props) first well.0 known))
        (λ new high. limit (prop_line first) r (λ c m. m) (new, tt) (λ few. omega (arith, props_long held))))
        h)

    pub prop_done : (next : Declared) → length (fields bytes) ≡ 2 → Named first → Missing (names_of held.props) first → held.props.count < 16
        → names_of next.props ≡ names_of held.props ++ first ∷ []
        → (next.acts ≡ held.acts) × (next.progs ≡ held.progs) × (next.rows ≡ held.rows) × (next.forms ≡ held.forms) × (next.lines ≡ held.lines) × (next.weight ≡ held.weight)
        → (d : Declarations) → Holds held d → Declares d bytes next
    prop_done next count named new few more rest =
        of_all held (λ d. Declares d bytes next) (λ ps h.
        record {
          line = prop_line first;
          after = told next ps;
          reads = prop_reads count named;
          fine = record { spelled = λ c m. m; well_named = (new, tt); within = omega (arith, props_long held); in_place = tt };
          adds = same (told next ps) _ (ap names_of rest.0) more (ap names_of rest.1) refl (ap names_of rest.3)
              (ap (λ v. forms_of v.count next.lines) rest.3 ∙ ap (forms_of held.forms.count) rest.4);
          holds = holds_same held next ps rest.1 rest.2 rest.3 rest.4 rest.5 h;
        })

  -- `prog NAME PROGRAM`
  module _ (w : word_in bytes ≡ codes "prog") where
    abbrev text : List ℕ
    text = get_or (fields bytes) 2 []

    module _ (count : length (fields bytes) ≡ 3) (named : Named first) where
      prog_reads : ReadsAs bytes (prog_line first text)
      prog_reads = (three [] (fields bytes) count ∙ ap (λ v. v ∷ first ∷ text ∷ []) w, (named, tt))

      pub prog_malformed : (d : Declarations) (f : ProgramFault) → MalformedBy text f → FaultyByFirst d bytes (program_fault_code f) (program_fault_column f)
      prog_malformed d (Malformed column) h = program (prog_line first text) prog_reads h
      prog_malformed d Undeclared h = absurd h
      prog_malformed d TooMany h = absurd h

      module _ (well : WellFormed text) where
        sound : (c : ℕ) → FaultAt text c → ⊥
        sound c h = h.unwell well

        pub prog_known : KnownName (names_of held.progs) first → (d : Declarations) → Holds held d → FaultyByFirst d bytes 4 0
        prog_known known =
            of_all held (λ d. FaultyByFirst d bytes 4 0) (λ ps h. naming (prog_line first text) prog_reads sound (λ x. not_both (names_of held.progs) first x.0 known))

        pub prog_refused : (f : ProgramFault) → Missing (names_of held.progs) first → RefusedIn text (names_of held.acts) f
            → OneProgramIn → (d : Declarations) → Holds held d → FaultyByFirst d bytes (program_fault_code f) (program_fault_column f)
        prog_refused (Malformed column) new h one = λ d x. absurd (h.unwell well)
        prog_refused Undeclared new h one =
            of_all held (λ d. FaultyByFirst d bytes 4 0) (λ ps x. naming (prog_line first text) prog_reads sound (λ y. h.1 y.1.0 y.1.1))
        prog_refused TooMany new h one =
            of_all held (λ d. FaultyByFirst d bytes 5 0) (λ ps x. limit (prog_line first text) prog_reads sound (new, (h.0, h.1)) (λ y. omega (arith, y.1 h.0 h.1, h.2)))

        pub prog_full : (row : Row) → SpellsRowIn text (names_of held.acts) row → Missing (names_of held.progs) first → 16 ≤ held.progs.count
            → (d : Declarations) → Holds held d → FaultyByFirst d bytes 5 0
        prog_full row says new high =
            of_all held (λ d. FaultyByFirst d bytes 5 0) (λ ps x. limit (prog_line first text) prog_reads sound (new, (says.0, says.1)) (λ y. omega (arith, x.progs, y.0)))

        pub prog_done : (next : Declared) (row : Row) → Missing (names_of held.progs) first → held.progs.count < 16 → SpellsRowIn text (names_of held.acts) row → OneProgramIn
            → next.progs.count ≡ held.progs.count + 1
            → names_of next.progs ≡ names_of held.progs ++ first ∷ []
            → next.rows ≡ set held.rows held.progs.count row
            → (next.acts ≡ held.acts) × (next.props ≡ held.props) × (next.forms ≡ held.forms) × (next.lines ≡ held.lines) × (next.weight ≡ held.weight)
            → (d : Declarations) → Holds held d → Declares d bytes next
        prog_done next row new few says one more names_more rows rest =
            let p = says.0 in
            let is = says.2 (omega (arith, acts_long held, held.acts_few)) in
            of_all held (λ d. Declares d bytes next) (λ ps h.
            record {
              line = prog_line first text;
              after = told next (ps ++ p ∷ []);
              reads = prog_reads;
              fine = record {
                spelled = sound;
                well_named = (new, (p, says.1));
                within = (omega (arith, h.progs), λ q other. subst (λ v. length (names v) ≤ 15) (one text (names_of held.acts) p q says.1 other) is.few);
                in_place = tt;
              };
              adds = (
                p,
                says.1,
                same (told next (ps ++ p ∷ [])) _ (ap names_of rest.0) (ap names_of rest.1) names_more refl (ap names_of rest.2)
                    (ap (λ v. forms_of v.count next.lines) rest.2 ∙ ap (forms_of held.forms.count) rest.3),
              );
              holds = holds_prog held next ps p row few is more rows rest.2 rest.3 rest.4 h;
            })

    pub prog_unheaded : (f : LineFault) → ProgUnheaded bytes f → (d : Declarations) → FaultyByFirst d bytes (line_fault_code f) (line_fault_column f)
    prog_unheaded f h d =
        ⊎_elim
        (λ a. subst (λ v. FaultyByFirst d bytes (line_fault_code v) (line_fault_column v)) (sym a.0)
        (wrong_line d bytes (prog_line first text) (at_prog (fields bytes) w) (λ r. a.1 (ap length r.0, r.1.0))))
        (λ a. subst (λ v. FaultyByFirst d bytes (line_fault_code v) (line_fault_column v)) (sym a.3) (prog_malformed a.0 a.1 d a.2 a.4))
        h

  -- `goal FORM`
  module _ (w : word_in bytes ≡ codes "goal") where
    pub goal_count : (d : Declarations) → (length (fields bytes) ≡ 2 → ⊥) → FaultyByFirst d bytes 2 0
    goal_count d ne = wrong_count d bytes (goal_line first) (at_goal (fields bytes) w) ne

    pub goal_name : (d : Declarations) → (Named first → ⊥) → FaultyByFirst d bytes 2 0
    goal_name d un = wrong_name d bytes (goal_line first) (at_goal (fields bytes) w) (λ a. un a.0)

    module _ (count : length (fields bytes) ≡ 2) (named : Named first) where
      goal_reads : ReadsAs bytes (goal_line first)
      goal_reads = (two [] (fields bytes) count ∙ ap (λ v. v ∷ first ∷ []) w, (named, tt))

      pub goal_unknown : Missing (names_of held.forms) first → (d : Declarations) → Holds held d → FaultyByFirst d bytes 4 0
      goal_unknown new =
          of_all held (λ d. FaultyByFirst d bytes 4 0) (λ ps h. naming (goal_line first) goal_reads (λ c m. m) (λ x. not_both (names_of held.forms) first new x.1))

      pub goal_early : (i : ℕ) → NumberIn (names_of held.forms) first i → held.acts.count ≡ 0 → (d : Declarations) → Holds held d → FaultyByFirst d bytes 6 0
      goal_early i is none =
          of_all held (λ d. FaultyByFirst d bytes 6 0) (λ ps h. order (goal_line first) goal_reads (λ c m. m) (tt, (i, is)) tt (λ x. omega (arith, acts_long held)))

      pub goal_done : (doc : Document) → NumberIn (names_of held.forms) first doc.goal → 0 < held.acts.count → doc.declared ≡ held
          → (d : Declarations) → Holds held d → Aims held d bytes doc
      goal_done doc is some same-held =
          of_all held (λ d. Aims held d bytes doc) (λ ps h.
          record {
            name = first;
            reads = goal_reads;
            fine = record { spelled = λ c m. m; well_named = (tt, (doc.goal, is)); within = tt; in_place = omega (arith, acts_long held) };
            number = is;
            declared = same-held;
          })
