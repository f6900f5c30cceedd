-- Each question that a text asks is decided, so every text has an outcome.
use Rattle.std.proofs.Common.{◌≡◌, ℕ, zero, suc, ◌+◌, ◌<◌, ◌≤◌, Bool, true, ◌⊎◌, List, [], ◌∷◌, ◌++◌, length, get_or, take, Some, None, Option, sym, refl, ap, ◌∙◌, subst, inl, inr, ⊎_elim, arith}
use Rattle.std.specs.List.{AllByRecursion}
use Rattle.std.proofs.lemmas.Bool.{cases_eq, cases_lt, cases_Bool, both_ways}
use Rattle.program.specs.Automata.{names}
use Rattle.program.specs.Names.{Named, letter, naming as is-naming}
use Rattle.program.specs.Spellings.{AbsentIn, Missing}
use Rattle.program.specs.Spellings.{MeansIn, SpellsProgramIn}
use Rattle.program.specs.Steps.{start, whole, stepped}
use Rattle.program.specs.Text.{Tree, leaf, choice, chain, repeat, WellFormed, FaultAt}
use Rattle.program.specs.Words.{Program, act, either, seq, star}
use Rattle.program.specs.declared.check.Prefix.{Prefix}
use Rattle.program.proofs.Columns.{goes_more, ends_whole, ends_early, ends_refused}
use Rattle.program.proofs.Goes.{Goes}
use Rattle.program.proofs.Unique.{one_tree}
use Rattle.program.proofs.Spellings.{one_program_in}
use Rattle.document.specs.Documents.{weight}
use Rattle.document.specs.Lines.{Declarations, nothing, Line, act_line, prop_line, goal_line, prog_line, true_form, prop_form, not_form, and_form, or_form, next_form, until_form, shown, named_fields, InPlace, MalformedAt, ReadsAs}
use Rattle.document.specs.Declaring.{KnownName, NewName, NamesKnown, FormOfByFirst, FormFitsByFirst, WithinByFirst, FineByFirst, FaultyByFirst, shape, program, naming, limit, order, AddsByFirst}
use Rattle.document.specs.Outcomes.{Outcome, taken, refused}
use Rattle.document.specs.Coming.{ComesByFirst, no_goal, unended, faulty, declares, aims, line_after, LoadsByFirst, too_long, read, HasOneOutcomeByFirst}
use Rattle.document.specs.Texts.{fields, pieces}
use Rattle.document.specs.declared.form.Form.{Form}
use Rattle.document.specs.declared.form.Form.TheVariants.{True, Prop, Not, And, Or, Next, Until}
use Rattle.document.proofs.FormLines.{one_form}
use Rattle.document.proofs.OneOutcome.{no_two}
use Rattle.document.proofs.Pieces.{pieces_some}
use Rattle.document.proofs.Shown.{reading, only}

abbrev Decided : Type 0 → Type 0
Decided P = P ⊎ (P → ⊥)

both : (P Q : Type 0) → Decided P → Decided Q → Decided (P × Q)
both P Q (inl p) (inl q) = inl (p, q)
both P Q (inl p) (inr n) = inr (λ t. n t.1)
both P Q (inr n) (inl q) = inr (λ t. n t.0)
both P Q (inr n) (inr m) = inr (λ t. n t.0)

all_three : (P Q R : Type 0) → Decided P → Decided Q → Decided R → Decided (P × Q × R)
all_three P Q R a b c = ⊎_elim (λ t. inl (t.0, t.1.0, t.1.1)) (λ un. inr (λ t. un (t.0, (t.1, t.2)))) (both P (Q × R) a (both Q R b c))

-- lists are equal or not
same_list : {X : Type 0} → ((x y : X) → Decided (x ≡ y)) → (xs ys : List X) → Decided (xs ≡ ys)
same_list eq [] [] = inl refl
same_list eq [] (y ∷ ys) = inr (λ e. let z : ◌≡◌ {A = ℕ} 0 1 = cc in omega arith)
same_list eq (x ∷ xs) [] = inr (λ e. let z : ◌≡◌ {A = ℕ} 0 1 = cc in omega arith)
same_list eq (x ∷ xs) (y ∷ ys) =
    ⊎_elim
    (λ (a : x ≡ y). ⊎_elim (λ (b : xs ≡ ys). inl (ap (λ v. v ∷ xs) a ∙ ap (λ v. y ∷ v) b)) (λ n. inr (λ e. let t : xs ≡ ys = cc in n t)) (same_list eq xs ys))
    (λ n. inr (λ e. let t : x ≡ y = cc in n t))
    (eq x y)

same_bytes : (xs ys : List ℕ) → Decided (xs ≡ ys)
same_bytes = same_list cases_eq

-- a name is known or missing
pub first_below : (ns : List (List ℕ)) (n : List ℕ) (k : ℕ) → ((i : ℕ) × (i < k) × (get_or ns i [] ≡ n) × AbsentIn ns i n) ⊎ AbsentIn ns k n
first_below ns n zero = inr (λ k h e. omega arith)
first_below ns n (suc k) =
    ⊎_elim
    (λ t. inl (t.0, omega (arith, t.1), t.2, t.3))
    (λ none. ⊎_elim
    (λ e. inl (k, omega arith, e, none))
    (λ ne. inr (λ j l e. ⊎_elim (λ (s : j ≡ k). ne (ap (λ v. get_or ns v []) (sym s) ∙ e)) (λ d. none j (omega arith) e) (cases_eq j k)))
    (same_bytes (get_or ns k []) n))
    (first_below ns n k)

known : (ns : List (List ℕ)) (n : List ℕ) → Decided (KnownName ns n)
known ns n =
    ⊎_elim (λ t. inl (t.0, (t.1, t.2, t.3))) (λ none. inr (λ k. none k.0 k.1.0 k.1.1)) (first_below ns n (length ns))

missing : (ns : List (List ℕ)) (n : List ℕ) → Decided (Missing ns n)
missing ns n = ⊎_elim (λ t. inr (λ none. none t.0 t.1 t.2)) (λ none. inl none) (first_below ns n (length ns))

-- a field is a name or not
all_below : (f : ℕ → Bool) (n : ℕ) → Decided ((k : ℕ) → k < n → f k ≡ true)
all_below f zero = inl (λ k h. absurd (omega arith))
all_below f (suc n) =
    ⊎_elim
    (λ all. ⊎_elim
    (λ t. inl (λ k h. ⊎_elim (λ (e : k ≡ n). subst (λ v. f v ≡ true) (sym e) t) (λ ne. all k (omega arith)) (cases_eq k n)))
    (λ t. inr (λ a. both_ways (f n) t (a n (omega arith))))
    (cases_Bool (f n)))
    (λ un. inr (λ a. un (λ k h. a k (omega arith))))
    (all_below f n)

is_named : (bs : List ℕ) → Decided (Named bs)
is_named bs =
    ⊎_elim
    (λ some. ⊎_elim
    (λ long. inr (λ n. omega (arith, n.short)))
    (λ short. ⊎_elim
    (λ begins. ⊎_elim
    (λ rest. inl (record { some = some; short = short; begins = begins; rest = rest }))
    (λ un. inr (λ n. un n.rest))
    (all_below (λ k. is-naming (get_or bs k 0)) (length bs)))
    (λ un. inr (λ n. both_ways (letter (get_or bs 0 0)) un n.begins))
    (cases_Bool (letter (get_or bs 0 0))))
    (cases_lt 16 (length bs)))
    (λ none. inr (λ n. omega (arith, n.some)))
    (cases_lt 0 (length bs))

are_named : (xs : List (List ℕ)) → Decided (AllByRecursion Named xs)
are_named [] = inl tt
are_named (x ∷ xs) = both (Named x) (AllByRecursion Named xs) (is_named x) (are_named xs)

-- a line reads somehow or not at all
reads : (bytes : List ℕ) → ((x : Line) × ReadsAs bytes x) ⊎ ((x : Line) → ReadsAs bytes x → ⊥)
reads bytes =
    let x = reading (fields bytes) in
    ⊎_elim
    (λ r. inl (x, r))
    (λ un. inr (λ y r. un (subst (ReadsAs bytes) (only bytes y r) r)))
    (both (fields bytes ≡ shown x) (AllByRecursion Named (named_fields x)) (same_list same_bytes (fields bytes) (shown x)) (are_named (named_fields x)))

-- a text is a program, or has the column of its fault
abbrev Checked : List ℕ → Type 0
Checked text = ((c : ℕ) × FaultAt text c) ⊎ WellFormed text

checked_from : (left at : ℕ) (text : List ℕ) (s : Prefix) → at + left ≡ length text → Goes start (take at text) s → Checked text
checked_from zero at text s e g =
    ⊎_elim
    (λ w. inr (ends_whole text at s (omega arith) g w))
    (λ w. inl (at + 1, ends_early text at s (omega arith) (omega arith) g w))
    (cases_Bool (whole s))
checked_from (suc left) at text s e g = on (stepped s (get_or text at 0)) refl (checked_from left (at + 1) text)
  where
    on : (o : Option Prefix) → stepped s (get_or text at 0) ≡ o → ((m : Prefix) → at + 1 + left ≡ length text → Goes start (take (at + 1) text) m → Checked text) → Checked text
    on None q more = inl (at + 1, ends_refused text at s (omega arith) g q)
    on (Some m) q more = more m (omega arith) (goes_more text at s m (omega arith) g q)

checked : (text : List ℕ) → Checked text
checked text = checked_from (length text) 0 text start (omega arith) refl

malformed : (x : Line) → ((c : ℕ) × MalformedAt x c) ⊎ ((c : ℕ) → MalformedAt x c → ⊥)
malformed (prog_line n text) = ⊎_elim (λ f. inl f) (λ w. inr (λ c f. f.unwell w)) (checked text)
malformed (act_line n) = inr (λ c m. m)
malformed (prop_line n) = inr (λ c m. m)
malformed (goal_line n) = inr (λ c m. m)
malformed (true_form n) = inr (λ c m. m)
malformed (prop_form n p) = inr (λ c m. m)
malformed (not_form n p) = inr (λ c m. m)
malformed (and_form n p q) = inr (λ c m. m)
malformed (or_form n p q) = inr (λ c m. m)
malformed (next_form n u q) = inr (λ c m. m)
malformed (until_form n p r q) = inr (λ c m. m)

-- the names of a tree are declared or not
means : (acts : List (List ℕ)) (t : Tree) → Decided ((p : Program) × MeansIn acts t p)
means acts (leaf bs) = ⊎_elim (λ k. inl (act k.0, (k.0, k.1, refl))) (λ un. inr (λ m. un (m.1.0, m.1.1))) (known acts bs)
means acts (choice s t) =
    ⊎_elim
    (λ a. ⊎_elim (λ b. inl (either a.0 b.0, (a.0, b.0, a.1, b.1, refl))) (λ un. inr (λ m. un (m.1.1, m.1.3))) (means acts t))
    (λ un. inr (λ m. un (m.1.0, m.1.2)))
    (means acts s)
means acts (chain s t) =
    ⊎_elim
    (λ a. ⊎_elim (λ b. inl (seq a.0 b.0, (a.0, b.0, a.1, b.1, refl))) (λ un. inr (λ m. un (m.1.1, m.1.3))) (means acts t))
    (λ un. inr (λ m. un (m.1.0, m.1.2)))
    (means acts s)
means acts (repeat t) = ⊎_elim (λ a. inl (star a.0, (a.0, a.1, refl))) (λ un. inr (λ m. un (m.1.0, m.1.1))) (means acts t)

spells : (text : List ℕ) (acts : List (List ℕ)) → WellFormed text → Decided ((p : Program) × SpellsProgramIn text acts p)
spells text acts (t, s) =
    ⊎_elim
    (λ a. inl (a.0, (t, s, a.1)))
    (λ un. inr (λ m. un (m.0, subst (λ v. MeansIn acts v m.0) (one_tree text m.1.0 t m.1.1 s) m.1.2)))
    (means acts t)

new_name : (d : Declarations) (x : Line) → Decided (NewName d x)
new_name d (act_line n) = missing d.acts n
new_name d (prop_line n) = missing d.props n
new_name d (goal_line n) = inl tt
new_name d (prog_line n p) = missing d.prog_names n
new_name d (true_form n) = missing d.form_names n
new_name d (prop_form n p) = missing d.form_names n
new_name d (not_form n p) = missing d.form_names n
new_name d (and_form n p q) = missing d.form_names n
new_name d (or_form n p q) = missing d.form_names n
new_name d (next_form n u q) = missing d.form_names n
new_name d (until_form n p r q) = missing d.form_names n

names_known : (d : Declarations) (x : Line) → ((c : ℕ) → MalformedAt x c → ⊥) → Decided (NamesKnown d x)
names_known d (act_line n) h = inl tt
names_known d (prop_line n) h = inl tt
names_known d (goal_line n) h = known d.form_names n
names_known d (prog_line n text) h = ⊎_elim (λ f. absurd (h f.0 f.1)) (λ w. spells text d.acts w) (checked text)
names_known d (true_form n) h = inl tt
names_known d (prop_form n p) h = known d.props p
names_known d (not_form n p) h = known d.form_names p
names_known d (and_form n p q) h = both (KnownName d.form_names p) (KnownName d.form_names q) (known d.form_names p) (known d.form_names q)
names_known d (or_form n p q) h = both (KnownName d.form_names p) (KnownName d.form_names q) (known d.form_names p) (known d.form_names q)
names_known d (next_form n u q) h = both (KnownName d.acts u) (KnownName d.form_names q) (known d.acts u) (known d.form_names q)
names_known d (until_form n p r q) h =
    all_three (KnownName d.form_names p) (KnownName d.prog_names r) (KnownName d.form_names q)
    (known d.form_names p) (known d.prog_names r) (known d.form_names q)

below : (m n : ℕ) → Decided (m < n)
below m n = ⊎_elim (λ l. inl l) (λ g. inr (λ l. omega arith)) (cases_lt m n)

-- a form is within the limits or not
fits : (d : Declarations) (x : Line) (f : Form) → FormOfByFirst d x f → Decided (FormFitsByFirst d x)
fits d x f is =
    ⊎_elim
    (λ few. ⊎_elim
    (λ heavy. inr (λ t. omega (arith, t.1 f is)))
    (λ light. inl (few, λ g other. subst (λ (v : Form). weight d.progs (d.forms ++ v ∷ []) ≤ 256) (one_form d x f g is other) light))
    (cases_lt 256 (weight d.progs (d.forms ++ f ∷ []))))
    (λ many. inr (λ t. omega (arith, t.0)))
    (cases_lt (length d.forms) 64)

-- the sort of a line: it is the goal's, or it declares something, which is within the limits or not
record Sorted (d : Declarations) (x : Line) : Type 0 where
  pub within : Decided (WithinByFirst d x)
  pub does : ((f : List ℕ) × (x ≡ goal_line f)) ⊎ ((e : Declarations) × AddsByFirst d x e)

sorted : (d : Declarations) (x : Line) → NamesKnown d x → Sorted d x
sorted d (act_line n) k = record { within = below (length d.acts) 16; does = inr (_, refl) }
sorted d (prop_line n) k = record { within = below (length d.props) 16; does = inr (_, refl) }
sorted d (goal_line n) k = record { within = inl tt; does = inl (n, refl) }
sorted d (prog_line n text) k =
    record {
      within = both (length d.progs < 16) ((p : Program) → SpellsProgramIn text d.acts p → length (names p) ≤ 15) (below (length d.progs) 16)
          (⊎_elim (λ many. inr (λ t. omega (arith, t k.0 k.1)))
          (λ few. inl (λ q other. subst (λ (v : Program). length (names v) ≤ 15) (one_program_in text d.acts k.0 q k.1 other) few))
          (cases_lt 15 (length (names k.0))));
      does = inr (_, (k.0, k.1, refl));
    }
sorted d (true_form n) k = record { within = fits d (true_form n) (True) (refl); does = inr (_, (True, refl, refl)) }
sorted d (prop_form n p) k = record { within = fits d (prop_form n p) (Prop k.0) (k.0, k.1, refl); does = inr (_, (Prop k.0, (k.0, k.1, refl), refl)) }
sorted d (not_form n p) k = record { within = fits d (not_form n p) (Not k.0) (k.0, k.1, refl); does = inr (_, (Not k.0, (k.0, k.1, refl), refl)) }
sorted d (and_form n p q) k = record { within = fits d (and_form n p q) (And k.0.0 k.1.0) (k.0.0, k.1.0, k.0.1, k.1.1, refl); does = inr (_, (And k.0.0 k.1.0, (k.0.0, k.1.0, k.0.1, k.1.1, refl), refl)) }
sorted d (or_form n p q) k = record { within = fits d (or_form n p q) (Or k.0.0 k.1.0) (k.0.0, k.1.0, k.0.1, k.1.1, refl); does = inr (_, (Or k.0.0 k.1.0, (k.0.0, k.1.0, k.0.1, k.1.1, refl), refl)) }
sorted d (next_form n u q) k = record { within = fits d (next_form n u q) (Next k.0.0 k.1.0) (k.0.0, k.1.0, k.0.1, k.1.1, refl); does = inr (_, (Next k.0.0 k.1.0, (k.0.0, k.1.0, k.0.1, k.1.1, refl), refl)) }
sorted d (until_form n p r q) k = record { within = fits d (until_form n p r q) (Until k.0.0 k.1.0 k.2.0) (k.0.0, k.1.0, k.2.0, k.0.1, k.1.1, k.2.1, refl); does = inr (_, (Until k.0.0 k.1.0 k.2.0, (k.0.0, k.1.0, k.2.0, k.0.1, k.1.1, k.2.1, refl), refl)) }

in_place : (d : Declarations) (x : Line) → Decided (InPlace d x)
in_place d (goal_line n) = below 0 (length d.acts)
in_place d (act_line n) = inl tt
in_place d (prop_line n) = inl tt
in_place d (prog_line n p) = inl tt
in_place d (true_form n) = inl tt
in_place d (prop_form n p) = inl tt
in_place d (not_form n p) = inl tt
in_place d (and_form n p q) = inl tt
in_place d (or_form n p q) = inl tt
in_place d (next_form n u q) = inl tt
in_place d (until_form n p r q) = inl tt

-- a line is fine or has its fault
line : (d : Declarations) (bytes : List ℕ) → ((x : Line) × ReadsAs bytes x × FineByFirst d x) ⊎ ((c : ℕ) × (k : ℕ) × FaultyByFirst d bytes c k)
line d bytes =
    ⊎_elim
    (λ t. let x = t.0 in let r = t.1 in
    ⊎_elim
    (λ f. inr (3, f.0, program x r f.1))
    (λ well. ⊎_elim
    (λ known-all. ⊎_elim
    (λ new. ⊎_elim
    (λ few. ⊎_elim
    (λ placed. inl (x, r, record { spelled = well; well_named = (new, known-all); within = few; in_place = placed }))
    (λ un. inr (6, 0, order x r well (new, known-all) few un))
    (in_place d x))
    (λ un. inr (5, 0, limit x r well (new, known-all) un))
    (sorted d x known-all).within)
    (λ un. inr (4, 0, naming x r well (λ w. un w.0)))
    (new_name d x))
    (λ un. inr (4, 0, naming x r well (λ w. un w.1)))
    (names_known d x well))
    (malformed x))
    (λ un. inr (2, 0, shape un))
    (reads bytes)

comes : (ps : List (List ℕ)) (d : Declarations) (n : ℕ) → 0 < length ps → (o : Outcome) × ComesByFirst d n ps o
comes [] d n h = absurd (omega arith)
comes ([] ∷ []) d n h = (refused 6 n 0, no_goal)
comes ((x ∷ xs) ∷ []) d n h = (refused 2 n 0, unended)
comes (l ∷ m ∷ ms) d n h =
    ⊎_elim
    (λ t. let x = t.0 in let r = t.1 in let fine = t.2 in
    ⊎_elim
    (λ g. aimed g.0 (subst (ReadsAs l) g.1 r) (subst (FineByFirst d) g.1 fine))
    (λ a. let c = comes (m ∷ ms) a.0 (suc n) (omega arith) in (c.0, declares x r fine a.1 c.1))
    (sorted d x fine.well_named.1).does)
    (λ f. (refused f.0 n f.1, faulty f.2))
    (line d l)
  where
    aimed : (f : List ℕ) → ReadsAs l (goal_line f) → FineByFirst d (goal_line f) → (o : Outcome) × ComesByFirst d n (l ∷ m ∷ ms) o
    aimed f r fine =
        ⊎_elim
        (λ (e : m ∷ ms ≡ [] ∷ []).
        let i = fine.well_named.1 in
        (taken d i.0, subst (λ v. ComesByFirst d n (l ∷ v) (taken d i.0)) (sym e) (aims f r fine i.1)))
        (λ ne. (refused 6 (suc n) 0, line_after f r fine ne))
        (same_list same_bytes (m ∷ ms) ([] ∷ []))

some_outcome : (text : List ℕ) → (o : Outcome) × LoadsByFirst text o
some_outcome text =
    ⊎_elim
    (λ long. (refused 1 0 0, too_long long))
    (λ short. let c = comes (pieces 10 text) nothing 1 (pieces_some 10 text) in (c.0, read short c.1))
    (cases_lt 16384 (length text))

pub one_outcome : HasOneOutcomeByFirst
one_outcome text = let s = some_outcome text in (s.0, s.1, λ q h. no_two text q s.0 h s.1)
