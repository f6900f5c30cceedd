-- A text has no two outcomes.
use Rattle.std.proofs.Common.{◌≡◌, ℕ, suc, List, [], ◌∷◌, ◌++◌, sym, refl, ap, ◌∙◌, subst, ⊎_elim, arith}
use Rattle.std.proofs.lemmas.Bool.{cases_order}
use Rattle.program.specs.Spellings.{NumberIn}
use Rattle.program.specs.Text.{FaultAt}
use Rattle.program.proofs.Spellings.{one_number_in, one_program_in}
use Rattle.document.specs.Lines.{Declarations, Line, act_line, prop_line, goal_line, prog_line, true_form, prop_form, not_form, and_form, or_form, next_form, until_form, ReadsAs, MalformedAt, InPlace}
use Rattle.document.specs.Declaring.{WellNamedByFirst, WithinByFirst, FaultyByFirst, shape, program, naming, limit, order, FineByFirst, AddsFormByFirst, AddsByFirst}
use Rattle.document.specs.Outcomes.{Outcome, taken, refused}
use Rattle.document.specs.Coming.{ComesByFirst, no_goal, unended, faulty, declares, aims, line_after, LoadsByFirst, too_long, read}
use Rattle.document.proofs.FormLines.{one_form}
use Rattle.document.proofs.Shown.{one_reading}

-- a malformed text has one column
one_column : (text : List ℕ) (c k : ℕ) → FaultAt text c → FaultAt text k → c ≡ k
one_column text c k f g =
    ⊎_elim (λ e. e)
    (⊎_elim (λ l. absurd (f.here (omega (arith, g.within)) (g.before c l))) (λ l. absurd (g.here (omega (arith, f.within)) (f.before k l))))
    (cases_order c k)

one_malformed : (x : Line) (c k : ℕ) → MalformedAt x c → MalformedAt x k → c ≡ k
one_malformed (prog_line n text) c k f g = one_column text c k f g
one_malformed (act_line n) c k f g = absurd f
one_malformed (prop_line n) c k f g = absurd f
one_malformed (goal_line n) c k f g = absurd f
one_malformed (true_form n) c k f g = absurd f
one_malformed (prop_form n p) c k f g = absurd f
one_malformed (not_form n p) c k f g = absurd f
one_malformed (and_form n p q) c k f g = absurd f
one_malformed (or_form n p q) c k f g = absurd f
one_malformed (next_form n a p) c k f g = absurd f
one_malformed (until_form n p r q) c k f g = absurd f

-- what is known of one reading of a line is known of the other
other : (l : List ℕ) (x y : Line) (P : Line → Type 0) → ReadsAs l x → ReadsAs l y → P x → P y
other l x y P r s h = subst P (one_reading l x y r s) h

one_fault : {d : Declarations} {l : List ℕ} {c k i j : ℕ} → FaultyByFirst d l c i → FaultyByFirst d l k j → (c ≡ k) × (i ≡ j)
one_fault {d} {l} (shape a0) (shape b0) = (refl, refl)
one_fault {d} {l} (shape a0) (program bx {column = bc} br bm) = absurd (a0 bx br)
one_fault {d} {l} (shape a0) (naming bx br bn bw) = absurd (a0 bx br)
one_fault {d} {l} (shape a0) (limit bx br bn bw bv) = absurd (a0 bx br)
one_fault {d} {l} (shape a0) (order bx br bn bw bv bq) = absurd (a0 bx br)
one_fault {d} {l} (program ax {column = ac} ar am) (shape b0) = absurd (b0 ax ar)
one_fault {d} {l} (program ax {column = ac} ar am) (program bx {column = bc} br bm) = (refl, one_malformed bx ac bc (other l ax bx (λ z. MalformedAt z ac) ar br am) bm)
one_fault {d} {l} (program ax {column = ac} ar am) (naming bx br bn bw) = absurd (bn ac (other l ax bx (λ z. MalformedAt z ac) ar br am))
one_fault {d} {l} (program ax {column = ac} ar am) (limit bx br bn bw bv) = absurd (bn ac (other l ax bx (λ z. MalformedAt z ac) ar br am))
one_fault {d} {l} (program ax {column = ac} ar am) (order bx br bn bw bv bq) = absurd (bn ac (other l ax bx (λ z. MalformedAt z ac) ar br am))
one_fault {d} {l} (naming ax ar an aw) (shape b0) = absurd (b0 ax ar)
one_fault {d} {l} (naming ax ar an aw) (program bx {column = bc} br bm) = absurd (an bc (other l bx ax (λ z. MalformedAt z bc) br ar bm))
one_fault {d} {l} (naming ax ar an aw) (naming bx br bn bw) = (refl, refl)
one_fault {d} {l} (naming ax ar an aw) (limit bx br bn bw bv) = absurd (aw (other l bx ax (WellNamedByFirst d) br ar bw))
one_fault {d} {l} (naming ax ar an aw) (order bx br bn bw bv bq) = absurd (aw (other l bx ax (WellNamedByFirst d) br ar bw))
one_fault {d} {l} (limit ax ar an aw av) (shape b0) = absurd (b0 ax ar)
one_fault {d} {l} (limit ax ar an aw av) (program bx {column = bc} br bm) = absurd (an bc (other l bx ax (λ z. MalformedAt z bc) br ar bm))
one_fault {d} {l} (limit ax ar an aw av) (naming bx br bn bw) = absurd (bw (other l ax bx (WellNamedByFirst d) ar br aw))
one_fault {d} {l} (limit ax ar an aw av) (limit bx br bn bw bv) = (refl, refl)
one_fault {d} {l} (limit ax ar an aw av) (order bx br bn bw bv bq) = absurd (av (other l bx ax (WithinByFirst d) br ar bv))
one_fault {d} {l} (order ax ar an aw av aq) (shape b0) = absurd (b0 ax ar)
one_fault {d} {l} (order ax ar an aw av aq) (program bx {column = bc} br bm) = absurd (an bc (other l bx ax (λ z. MalformedAt z bc) br ar bm))
one_fault {d} {l} (order ax ar an aw av aq) (naming bx br bn bw) = absurd (bw (other l ax bx (WellNamedByFirst d) ar br aw))
one_fault {d} {l} (order ax ar an aw av aq) (limit bx br bn bw bv) = absurd (bv (other l ax bx (WithinByFirst d) ar br av))
one_fault {d} {l} (order ax ar an aw av aq) (order bx br bn bw bv bq) = (refl, refl)

not_faulty : {d : Declarations} {l : List ℕ} {c k : ℕ} (x : Line) → ReadsAs l x → FineByFirst d x → FaultyByFirst d l c k → ⊥
not_faulty {d} {l} x r fine (shape a) = a x r
not_faulty {d} {l} x r fine (program y {column = c} s m) = fine.spelled c (other l y x (λ z. MalformedAt z c) s r m)
not_faulty {d} {l} x r fine (naming y s n w) = w (other l x y (WellNamedByFirst d) r s fine.well_named)
not_faulty {d} {l} x r fine (limit y s n w v) = v (other l x y (WithinByFirst d) r s fine.within)
not_faulty {d} {l} x r fine (order y s n w v p) = p (other l x y (InPlace d) r s fine.in_place)

one_adds_form : (d : Declarations) (x : Line) (n : List ℕ) (e h : Declarations) → AddsFormByFirst d x n e → AddsFormByFirst d x n h → e ≡ h
one_adds_form d x n e h a b =
    a.2 ∙ ap (λ v. record { acts = d.acts; props = d.props; prog_names = d.prog_names; progs = d.progs; form_names = d.form_names ++ n ∷ []; forms = d.forms ++ v ∷ [] }) (one_form d x a.0 b.0 a.1 b.1) ∙ sym b.2

one_adds : (d : Declarations) (x : Line) (e h : Declarations) → AddsByFirst d x e → AddsByFirst d x h → e ≡ h
one_adds d (act_line n) e h a b = a ∙ sym b
one_adds d (prop_line n) e h a b = a ∙ sym b
one_adds d (goal_line f) e h a b = absurd a
one_adds d (prog_line n text) e h a b =
    a.2 ∙ ap (λ v. record { acts = d.acts; props = d.props; prog_names = d.prog_names ++ n ∷ []; progs = d.progs ++ v ∷ []; form_names = d.form_names; forms = d.forms }) (one_program_in text d.acts a.0 b.0 a.1 b.1) ∙ sym b.2
one_adds d (true_form n) e h a b = one_adds_form d (true_form n) n e h a b
one_adds d (prop_form n p) e h a b = one_adds_form d (prop_form n p) n e h a b
one_adds d (not_form n f) e h a b = one_adds_form d (not_form n f) n e h a b
one_adds d (and_form n f g) e h a b = one_adds_form d (and_form n f g) n e h a b
one_adds d (or_form n f g) e h a b = one_adds_form d (or_form n f g) n e h a b
one_adds d (next_form n u f) e h a b = one_adds_form d (next_form n u f) n e h a b
one_adds d (until_form n f p g) e h a b = one_adds_form d (until_form n f p g) n e h a b

no_goal_adds : (d e : Declarations) (l : List ℕ) (x : Line) (f : List ℕ) → ReadsAs l x → ReadsAs l (goal_line f) → AddsByFirst d x e → ⊥
no_goal_adds d e l x f r s a = other l x (goal_line f) (λ z. AddsByFirst d z e) r s a

same_goal : {f g : List ℕ} → goal_line f ≡ goal_line g → f ≡ g
same_goal e = cc

one_comes : {d : Declarations} {n : ℕ} {ps : List (List ℕ)} {o q : Outcome} → ComesByFirst d n ps o → ComesByFirst d n ps q → o ≡ q
one_comes no_goal no_goal = refl
one_comes unended unended = refl
one_comes {d} {n} (faulty {column = i} f) (faulty {code = c} {column = k} g) = let p = one_fault f g in ap (λ v. refused v n i) p.0 ∙ ap (refused c n) p.1
one_comes (faulty f) (declares y s fine a c) = absurd (not_faulty y s fine f)
one_comes (faulty f) (aims g s fine i) = absurd (not_faulty (goal_line g) s fine f)
one_comes (faulty f) (line_after g s fine ne) = absurd (not_faulty (goal_line g) s fine f)
one_comes (declares x r fine a c) (faulty g) = absurd (not_faulty x r fine g)
one_comes {d} {n} {ps} {o} {q} (declares {e = e} {l = l} {m = m} {ms = ms} x r fine a c) (declares {e = h} y s good b k) =
    one_comes c (subst (λ v. ComesByFirst v (suc n) (m ∷ ms) q) (one_adds d y h e b (other l x y (λ z. AddsByFirst d z e) r s a)) k)
one_comes {d} (declares {e = e} {l = l} x r fine a c) (aims g s good i) = absurd (no_goal_adds d e l x g r s a)
one_comes {d} (declares {e = e} {l = l} x r fine a c) (line_after g s good ne) = absurd (no_goal_adds d e l x g r s a)
one_comes (aims f r fine i) (faulty g) = absurd (not_faulty (goal_line f) r fine g)
one_comes {d} (aims f r fine i) (declares {e = e} {l = l} y s good a c) = absurd (no_goal_adds d e l y f s r a)
one_comes {d} (aims {goal = u} {l = l} f r fine i) (aims {goal = v} g s good j) =
    let same = same_goal (one_reading l (goal_line f) (goal_line g) r s) in
    ap (taken d) (one_number_in d.form_names g u v (subst (λ w. NumberIn d.form_names w u) same i) j)
one_comes (aims f r fine i) (line_after g s good ne) = absurd (ne refl)
one_comes (line_after f r fine ne) (faulty g) = absurd (not_faulty (goal_line f) r fine g)
one_comes {d} (line_after f r fine ne) (declares {e = e} {l = l} y s good a c) = absurd (no_goal_adds d e l y f s r a)
one_comes (line_after f r fine ne) (aims g s good j) = absurd (ne refl)
one_comes (line_after f r fine ne) (line_after g s good un) = refl

pub no_two : (text : List ℕ) (o q : Outcome) → LoadsByFirst text o → LoadsByFirst text q → o ≡ q
no_two text o q (too_long h) (too_long k) = refl
no_two text o q (too_long h) (read k c) = absurd (omega arith)
no_two text o q (read h c) (too_long k) = absurd (omega arith)
no_two text o q (read h c) (read k e) = one_comes c e
