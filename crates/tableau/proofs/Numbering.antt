-- Claims of a document and their numbers are one to one.
use Rattle.std.proofs.Common.{◌≡◌, ℕ, zero, suc, ◌+◌, ◌-◌, ◌*◌, ◌/◌, ◌%◌, ◌<◌, ◌≤◌, true, false, cond, eqb, ltb, List, [], ◌∷◌, length, get_or, take, sym, refl, ap, ◌∙◌, subst, inl, inr, arith}
use Rattle.program.specs.Words.{Program}
use Rattle.program.specs.Automata.{names}
use Rattle.program.specs.Rows.{RowOf}
use Rattle.program.specs.RowStates.{states_in}
use Rattle.program.specs.declared.row.Row.{Row}
use Rattle.document.specs.Documents.{Document, WellFormed, form_at, program_at, weight, weight_of, Refers}
use Rattle.document.specs.Forms.{base_in, form_in, row_at, weight_in}
use Rattle.document.specs.declared.declared.Declared.{Declared}
use Rattle.document.specs.declared.form.Form.{Form}
use Rattle.document.specs.declared.names.Names.{Names}
use Rattle.document.specs.declared.form.Form.TheVariants.{True, Prop, Not, And, Or, Next, Until}
use Rattle.std.proofs.lemmas.Bool.{both_ways, cond_both, lt-ltb, cases_lt}
use lib.Arith.{digits_div, digits_mod}
use Rattle.tableau.specs.Graphs.{Sign.T, Sign.F, Claim, form, until_true, until_false, step_true, step_false, program_of}
use Rattle.tableau.specs.Numbers.{is_until, base, states, speaks_of, place_in, number_of, StateOf, ClaimOf, ClaimAt, Shows}

-- the count of names that are read from what is declared
pub count_read : {n : ℕ} {names held : Names} → n ≡ names.count → names ≡ held → n ≡ held.count
count_read is read = is ∙ ap (λ (v : Names). v.count) read

-- one form more
pub weight_more : (ps : List Program) (fs : List Form) (e : ℕ) → e < length fs → weight ps (take (suc e) fs) ≡ weight ps (take e fs) + weight_of ps (get_or fs e True)
weight_more ps [] e h = absurd (omega arith)
weight_more ps (f ∷ fs) zero h = omega arith
weight_more ps (f ∷ fs) (suc e) h = let i = weight_more ps fs e (omega arith) in omega arith

weight_take : (ps : List Program) (fs : List Form) (e : ℕ) → weight ps (take e fs) ≤ weight ps fs
weight_take ps [] zero = omega arith
weight_take ps [] (suc e) = omega arith
weight_take ps (f ∷ fs) zero = omega arith
weight_take ps (f ∷ fs) (suc e) = let i = weight_take ps fs e in omega arith

weight_rises : (ps : List Program) (fs : List Form) (e h : ℕ) → e ≤ h → weight ps (take e fs) ≤ weight ps (take h fs)
weight_rises ps [] zero h l = omega arith
weight_rises ps [] (suc e) zero l = absurd (omega arith)
weight_rises ps [] (suc e) (suc h) l = omega arith
weight_rises ps (f ∷ fs) zero h l = omega arith
weight_rises ps (f ∷ fs) (suc e) zero l = absurd (omega arith)
weight_rises ps (f ∷ fs) (suc e) (suc h) l = let i = weight_rises ps fs e h (omega arith) in omega arith

-- the claims of a form come before those of later ones
pub base_apart : (d : Document) (e h : ℕ) → e < h → e < length d.forms → base d e + weight_of d.progs (form_at d e) ≤ base d h
base_apart d e h l b =
    let m = weight_more d.progs d.forms e b in
    let r = weight_rises d.progs d.forms (suc e) h (omega arith) in
    omega arith

-- and below the weight
pub base_within : (d : Document) (e : ℕ) → e < length d.forms → base d e + weight_of d.progs (form_at d e) ≤ weight d.progs d.forms
base_within d e b =
    let m = weight_more d.progs d.forms e b in
    let r = weight_take d.progs d.forms (suc e) in
    omega arith

-- an until weighs six of its states, another form two
until_weight : (d : Document) (f : Form) → is_until f ≡ true → weight_of d.progs f ≡ 6 * suc (length (names (program_of d f)))
until_weight d True h = absurd (both_ways _ refl h)
until_weight d (Prop p) h = absurd (both_ways _ refl h)
until_weight d (Not f) h = absurd (both_ways _ refl h)
until_weight d (And f g) h = absurd (both_ways _ refl h)
until_weight d (Or f g) h = absurd (both_ways _ refl h)
until_weight d (Next a f) h = absurd (both_ways _ refl h)
until_weight d (Until f p g) h = refl

plain_weight : (d : Document) (f : Form) → is_until f ≡ false → weight_of d.progs f ≡ 2
plain_weight d True h = refl
plain_weight d (Prop p) h = refl
plain_weight d (Not f) h = refl
plain_weight d (And f g) h = refl
plain_weight d (Or f g) h = refl
plain_weight d (Next a f) h = refl
plain_weight d (Until f p g) h = absurd (both_ways _ h refl)

-- the place of a claim is below the weight of its form
pub place_within : (d : Document) (k : Claim) → ClaimOf d k → place_in d k < weight_of d.progs (form_at d (speaks_of k))
place_within d (form T e) (l, h) = let w = plain_weight d (form_at d e) h in omega arith
place_within d (form F e) (l, h) = let w = plain_weight d (form_at d e) h in omega arith
place_within d (until_true e q zero) (s, l) = let w = until_weight d (form_at d e) s.fated in omega (arith, s.known)
place_within d (until_true e q (suc zero)) (s, l) = let w = until_weight d (form_at d e) s.fated in omega (arith, s.known)
place_within d (until_true e q (suc (suc n))) (s, l) = absurd (omega arith)
place_within d (until_false e q) s = let w = until_weight d (form_at d e) s.fated in omega (arith, s.known)
place_within d (step_true e q zero) (s, l) = let w = until_weight d (form_at d e) s.fated in omega (arith, s.known)
place_within d (step_true e q (suc zero)) (s, l) = let w = until_weight d (form_at d e) s.fated in omega (arith, s.known)
place_within d (step_true e q (suc (suc n))) (s, l) = absurd (omega arith)
place_within d (step_false e q) s = let w = until_weight d (form_at d e) s.fated in omega (arith, s.known)

-- the form that a claim of the document speaks of is there
pub speaks_there : (d : Document) (k : Claim) → ClaimOf d k → speaks_of k < length d.forms
speaks_there d (form s e) (l, h) = l
speaks_there d (until_true e q l) (s, h) = s.there
speaks_there d (until_false e q) s = s.there
speaks_there d (step_true e q l) (s, h) = s.there
speaks_there d (step_false e q) s = s.there

-- the claim of a run of an until
pub run_claim : ℕ → ℕ → ℕ → Claim
run_claim e zero q = until_true e q 0
run_claim e (suc zero) q = until_true e q 1
run_claim e (suc (suc zero)) q = until_false e q
run_claim e (suc (suc (suc zero))) q = step_true e q 0
run_claim e (suc (suc (suc (suc zero)))) q = step_true e q 1
run_claim e (suc (suc (suc (suc (suc n))))) q = step_false e q

-- the claim at a place of form e
pub decoded : Document → ℕ → ℕ → Claim
decoded d e place = cond (is_until (form_at d e)) (run_claim e (place / states d e) (place % states d e)) (cond (eqb place 0) (form T e) (form F e))

decoded_run : (d : Document) (e r q : ℕ) → StateOf d e q → decoded d e (r * states d e + q) ≡ run_claim e r q
unfolding decoded
decoded_run d e r q s =
    ap (λ b. cond b (run_claim e ((r * states d e + q) / states d e) ((r * states d e + q) % states d e)) (cond (eqb (r * states d e + q) 0) (form T e) (form F e))) s.fated
    ∙ ap (λ n. run_claim e n ((r * states d e + q) % states d e)) (digits_div r s.known)
    ∙ ap (λ n. run_claim e r n) (digits_mod r s.known)

decoded_plain : (d : Document) (e place : ℕ) → is_until (form_at d e) ≡ false → decoded d e place ≡ cond (eqb place 0) (form T e) (form F e)
unfolding decoded
decoded_plain d e place h = ap (λ b. cond b (run_claim e (place / states d e) (place % states d e)) (cond (eqb place 0) (form T e) (form F e))) h

pub decoded_place : (d : Document) (k : Claim) → ClaimOf d k → decoded d (speaks_of k) (place_in d k) ≡ k
unfolding run_claim
decoded_place d (form T e) (l, h) = decoded_plain d e 0 h
decoded_place d (form F e) (l, h) = decoded_plain d e 1 h
decoded_place d (until_true e q zero) (s, l) = decoded_run d e 0 q s
decoded_place d (until_true e q (suc zero)) (s, l) = decoded_run d e 1 q s
decoded_place d (until_true e q (suc (suc n))) (s, l) = absurd (omega arith)
decoded_place d (until_false e q) s = decoded_run d e 2 q s
decoded_place d (step_true e q zero) (s, l) = decoded_run d e 3 q s
decoded_place d (step_true e q (suc zero)) (s, l) = decoded_run d e 4 q s
decoded_place d (step_true e q (suc (suc n))) (s, l) = absurd (omega arith)
decoded_place d (step_false e q) s = decoded_run d e 5 q s

-- numbers lie below the weight
pub number_within : (d : Document) (k : Claim) → ClaimOf d k → number_of d k < weight d.progs d.forms
unfolding number_of
number_within d k c =
    let p = place_within d k c in
    let b = base_within d (speaks_of k) (speaks_there d k c) in
    omega arith

-- two claims with one number speak of one form
same_form : (d : Document) (k j : Claim) → ClaimOf d k → ClaimOf d j → number_of d k ≡ number_of d j → speaks_of k < speaks_of j → ⊥
unfolding number_of
same_form d k j c i e l =
    let p = place_within d k c in
    let b = base_apart d (speaks_of k) (speaks_of j) l (speaks_there d k c) in
    omega arith

-- claims of the document with one number are the same
pub one_number : (d : Document) (k j : Claim) → ClaimOf d k → ClaimOf d j → number_of d k ≡ number_of d j → k ≡ j
unfolding number_of
one_number d k j c i e =
    elim (cases_lt (speaks_of k) (speaks_of j)) [
      | inl l ↦ absurd (same_form d k j c i e l)
      | inr l ↦ elim (cases_lt (speaks_of j) (speaks_of k)) [
        | inl m ↦ absurd (same_form d j k i c (sym e) m)
        | inr m ↦
            let same : speaks_of k ≡ speaks_of j = omega arith in
            let sb : base d (speaks_of k) ≡ base d (speaks_of j) = ap (base d) same in
            let place : place_in d k ≡ place_in d j = omega arith in
            sym (decoded_place d k c) ∙ ap (λ x. decoded d x (place_in d k)) same ∙ ap (decoded d (speaks_of j)) place ∙ decoded_place d j i
      ]
    ]

-- the weight in memory
states_held : (p : Program) (row : Row) → RowOf p row → states_in row ≡ suc (length (names p))
states_held p row r =
    let few = r.few in
    let is = r.count in
    cond_both (ltb row.names 16) (row.names + 1) 16 (λ n. n ≡ suc (length (names p))) (λ t. omega arith) (λ f. absurd (both_ways (ltb row.names 16) f (lt-ltb row.names 16 (omega arith))))

weight_held : (held : Declared) (d : Document) → Shows held d → (e : ℕ) (f : Form) → e < length d.forms → form_at d e ≡ f → weight_in held.rows f ≡ weight_of d.progs f
weight_held held d s e True l h = refl
weight_held held d s e (Prop p) l h = refl
weight_held held d s e (Not f) l h = refl
weight_held held d s e (And f g) l h = refl
weight_held held d s e (Or f g) l h = refl
weight_held held d s e (Next a f) l h = refl
weight_held held d s e (Until f p g) l h =
    let r = subst (λ x. Refers d e x) h (s.good.refers e l) in
    ap (λ n. 6 * n) (states_held (program_at d p) (row_at held.rows p) (s.rows p r.1))

-- what memory says of form e
pub form_held : (held : Declared) (d : Document) → Shows held d → (e : ℕ) → e < length d.forms → weight_in held.rows (form_in held.lines e) ≡ weight_of d.progs (form_at d e)
form_held held d s e l = ap (weight_in held.rows) (s.lines e l) ∙ weight_held held d s e (form_at d e) l refl

pub until_states : (held : Declared) (d : Document) → Shows held d → (e f p g : ℕ) → e < length d.forms → form_at d e ≡ Until f p g → states_in (row_at held.rows p) ≡ states d e
until_states held d s e f p g l h =
    let r = subst (λ x. Refers d e x) h (s.good.refers e l) in
    states_held (program_at d p) (row_at held.rows p) (s.rows p r.1) ∙ ap (λ x. suc (length (names (program_of d x)))) (sym h)

-- the sum that is taken for a number does not wrap
pub number_fits : (held : Declared) (d : Document) → Shows held d → (k : Claim) → ClaimOf d k → (e b place : ℕ) → e ≡ speaks_of k → (e < 64 → b ≡ base_in held.lines e) → place ≡ place_in d k → (b % 256 + place) % 256 ≡ number_of d k
unfolding number_of
number_fits held d s k c e b place same is at =
    let there = speaks_there d k c in
    let few = s.good.few_forms in
    let light = s.good.light in
    let low : e < 64 = omega arith in
    let first : b ≡ base d (speaks_of k) = is low ∙ ap (λ x. base_in held.lines x) same ∙ s.bases (speaks_of k) there in
    let p = place_within d k c in
    let w = base_within d (speaks_of k) there in
    omega arith

-- what a form's claim at a place makes of a number
pub numbered : (held : Declared) (d : Document) → Shows held d → (e c first : ℕ) (k : Claim) → e < length d.forms → first ≡ base_in held.lines e → first ≤ c → ClaimAt d e (c - first) k → ClaimOf d k × (number_of d k ≡ c)
unfolding number_of
numbered held d s e c first k l is h a =
    let b : first ≡ base d e = is ∙ s.bases e l in
    let p = a.stands in
    let same : base d (speaks_of k) ≡ base d e = ap (base d) a.speaks in
    (a.own, omega arith)

-- a number that no form has is that of no claim
pub unnumbered : (held : Declared) (d : Document) → Shows held d → (c : ℕ) (k : Claim) → ClaimOf d k → number_of d k ≡ c
    → ((h : ℕ) → h < length d.forms → base_in held.lines h ≤ c → c < base_in held.lines h + weight_in held.rows (form_in held.lines h) → ⊥) → ⊥
unfolding number_of
unnumbered held d s c k own is none =
    let l = speaks_there d k own in
    let b = s.bases (speaks_of k) l in
    let w = form_held held d s (speaks_of k) l in
    let p = place_within d k own in
    none (speaks_of k) l (omega arith) (omega arith)

-- the form of a number, as memory tells it
pub form_told : (held : Declared) (d : Document) → Shows held d → (e n : ℕ) (f : Form) → n ≡ held.forms.count → e < n → (e < held.forms.count → f ≡ form_in held.lines e) → (e < length d.forms) × (f ≡ form_at d e)
form_told held d s e n f end l is =
    let there : e < held.forms.count = omega arith in
    let c = s.count in
    let low : e < length d.forms = omega arith in
    (low, is there ∙ s.lines e low)

-- the same of a form that is there
pub form_there : (held : Declared) (d : Document) → Shows held d → (e : ℕ) (f : Form) → e < length d.forms → (e < held.forms.count → f ≡ form_in held.lines e) → f ≡ form_at d e
form_there held d s e f l is = let c = s.count in is (omega arith) ∙ s.lines e l

-- what a form refers to
pub refers_there : (d : Document) (e : ℕ) (f : Form) → WellFormed d → e < length d.forms → f ≡ form_at d e → Refers d e f
refers_there d e f good l is = subst (λ x. Refers d e x) (sym is) (good.refers e l)

pub plain_next : (f : Form) (a g : ℕ) → f ≡ Next a g → is_until f ≡ false
plain_next f a g is = ap is_until is

pub plain_prop : (f : Form) (p : ℕ) → f ≡ Prop p → is_until f ≡ false
plain_prop f p is = ap is_until is

-- the numbers of claims T step: below 256, and each of one claim only
pub step_below : (d : Document) (e q l : ℕ) → WellFormed d → StateOf d e q → l < 2 → number_of d (step_true e q l) < 256
step_below d e q l good s h = let w = number_within d (step_true e q l) (s, h) in let light = good.light in omega arith

pub step_one : (d : Document) (e q l h r i : ℕ) → ClaimOf d (step_true e q l) → ClaimOf d (step_true h r i) → number_of d (step_true e q l) ≡ number_of d (step_true h r i) → (e ≡ h) × (q ≡ r) × (l ≡ i)
step_one d e q l h r i a b is = let s = one_number d (step_true e q l) (step_true h r i) a b is in (cc, cc, cc)
