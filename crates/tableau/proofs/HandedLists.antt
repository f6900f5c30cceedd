-- What a node hands on can be listed.
use Rattle.std.proofs.Common.{◌≡◌, ℕ, suc, ◌<◌, Bool, true, false, eqb, ◌⊎◌, ◌↔◌, List, [], ◌∷◌, length, sym, refl, ap, ◌∙◌, subst, inl, inr, arith}
use native.Mathlib.Decide.{ℕ_discrete, dec_lt}
use Rattle.std.proofs.lemmas.Bool.{both_ways, cases_Bool, eqb-true, eq-eqb, or_cases, or_left, or_right}
use Rattle.program.specs.Automata.{Leads, names}
use Rattle.program.proofs.States.{dec_leads, leads_to}
use Rattle.document.specs.Documents.{Document, form_at}
use Rattle.document.specs.declared.form.Form.{Form}
use Rattle.document.specs.declared.form.Form.TheVariants.{True, Prop, Not, And, Or, Next, Until}
use Rattle.tableau.specs.Claims.{member, has}
use Rattle.tableau.specs.Graphs.{Sign, Sign.T, Sign.F, Claim, form, until_false, step_false, says, program_of}
use Rattle.tableau.specs.Held.{claims_of}
use Rattle.tableau.specs.Numbers.{states, number_of}
use Rattle.tableau.specs.Successions.{Claims, Handed, Handed.nexts, Handed.fails}
use Rattle.tableau.specs.Units.{ListsHanded}
use Rattle.tableau.specs.declared.node.Node.{Node}
use Rattle.tableau.proofs.Decoding.{claims_told, claims_tell}
use Rattle.tableau.proofs.FiniteSets.{Finite, finite_iff, finite_none, finite_one, finite_or, finite_when, finite_some, finite_below}
use Rattle.tableau.proofs.Members.{In}

claims_dec : (d : Document) (N : ℕ → Bool) (k : Claim) → Dec (Claims d N k)
claims_dec d N k = elim (cases_Bool (claims_of d N k)) [ inl h ↦ yes (claims_told d N k h) | inr h ↦ no (λ c. both_ways (claims_of d N k) h (claims_tell d N k c.0 c.1)) ]

-- the operand of a next form of this action
pub finite_next : (a : ℕ) (o : Form) → Finite (λ f. o ≡ Next a f)
finite_next a True = finite_none _ (λ f e. let z : ◌≡◌ {A = ℕ} 0 1 = cc in omega arith)
finite_next a (Prop p) = finite_none _ (λ f e. let z : ◌≡◌ {A = ℕ} 0 1 = cc in omega arith)
finite_next a (Not g) = finite_none _ (λ f e. let z : ◌≡◌ {A = ℕ} 0 1 = cc in omega arith)
finite_next a (And g h) = finite_none _ (λ f e. let z : ◌≡◌ {A = ℕ} 0 1 = cc in omega arith)
finite_next a (Or g h) = finite_none _ (λ f e. let z : ◌≡◌ {A = ℕ} 0 1 = cc in omega arith)
finite_next a (Next b g) = finite_iff (λ f. (b ≡ a) × (f ≡ g)) _ (λ f e. ap (λ v. Next v g) e.0 ∙ ap (Next a) (sym e.1)) (λ f e. (cc, cc)) (finite_when (λ f. f ≡ g) (ℕ_discrete b a) (finite_one g))
finite_next a (Until g p h) = finite_none _ (λ f e. let z : ◌≡◌ {A = ℕ} 0 1 = cc in omega arith)

-- the two signs
finite_sign : Finite (λ (s : Sign). Unit {0})
finite_sign = record { list = T ∷ F ∷ []; all = all; only = λ s h. tt }
  where
    all : (s : Sign) → Unit {0} → In (T ∷ F ∷ []) s
    all T h = inl refl
    all F h = inr (inl refl)

-- what is handed on of form e
NextPart : Document → Node → ℕ → ℕ → ℕ → Type 0
NextPart d n x e c = (s : Sign) × Unit {0} × (Claims d (member n.claims.words) (form s e) × ((f : ℕ) × (form_at d e ≡ Next n.action f) × (c ≡ number_of d (says d x s f))))

FailPart : Document → Node → ℕ → ℕ → Type 0
FailPart d n e c = (q : ℕ) × Claims d (member n.claims.words) (step_false e q) × ((r : ℕ) × Leads (program_of d (form_at d e)) q n.action r × (c ≡ number_of d (until_false e r)))

next_finite : (d : Document) (n : Node) (x e : ℕ) → Finite (NextPart d n x e)
unfolding NextPart
next_finite d n x e =
    finite_some (λ (s : Sign). Unit {0}) (λ s c. Claims d (member n.claims.words) (form s e) × ((f : ℕ) × (form_at d e ≡ Next n.action f) × (c ≡ number_of d (says d x s f)))) finite_sign
    (λ s _. finite_when (λ c. (f : ℕ) × (form_at d e ≡ Next n.action f) × (c ≡ number_of d (says d x s f))) (claims_dec d (member n.claims.words) (form s e))
    (finite_some (λ f. form_at d e ≡ Next n.action f) (λ f c. c ≡ number_of d (says d x s f)) (finite_next n.action (form_at d e)) (λ f _. finite_one (number_of d (says d x s f)))))

fail_finite : (d : Document) (n : Node) (e : ℕ) → Finite (FailPart d n e)
unfolding FailPart
fail_finite d n e =
    let p = program_of d (form_at d e) in
    finite_some (λ q. Claims d (member n.claims.words) (step_false e q)) (λ q c. (r : ℕ) × Leads p q n.action r × (c ≡ number_of d (until_false e r)))
    (finite_below (λ q. Claims d (member n.claims.words) (step_false e q)) (states d e) (λ q h. h.0.known) (λ q. claims_dec d (member n.claims.words) (step_false e q)))
    (λ q _. finite_some (Leads p q n.action) (λ r c. c ≡ number_of d (until_false e r))
    (finite_below (Leads p q n.action) (suc (length (names p))) (λ r h. let b = (leads_to p q n.action r h).1 in omega arith) (λ r. dec_leads p q n.action r))
    (λ r _. finite_one (number_of d (until_false e r))))

handed_finite : (d : Document) (n : Node) (x : ℕ) → Finite (Handed d n x)
unfolding NextPart FailPart
handed_finite d n x =
    finite_iff (λ c. (e : ℕ) × (e < length d.forms) × (NextPart d n x e c ⊎ FailPart d n e c)) (Handed d n x) to from
    (finite_some (λ e. e < length d.forms) (λ e c. NextPart d n x e c ⊎ FailPart d n e c)
    (finite_below (λ e. e < length d.forms) (length d.forms) (λ e h. h) below)
    (λ e _. finite_or (NextPart d n x e) (FailPart d n e) (next_finite d n x e) (fail_finite d n e)))
  where
    below : (e : ℕ) → Dec (e < length d.forms)
    below e = dec_lt e (length d.forms)

    to : (c : ℕ) → (e : ℕ) × (e < length d.forms) × (NextPart d n x e c ⊎ FailPart d n e c) → Handed d n x c
    to c (e, l, inl (s, u, (claimed, (f, is, at)))) = subst (Handed d n x) (sym at) (nexts s claimed is)
    to c (e, l, inr (q, claimed, (r, leads, at))) = subst (Handed d n x) (sym at) (fails r claimed leads)

    from : (c : ℕ) → Handed d n x c → (e : ℕ) × (e < length d.forms) × (NextPart d n x e c ⊎ FailPart d n e c)
    from c (nexts s {e = e} {f = f} claimed is) = (e, claimed.0.0, inl (s, tt, (claimed, (f, is, refl))))
    from c (fails {e = e} {q = q} r claimed leads) = (e, claimed.0.there, inr (q, claimed, (r, leads, refl)))

-- membership as a test
has_in : (xs : List ℕ) (c : ℕ) → (has xs c ≡ true) ↔ In xs c
has_in [] c = (λ h. both_ways false refl h, λ h. absurd h)
has_in (x ∷ xs) c =
    let i = has_in xs c in (
      λ h. elim (or_cases (eqb x c) (has xs c) h) [ inl e ↦ inl (eqb-true x c e) | inr e ↦ inr (i.0 e) ],
      λ h. elim h [ inl e ↦ or_left (eqb x c) (has xs c) (eq-eqb x c e) | inr e ↦ or_right (eqb x c) (has xs c) (i.1 e) ],
    )

-- the list of what the node hands on
pub handed_listed : (d : Document) (n : Node) (x : ℕ) → (handed : List ℕ) × ListsHanded d n x handed
handed_listed d n x =
    let f = handed_finite d n x in
    (f.list, λ c. (λ h. f.only c ((has_in f.list c).0 h), λ h. (has_in f.list c).1 (f.all c h)))
