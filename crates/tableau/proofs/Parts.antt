-- What a node hands on, form by form.
use Rattle.std.proofs.Common.{◌≡◌, ℕ, ◌<◌, true, false, ◌⊎◌, ◌↔◌, length, sym, refl, ap, ◌∙◌, subst, inl, inr, arith}
use Rattle.std.proofs.lemmas.Bool.{both_ways}
use Rattle.document.specs.Documents.{Document, WellFormed, Refers, form_at}
use Rattle.document.specs.Forms.{form_in}
use Rattle.document.specs.declared.declared.Declared.{Declared}
use Rattle.document.specs.declared.form.Form.{Form}
use Rattle.document.specs.declared.form.Form.TheVariants.{True, Prop, Not, And, Or, Next, Until}
use Rattle.tableau.specs.Graphs.{Sign, Sign.T, Sign.F, says}
use Rattle.tableau.specs.Handing.{Any, From, Operand, By}
use Rattle.tableau.specs.Numbers.{number_of, is_until, Shows}
use Rattle.tableau.specs.Successions.{Handed, nexts, fails}
use Rattle.tableau.specs.declared.node.Node.{Node}

abbrev operand : Form → ℕ
operand True = 0
operand (Prop p) = 0
operand (Not f) = 0
operand (And f g) = 0
operand (Or f g) = 0
operand (Next a f) = f
operand (Until f p g) = 0

-- the form that is read is the document's
pub form_is : (held : Declared) (d : Document) (e : ℕ) (r f : Form) → Shows held d → e < length d.forms → (e < held.forms.count → r ≡ form_in held.lines e) → r ≡ f → form_at d e ≡ f
form_is held d e r f shows lt read is = sym (shows.lines e lt) ∙ sym (read (omega (arith, lt, shows.count))) ∙ is

pub operand_there : (d : Document) (e a f : ℕ) → WellFormed d → e < length d.forms → form_at d e ≡ Next a f → f < length d.forms
operand_there d e a f good lt is = let r = subst (Refers d e) is (good.refers e lt) in omega (arith, lt, r.1)

pub by_next : (d : Document) (n : Node) (x e f : ℕ) → form_at d e ≡ Next n.action f → (y : ℕ) → By d n x e y ↔ ((s : Sign) × Operand d n x e f s y)
by_next d n x e f is y = (
  λ h. elim h [
    | inl p ↦ (p.2, (p.3.0, p.3.1 ∙ ap (λ v. number_of d (says d x p.2 v)) (ap operand (sym p.1 ∙ is))))
    | inr p ↦ absurd (both_ways false refl (sym (ap is_until is) ∙ p.1.0.0.fated))
  ],
  λ h. inl (f, is, h.0, h.1),
)

pub by_until : (d : Document) (n : Node) (x e : ℕ) → is_until (form_at d e) ≡ true → (y : ℕ) → By d n x e y ↔ Any (From d n e) y
by_until d n x e u y = (
  λ h. elim h [ inl p ↦ absurd (both_ways false refl (sym (ap is_until p.1) ∙ u)) | inr p ↦ p ],
  λ h. inr h,
)

-- what has a property by a sign has it by one sign or by the other
pub by_sign : (part : Sign → ℕ → Type 0) (y : ℕ) → ((s : Sign) × part s y) ↔ (part T y ⊎ part F y)
by_sign part y = (λ h. to h.0 h.1, λ h. elim h [ inl k ↦ (T, k) | inr k ↦ (F, k) ])
  where
    to : (s : Sign) → part s y → part T y ⊎ part F y
    to T h = inl h
    to F h = inr h

pub handed_by : (d : Document) (n : Node) (x y : ℕ) → Handed d n x y ↔ Any (By d n x) y
handed_by d n x y = (to, from)
  where
    to : {z : ℕ} → Handed d n x z → Any (By d n x) z
    to (nexts s {e} {f} c is) = (e, inl (f, is, s, (c, refl)))
    to (fails {e} {q} r c l) = (e, inr (q, (c, (r, (l, refl)))))

    from : Any (By d n x) y → Handed d n x y
    from (e, inl (f, is, s, (c, z))) = subst (Handed d n x) (sym z) (nexts s c is)
    from (e, inr (q, (c, (r, (l, z))))) = subst (Handed d n x) (sym z) (fails r c l)

-- a form that the node claims by F step or next is one of the document's
pub by_there : (d : Document) (n : Node) (x e y : ℕ) → By d n x e y → e < length d.forms
by_there d n x e y h = elim h [ inl p ↦ p.3.0.0.0 | inr p ↦ p.1.0.0.there ]
