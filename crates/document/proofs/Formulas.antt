-- The formula of a form line is built from the formulas of the lines that it refers to.
use Rattle.std.proofs.Common.{◌≡◌, ℕ, zero, suc, ◌+◌, ◌<◌, List, [], ◌∷◌, ◌++◌, length, get_or, sym, refl, ap, ◌∙◌, ap₂, add-zero, zero-add, arith}
use native.Mathlib.Decide.{dec_lt}
use Rattle.std.proofs.lemmas.List.{get_or_append_left, get_or_past, get_or_push, length_push}
use Rattle.program.specs.Words.{Program, act}
use Rattle.document.specs.Formulas.{Formula}
use Rattle.document.specs.Documents.{Document, built, formulas, formula_at, form_at, Refers, WellFormed}
use Rattle.document.specs.declared.form.Form.{Form}
use Rattle.document.specs.declared.form.Form.TheVariants.{True, Prop, Not, And, Or, Next, Until}

-- the formulas of earlier lines stay
formulas_kept : (ps : List Program) (fs : List Formula) (es : List Form) (k : ℕ) → k < length fs
    → get_or (formulas ps fs es) k Formula.truth ≡ get_or fs k Formula.truth
formulas_kept ps fs [] k h = refl
formulas_kept ps fs (o ∷ es) k h =
    let p : length (fs ++ built ps fs o ∷ []) ≡ length fs + 1 = length_push fs (built ps fs o) in
    formulas_kept ps (fs ++ built ps fs o ∷ []) es k (omega arith) ∙ get_or_append_left fs (built ps fs o ∷ []) Formula.truth k h

-- a form is built the same from lists that agree on earlier lines
built_same : (d : Document) (ps : List Program) (fs gs : List Formula) (n : ℕ) (o : Form) → Refers d n o
    → ((k : ℕ) → k < n → get_or fs k Formula.truth ≡ get_or gs k Formula.truth) → built ps fs o ≡ built ps gs o
built_same d ps fs gs n True h s = refl
built_same d ps fs gs n (Prop p) h s = refl
built_same d ps fs gs n (Not f) h s = ap Formula.not (s f h)
built_same d ps fs gs n (And f g) h s = ap₂ Formula.and (s f h.0) (s g h.1)
built_same d ps fs gs n (Or f g) h s = ap₂ Formula.or (s f h.0) (s g h.1)
built_same d ps fs gs n (Next a f) h s = ap (Formula.next a) (s f h.1)
built_same d ps fs gs n (Until f p g) h s = ap₂ (λ u v. Formula.until u (get_or ps p (act 0)) v) (s f h.0) (s g h.2)

formulas_at : (d : Document) (ps : List Program) (fs : List Formula) (es : List Form) (j e : ℕ) → j < length es → e ≡ length fs + j
    → Refers d e (get_or es j True) → get_or (formulas ps fs es) e Formula.truth ≡ built ps (formulas ps fs es) (get_or es j True)
formulas_at d ps fs [] j e h q a = absurd (omega arith)
formulas_at d ps fs (o ∷ es) zero e h q a =
    let p : length (fs ++ built ps fs o ∷ []) ≡ length fs + 1 = length_push fs (built ps fs o) in
    let r : e ≡ length fs = q ∙ add-zero (length fs) in
    formulas_kept ps (fs ++ built ps fs o ∷ []) es e (omega arith)
    ∙ get_or_push fs (built ps fs o) Formula.truth e (sym r)
    ∙ built_same d ps fs (formulas ps fs (o ∷ es)) e o a (λ k l. sym (formulas_kept ps fs (o ∷ es) k (omega arith)))
formulas_at d ps fs (o ∷ es) (suc j) e h q a =
    let p : length (fs ++ built ps fs o ∷ []) ≡ length fs + 1 = length_push fs (built ps fs o) in
    formulas_at d ps (fs ++ built ps fs o ∷ []) es j e (omega arith) (omega arith) a

pub formula_is : (d : Document) → WellFormed d → (e : ℕ) → e < length d.forms
    → formula_at d e ≡ built d.progs (formulas d.progs [] d.forms) (form_at d e)
formula_is d good e h = formulas_at d d.progs [] d.forms e e h (sym (zero-add e)) (good.refers e h)

length_formulas : (ps : List Program) (fs : List Formula) (es : List Form) → length (formulas ps fs es) ≡ length fs + length es
length_formulas ps fs [] = sym (add-zero (length fs))
length_formulas ps fs (o ∷ es) =
    let h : length (formulas ps (fs ++ built ps fs o ∷ []) es) ≡ length (fs ++ built ps fs o ∷ []) + length es = length_formulas ps (fs ++ built ps fs o ∷ []) es in
    let p : length (fs ++ built ps fs o ∷ []) ≡ length fs + 1 = length_push fs (built ps fs o) in
    omega arith

-- the same of every number: past the last form both are true
pub formula_anywhere : (d : Document) → WellFormed d → (e : ℕ) → formula_at d e ≡ built d.progs (formulas d.progs [] d.forms) (form_at d e)
formula_anywhere d good e = go (dec_lt e (length d.forms))
  where
    go : Dec (e < length d.forms) → formula_at d e ≡ built d.progs (formulas d.progs [] d.forms) (form_at d e)
    go (yes h) = formula_is d good e h
    go (no n) =
        let p : length (formulas d.progs [] d.forms) ≡ length {A = Formula} [] + length d.forms = length_formulas d.progs [] d.forms in
        get_or_past (formulas d.progs [] d.forms) e Formula.truth (omega arith)
        ∙ ap (built d.progs (formulas d.progs [] d.forms)) (sym (get_or_past d.forms e True (omega arith)))
