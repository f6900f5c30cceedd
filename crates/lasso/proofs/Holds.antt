-- What is entered of earlier forms tells whether a form holds.
use Rattle.std.proofs.Common.{◌≡◌, ℕ, suc, ◌<◌, Bool, eqb, ◌⊎◌, ◌↔◌, List, [], length, get_or, Decides, sym, refl, ap, ◌∙◌, subst, ⊎_elim}
use Rattle.std.proofs.lemmas.Bool.Decides.{Decides-eqb, Decides-like, Decides-not, Decides-and, Decides-or}
use Rattle.program.specs.Masks.{Bit}
use Rattle.program.specs.Tables.{AutomatonOf}
use Rattle.program.specs.declared.automaton.Automaton.{Automaton}
use Rattle.document.specs.Documents.{Document, WellFormed, Refers, built, formulas, form_at, formula_at, program_at}
use Rattle.document.specs.declared.form.Form.{Form}
use Rattle.document.specs.declared.form.Form.TheVariants.{True, Prop, Not, And, Or, Next, Until}
use Rattle.document.proofs.Formulas.{formula_is}
use Rattle.lasso.specs.Judged.{holds_by, Plain, Rests, Judged}
use Rattle.lasso.specs.Lassos.{step_in}
use Rattle.lasso.specs.Readings.{Reading, Truth}
use Rattle.lasso.specs.Rounds.{next_place, Reaches}
use Rattle.lasso.specs.Sessions.{reading}
use Rattle.lasso.specs.declared.step.Step.{Step}
use Rattle.lasso.proofs.Alike.{truth_like}
use Rattle.lasso.proofs.Places.{reading_here, alike_next, next_inside}
use Rattle.lasso.proofs.Reached.{reaches_until}
use Rattle.lasso.proofs.Truths.{judged_tells}

-- a form is an until or none
pub plain_else : (o : Form) → ((f p g : ℕ) → o ≡ Until f p g → ⊥) → Plain o
plain_else True n = tt
plain_else (Prop p) n = tt
plain_else (Not f) n = tt
plain_else (And f g) n = tt
plain_else (Or f g) n = tt
plain_else (Next a f) n = tt
plain_else (Until f p g) n = n f p g refl

module _ (d : Document) (steps : List Step) (stem : ℕ) where
  module _ (short : stem < length steps) (e i k : ℕ) (truths : List ℕ) (j : Judged d steps stem e k truths) (l : i < length steps) where
    abbrev s : Reading
    s = reading steps stem

    abbrev holds_here : ℕ → Form → Bool
    holds_here states o = holds_by o (step_in steps i) (get_or truths i 0) (get_or truths (next_place (length steps) stem i) 0) states

    -- what is entered of earlier forms tells whether a form that is no until holds
    holds_built : (x : ℕ) (o : Form) → Refers d e o → Plain o → Decides (holds_here x o) (Truth s i (built d.progs (formulas d.progs [] d.forms) o))
    holds_built x True r p = (λ t. tt, λ t. refl)
    holds_built x (Prop p) r q = let m = ap (λ x. x.marks p) (reading_here steps stem short i l) in (λ t. m ∙ t, λ t. sym m ∙ t)
    holds_built x (Not f) r p = Decides-not _ (judged_tells d steps stem e k truths j f i r l)
    holds_built x (And f g) r p = Decides-and _ _ (judged_tells d steps stem e k truths j f i r.0 l) (judged_tells d steps stem e k truths j g i r.1 l)
    holds_built x (Or f g) r p = Decides-or _ _ (judged_tells d steps stem e k truths j f i r.0 l) (judged_tells d steps stem e k truths j g i r.1 l)
    holds_built x (Next a f) r p =
        let m = ap (λ x. x.action) (reading_here steps stem short i l) in
        let c = Decides-eqb (step_in steps i).action a in
        let u = judged_tells d steps stem e k truths j f (next_place (length steps) stem i) r.1 (next_inside (length steps) stem short i) in
        let v = truth_like (formula_at d f) s s (suc i) (next_place (length steps) stem i) (alike_next steps stem short i l) in
        Decides-and (eqb (step_in steps i).action a) _ (λ t. m ∙ c.0 t, λ t. c.1 (sym m ∙ t)) (λ t. v.1 (u.0 t), λ t. u.1 (v.0 t))
    holds_built x (Until f p g) r q = absurd q

    plain_so : (x : ℕ) (o : Form) → WellFormed d → e < length d.forms → o ≡ form_at d e → Plain o → Decides (holds_here x o) (Truth s i (formula_at d e))
    plain_so x o good b is p =
        subst (λ f. Decides (holds_here x o) (Truth s i f)) (ap (built d.progs (formulas d.progs [] d.forms)) is ∙ sym (formula_is d good e b))
        (holds_built x o (subst (Refers d e) (sym is) (good.refers e b)) p)

    -- and its states tell whether an until does
    pub holds_so : (states : List ℕ) (o : Form) → WellFormed d → e < length d.forms → o ≡ form_at d e → Plain o ⊎ Rests d steps stem e states
        → Decides (holds_here (get_or states i 0) o) (Truth s i (formula_at d e))
    holds_so states o good b is h = ⊎_elim (plain_so (get_or states i 0) o good b is) (λ r. go o is r) h
      where
        go : (o : Form) → o ≡ form_at d e → Rests d steps stem e states → Decides (holds_here (get_or states i 0) o) (Truth s i (formula_at d e))
        go True is r = plain_so (get_or states i 0) True good b is tt
        go (Prop p) is r = plain_so (get_or states i 0) (Prop p) good b is tt
        go (Not f) is r = plain_so (get_or states i 0) (Not f) good b is tt
        go (And f g) is r = plain_so (get_or states i 0) (And f g) good b is tt
        go (Or f g) is r = plain_so (get_or states i 0) (Or f g) good b is tt
        go (Next a f) is r = plain_so (get_or states i 0) (Next a f) good b is tt
        go (Until f p g) is r = Decides-like (holds_here (get_or states i 0) (Until f p g)) (r i l).0 (r i l).1 (Decides-eqb _ 1)

  -- the states that reach a final one tell whether an until holds
  pub until_so : (short : stem < length steps) (low : (i : ℕ) → i < length steps → (step_in steps i).action < 16) (e f p g : ℕ) → WellFormed d → e < length d.forms
      → Until f p g ≡ form_at d e → (a : Automaton) → AutomatonOf (program_at d p) a.states a.next a.finals → (truths states : List ℕ) → Judged d steps stem e 0 truths
      → ((i q : ℕ) → i < length steps → Bit (get_or states i 0) q ↔ Reaches a steps stem truths f g i q)
      → Rests d steps stem e states
  until_so short low e f p g good b is a of truths states j found i l =
      let r : Refers d e (Until f p g) = subst (Refers d e) (sym is) (good.refers e b) in
      let formula = ap (built d.progs (formulas d.progs [] d.forms)) is ∙ sym (formula_is d good e b) in
      let t = reaches_until a steps stem truths f g short low (program_at d p) of (formula_at d f) (formula_at d g)
      (λ k. judged_tells d steps stem e 0 truths j f k r.0) (λ k. judged_tells d steps stem e 0 truths j g k r.2) i l in
      let h = found i 0 l in (
        λ x. subst (λ y. Truth (reading steps stem) i y) formula (t.0 (h.0 x)),
        λ x. h.1 (t.1 (subst (λ y. Truth (reading steps stem) i y) (sym formula) x)),
      )
