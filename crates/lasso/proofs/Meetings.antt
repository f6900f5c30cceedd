-- A list of steps and the lasso of its moments.
use Rattle.std.proofs.Common.{◌≡◌, ℕ, ◌+◌, ◌-◌, ◌/◌, ◌%◌, ◌^◌, ◌<◌, true, ◌&&◌, eqb, ltb, leb, List, map, length, get_or, sym, ap, ◌∙◌, subst, ⊎_elim, arith}
use native.Mathlib.Nat.{zero-div}
use Rattle.std.proofs.lemmas.Nat.{shr-shr}
use Rattle.std.proofs.lemmas.List.{length-map, get_or-map}
use Rattle.std.proofs.lemmas.Bool.{and_parts, ltb-true, leb-true, eqb-true, cases_lt}
use Rattle.document.specs.Documents.{Document, goal_formula}
use Rattle.lasso.specs.Lassos.{IsLasso, step_in}
use Rattle.lasso.specs.Readings.{Moment, LassoOf, place_of, read, blank_moment}
use Rattle.lasso.specs.Sessions.{bit_of, moment, reading, lasso_of}
use Rattle.lasso.specs.TruthLaws.{MeetsAlike}
use Rattle.lasso.specs.declared.step.Step.{Step}
use Rattle.lasso.proofs.Alike.{truth_alike}
use Rattle.lasso.proofs.Places.{place_inside}

-- they are read alike
pub read_same : (steps : List Step) (stem : ℕ) (h : stem < length steps) (i : ℕ) → read blank_moment (lasso_of steps stem h) i ≡ reading steps stem i
read_same steps stem h i =
    ap (λ (n : ℕ). get_or (map moment steps) (place_of n stem i) blank_moment) (length-map steps moment)
    ∙ get_or-map moment steps (place_of (length steps) stem i) _ blank_moment (place_inside (length steps) stem h i)

pub meets_alike : MeetsAlike
meets_alike d steps stem h =
    truth_alike (read blank_moment (lasso_of steps stem h)) (reading steps stem)
    (λ i. let e = read_same steps stem h i in (ap (λ x. x.action) e, λ p. ap (λ x. x.marks p) e)) (goal_formula d) 0

-- no proposition past the declared ones
bit_low : (marks props p : ℕ) → marks / 2 ^ props ≡ 0 → bit_of marks p ≡ true → p < props
bit_low marks props p z b =
    ⊎_elim (λ l. l)
    (λ l.
    let e : props + (p - props) ≡ p = omega arith in
    let none = ap (λ (k : ℕ). marks / 2 ^ k) (sym e) ∙ sym (shr-shr marks props (p - props)) ∙ ap (λ (v : ℕ). v / 2 ^ (p - props)) z ∙ zero-div (2 ^ (p - props)) in
    let one = eqb-true (marks / 2 ^ p % 2) 1 b in
    absurd (omega arith))
    (cases_lt p props)

-- what a caller hands over is a lasso of the document
pub lasso_fits : (d : Document) (steps : List Step) (stem : ℕ) → IsLasso d.acts d.props steps stem → (h : stem < length steps) → LassoOf d (lasso_of steps stem h)
lasso_fits d steps stem lasso h = record {
  declared_actions = λ i l. at (λ x. x.action < d.acts) i l (λ b. ltb-true (step_in steps i).action d.acts (parts i b).0);
  states = λ i l. at (λ x. x.state < 4096) i l (λ b. let s = leb-true (step_in steps i).state 4095 (rest i b).0 in omega arith);
  declared_marks = λ i p l. at (λ x. x.marks p ≡ true → p < d.props) i l (λ b. bit_low (step_in steps i).marks d.props p (eqb-true ((step_in steps i).marks / 2 ^ d.props) 0 (rest i b).1));
}
  where
    parts : (i : ℕ) → i < length steps → (ltb (step_in steps i).action d.acts ≡ true) × ((leb (step_in steps i).state 4095 && eqb ((step_in steps i).marks / 2 ^ d.props) 0) ≡ true)
    parts i b = and_parts (ltb (step_in steps i).action d.acts) (leb (step_in steps i).state 4095 && eqb ((step_in steps i).marks / 2 ^ d.props) 0) (lasso.declared i b)

    rest : (i : ℕ) → i < length steps → (leb (step_in steps i).state 4095 ≡ true) × (eqb ((step_in steps i).marks / 2 ^ d.props) 0 ≡ true)
    rest i b = and_parts (leb (step_in steps i).state 4095) (eqb ((step_in steps i).marks / 2 ^ d.props) 0) (parts i b).1

    at : (P : Moment → Type 0) (i : ℕ) → i < length (map moment steps) → (i < length steps → P (moment (step_in steps i))) → P (get_or (map moment steps) i blank_moment)
    at P i l p =
        let b : i < length steps = rw length-map at l in
        subst P (sym (get_or-map moment steps i (record { state = 0; action = 0; marks = 0 }) blank_moment b)) (p b)
