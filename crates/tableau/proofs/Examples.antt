-- A worked example: a form and its own negation have no first node.
use Rattle.std.proofs.Common.{◌≡◌, [], ◌∷◌, refl, inl, inr}
use Rattle.document.specs.Documents.{Document}
use Rattle.document.specs.declared.form.Form.TheVariants.{Prop, Not, And}
use Rattle.tableau.specs.Graphs.{Node, Claim, form, T, F, Closure, given, made, FirstNode}

-- prop 0, its negation, and both
absurd_goal : Document
absurd_goal = record { acts = 1; props = 1; progs = []; forms = Prop 0 ∷ Not 0 ∷ And 0 1 ∷ []; goal = 2 }

no_first_node : (n : Node) → FirstNode absurd_goal n → ⊥
unfolding absurd_goal
no_first_node n f =
    let e = f.expands in
    let choice = e.choice in
    let S : Claim → Type 0 = λ c. c ≡ form T 2 in
    let both : Closure absurd_goal 0 choice S (form T 2) = given refl in
    let first : Closure absurd_goal 0 choice S (form T 0) = made both (inl refl) in
    let second : Closure absurd_goal 0 choice S (form T 1) = made both (inr refl) in
    let against : Closure absurd_goal 0 choice S (form F 0) = made second refl in
    e.no_clash.same_form 0 (e.holds (form T 0) first) (e.holds (form F 0) against)
