use Rattle.std.proofs.Common.{◌≡◌, ℕ, ◌+◌, ◌<◌, Bool, true, length, sym, ◌∙◌, subst, arith, rules}
use Rattle.std.proofs.lemmas.Bool.{both_ways}
use Rattle.document.specs.Documents.{Document, form_at}
use Rattle.tableau.specs.Calculus.{calculus}
use Rattle.tableau.specs.Claims.{member}
use Rattle.tableau.specs.Graphs.{step_false}
use Rattle.tableau.specs.Handing.{Any, From, Added, Hands}
use Rattle.tableau.specs.Numbers.{Shows, StateOf, is_until, number_of, states}
use Rattle.tableau.specs.Successions.{Claims}
use Rattle.tableau.specs.Walk.{on}
use Rattle.tableau.proofs.Handed.{Below, added_none, added_like, added_more, added_skip, added_all, clashed_weaken, clashed_more}
use Rattle.tableau.specs.declared.told.Told.{Told}
use Rattle.tableau.proofs.Telling.{of_told}
use Rattle.tableau.proofs.open.Opened.add_false_steps.Goals as goal
use Rattle.tableau.proofs.open.Opened.add_false_steps.Goals.{then-has+in_ok-all, else-has}

-- the claim F step of the loop's state, which the set has
stood : {d : Document} {t u : Told} {end : ℕ} {r : Bool} (e q : ℕ) → t ≡ u → (Shows t.declared.now d → StateOf d e q → r ≡ member t.set.words (number_of d (step_false e q)))
    → Shows u.declared.now d → e < length d.forms → is_until (form_at d e) ≡ true → end ≡ states d e → q < end → r ≡ true → Claims d (member u.set.words) (step_false e q)
stood e q is read shows there fated count low so =
    let state : StateOf _ e q = record { there = there; fated = fated; known = omega (arith, count, low) } in
    (state, sym (of_told (step_false e q) is read shows state) ∙ so)

pub loop-q-init : goal.loop-q-init
loop-q-init c = (c.requires, λ d shows there fated lt fine. added_none (calculus d c.args.self.opening.rules.phase) (From d c.args.self.node.now c.args.e) (on c.args.trail.now) fine)

pub loop-q-preserved : goal.loop-q-preserved
loop-q-preserved c = elim c.if-has.branch [
  | then-has+in_ok-all w ↦ (
    search rules,
    λ d shows there fated lt fine.
        let m = calculus d c.args.self.opening.rules.phase in
        let part = From d c.args.self.node.now c.args.e in
        let q = c.loop-q.q in
        let inv = c.loop-q.invariant.1 d shows there fated lt fine in
        let claim = stood c.args.e q c.told-told.ensures (c.has.ensures d) shows there fated (c.states_of-q-end.ensures.is d shows there fated) c.loop-q-test.true w.if-has.true in
        let one = added_like (part q) (λ y. (λ h. h.1, λ h. (claim, h))) (w.in_ok-all.ensures.hands d shows claim.0 lt inv.fine) in
        subst (λ v. Added m (Below part (q + 1)) (on c.args.trail.now) (on v)) (sym w.trail-is) (added_more part q inv one),
  )
  | else-has w ↦ (
    search rules,
    λ d shows there fated lt fine.
        let m = calculus d c.args.self.opening.rules.phase in
        let part = From d c.args.self.node.now c.args.e in
        let q = c.loop-q.q in
        subst (λ v. Added m (Below part (q + 1)) (on c.args.trail.now) (on v)) (sym w.trail-is)
        (added_skip part q (λ y h. both_ways c.has.result w.if-has.false (of_told (step_false c.args.e q) c.told-told.ensures (c.has.ensures d) shows h.0.0 ∙ h.0.1)) (c.loop-q.invariant.1 d shows there fated lt fine)),
  )
]

pub returns-in_err-all : goal.returns-in_err-all
returns-in_err-all c = record {
  stands = search rules;
  hands = λ d shows there fated lt fine.
      let m = calculus d c.args.self.opening.rules.phase in
      let part = From d c.args.self.node.now c.args.e in
      let q = c.loop-q.q in
      let inv = c.loop-q.invariant.1 d shows there fated lt fine in
      let claim = stood c.args.e q c.told-told.ensures (c.has.ensures d) shows there fated (c.states_of-q-end.ensures.is d shows there fated) c.loop-q-test.true c.if-has.true in
      let one = clashed_weaken (part q) (λ y h. (claim, h)) (c.in_err-all.ensures.hands d shows claim.0 lt inv.fine) in
      subst (Hands m (Any part) (on c.args.trail.now) (on c.add_targets.new.trail)) (sym c.from_residual.ensures) (clashed_more part q inv one);
}

pub returns : goal.returns
returns c = record {
  stands = c.loop-q.invariant.0;
  hands = λ d shows there fated lt fine.
      let count = c.states_of-q-end.ensures.is d shows there fated in
      added_all (From d c.args.self.node.now c.args.e) c.loop-q.q (λ q y h. let known = h.0.0.known in omega (arith, count, known, c.loop-q-test.false))
      (c.loop-q.invariant.1 d shows there fated lt fine);
}
