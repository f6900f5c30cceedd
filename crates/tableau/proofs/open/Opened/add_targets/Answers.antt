use Rattle.std.proofs.Common.{◌≡◌, ℕ, ◌+◌, ◌/◌, ◌%◌, ◌^◌, Bool, true, ◌==◌, ◌↔◌, sym, ◌∙◌, subst, arith, rules}
use Rattle.std.proofs.lemmas.Bool.{both_ways, eq-eqb, eqb-true}
use Rattle.program.specs.Automata.{Leads}
use Rattle.program.specs.Masks.{Bit}
use Rattle.document.specs.Documents.{Document, form_at}
use Rattle.tableau.specs.Calculus.{calculus}
use Rattle.tableau.specs.Graphs.{until_false, program_of}
use Rattle.tableau.specs.Handing.{Any, To, Added, Hands}
use Rattle.tableau.specs.Numbers.{StateOf, number_of}
use Rattle.tableau.specs.Walk.{on}
use Rattle.tableau.specs.declared.node.Node.{Node}
use Rattle.tableau.proofs.Handed.{Below, added_none, added_one, added_like, added_more, added_skip, added_all, clashed_one, clashed_weaken, clashed_more}
use Rattle.tableau.proofs.Targets.{target_state, few_states}
use Rattle.tableau.proofs.open.Opened.add_targets.Goals as goal
use Rattle.tableau.proofs.open.Opened.add_targets.Goals.{then-has+in_ok-all, else-has}

-- the loop's target, to which the action leads, and the number of its claim
led : {d : Document} {number : ℕ} {b : Bool} (node : Node) (e q r mask : ℕ) → b ≡ (mask / 2 ^ r % 2 == 1) → b ≡ true → Bit mask r ↔ Leads (program_of d (form_at d e)) q node.action r
    → StateOf d e q → (StateOf d e r → number ≡ number_of d (until_false e r)) → To d node e q r number
led node e q r mask has so bit state read =
    let leads = bit.0 (eqb-true _ 1 (sym has ∙ so)) in
    (leads, read (target_state _ e q node.action r state leads))

pub loop-target-init : goal.loop-target-init
loop-target-init c = (c.requires, λ d shows s lt fine. added_none (calculus d c.args.self.opening.rules.phase) (To d c.args.self.node.now c.args.e c.args.q) (on c.args.trail.now) fine)

pub loop-target-preserved : goal.loop-target-preserved
loop-target-preserved c = elim c.if-has.branch [
  | then-has+in_ok-all w ↦ (
    search rules,
    λ d shows s lt fine.
        let m = calculus d c.args.self.opening.rules.phase in
        let part = To d c.args.self.node.now c.args.e c.args.q in
        let r = c.loop-target.target in
        let inv = c.loop-target.invariant.1 d shows s lt fine in
        let to = led c.args.self.node.now c.args.e c.args.q r c.targets-reached.result c.has.ensures w.if-has.true (c.targets-reached.ensures d shows s lt r) s (w.number-claim.ensures d shows) in
        let a = w.in_ok-all.ensures in
        let one = added_like (part r) (λ y. (λ h. h.1 ∙ sym to.1, λ h. (to.0, h ∙ to.1))) (added_one m (on c.loop-target.trail) (on w.add.new.trail) w.number-claim.result a.added.1 (a.fine d shows inv.fine)) in
        subst (λ v. Added m (Below part (r + 1)) (on c.args.trail.now) (on v)) (sym w.trail-is) (added_more part r inv one),
  )
  | else-has w ↦ (
    search rules,
    λ d shows s lt fine.
        let m = calculus d c.args.self.opening.rules.phase in
        let part = To d c.args.self.node.now c.args.e c.args.q in
        let r = c.loop-target.target in
        subst (λ v. Added m (Below part (r + 1)) (on c.args.trail.now) (on v)) (sym w.trail-is) (added_skip part r (λ y h. both_ways c.has.result w.if-has.false (c.has.ensures ∙ eq-eqb _ 1 ((c.targets-reached.ensures d shows s lt r).1 h.0))) (c.loop-target.invariant.1 d shows s lt fine)),
  )
]

pub returns-in_err-all : goal.returns-in_err-all
returns-in_err-all c = record {
  stands = search rules;
  hands = λ d shows s lt fine.
      let m = calculus d c.args.self.opening.rules.phase in
      let part = To d c.args.self.node.now c.args.e c.args.q in
      let r = c.loop-target.target in
      let inv = c.loop-target.invariant.1 d shows s lt fine in
      let to = led c.args.self.node.now c.args.e c.args.q r c.targets-reached.result c.has.ensures c.if-has.true (c.targets-reached.ensures d shows s lt r) s (c.number-claim.ensures d shows) in
      let one = clashed_weaken (part r) (λ y h. (to.0, h ∙ to.1)) (clashed_one m (on c.loop-target.trail) c.number-claim.result (c.in_err-all.ensures.fine d shows inv.fine)) in
      subst (Hands m (Any part) (on c.args.trail.now) (on c.add.new.trail)) (sym c.from_residual.ensures) (clashed_more part r inv one);
}

pub returns : goal.returns
returns c = record {
  stands = c.loop-target.invariant.0;
  hands = λ d shows s lt fine.
      let few = few_states d c.args.e shows.good s.there s.fated in
      added_all (To d c.args.self.node.now c.args.e c.args.q) c.loop-target.target
      (λ r y h. let known = (target_state d c.args.e c.args.q c.args.self.node.now.action r s h.0).known in omega (arith, few, known, c.loop-target-test.false))
      (c.loop-target.invariant.1 d shows s lt fine);
}
