use Rattle.std.proofs.Common.{◌≡◌, ℕ, ◌+◌, ◌<◌, ◌≤◌, List, [], ◌∷◌, Option, Some, None, sym, refl, ap, ◌∙◌, subst, arith, rules}
use Rattle.std.proofs.lemmas.Bool.{both_ways, eq-eqb, eqb-true}
use Rattle.program.specs.Automata.{Leads}
use Rattle.document.specs.Documents.{Document, form_at}
use Rattle.document.specs.declared.declared.Declared.{Declared}
use Rattle.tableau.specs.Calculus.{calculus, Fine}
use Rattle.tableau.specs.Claims.{has, member}
use Rattle.tableau.specs.Entered.{Enters, Ready}
use Rattle.tableau.specs.Expansions.{Stuck}
use Rattle.tableau.specs.Graphs.{until_true, step_true, program_of}
use Rattle.tableau.specs.Numbers.{number_of}
use Rattle.tableau.specs.Units.{Reaching, Leading, Tries}
use Rattle.tableau.specs.Successions.{Claims, NoStep}
use Rattle.tableau.specs.Walk.{on, grown}
use Rattle.tableau.specs.declared.node.Node.{Node}
use Rattle.tableau.specs.declared.node.Edge.{Edge}
use Rattle.tableau.specs.declared.node.Used.{Used}
use Rattle.tableau.specs.declared.true_step.TrueStep.{TrueStep}
use Rattle.tableau.specs.declared.unit.Origin.{Origin}
use Rattle.tableau.proofs.Choosing.{NextStep, Branch, leading_stuck, family_none, family_skip, choose_end, choose_turn, choose_over, choose_all}
use Rattle.tableau.proofs.Entries.{ready_after, entered_none, entered_is}
use Rattle.tableau.proofs.Steps.{back, back_none}
use Rattle.tableau.proofs.Targets.{target_state}
use Rattle.tableau.proofs.open.Opened.+choose_try_target.Goals as goal
use Rattle.tableau.proofs.open.Opened.+choose_try_target.Goals.{choose-then-has+in_ok-count, choose-else-has}

-- what is known of the claim T step that is found
found : {d : Document} (n : Node) (from : ℕ) (s : TrueStep) → (from ≤ s.number) × (s.number < 256)
    → Claims d (member n.claims.words) (step_true s.form s.state s.label) × (number_of d (step_true s.form s.state s.label) ≡ s.number) × NoStep d n from s.number
    → NextStep d n from s.form s.state s.label s.number
found n from s within next = record { claimed = next.0; is = next.1; low = within.0; first = next.2 }

-- what the try of a target answers, over the tables that the tries before it left
tried : {held : Declared} {d : Document} {x from : ℕ} {o : Origin} {t t' : List ℕ} {u v : Used} (nodes nodes' : List Node) (edges edges' : List Edge) (a : Option Used) (n : Node) (s : TrueStep) (r : ℕ)
    → t' ≡ t → u.edges ≤ v.edges → Ready held d x o u → n.action < d.acts → Fine (calculus d x) (has t) → NextStep d n from s.form s.state s.label s.number
    → Leads (program_of d (form_at d s.form)) s.state n.action r → Tries held x o n s.number s.form r s.label t' nodes edges v nodes' edges' a
    → Enters d x o (Reaching d x n (s.number + 1) (grown t (number_of d (until_true s.form r s.label) ∷ []))) (Leading d x n (s.number + 1) (grown t (number_of d (until_true s.form r s.label) ∷ []))) nodes edges v nodes' edges' a
tried {held} {d} {x} {from} {o} {t} {t'} {u} {v} nodes nodes' edges edges' a n s r same more ready lt fine step goes tries =
    subst (λ l. Tries held x o n s.number s.form r s.label l nodes edges v nodes' edges' a) same tries d (ready_after held d x o u v more ready) lt (target_state d s.form s.state n.action r step.claimed.0.0 goes, step.claimed.0.1) fine

pub choose-returns-in_default : goal.choose-returns-in_default
choose-returns-in_default t c = record {
  len = c.expand.ensures.len;
  kept = c.expand.ensures.kept;
  room = c.expand.ensures.room;
  entered = λ d ready lt fine.
      choose_end d c.args.self.opening.rules.phase c.args.self.opening.origin c.args.self.node.now c.args.from (on c.args.trail.now) c.args.nodes.now c.expand.new.nodes c.args.edges.now c.expand.new.edges c.args.used c.expand.result ready.shows.good (c.in_default.ensures.next d ready.shows) (c.expand.ensures.entered d ready fine);
}

pub choose-loop-target-init : goal.choose-loop-target-init
choose-loop-target-init t c = (
  c.requires.room,
  omega arith,
  omega arith,
  refl,
  refl,
  λ d ready lt fine.
      let x = c.args.self.opening.rules.phase in
      let n = c.args.self.node.now in
      let s = c.in-Some.step in
      family_none d x c.args.self.opening.origin (Reaching d x n c.args.from (on c.args.trail.now)) (Branch d x n s.form s.state s.label s.number (on c.args.trail.now)) c.args.nodes.now c.args.edges.now c.args.used,
)

pub choose-loop-target-preserved : goal.choose-loop-target-preserved
choose-loop-target-preserved t c = elim c.if-has.branch [
  | choose-then-has+in_ok-count w ↦ (
    search rules,
    search rules,
    search rules,
    search rules,
    search rules,
    λ d ready lt fine.
        let x = c.args.self.opening.rules.phase in
        let o = c.args.self.opening.origin in
        let n = c.args.self.node.now in
        let s = c.in-Some.step in
        let r = c.loop-target.target in
        let step = found n c.args.from s c.in-Some.ensures.within (c.in-Some.ensures.next d ready.shows) in
        let goes = (c.targets-reached.ensures d ready.shows step.claimed.0.0 lt r).0 (eqb-true _ 1 (sym c.has.ensures ∙ w.if-has.true)) in
        let e = tried c.loop-target.nodes w.try_target.new.nodes c.loop-target.edges w.try_target.new.edges (Some w.in_ok-count.count) n s r c.loop-target.invariant.4 c.loop-target.invariant.2 ready lt fine step goes w.in_ok-count.ensures.entered in
        entered_is c.if-has.nodes c.if-has.edges c.if-has.count w.nodes-is w.edges-is w.count-is
        (choose_turn n c.args.from s.form s.state s.label s.number (on c.args.trail.now) r step goes (c.loop-target.invariant.5 d ready lt fine) e),
  )
  | choose-else-has w ↦ (
    search rules,
    search rules,
    search rules,
    search rules,
    search rules,
    λ d ready lt fine.
        let x = c.args.self.opening.rules.phase in
        let n = c.args.self.node.now in
        let s = c.in-Some.step in
        let r = c.loop-target.target in
        let next = c.in-Some.ensures.next d ready.shows in
        entered_is c.if-has.nodes c.if-has.edges c.if-has.count w.nodes-is w.edges-is w.count-is
        (family_skip (Branch d x n s.form s.state s.label s.number (on c.args.trail.now)) r (λ N h. both_ways c.has.result w.if-has.false (c.has.ensures ∙ eq-eqb _ 1 ((c.targets-reached.ensures d ready.shows next.0.0.0 lt r).1 h.0))) (c.loop-target.invariant.5 d ready lt fine)),
  )
]

pub choose-returns-in_err-count : goal.choose-returns-in_err-count
choose-returns-in_err-count t c = record {
  len = c.in_err-count.ensures.len ∙ c.loop-target.invariant.3;
  kept = c.in_err-count.ensures.kept ∙ c.loop-target.invariant.4;
  room = search rules;
  entered = λ d ready lt fine.
      let x = c.args.self.opening.rules.phase in
      let o = c.args.self.opening.origin in
      let n = c.args.self.node.now in
      let s = c.in-Some.step in
      let r = c.loop-target.target in
      let step = found n c.args.from s c.in-Some.ensures.within (c.in-Some.ensures.next d ready.shows) in
      let goes = (c.targets-reached.ensures d ready.shows step.claimed.0.0 lt r).0 (eqb-true _ 1 (sym c.has.ensures ∙ c.if-has.true)) in
      let e = tried c.loop-target.nodes c.try_target.new.nodes c.loop-target.edges c.try_target.new.edges None n s r c.loop-target.invariant.4 c.loop-target.invariant.2 ready lt fine step goes c.in_err-count.ensures.entered in
      subst (Enters d x o (Reaching d x n c.args.from (on c.args.trail.now)) (Leading d x n c.args.from (on c.args.trail.now)) c.args.nodes.now c.args.edges.now c.args.used c.try_target.new.nodes c.try_target.new.edges) (sym c.from_residual.ensures)
      (choose_over n c.args.from s.form s.state s.label s.number (on c.args.trail.now) r step goes (c.loop-target.invariant.5 d ready lt fine) e);
}

pub choose-returns : goal.choose-returns
choose-returns t c = record {
  len = c.loop-target.invariant.3;
  kept = c.loop-target.invariant.4;
  room = (c.loop-target.invariant.0, c.loop-target.invariant.1, c.loop-target.invariant.2);
  entered = λ d ready lt fine.
      let n = c.args.self.node.now in
      let s = c.in-Some.step in
      let step = found n c.args.from s c.in-Some.ensures.within (c.in-Some.ensures.next d ready.shows) in
      choose_all n c.args.from s.form s.state s.label s.number (on c.args.trail.now) c.loop-target.target ready.shows.good step c.loop-target-test.false (c.loop-target.invariant.5 d ready lt fine);
}

pub try_target-returns-in_default : goal.try_target-returns-in_default
try_target-returns-in_default t c = record {
  len = c.drop-guard.ensures.len;
  kept = back_none c.args.trail.now c.add.new.trail c.drop-guard.new.self.0 c.drop-guard.ensures.len c.drop-guard.ensures.claims c.in_default.ensures.kept;
  room = search rules;
  entered = λ d ready lt claim fine.
      let x = c.args.self.opening.rules.phase in
      let n = c.args.self.node.now in
      let s = c.args.step in
      let u = grown (on c.args.trail.now) (number_of d (until_true s.form c.args.target s.label) ∷ []) in
      let stuck = subst (λ v. Stuck (calculus d x) (grown (on c.args.trail.now) (v ∷ []))) (c.number-claim.ensures d ready.shows claim) (c.in_default.ensures.fine d ready.shows fine) in
      entered_none d x c.args.self.opening.origin (Reaching d x n (s.number + 1) u) (Leading d x n (s.number + 1) u) c.args.nodes.now c.args.edges.now c.args.used (λ N h. leading_stuck d x n (s.number + 1) u N stuck h);
}

pub try_target-returns : goal.try_target-returns
try_target-returns t c = record {
  len = c.drop-guard-2.ensures.len;
  kept = back c.args.trail.now c.add.new.trail c.choose.new.trail c.drop-guard-2.new.self.0 c.drop-guard-2.ensures.len c.drop-guard-2.ensures.claims c.choose.ensures.len c.choose.ensures.kept c.in-Some.ensures.kept c.in-Some.ensures.more;
  room = c.choose.ensures.room;
  entered = λ d ready lt claim fine.
      let x = c.args.self.opening.rules.phase in
      let n = c.args.self.node.now in
      let s = c.args.step in
      let m = calculus d x in
      let grew = c.in-Some.ensures.added.1 in
      let is = grew ∙ ap (λ v. grown (on c.args.trail.now) (v ∷ [])) (c.number-claim.ensures d ready.shows claim) in
      subst (λ l. Enters d x c.args.self.opening.origin (Reaching d x n (s.number + 1) l) (Leading d x n (s.number + 1) l) c.args.nodes.now c.args.edges.now c.args.used c.choose.new.nodes c.choose.new.edges c.choose.result) is
      (c.choose.ensures.entered d ready lt (subst (λ l. Fine m (has l)) (sym grew) (c.in-Some.ensures.fine d ready.shows fine)));
}
