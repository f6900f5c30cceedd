use Rattle.std.proofs.Common.{◌≡◌, ℕ, ◌/◌, ◌%◌, ◌^◌, ◌<◌, Bool, true, ◌==◌, ◌↔◌, sym, ◌∙◌, subst, arith, rules}
use Rattle.std.proofs.lemmas.Bool.{both_ways, eq-eqb, eqb-true}
use Rattle.program.specs.Masks.{Bit}
use Rattle.document.specs.Documents.{Document}
use Rattle.tableau.specs.Claims.{member}
use Rattle.tableau.specs.Entered.{NewNode, The, Enters}
use Rattle.tableau.specs.Graphs.{Sign.T, Sign.F}
use Rattle.tableau.specs.Numbers.{Shows}
use Rattle.tableau.specs.Successions.{Allowed, Closes, Tells}
use Rattle.tableau.specs.declared.told.Told.{Told}
use Rattle.tableau.specs.declared.unit.Origin.{Origin}
use Rattle.tableau.proofs.Entries.{begun_after, new_node, acted_none, acted_skip, acted_more, acted_all, acted_is, over_after}
use Rattle.tableau.proofs.Numbering.{count_read}
use Rattle.tableau.proofs.unit.Opening.enter_set.Goals as goal
use Rattle.tableau.proofs.unit.Opening.enter_set.Goals.{then-has+in_ok-count, else-has}

-- the actions that the set allows, by another name for it
allows : {d : Document} {t u : Told} (mask : ℕ) → t ≡ u → (Shows t.declared.now d → (a : ℕ) → a < 16 → Bit mask a ↔ Allowed d (member t.set.words) a)
    → Shows u.declared.now d → (a : ℕ) → a < 16 → Bit mask a ↔ Allowed d (member u.set.words) a
allows {d} mask is read = subst (λ (v : Told). Shows v.declared.now d → (a : ℕ) → a < 16 → Bit mask a ↔ Allowed d (member v.set.words) a) is read

-- the node for the loop's action, which the set allows
one_node : {d : Document} {t u : Told} {end : ℕ} {closing b : Bool} (x : ℕ) (o : Origin) (a mask shows hides : ℕ) → t ≡ u → Shows u.declared.now d → end ≡ d.acts → a < end
    → b ≡ (mask / 2 ^ a % 2 == 1) → b ≡ true → (Shows t.declared.now d → (a : ℕ) → a < 16 → Bit mask a ↔ Allowed d (member t.set.words) a) → Closes d x o (member u.set.words) closing
    → (Shows t.declared.now d → Tells d (member t.set.words) T shows) → (Shows t.declared.now d → Tells d (member t.set.words) F hides)
    → NewNode d x o (The u.set.words) (record { action = a; phase = x; closing = closing; claims = u.set; shows = shows; hides = hides; first_edge = 0; edge_count = 0 })
one_node {d} {t} {u} {end} {closing} {b} x o a mask shows hides is shown acts low has so allowed closes true_props false_props =
    new_node d x o u.set a mask shows hides closing (omega (arith, acts, low)) shown.good.few_acts (allows mask is allowed shown) (eqb-true _ 1 (sym has ∙ so)) closes
    (subst (λ (v : Told). Shows v.declared.now d → Tells d (member v.set.words) T shows) is true_props shown) (subst (λ (v : Told). Shows v.declared.now d → Tells d (member v.set.words) F hides) is false_props shown)

pub loop-a-init : goal.loop-a-init
loop-a-init c = (c.requires.room, omega arith, omega arith, λ d ready. acted_none d c.args.self.rules.phase c.args.self.origin c.args.set.words c.args.nodes.now c.args.edges.now c.args.used)

pub loop-a-preserved : goal.loop-a-preserved
loop-a-preserved c = elim c.if-has.branch [
  | then-has+in_ok-count w ↦ (
    search rules,
    search rules,
    search rules,
    λ d ready.
        let x = c.args.self.rules.phase in
        let o = c.args.self.origin in
        let acts = count_read c.count-a-end.ensures.is c.acts.ensures.is ∙ ready.shows.acts in
        let new = one_node x o c.loop-a.a c.allowed_actions-allowed.result c.claimed_props-shows.result c.claimed_props-hides.result c.told-told.ensures ready.shows acts c.loop-a-test.true c.has.ensures w.if-has.true (c.allowed_actions-allowed.ensures d) (c.closes-closing.ensures d ready.shows ready.phase) (c.claimed_props-shows.ensures d) (c.claimed_props-hides.ensures d) in
        let e = w.in_ok-count.ensures.entered d x (begun_after o c.args.used c.loop-a.count c.loop-a.invariant.2 ready.begun) new in
        acted_is c.if-has.nodes c.if-has.edges c.if-has.count w.nodes-is w.edges-is w.count-is (acted_more (c.loop-a.invariant.3 d ready) e.0 e.1),
  )
  | else-has w ↦ (
    search rules,
    search rules,
    search rules,
    λ d ready.
        let acts = count_read c.count-a-end.ensures.is c.acts.ensures.is ∙ ready.shows.acts in
        acted_is c.if-has.nodes c.if-has.edges c.if-has.count w.nodes-is w.edges-is w.count-is
        (acted_skip (λ h. both_ways c.has.result w.if-has.false (c.has.ensures ∙ eq-eqb _ 1 ((allows c.allowed_actions-allowed.result c.told-told.ensures (c.allowed_actions-allowed.ensures d) ready.shows c.loop-a.a (omega (arith, acts, c.loop-a-test.true, ready.shows.good.few_acts))).1 h))) (c.loop-a.invariant.3 d ready)),
  )
]

pub returns-in_err-count : goal.returns-in_err-count
returns-in_err-count c = record {
  entered = λ d ready.
      let x = c.args.self.rules.phase in
      let o = c.args.self.origin in
      let P = The c.args.set.words in
      let acts = count_read c.count-a-end.ensures.is c.acts.ensures.is ∙ ready.shows.acts in
      let new = one_node x o c.loop-a.a c.allowed_actions-allowed.result c.claimed_props-shows.result c.claimed_props-hides.result c.told-told.ensures ready.shows acts c.loop-a-test.true c.has.ensures c.if-has.true (c.allowed_actions-allowed.ensures d) (c.closes-closing.ensures d ready.shows ready.phase) (c.claimed_props-shows.ensures d) (c.claimed_props-hides.ensures d) in
      let over = c.in_err-count.ensures.entered d x (begun_after o c.args.used c.loop-a.count c.loop-a.invariant.2 ready.begun) new in
      subst (Enters d x o P P c.args.nodes.now c.args.edges.now c.args.used c.enter_node.new.nodes c.enter_node.new.edges) (sym c.from_residual.ensures) (over_after (c.loop-a.invariant.3 d ready).goes over);
  room = search rules;
}

pub returns : goal.returns
returns c = record {
  entered = λ d ready. acted_all (omega (arith, c.loop-a-test.false, count_read c.count-a-end.ensures.is c.acts.ensures.is ∙ ready.shows.acts)) (c.loop-a.invariant.3 d ready);
  room = (c.loop-a.invariant.0, c.loop-a.invariant.1, c.loop-a.invariant.2);
}
