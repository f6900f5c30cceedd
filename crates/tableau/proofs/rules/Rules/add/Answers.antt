use Rattle.std.proofs.Common.{◌+◌, get_or, sym, ap, ◌∙◌, subst, arith, take_all}
use Rattle.std.proofs.lemmas.Bool.{both_ways}
use Rattle.tableau.specs.Calculus.{calculus, Fine}
use Rattle.tableau.specs.Claims.{has}
use Rattle.tableau.specs.Walk.{grown, on}
use Rattle.tableau.proofs.Clashes.{stuck_clash, fine_push}
use Rattle.tableau.proofs.Steps.{Held, place, pushed, held_old, held_new}
use Rattle.tableau.proofs.rules.Rules.add.Goals as goal
use Rattle.tableau.proofs.rules.Rules.add.Goals.{then-not-contains+else-clashes, else-not-contains}

pub returns-then-clashes : goal.returns-then-clashes
returns-then-clashes c =
    let h = c.loop-x.invariant.0 in
    record {
      kept = h.kept;
      added = tt;
      more = h.more;
      fine = λ d shows fine. stuck_clash (calculus d c.args.self.phase) (on c.loop-x.trail) (on c.args.trail.now) c.args.claims.now c.loop-x.set.words c.loop-x.x-index c.loop-x-test.true h.grew h.stands.same ((c.clashes.ensures d shows).0 c.if-clashes.true);
    }

pub push-requires : goal.push-requires
push-requires c =
    place c.loop-x.set.words (on c.loop-x.trail) c.loop-x.trail.len _ c.loop-x.invariant.0.stands c.type_inv.c.fits (sym c.if-not-contains.ensures)

pub loop-x-preserved : goal.loop-x-preserved
loop-x-preserved c =
    elim c.if-not-contains.branch [
      | then-not-contains+else-clashes w ↦ (
        subst (λ v. Held c.args.trail.now c.args.claims.now (c.loop-x.x-index + 1) c.if-not-contains.set v) (sym w.trail-is)
            (subst (λ v. Held c.args.trail.now c.args.claims.now (c.loop-x.x-index + 1) v w.push.new.self) (sym w.set-is)
            (held_new c.args.trail.now c.args.claims.now c.loop-x.x-index c.loop-x.set w.with-set.result c.loop-x.trail w.push.new.self c.loop-x-test.true (c.type_inv.claims c.loop-x.x-index).fits (sym w.if-not-contains.ensures) w.with-set.ensures w.push.ensures.whole w.push.ensures.len w.push.ensures.claims c.loop-x.invariant.0)),
        λ d shows fine.
            let m = calculus d c.args.self.phase in
            let h = c.loop-x.invariant.0.stands in
            let x = get_or c.args.claims.now c.loop-x.x-index 0 in
            let fits = place c.loop-x.set.words (on c.loop-x.trail) c.loop-x.trail.len x h (c.type_inv.claims c.loop-x.x-index).fits (sym w.if-not-contains.ensures) in
            subst (λ v. Fine m (has (on v))) (sym w.trail-is)
            (subst (λ l. Fine m (has l)) (sym (pushed c.loop-x.trail w.push.new.self x w.push.ensures.whole fits w.push.ensures.len w.push.ensures.claims))
            (fine_push m c.loop-x.set.words (on c.loop-x.trail) x h.same (λ k. both_ways w.clashes.result w.if-clashes.false ((w.clashes.ensures d shows).1 k)) (c.loop-x.invariant.1 d shows fine))),
      )
      | else-not-contains w ↦ (
        subst (λ v. Held c.args.trail.now c.args.claims.now (c.loop-x.x-index + 1) c.if-not-contains.set v) (sym w.trail-is)
            (subst (λ v. Held c.args.trail.now c.args.claims.now (c.loop-x.x-index + 1) v c.loop-x.trail) (sym w.set-is)
            (held_old c.args.trail.now c.args.claims.now c.loop-x.x-index c.loop-x.set c.loop-x.trail c.loop-x-test.true (sym w.if-not-contains.ensures) c.loop-x.invariant.0)),
        λ d shows fine. subst (λ v. Fine (calculus d c.args.self.phase) (has (on v))) (sym w.trail-is) (c.loop-x.invariant.1 d shows fine),
      )
    ]

pub returns : goal.returns
returns c =
    let h = c.loop-x.invariant.0 in
    let grew = h.grew ∙ ap (grown (on c.args.trail.now)) (take_all c.loop-x.x-index c.args.claims.now (omega arith)) in
    record {
      kept = h.kept;
      added = (h.stands, grew);
      more = h.more;
      fine = λ d shows fine. subst (λ l. Fine (calculus d c.args.self.phase) (has l)) grew (c.loop-x.invariant.1 d shows fine);
    }
