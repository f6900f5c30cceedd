use Rattle.std.proofs.Common.{◌+◌, [], get_or, sym, refl, ◌∙◌, subst, arith, get_or-take, rules}
use Rattle.tableau.specs.Calculus.{calculus, Fine}
use Rattle.tableau.specs.Claims.{has}
use Rattle.tableau.specs.Entered.{Enters}
use Rattle.tableau.specs.Expansions.{Reached, Leads}
use Rattle.tableau.specs.Offers.{listed}
use Rattle.tableau.specs.Walk.{on, grown}
use Rattle.tableau.proofs.Entries.{ready_after}
use Rattle.tableau.proofs.Steps.{back, back_none}
use Rattle.tableau.proofs.Walks.{walk_stuck, walk_end, walk_one, walk_both, walk_over}
use Rattle.tableau.proofs.unit.Opening.+expand_follow.Goals as goal

pub expand-returns-then-at-trail : goal.expand-returns-then-at-trail
expand-returns-then-at-trail t c = record {
  len = refl;
  kept = refl;
  room = c.enter_set.ensures.room;
  entered = λ d ready fine.
      walk_end d c.args.self.rules.phase c.args.self.origin (calculus d c.args.self.rules.phase) c.args.at (on c.args.trail.now) c.args.set.words c.args.nodes.now c.enter_set.new.nodes c.args.edges.now c.enter_set.new.edges c.args.used c.enter_set.result
      (omega (arith, c.requires.stands.long, c.if-at-trail.true)) fine c.requires.stands.same (c.enter_set.ensures.entered d ready);
}

pub expand-returns-in-Nothing : goal.expand-returns-in-Nothing
expand-returns-in-Nothing t c = record {
  len = c.expand.ensures.len;
  kept = c.expand.ensures.kept;
  room = c.expand.ensures.room;
  entered = λ d ready fine.
      walk_one d c.args.self.rules.phase c.args.self.origin (calculus d c.args.self.rules.phase) c.args.at (get_or c.args.trail.now.claims c.args.at 0) (on c.args.trail.now) [] c.args.nodes.now c.expand.new.nodes c.args.edges.now c.expand.new.edges c.args.used c.expand.result
      (omega (arith, c.requires.stands.long, c.if-at-trail.false)) (get_or-take c.args.trail.now.len c.args.trail.now.claims c.args.at 0 c.if-at-trail.false) (c.in-Nothing.ensures.offers d ready.shows) (c.expand.ensures.entered d ready fine);
}

pub expand-returns-in-One : goal.expand-returns-in-One
expand-returns-in-One t c = record {
  len = c.follow.ensures.len;
  kept = c.follow.ensures.kept;
  room = c.follow.ensures.room;
  entered = λ d ready fine.
      walk_one d c.args.self.rules.phase c.args.self.origin (calculus d c.args.self.rules.phase) c.args.at (get_or c.args.trail.now.claims c.args.at 0) (on c.args.trail.now) (listed c.in-One.few) c.args.nodes.now c.follow.new.nodes c.args.edges.now c.follow.new.edges c.args.used c.follow.result
      (omega (arith, c.requires.stands.long, c.if-at-trail.false)) (get_or-take c.args.trail.now.len c.args.trail.now.claims c.args.at 0 c.if-at-trail.false) (c.in-One.ensures.offers d ready.shows) (c.follow.ensures.entered d ready fine);
}

pub expand-returns-in_err-more-in-Two : goal.expand-returns-in_err-more-in-Two
expand-returns-in_err-more-in-Two t c =
    let f = c.in_err-more-in-Two.ensures in
    record {
      len = f.len;
      kept = f.kept;
      room = search rules;
      entered = λ d ready fine.
          let x = c.args.self.rules.phase in
          let m = calculus d x in
          subst (Enters d x c.args.self.origin (Reached m c.args.at (on c.args.trail.now)) (Leads m c.args.at (on c.args.trail.now)) c.args.nodes.now c.args.edges.now c.args.used c.follow-in-Two.new.nodes c.follow-in-Two.new.edges) (sym c.from_residual.ensures)
          (walk_over d x c.args.self.origin m c.args.at (get_or c.args.trail.now.claims c.args.at 0) (on c.args.trail.now) (listed c.in-Two.first) c.args.nodes.now c.follow-in-Two.new.nodes c.args.edges.now c.follow-in-Two.new.edges c.args.used
          (omega (arith, c.requires.stands.long, c.if-at-trail.false)) (get_or-take c.args.trail.now.len c.args.trail.now.claims c.args.at 0 c.if-at-trail.false) (c.in-Two.ensures.offers d ready.shows).0 (f.entered d ready fine));
    }

pub expand-returns-in_ok-more-in-Two : goal.expand-returns-in_ok-more-in-Two
expand-returns-in_ok-more-in-Two t c =
    let f = c.in_ok-more-in-Two.ensures in
    let h = c.follow-in-Two-2.ensures in
    record {
      len = h.len ∙ f.len;
      kept = h.kept ∙ f.kept;
      room = search rules;
      entered = λ d ready fine.
          let x = c.args.self.rules.phase in
          let o = c.args.self.origin in
          let m = calculus d x in
          let first = f.entered d ready fine in
          let second = h.entered d (ready_after c.args.self.rules.declared.now d x o c.args.used c.in_ok-more-in-Two.more first.goes.more_edges ready) (subst (λ l. Fine m (has l)) (sym f.kept) fine) in
          walk_both d x o m c.args.at (get_or c.args.trail.now.claims c.args.at 0) (on c.args.trail.now) (listed c.in-Two.first) (listed c.in-Two.second) c.args.nodes.now c.follow-in-Two.new.nodes c.follow-in-Two-2.new.nodes c.args.edges.now c.follow-in-Two.new.edges c.follow-in-Two-2.new.edges c.args.used c.in_ok-more-in-Two.more c.follow-in-Two-2.result
          (omega (arith, c.requires.stands.long, c.if-at-trail.false)) (get_or-take c.args.trail.now.len c.args.trail.now.claims c.args.at 0 c.if-at-trail.false) (c.in-Two.ensures.offers d ready.shows).0 (c.in-Two.ensures.offers d ready.shows).1 first
          (subst (λ l. Enters d x o (Reached m (c.args.at + 1) (grown l (listed c.in-Two.second))) (Leads m (c.args.at + 1) (grown l (listed c.in-Two.second))) c.follow-in-Two.new.nodes c.follow-in-Two.new.edges c.in_ok-more-in-Two.more c.follow-in-Two-2.new.nodes c.follow-in-Two-2.new.edges c.follow-in-Two-2.result) f.kept second);
    }

pub follow-returns-in_default : goal.follow-returns-in_default
follow-returns-in_default t c = record {
  len = c.drop-guard.ensures.len;
  kept = back_none c.args.trail.now c.add_few.new.trail c.drop-guard.new.self.0 c.drop-guard.ensures.len c.drop-guard.ensures.claims c.in_default.ensures.kept;
  room = search rules;
  entered = λ d ready fine. walk_stuck d c.args.self.rules.phase c.args.self.origin (calculus d c.args.self.rules.phase) (c.args.at + 1) (grown (on c.args.trail.now) (listed c.args.few)) c.args.nodes.now c.args.edges.now c.args.used (c.in_default.ensures.fine d ready.shows fine);
}

pub follow-returns : goal.follow-returns
follow-returns t c = record {
  len = c.drop-guard-2.ensures.len;
  kept = back c.args.trail.now c.add_few.new.trail c.expand.new.trail c.drop-guard-2.new.self.0 c.drop-guard-2.ensures.len c.drop-guard-2.ensures.claims c.expand.ensures.len c.expand.ensures.kept c.in-Some.ensures.kept c.in-Some.ensures.more;
  room = c.expand.ensures.room;
  entered = λ d ready fine.
      let x = c.args.self.rules.phase in
      let m = calculus d x in
      let grew = c.in-Some.ensures.added.1 in
      subst (λ l. Enters d x c.args.self.origin (Reached m (c.args.at + 1) l) (Leads m (c.args.at + 1) l) c.args.nodes.now c.args.edges.now c.args.used c.expand.new.nodes c.expand.new.edges c.expand.result) grew
      (c.expand.ensures.entered d ready (subst (λ l. Fine m (has l)) (sym grew) (c.in-Some.ensures.fine d ready.shows fine)));
}
