use Rattle.std.proofs.Common.{arith}
use Rattle.lasso.proofs.Rounds.{growing_more, larger, settled}
use Rattle.lasso.proofs.until.fixed_point.Goals as goal

pub loop-states-preserved : goal.loop-states-preserved
loop-states-preserved c = growing_more _ _ _ _ _ _ c.args.lasso.inside _ _ c.loop-states.invariant c.round.ensures

pub loop-states-smaller : goal.loop-states-smaller
loop-states-smaller c =
    let l = larger _ _ _ _ _ _ c.args.lasso.inside _ _ c.loop-states.invariant c.round.ensures c.if-states-lasso.false in
    let b = c.round.ensures.small c.args.lasso.stem (omega arith) c.args.lasso.inside in
    omega arith

pub returns-then-states-lasso : goal.returns-then-states-lasso
returns-then-states-lasso c i q l = (
  (growing_more _ _ _ _ _ _ c.args.lasso.inside _ _ c.loop-states.invariant c.round.ensures).sound i q l,
  λ h. settled _ _ _ _ _ _ c.args.lasso.inside _ _ c.loop-states.invariant c.round.ensures c.if-states-lasso.true h l,
)
