use Rattle.std.proofs.Common.{◌≡◌, ℕ, suc, ◌-◌, Bool, ◌↔◌, List, get_or, ap, arith}
use Rattle.program.specs.Masks.{Bit}
use Rattle.program.specs.declared.automaton.Automaton.{Automaton}
use Rattle.lasso.specs.Rounds.{Enters, Rounded}
use Rattle.lasso.specs.declared.step.Step.{Step}
use Rattle.lasso.proofs.Rounds.{rounded_more}
use Rattle.lasso.proofs.until.round.Goals as goal

enters_same : (a : Automaton) (action v q : ℕ) (f f' g g' : Bool) (x x' : ℕ) → f ≡ f' → g ≡ g' → x ≡ x'
    → Bit v q ↔ Enters a action f g x q → Bit v q ↔ Enters a action f' g' x' q
enters_same a action v q f f' g g' x x' d e h t = rw (← d, ← e, ← h) t

rounded_at : {a : Automaton} {steps : List Step} {stem : ℕ} {truths : List ℕ} {f g : ℕ} {old new : List ℕ} (i j : ℕ) → i ≡ j
    → Rounded a steps stem truths f g old i new → Rounded a steps stem truths f g old j new
rounded_at i j e r = rw (← e) r

pub loop-i-preserved : goal.loop-i-preserved
loop-i-preserved c =
    let i : ℕ = c.loop-i.i - 1 in
    let turn : c.loop-i.i ≡ suc i = omega arith in
    rounded_more _ _ _ _ _ _ c.args.lasso.inside c.args.states.now c.loop-i.states i c.entered.result (omega arith) (omega arith)
    (rounded_at c.loop-i.i (suc i) turn c.loop-i.invariant) c.entered.type_inv
    (λ q. enters_same c.args.automaton.now _ c.entered.result q _ _ _ _ _ _ c.has-f.ensures c.has-g.ensures (ap (λ (k : ℕ). get_or c.loop-i.states k 0) c.after.ensures.is) (c.entered.ensures q))
