use Rattle.std.proofs.Common.{ℕ, ◌<◌, ◌≢◌, length, map, sym, ◌∙◌, rules, arith, length-set, get_or-set_other, get_or-set_same, below_more}
use lib.Bits.{bit_and}
use lib.ListN.{length-map}
use Rattle.std.proofs.lemmas.List.{ext_get_or, get_or-map}
use Rattle.program.proofs.automaton.targets_by.Goals as goal

pub loop-k-preserved : goal.loop-k-preserved
loop-k-preserved c = (
  length-set c.loop-k.row _ _ ∙ c.loop-k.invariant.0,
  below_more _ _
      (λ k h. let ne : k ≢ c.loop-k.k = omega arith in rw get_or-set_other (c.loop-k.invariant.1 k h))
      (let lt : c.loop-k.k < length c.loop-k.row = omega arith in rw get_or-set_same),
)

pub returns : goal.returns
returns c =
    let f = λ (n : ℕ). bit_and (bit_and c.args.follow n) c.args.all in
    let named = c.args.named.now in
    ext_get_or 0 c.loop-k.row (map f named) (c.loop-k.invariant.0 ∙ sym (length-map named f ∙ c.told-named))
    (λ i h. c.loop-k.invariant.1 i (omega arith) ∙ sym (get_or-map f named i 0 0 (search rules)))
