use Rattle.std.proofs.Common.{◌≡◌, ℕ, eqb, List, [], length, get_or, Some, None, Option, refl, sym, ap, ◌∙◌, arith, rules}
use Rattle.std.specs.Iterator.{SkipsThenYields}
use Rattle.std.specs.Option.{unwrap_or}
use Rattle.std.proofs.lemmas.Iterator.{YieldsList}
use Rattle.std.proofs.lemmas.Iterator.Consumers.{YieldsList-turn, YieldsList-end}
use Rattle.std.proofs.lemmas.Iterator.Splits.{YieldsList-from_slice_split}
use Rattle.std.proofs.lemmas.List.{get_or_past, get_or_default}
use Rattle.document.proofs.Pieces.{pieces_split}
use Rattle.document.proofs.fields.field.Goals as goal

-- what `nth` gives is the element at that place
nth_is : {S A B : Type 0} {steps : S → Option A → S → Type 0} {v : A → B} {s : S} {all : List B} (n : ℕ) (r : Option A) (u : S) (d : A)
    → YieldsList steps v s all → SkipsThenYields steps s n r u → v (unwrap_or r d) ≡ get_or all n (v d)
nth_is {v = v} {all = all} n None u d e h =
    let t = YieldsList-end e h.0 h.1.0 h.1.1 None u refl h.1.2 in
    sym (get_or_past all n (v d) (omega (arith, t.1, h.2)))
nth_is {v = v} {all = all} n (Some x) u d e h =
    let t = YieldsList-turn e h.0 h.1.0 h.1.1 (Some x) u x refl h.1.2 in
    t.1 ∙ get_or_default all (length h.0) (v x) (v d) t.0 ∙ ap (λ k. get_or all k (v d)) h.2

pub returns : goal.returns
returns c =
    ap (λ r. r.now) c.unwrap_or.ensures
    ∙ nth_is c.args.number c.nth.result _ _ (YieldsList-from_slice_split _ (λ b. eqb b 9) c.args.line.now c.split.ensures.rest c.split.ensures.done c.split.ensures.closure (λ x b q k. search rules)) c.nth.ensures.ran
    ∙ ap (λ ps. get_or ps c.args.number []) (sym (pieces_split 9 c.args.line.now))
