use Rattle.std.proofs.Common.{[], eqb, rules, tests, sym, ◌∙◌}
use Rattle.std.proofs.lemmas.Bool.{false≢true}
use Rattle.std.proofs.lemmas.List.{length_push}
use Rattle.std.proofs.lemmas.Bool.Decides.{Decides-eqb}
use Rattle.std.proofs.lemmas.Slice.Eq.{slice_eq-Decides}
use Rattle.std.proofs.lemmas.Iterator.Consumers.{YieldsList-turn, YieldsList-end, YieldsList-at}
use Rattle.std.proofs.lemmas.Iterator.Splits.{YieldsList-from_slice_split}
use Rattle.document.specs.Kept.{names_of}
use Rattle.lasso.proofs.Marking.{taken_turn, taken_bad, taken_end, taken_none, taken_read}
use Rattle.lasso.proofs.StepLines.{exit_at}
use Rattle.lasso.proofs.scan.read_marks.Goals as goal

pub loop-name-init : goal.loop-name-init
loop-name-init c =
    let s = c.split-name-items.ensures in
    record {
      split = YieldsList-at c.into_iter-name-iterator.ensures.into_iter_gives
          (YieldsList-from_slice_split _ (λ b. eqb b 44) c.args.text.now s.rest s.done s.closure (λ x b q k. search (rules, tests)));
      taken = taken_none (names_of c.args.props.now);
    }

pub loop-name-preserved : goal.loop-name-preserved
loop-name-preserved c =
    let v = c.loop-name.invariant in
    let turn = YieldsList-turn v.split c.loop-name.yielded _ c.loop-name.yielded_by _ _ c.in-Some.name c.in-Some.is c.next.ensures.steps in
    let more = taken_turn (names_of c.args.props.now) c.args.text.now _ c.loop-name.marks v.taken c.in-Some.name.now turn c.in_ok-marks.marks c.in_ok-marks.ensures in
    record { split = v.split; taken = rw length_push more }

pub returns-then-eq : goal.returns-then-eq
returns-then-eq c =
    let dash = slice_eq-Decides Decides-eqb c.args.text.now c.as_slice.result.now c.eq.result c.eq.ensures in
    ([], dash.0 c.if-eq.true ∙ c.as_slice.ensures, taken_read (names_of c.args.props.now) [] _ (taken_none (names_of c.args.props.now)))

pub returns-in_err-marks : goal.returns-in_err-marks
returns-in_err-marks c =
    let v = c.loop-name.invariant in
    let turn = YieldsList-turn v.split c.loop-name.yielded _ c.loop-name.yielded_by _ _ c.in-Some.name c.in-Some.is c.next.ensures.steps in
    let dash = slice_eq-Decides Decides-eqb c.args.text.now c.as_slice.result.now c.eq.result c.eq.ensures in
    let no = taken_bad (names_of c.args.props.now) c.args.text.now _ c.loop-name.marks v.taken c.in-Some.name.now turn
    (λ is. false≢true (sym c.if-eq.false ∙ dash.1 (is ∙ sym c.as_slice.ensures))) c.in_err-marks.ensures.1 in
    exit_at c.from_residual.result c.in_err-marks.field-0.0 _ _ c.from_residual.ensures.1 (c.in_err-marks.ensures.0, no)

pub returns : goal.returns
returns c =
    let v = c.loop-name.invariant in
    let end = YieldsList-end v.split c.loop-name.yielded _ c.loop-name.yielded_by _ _ c.in-None.is c.next.ensures.steps in
    taken_end (names_of c.args.props.now) c.args.text.now _ c.loop-name.marks v.taken end.1
