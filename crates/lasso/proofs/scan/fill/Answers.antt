use Rattle.std.proofs.Common.{ℕ, List, length, sym, subst, inl, inr, arith}
use Rattle.std.proofs.lemmas.List.{set-get_or}
use Rattle.lasso.specs.DeclaredNames.{acts_of, props_of}
use Rattle.lasso.specs.Tallies.{FilledFrom}
use Rattle.lasso.specs.declared.step.Step.{Step}
use Rattle.lasso.proofs.Fills.{Going, going_none, going_read, going_more, going_all}
use Rattle.lasso.proofs.scan.fill.Goals as goal
use Rattle.lasso.proofs.scan.fill.Goals.{in-Ok, in_default-read_next}

pub loop-place-init : goal.loop-place-init
loop-place-init c ss r l =
    let acts = acts_of c.args.declared.now in
    let props = props_of c.args.declared.now in
    let text = c.args.text.now in
    let steps = c.args.steps.now in
    subst (λ (v : List ℕ). Going acts props text v (length ss) 0 steps steps) (sym c.new-lines.ensures) (going_none acts props text ss steps r)

pub returns-in_default : goal.returns-in_default
returns-in_default c ss r l =
    let acts = acts_of c.args.declared.now in
    let props = props_of c.args.declared.now in
    let P : List Step → Type 0 = λ after. FilledFrom acts props c.args.text.now c.args.steps.now after in
    subst P (sym (set-get_or c.loop-place.steps c.loop-place.place-index _))
    (going_all acts props c.args.text.now c.loop-place.lines.left.now (length ss) c.loop-place.place-index c.args.steps.now c.loop-place.steps
    (c.loop-place.invariant ss r l) (inl c.in_default.ensures.steps.0))

pub loop-place-preserved : goal.loop-place-preserved
loop-place-preserved c ss r l =
    let acts = acts_of c.args.declared.now in
    let props = props_of c.args.declared.now in
    let g = c.loop-place.invariant ss r l in
    elim c.match-read_next.branch [
      | in-Ok w ↦
          going_more acts props c.args.text.now c.loop-place.lines.left.now c.next.new.self.left.now (length ss) c.loop-place.place-index
          c.args.steps.now c.loop-place.steps g l c.in-Some.line c.in-Some.ensures.steps w.in-Ok.read w.in-Ok.ensures c.match-read_next.steps w.steps-is
      | in_default-read_next w ↦
          absurd (going_read acts props c.args.text.now c.loop-place.lines.left.now c.next.new.self.left.now (length ss) c.loop-place.place-index
          c.args.steps.now c.loop-place.steps g c.in-Some.line c.in-Some.ensures.steps _ w.in_default-read_next.ensures)
    ]

pub returns : goal.returns
returns c ss r l =
    going_all (acts_of c.args.declared.now) (props_of c.args.declared.now) c.args.text.now c.loop-place.lines.left.now (length ss) c.loop-place.place-index
    c.args.steps.now c.loop-place.steps (c.loop-place.invariant ss r l) (inr (omega arith))
