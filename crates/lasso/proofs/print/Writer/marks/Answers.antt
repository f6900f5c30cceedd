use Rattle.std.proofs.Common.{◌≡◌, ℕ, ◌+◌, ◌<◌, ◌≤◌, List, length, take, sym, ap, ◌∙◌, arith}
use Rattle.std.proofs.lemmas.List.{take_all}
use Rattle.document.specs.Kept.{names_of}
use Rattle.lasso.specs.LassoTexts.{joined, marked}
use Rattle.lasso.specs.declared.print.Writer.{Writer}
use Rattle.lasso.proofs.Lines.{none, so_far, mark_put, mark_left, dash_put, marks_put}
use Rattle.lasso.proofs.Written.{wrote_then, wrote_as, wrote_by}
use Rattle.lasso.proofs.print.Writer.marks.Goals as goal
use Rattle.lasso.proofs.print.Writer.marks.Goals.{then-has, else-has}

pub loop-p-preserved : goal.loop-p-preserved
loop-p-preserved c =
    let names = names_of c.args.props.now in
    let h : c.loop-p.p < length names = omega arith in
    let v = c.loop-p.invariant in
    elim c.if-has.branch [
      | then-has w ↦
          let is = mark_put names c.loop-p.p c.args.marks h c.loop-p.first _ (sym c.has.ensures ∙ w.if-has.true) (w.at.ensures (omega arith)) v.first v.wrote w.mark.ensures.wrote in
          record { wrote = wrote_by w.self-is is.0; few = omega (arith, ap (λ (s : Writer). s.at) w.self-is, w.mark.ensures.few, v.few); first = w.first-is ∙ is.1 }
      | else-has w ↦
          let e = mark_left names c.loop-p.p c.args.marks h (sym c.has.ensures ∙ w.if-has.false) in
          record { wrote = wrote_by w.self-is (wrote_as (so_far (marked (take (c.loop-p.p + 1) names) 0 c.args.marks)) v.wrote (ap so_far e)); few = omega (arith, ap (λ (s : Writer). s.at) w.self-is, v.few); first = w.first-is ∙ v.first ∙ ap none e }
    ]

all : (names : List (List ℕ)) (k marks : ℕ) → length names ≤ k → marked (take k names) 0 marks ≡ marked names 0 marks
all names k marks h = ap (λ (l : List (List ℕ)). marked l 0 marks) (take_all k names h)

pub returns-then-first : goal.returns-then-first
returns-then-first c =
    let names = names_of c.args.props.now in
    let v = c.loop-p.invariant in
    let e = all names c.loop-p.p c.args.marks (omega arith) in
    let was = wrote_as (so_far (marked names 0 c.args.marks)) v.wrote (ap so_far e) in
    let is = wrote_as (joined (marked names 0 c.args.marks)) (wrote_then was c.byte.ensures) (dash_put (marked names 0 c.args.marks) (sym (ap none e) ∙ sym v.first ∙ c.if-first.true)) in
    record { few = omega (arith, v.few, c.byte.ensures.next); wrote = is }

pub returns-else-first : goal.returns-else-first
returns-else-first c =
    let names = names_of c.args.props.now in
    let v = c.loop-p.invariant in
    let e = all names c.loop-p.p c.args.marks (omega arith) in
    let was = wrote_as (so_far (marked names 0 c.args.marks)) v.wrote (ap so_far e) in
    let is = wrote_as (joined (marked names 0 c.args.marks)) was (marks_put (marked names 0 c.args.marks) (sym (ap none e) ∙ sym v.first ∙ c.if-first.false)) in
    record { few = omega (arith, v.few); wrote = is }
