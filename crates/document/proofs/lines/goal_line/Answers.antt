use Rattle.std.proofs.Common.{◌≡◌, [], get_or, sym, ap, ◌∙◌, subst, arith}
use Rattle.std.proofs.lemmas.Bool.{both_ways}
use Rattle.program.specs.Names.{Named}
use Rattle.program.specs.Spellings.{Missing, NumberIn}
use Rattle.document.specs.Kept.{names_of}
use Rattle.document.specs.Texts.{fields}
use Rattle.document.specs.Told.{Aims}
use Rattle.document.specs.declared.fault.LineFault.TheVariants.{Shape, Naming}
use Rattle.document.proofs.Lined.{goal_count, goal_name, goal_unknown, goal_early, goal_done}
use Rattle.document.proofs.Refused.{refused}
use Rattle.document.proofs.lines.goal_line.Goals as goal

pub returns-in_err-counted : goal.returns-in_err-counted
returns-in_err-counted c = λ w d h.
    refused (Aims c.args.declared d c.args.line.now) d c.args.line.now c.from_residual.result c.in_err-counted.field-0.0 Shape c.from_residual.ensures.1
    c.in_err-counted.ensures.0 (goal_count c.args.declared c.args.line.now w d c.in_err-counted.ensures.1)

pub returns-then-not-is_name : goal.returns-then-not-is_name
returns-then-not-is_name c = λ w d h.
    goal_name c.args.declared c.args.line.now w d
    (λ n. both_ways c.is_name.result c.if-not-is_name.true (c.is_name.ensures.1 (subst Named (sym c.field-text.ensures) n)))

pub returns-in_err-goal : goal.returns-in_err-goal
returns-in_err-goal c = λ w d h.
    let s = c.args.declared in
    let bytes = c.args.line.now in
    let text = c.field-text.ensures in
    refused (Aims s d bytes) d bytes c.from_residual-in_err-goal.result c.in_err-goal.field-0.0 Naming
    c.from_residual-in_err-goal.ensures.1 c.in_err-goal.ensures.is.0
    (goal_unknown s bytes w c.in_ok-counted.ensures (subst Named text (c.is_name.ensures.0 c.if-not-is_name.false))
    (subst (Missing (names_of s.forms)) text (subst (λ v. Missing (names_of v) c.field-text.result.now) c.forms.ensures.is c.in_err-goal.ensures.is.1)) d h)

pub returns-then-count-eq0 : goal.returns-then-count-eq0
returns-then-count-eq0 c = λ w d h.
    let s = c.args.declared in
    let bytes = c.args.line.now in
    let text = c.field-text.ensures in
    let i = c.in_ok-goal.goal in
    let none : s.acts.count ≡ 0 = subst (λ v. v.count ≡ 0) c.acts.ensures.is (sym c.count.ensures.is ∙ c.if-count-eq0.true) in
    goal_early s bytes w c.in_ok-counted.ensures (subst Named text (c.is_name.ensures.0 c.if-not-is_name.false)) i
    (subst (λ n. NumberIn (names_of s.forms) n i) text (subst (λ v. NumberIn (names_of v) c.field-text.result.now i) c.forms.ensures.is c.in_ok-goal.ensures.is))
    none d h

pub returns : goal.returns
returns c = λ w d h.
    let s = c.args.declared in
    let bytes = c.args.line.now in
    let text = c.field-text.ensures in
    let i = c.in_ok-goal.goal in
    let doc = c.new.result in
    let count : c.count.result ≡ s.acts.count = c.count.ensures.is ∙ ap (λ v. v.count) c.acts.ensures.is in
    goal_done s bytes w c.in_ok-counted.ensures (subst Named text (c.is_name.ensures.0 c.if-not-is_name.false)) doc
    (subst (λ k. NumberIn (names_of s.forms) (get_or (fields bytes) 1 []) k) (sym c.new.ensures.goal)
    (subst (λ n. NumberIn (names_of s.forms) n i) text (subst (λ v. NumberIn (names_of v) c.field-text.result.now i) c.forms.ensures.is c.in_ok-goal.ensures.is)))
    (omega arith) c.new.ensures.declared d h
