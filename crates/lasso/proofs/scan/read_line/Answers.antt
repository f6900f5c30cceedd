use Rattle.std.proofs.Common.{◌≡◌, ℕ, List, sym, refl, ◌∙◌, subst}
use Rattle.std.proofs.lemmas.Bool.{false≢true}
use Rattle.program.specs.Spellings.{Missing, NumberIn}
use Rattle.document.specs.Faults.{line_fault_code}
use Rattle.document.specs.Kept.{names_of}
use Rattle.lasso.specs.DeclaredNames.{acts_of, props_of}
use Rattle.document.specs.declared.fault.LineFault.{LineFault}
use Rattle.document.specs.declared.names.Names.{Names}
use Rattle.lasso.specs.MarkFields.{MarksRead, NoMarks}
use Rattle.lasso.specs.LassoLines.{Faulty}
use Rattle.lasso.proofs.Options.{nothing}
use Rattle.lasso.proofs.StepLines.{exit_at, fault_fields, fault_kind, fault_action, fault_state, fault_marks, fault_unknown_action, fault_unknown_mark, line_reads, parted}
use Rattle.lasso.proofs.scan.read_line.Goals as goal

-- a fault of the same code
same_fault : (acts props : List (List ℕ)) (line : List ℕ) (f g : LineFault) → f ≡ g → Faulty acts props line (line_fault_code g) → Faulty acts props line (line_fault_code f)
same_fault acts props line f g e h = rw e h

pub returns-in_err-counted : goal.returns-in_err-counted
returns-in_err-counted c =
    let e = c.in_err-counted.ensures in
    exit_at c.from_residual.result c.in_err-counted.field-0.0 _ _ c.from_residual.ensures.1
    (same_fault _ _ _ _ _ e.0 (fault_fields (acts_of c.args.declared.now) (props_of c.args.declared.now) c.args.line.now e.1))

pub returns-in_err-part : goal.returns-in_err-part
returns-in_err-part c =
    let e = c.in_err-part.ensures in
    exit_at c.from_residual-in_err-part.result c.in_err-part.field-0.0 _ _ c.from_residual-in_err-part.ensures.1
    (same_fault _ _ _ _ _ e.0 (fault_kind (acts_of c.args.declared.now) (props_of c.args.declared.now) c.args.line.now _ c.field.ensures e.1 e.2))

pub returns-then-not-is_name : goal.returns-then-not-is_name
returns-then-not-is_name c =
    fault_action (acts_of c.args.declared.now) (props_of c.args.declared.now) c.args.line.now _ c.field-name.ensures (λ n. false≢true (c.if-not-is_name.ensures.1 n))

pub returns-in_err-state : goal.returns-in_err-state
returns-in_err-state c =
    let n = nothing c.read_state.result _ _ c.in_err-state.ensures.value in
    let s = rw n.0 at c.read_state.ensures.spells in
    exit_at c.from_residual-in_err-state.result c.in_err-state.field-0.0 _ _ c.from_residual-in_err-state.ensures.1
    (same_fault _ _ _ _ _ n.1 (fault_state (acts_of c.args.declared.now) (props_of c.args.declared.now) c.args.line.now _ c.field-2.ensures s))

pub returns-in_err-read : goal.returns-in_err-read
returns-in_err-read c =
    let e = c.in_err-read.ensures in
    let none = subst (λ (n : Names). NoMarks (names_of n) c.field-3.result.now) c.props.ensures.is e.1 in
    exit_at c.from_residual-in_err-read.result c.in_err-read.field-0.0 _ _ c.from_residual-in_err-read.ensures.1
    (same_fault _ _ _ _ _ e.0 (fault_marks (acts_of c.args.declared.now) (props_of c.args.declared.now) c.args.line.now _ c.field-3.ensures none))

pub returns-in_err-action : goal.returns-in_err-action
returns-in_err-action c =
    let n = nothing c.find.result _ _ c.in_err-action.ensures.value in
    let s = rw c.in_ok-state.ensures.ok_part at c.read_state.ensures.spells in
    let m = c.in_ok-read.ensures in
    let read = subst (λ (n : Names). MarksRead (names_of n) m.0 c.in_ok-read.read) c.props.ensures.is m.2 in
    let p = parted (acts_of c.args.declared.now) (props_of c.args.declared.now) c.args.line.now c.in_ok-part.part _ _ _ c.in_ok-state.state m.0 c.in_ok-read.read
    c.in_ok-counted.ensures (sym c.field.ensures ∙ c.in_ok-part.ensures) c.field-name.ensures c.field-2.ensures c.field-3.ensures (c.if-not-is_name.ensures.0 refl) s m.1 read in
    let missing = rw n.0 at c.find.ensures.is in
    let miss = subst (λ (n : Names). Missing (names_of n) c.field-name.result.now) c.acts.ensures.is missing in
    exit_at c.from_residual-in_err-action.result c.in_err-action.field-0.0 _ _ c.from_residual-in_err-action.ensures.1
    (same_fault _ _ _ _ _ n.1 (fault_unknown_action _ _ _ _ _ _ _ _ p miss))

pub returns-in_err-marks : goal.returns-in_err-marks
returns-in_err-marks c =
    let n = nothing c.in_ok-read.read.mask _ _ c.in_err-marks.ensures.value in
    let s = rw c.in_ok-state.ensures.ok_part at c.read_state.ensures.spells in
    let m = c.in_ok-read.ensures in
    let read = subst (λ (n : Names). MarksRead (names_of n) m.0 c.in_ok-read.read) c.props.ensures.is m.2 in
    let p = parted (acts_of c.args.declared.now) (props_of c.args.declared.now) c.args.line.now c.in_ok-part.part _ _ _ c.in_ok-state.state m.0 c.in_ok-read.read
    c.in_ok-counted.ensures (sym c.field.ensures ∙ c.in_ok-part.ensures) c.field-name.ensures c.field-2.ensures c.field-3.ensures (c.if-not-is_name.ensures.0 refl) s m.1 read in
    exit_at c.from_residual-in_err-marks.result c.in_err-marks.field-0.0 _ _ c.from_residual-in_err-marks.ensures.1
    (same_fault _ _ _ _ _ n.1 (fault_unknown_mark _ _ _ _ _ _ _ _ p n.0))

pub returns : goal.returns
returns c =
    let s = rw c.in_ok-state.ensures.ok_part at c.read_state.ensures.spells in
    let m = c.in_ok-read.ensures in
    let read = subst (λ (n : Names). MarksRead (names_of n) m.0 c.in_ok-read.read) c.props.ensures.is m.2 in
    let p = parted (acts_of c.args.declared.now) (props_of c.args.declared.now) c.args.line.now c.in_ok-part.part _ _ _ c.in_ok-state.state m.0 c.in_ok-read.read
    c.in_ok-counted.ensures (sym c.field.ensures ∙ c.in_ok-part.ensures) c.field-name.ensures c.field-2.ensures c.field-3.ensures (c.if-not-is_name.ensures.0 refl) s m.1 read in
    let found = rw c.in_ok-action.ensures.ok_part at c.find.ensures.is in
    let num = subst (λ (n : Names). NumberIn (names_of n) c.field-name.result.now c.in_ok-action.action) c.acts.ensures.is found in
    line_reads _ _ _ _ _ _ _ _ p c.in_ok-action.action c.in_ok-marks.marks num c.in_ok-marks.ensures.ok_part
