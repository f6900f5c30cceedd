use Rattle.std.proofs.Common.{◌≡◌, ℕ, ◌≤◌, List, [], ◌∷◌, length, IsErrAnd, Ok, Err, Result, sym, refl, ap, ◌∙◌, subst, arith, rules, MatchResult}
use Rattle.std.proofs.lemmas.Result.{err_from_is_err_and}
use Rattle.document.specs.Faults.{line_fault_code, line_fault_column}
use Rattle.document.specs.Holds.{Holds}
use Rattle.document.specs.Lines.{nothing}
use Rattle.document.specs.Loading.{LineRead, Taken, Loaded}
use Rattle.document.specs.Coming.{too_long, read}
use Rattle.document.specs.Coming as outcome
use Rattle.document.specs.Outcomes as failed
use Rattle.document.specs.Texts.{pieces}
use Rattle.document.specs.declared.document.Document.{Document}
use Rattle.document.specs.declared.fault.LineAt.{LineAt}
use Rattle.document.specs.declared.fault.LineFault.{LineFault}
use Rattle.document.specs.declared.fault.LoadFault.TheVariants.{Line}
use Rattle.document.specs.declared.load.Progress.{Progress}
use Rattle.document.proofs.Documented.{represents, well_formed}
use Rattle.document.proofs.Reached.{Read, Reached, reached_more, reached_fault, reached_end}
use Rattle.document.proofs.Spelling.{accepted_exactly, one_document}
use Rattle.document.proofs.load.load.Goals as goal

-- what `map_err` took
of_ok : (P : LineFault → LineAt → Type 0) (r : Result Progress LineFault) (m : Result Progress LineAt) (x : Progress)
    → MatchResult r (λ y. m ≡ Ok y) (λ e. IsErrAnd m (P e)) → m ≡ Ok x → r ≡ Ok x
of_ok P (Ok y) m x h is = let e : y ≡ x = cc in ap Ok e
of_ok P (Err e) m x h is = absurd (subst (λ v. IsErrAnd v (P e)) is h)

of_err : (P : LineFault → LineAt → Type 0) (r : Result Progress LineFault) (m : Result Progress LineAt) (f : LineAt)
    → MatchResult r (λ y. m ≡ Ok y) (λ e. IsErrAnd m (P e)) → m ≡ Err f → (e : LineFault) × (r ≡ Err e) × P e f
of_err P (Ok y) m f h is = absurd cc
of_err P (Err e) m f h is = (e, refl, subst (λ v. IsErrAnd v (P e)) is h)

nil : (xs : List ℕ) → length xs ≡ 0 → pieces 10 xs ≡ pieces 10 []
nil [] h = refl
nil (x ∷ xs) h = absurd (omega arith)

-- all lines are read, and the goal was among them
done : (text left : List ℕ) (number : ℕ) (doc : Document) → length text ≤ 16384 → length left ≡ 0 → Read text number (pieces 10 left) doc → Taken text doc
done text left number doc short none r =
    record { declarations = r.0; loads = read short (r.2 (nil left none)); holds = r.1; represents = represents doc r.0 r.1; well_formed = well_formed doc r.0 r.1 }

pub loop-line-init : goal.loop-line-init
loop-line-init c =
    let text = c.args.text.now in
    let held : Holds c.new.result nothing = search rules in
    let same : c.into_iter-line-iterator.result.left.now ≡ text = search rules in
    (tt, tt, search rules, (nothing, held, λ o comes. subst (λ v. outcome.ComesByFirst nothing 1 (pieces 10 v) o) same comes))

pub loop-line-preserved : goal.loop-line-preserved
loop-line-preserved c =
    let it = c.loop-line.line-iterator in
    let was = of_ok _ c.with_line.result c.map_err.result c.in_ok-progress.progress c.map_err.ensures.cases c.in_ok-progress.was in (
      tt,
      tt,
      omega (arith, c.in-Some.ensures.steps.0, c.loop-line.invariant.2),
      reached_more c.args.text.now it.left.now c.next.new.self.left.now c.loop-line.number c.loop-line.progress c.loop-line.invariant.3 c.in-Some.line c.in_ok-progress.progress c.in-Some.ensures.steps
          (subst (LineRead c.loop-line.progress c.in-Some.line) was c.with_line.ensures),
    )

pub returns-in_err-progress-clause-loaded : goal.returns-in_err-progress-clause-loaded
returns-in_err-progress-clause-loaded c =
    let text = c.args.text.now in
    let it = c.loop-line.line-iterator in
    let f = c.in_err-progress.field-0.0 in
    let p = err_from_is_err_and c.from_residual.result c.from_residual.ensures.1 in
    let is : c.from_residual.result ≡ Err (Line f) = p.1 ∙ ap Err p.2 in
    let was = of_err _ c.with_line.result c.map_err.result f c.map_err.ensures.cases c.in_err-progress.was in
    let at : f ≡ record { line = c.loop-line.number; fault = was.0 } = search rules in
    let comes = reached_fault text it.left.now c.next.new.self.left.now c.loop-line.number c.loop-line.progress c.loop-line.invariant.3 c.in-Some.line was.0 c.in-Some.ensures.steps
    (subst (LineRead c.loop-line.progress c.in-Some.line) was.1 c.with_line.ensures) in
    subst (Loaded text) (sym is)
    (read c.if-text-gt16384.false
    (subst (λ (g : LineAt). outcome.ComesByFirst nothing 1 (pieces 10 text) (failed.refused (line_fault_code g.fault) g.line (line_fault_column g.fault))) (sym at) comes))

pub returns-in-Done-clause-loaded : goal.returns-in-Done-clause-loaded
returns-in-Done-clause-loaded c =
    let text = c.args.text.now in
    let left = c.loop-line.line-iterator.left.now in
    done text left c.loop-line.number c.in-Done.document c.if-text-gt16384.false c.in-None.ensures.steps.0
    (subst (Reached text c.loop-line.number (pieces 10 left)) c.in-Done.is c.loop-line.invariant.3)

pub returns-in-Declaring-clause-loaded : goal.returns-in-Declaring-clause-loaded
returns-in-Declaring-clause-loaded c =
    let text = c.args.text.now in
    let left = c.loop-line.line-iterator.left.now in
    read c.if-text-gt16384.false
    (reached_end text left c.loop-line.number c.in-Declaring.field-0 c.in-None.ensures.steps.0
    (subst (Reached text c.loop-line.number (pieces 10 left)) c.in-Declaring.is c.loop-line.invariant.3))

pub returns-then-text-gt16384-clause-loaded : goal.returns-then-text-gt16384-clause-loaded
returns-then-text-gt16384-clause-loaded c = too_long c.if-text-gt16384.true

pub returns-in-Done-clause-exactly : goal.returns-in-Done-clause-exactly
returns-in-Done-clause-exactly c = accepted_exactly

pub returns-in-Done-clause-single : goal.returns-in-Done-clause-single
returns-in-Done-clause-single c = one_document

pub returns-in-Declaring-clause-exactly : goal.returns-in-Declaring-clause-exactly
returns-in-Declaring-clause-exactly c = accepted_exactly

pub returns-in-Declaring-clause-single : goal.returns-in-Declaring-clause-single
returns-in-Declaring-clause-single c = one_document

pub returns-then-text-gt16384-clause-exactly : goal.returns-then-text-gt16384-clause-exactly
returns-then-text-gt16384-clause-exactly c = accepted_exactly

pub returns-then-text-gt16384-clause-single : goal.returns-then-text-gt16384-clause-single
returns-then-text-gt16384-clause-single c = one_document

pub returns-in_err-progress-clause-exactly : goal.returns-in_err-progress-clause-exactly
returns-in_err-progress-clause-exactly c = accepted_exactly

pub returns-in_err-progress-clause-single : goal.returns-in_err-progress-clause-single
returns-in_err-progress-clause-single c = one_document
