use Rattle.std.proofs.Common.{ℕ, Bool, true, false, cond, not, subst, arith}
use Rattle.document.specs.Documents.{Document}
use Rattle.document.specs.declared.form.Form.{Form}
use Rattle.document.specs.declared.form.Form.TheVariants.{And, Or}
use Rattle.tableau.specs.Calculus.{Joined, Offered}
use Rattle.tableau.specs.Graphs.{Sign.T, Sign.F, GivesForm}
use Rattle.tableau.specs.declared.rules.Alternatives.{Alternatives}
use Rattle.tableau.proofs.Numbering.{form_there, refers_there}
use Rattle.tableau.proofs.rules.Rules.of_form.Goals as goal

-- a true `and` gives both of its forms, and a false one either
of_and : (d : Document) (x f g : ℕ) (sign : Bool) (r : Alternatives) → Offered d (Joined d x (cond sign T F) sign f g) r → Offered d (λ b. GivesForm d x b (cond sign T F) (And f g)) r
of_and d x f g true r o = o
of_and d x f g false r o = o

-- and the other way round
of_or : (d : Document) (x f g : ℕ) (sign : Bool) (r : Alternatives) → Offered d (Joined d x (cond sign T F) (not sign) f g) r → Offered d (λ b. GivesForm d x b (cond sign T F) (Or f g)) r
of_or d x f g true r o = o
of_or d x f g false r o = o

pub returns-in-And : goal.returns-in-And
returns-in-And c = λ d s l.
    let f = c.in-And.f in
    let g = c.in-And.g in
    let x = c.args.self.phase in
    let is = form_there c.args.self.declared.now d s c.args.e (And f g) l c.in-And.ensures.is in
    let r = refers_there d c.args.e (And f g) s.good l is in
    subst (λ (form : Form). Offered d (λ b. GivesForm d x b (cond c.args.sign T F) form) c.joined.result) is
    (of_and d x f g c.args.sign c.joined.result (c.joined.ensures d s (omega arith) (omega arith)))

pub returns-in-Or : goal.returns-in-Or
returns-in-Or c = λ d s l.
    let f = c.in-Or.f in
    let g = c.in-Or.g in
    let x = c.args.self.phase in
    let is = form_there c.args.self.declared.now d s c.args.e (Or f g) l c.in-Or.ensures.is in
    let r = refers_there d c.args.e (Or f g) s.good l is in
    subst (λ (form : Form). Offered d (λ b. GivesForm d x b (cond c.args.sign T F) form) c.joined-in-Or.result) is
    (of_or d x f g c.args.sign c.joined-in-Or.result (c.joined-in-Or.ensures d s (omega arith) (omega arith)))
