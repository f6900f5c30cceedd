use Rattle.std.proofs.Common.{sym, subst}
use Rattle.tableau.specs.Calculus.{Offered}
use Rattle.tableau.specs.Graphs.{Gives}
use Rattle.tableau.specs.Meant.{meant}
use Rattle.tableau.specs.Numbers.{ClaimOf}
use Rattle.tableau.specs.declared.claim.Claim.{Claim}
use Rattle.tableau.proofs.rules.Rules.of_claim.Goals as goal

pub returns-in-True : goal.returns-in-True
returns-in-True c = λ d s.
    subst (λ (k : Claim). ClaimOf d (meant k) → Offered d (λ b. Gives d c.args.self.phase b (meant k)) c.of_form.result) (sym c.in-True.is) (λ k. c.of_form.ensures d s k.0)

pub returns-in-False : goal.returns-in-False
returns-in-False c = λ d s.
    subst (λ (k : Claim). ClaimOf d (meant k) → Offered d (λ b. Gives d c.args.self.phase b (meant k)) c.of_form-in-False.result) (sym c.in-False.is) (λ k. c.of_form-in-False.ensures d s k.0)

pub returns-in-TrueUntil : goal.returns-in-TrueUntil
returns-in-TrueUntil c = λ d s.
    subst (λ (k : Claim). ClaimOf d (meant k) → Offered d (λ b. Gives d c.args.self.phase b (meant k)) c.of_true_until.result) (sym c.in-TrueUntil.is) (λ k. c.of_true_until.ensures d s k.0 k.1)

pub returns-in-FalseUntil : goal.returns-in-FalseUntil
returns-in-FalseUntil c = λ d s.
    subst (λ (k : Claim). ClaimOf d (meant k) → Offered d (λ b. Gives d c.args.self.phase b (meant k)) c.of_false_until.result) (sym c.in-FalseUntil.is) (λ k. c.of_false_until.ensures d s k)
