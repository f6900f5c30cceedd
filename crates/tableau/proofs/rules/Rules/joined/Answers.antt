use Rattle.std.proofs.Common.{true, false, cond, [], ◌∷◌, sym, refl, subst, inl, inr}
use Rattle.tableau.specs.Calculus.{Joined, Offered}
use Rattle.tableau.specs.Graphs.{Sign, Sign.T, Sign.F, says}
use Rattle.tableau.specs.declared.rules.Few.TheVariants.{Pair}
use Rattle.tableau.specs.declared.rules.Alternatives.TheVariants.{One}
use Rattle.tableau.proofs.Offering.{lists_two, offered_either}
use Rattle.tableau.proofs.rules.Rules.joined.Goals as goal

pub returns-then-all : goal.returns-then-all
returns-then-all c = λ d s lf lg.
    let x = c.args.self.phase in
    let sign : Sign = cond c.args.sign T F in
    let first = c.says-first.result in
    let second = c.says-second.result in
    subst (λ v. Offered d (Joined d x sign v c.args.f c.args.g) (One (Pair first second))) (sym c.if-all.true)
    (λ b. lists_two d (Joined d x sign true c.args.f c.args.g b) (first ∷ second ∷ []) first second (says d x sign c.args.f) (says d x sign c.args.g) refl
    (c.says-first.ensures d s lf) (c.says-second.ensures d s lg) (inl refl) (inr refl) (λ k h. h))

pub returns-else-all : goal.returns-else-all
returns-else-all c = λ d s lf lg.
    let x = c.args.self.phase in
    let sign : Sign = cond c.args.sign T F in
    subst (λ v. Offered d (Joined d x sign v c.args.f c.args.g) c.either.result) (sym c.if-all.false)
    (offered_either d (Joined d x sign false c.args.f c.args.g) c.either.result c.says-first.result c.says-second.result (says d x sign c.args.f) (says d x sign c.args.g) c.either.ensures
    (c.says-first.ensures d s lf) (c.says-second.ensures d s lg) refl (λ k h. h) refl (λ k h. h))
