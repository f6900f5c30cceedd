use Rattle.std.proofs.Common.{[], ◌∷◌, refl, subst, inl, inr, arith}
use Rattle.std.proofs.lemmas.Bool.{both_ways}
use Rattle.document.specs.Documents.{program_at}
use Rattle.document.specs.declared.form.Form.{Form}
use Rattle.document.specs.declared.form.Form.TheVariants.{Until}
use Rattle.program.specs.Automata.{Final}
use Rattle.tableau.specs.Calculus.{Offered}
use Rattle.tableau.specs.Graphs.{Sign.T, says, step_true, GivesUntil}
use Rattle.tableau.specs.declared.rules.Few.TheVariants.{Pair}
use Rattle.tableau.specs.declared.rules.Alternatives.TheVariants.{One}
use Rattle.tableau.proofs.Numbering.{form_there, refers_there}
use Rattle.tableau.proofs.Offering.{lists_two}
use Rattle.tableau.proofs.Targets.{few_states}
use Rattle.tableau.proofs.rules.Rules.of_true_until.Goals as goal

-- in a state that is not final there is no choice
pub returns-else-is_final : goal.returns-else-is_final
returns-else-is_final c = λ d s state small.
    let f = c.in-Until.f in
    let p = c.in-Until.p in
    let g = c.in-Until.g in
    let e = c.args.e in
    let q = c.args.q in
    let x = c.args.self.phase in
    let is = form_there c.args.self.declared.now d s e (Until f p g) state.there c.in-Until.ensures.is in
    let r = refers_there d e (Until f p g) s.good state.there is in
    let there = state.there in
    let few = few_states d e s.good state.there state.fated in
    let known = state.known in
    let off : Final (program_at d p) q → ⊥ = λ h. both_ways c.is_final.result c.if-is_final.false ((c.is_final.ensures d s r.1 (omega arith)).1 h) in
    subst (λ (form : Form). Offered d (λ b. GivesUntil d x b e q c.args.label form) (One (Pair c.true_form.result c.number-step.result))) is
    (λ b. lists_two d (GivesUntil d x b e q c.args.label (Until f p g)) (c.true_form.result ∷ c.number-step.result ∷ []) _ _ (says d x T f) (step_true e q c.args.label) refl
    (c.true_form.ensures d s (omega arith)) (c.number-step.ensures d s (state, small))
    (inr (λ h. absurd (off h), inl refl)) (inr (λ h. absurd (off h), inr refl)) (λ k w. elim w [ inl h ↦ absurd (off h.0) | inr h ↦ h.1 ]))
