use Rattle.std.proofs.Common.{◌≡◌, ℕ, ◌<◌, cond}
use Rattle.document.specs.Documents.{Document, form_at}
use Rattle.document.specs.declared.form.Form.TheVariants.{Prop}
use Rattle.tableau.specs.Claims.{member}
use Rattle.tableau.specs.Graphs.{Sign.T, Sign.F, form}
use Rattle.tableau.specs.Numbers.{Shows}
use Rattle.tableau.specs.Successions.{Claims}
use Rattle.tableau.proofs.told.Told.claims_prop.Given as goal

abbrev pub invariant-loop-e : goal.invariant-loop-e
invariant-loop-e l = (d : Document) → Shows l.fn.self.declared.now d → (h : ℕ) → h < l.e → Claims d (member l.fn.self.set.words) (form (cond l.sign T F) h) → form_at d h ≡ Prop l.p → ⊥
