use Rattle.std.proofs.Common.{◌≡◌, ℕ, ◌<◌, cond, ◌↔◌}
use Rattle.program.specs.Masks.{Bit}
use Rattle.document.specs.Documents.{Document, form_at}
use Rattle.document.specs.declared.form.Form.TheVariants.{Prop}
use Rattle.tableau.specs.Claims.{member}
use Rattle.tableau.specs.Graphs.{Sign.T, Sign.F, form}
use Rattle.tableau.specs.Numbers.{Shows}
use Rattle.tableau.specs.Successions.{Claims}
use Rattle.tableau.proofs.told.Told.claimed_props.Given as goal

abbrev pub invariant-loop-e : goal.invariant-loop-e
invariant-loop-e l = (d : Document) → Shows l.fn.self.declared.now d → (p : ℕ) → Bit l.props p ↔ ((e : ℕ) × (e < l.e) × Claims d (member l.fn.self.set.words) (form (cond l.sign T F) e) × (form_at d e ≡ Prop p))
