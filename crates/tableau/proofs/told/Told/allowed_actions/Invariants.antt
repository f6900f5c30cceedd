use Rattle.std.proofs.Common.{◌≡◌, ℕ, ◌<◌, ◌↔◌}
use Rattle.program.specs.Masks.{Bit}
use Rattle.document.specs.Documents.{Document, form_at}
use Rattle.document.specs.declared.form.Form.TheVariants.{Next}
use Rattle.tableau.specs.Claims.{member}
use Rattle.tableau.specs.Graphs.{Sign.T, form}
use Rattle.tableau.specs.Numbers.{Shows}
use Rattle.tableau.specs.Successions.{Claims}
use Rattle.tableau.proofs.told.Told.allowed_actions.Given as goal

abbrev pub invariant-loop-e : goal.invariant-loop-e
invariant-loop-e l = (d : Document) → Shows l.fn.self.declared.now d → (a : ℕ) → a < 16 → Bit l.allowed a ↔ ((e : ℕ) → e < l.e → (b f : ℕ) → Claims d (member l.fn.self.set.words) (form T e) → form_at d e ≡ Next b f → b ≡ a)
