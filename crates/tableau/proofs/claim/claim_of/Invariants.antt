use Rattle.std.proofs.Common.{ℕ, ◌+◌, ◌<◌, ◌≤◌}
use Rattle.document.specs.Forms.{base_in, form_in, weight_in}
use Rattle.tableau.proofs.claim.claim_of.Given as goal

abbrev pub invariant-loop-e : goal.invariant-loop-e
invariant-loop-e l = (h : ℕ) → h < l.e → base_in l.declared.lines h ≤ l.c → l.c < base_in l.declared.lines h + weight_in l.declared.rows (form_in l.declared.lines h) → ⊥
