-- Working units: what each enters, how many fit, and what growing reports.
use Rattle.std.specs.Prelude.{◌≡◌, ℕ, zero, suc, ◌+◌, ◌<◌, ◌≤◌, min, [], length}
use Rattle.std.proofs.Math.Nat.{min-le_right}
use Rattle.document.specs.Documents.{Document}
use Rattle.tableau.specs.Graphs.{FirstNode, Lists, Tables, Opens}
use Rattle.tableau.specs.declared.grow.Growth.{Growth as Answered}
use Rattle.tableau.specs.declared.grow.Report.{Report as Told}
use Rattle.tableau.specs.declared.grow.Report.TheVariants.{Complete, Full, More}

-- the places of the two tables, counted up to their limits
pub record Places : Type 0 where
  pub nodes : ℕ
  pub edges : ℕ
  pub few_nodes : nodes ≤ 4096
  pub few_edges : edges ≤ 65536

-- the places of tables of these lengths
abbrev pub places_of : ℕ → ℕ → Places
places_of n m = record { nodes = min n 4096; edges = min m 65536; few_nodes = min-le_right n 4096; few_edges = min-le_right m 65536 }

abbrev pub empty : Tables
empty = record { nodes = []; edges = [] }

pub data Report : Type 0 where
  complete full more : Report

pub record Growth : Type 0 where
  pub units : ℕ
  pub report : Report

-- the report that an answer of grow tells, with the units worked
abbrev pub report_of : Told → Report
report_of Complete = complete
report_of Full = full
report_of More = more

abbrev pub growth_of : Answered → Growth
growth_of g = record { units = g.units; report = report_of g.report }

-- unit number k, counted from 0: the first enters the first nodes, each other opens a node
abbrev pub UnitOf : Document → ℕ → Tables → Tables → Type 0
UnitOf d zero t u = (t ≡ empty) × Lists u.nodes (FirstNode d) × (u.edges ≡ [])
UnitOf d (suc k) t u = Opens d k t u

-- units k, k + 1, .., one after another
pub data Units (d : Document) : ℕ → ℕ → Tables → Tables → Type 0 where
  none : {k : ℕ} {t : Tables} → Units d k 0 t t
  one_more : {k n : ℕ} {t u v : Tables} → Units d k n t u → UnitOf d (k + n) u v → Units d k (suc n) t v

abbrev pub Fits : Places → Tables → Type 0
Fits p t = (length t.nodes ≤ p.nodes) × (length t.edges ≤ p.edges)

-- no unit is left after k
abbrev pub NoneLeft : ℕ → Tables → Type 0
NoneLeft k t = k ≡ suc (length t.nodes)

-- complete: no unit is left; full: the budget is not spent, and the next unit does not fit; more: the budget is spent
abbrev pub Reports : Places → Document → ℕ → Tables → ℕ → Growth → Type 0
Reports p d k u b g = elim g.report [
  | complete ↦ NoneLeft k u
  | full ↦ (NoneLeft k u → ⊥) × (g.units < b) × ((v : Tables) → UnitOf d k u v → Fits p v → ⊥)
  | more ↦ (NoneLeft k u → ⊥) × (g.units ≡ b)
]

-- growing with a budget, from the tables t after k units to the tables u
pub record Grows (p : Places) (d : Document) (k : ℕ) (t : Tables) (b : ℕ) (g : Growth) (u : Tables) : Type 0 where
  pub worked : Units d k g.units t u
  pub within : g.units ≤ b
  pub fits : Fits p u
  pub reports : Reports p d (k + g.units) u b g
