-- How far a graph has grown, as numbers.
use Rattle.std.specs.Prelude.{◌≡◌, ℕ, ◌+◌, ◌≤◌, List, codes}
use Rattle.tableau.specs.Tables.{Room}
use Rattle.tableau.specs.declared.grow.Grown.{Grown}
use Rattle.tableau.specs.declared.grow.Report.{Report}
use Rattle.tableau.specs.declared.grow.Report.TheVariants.{Complete, Full, More}

-- the places in use lie in the tables, the first nodes among them; before the first unit none is in use; at most one unit more than nodes
pub record Sound (nodes edges : ℕ) (g : Grown) : Type 0 where
  pub room : Room nodes edges g.used
  pub firsts : g.first ≤ g.used.nodes
  pub worked : g.units ≤ g.used.nodes + 1
  pub unused : g.units ≡ 0 → (g.used.nodes ≡ 0) × (g.used.edges ≡ 0)

-- one unit later
pub record Later (nodes edges : ℕ) (before after : Grown) : Type 0 where
  pub sound : Sound nodes edges after
  pub unit : after.units ≡ before.units + 1
  pub more_nodes : before.used.nodes ≤ after.used.nodes
  pub more_edges : before.used.edges ≤ after.used.edges

-- the word that a report prints, in bytes
abbrev pub word : Report → List ℕ
word Complete = codes "complete"
word Full = codes "full"
word More = codes "more"
