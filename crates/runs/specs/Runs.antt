-- Runs of a goal's graph, and what they have to do with sessions.
use Rattle.std.specs.Prelude.{◌≡◌, ℕ, suc, ◌<◌, ◌≤◌, true, false}
use Rattle.document.specs.Documents.{Document, WellFormed, form_at, goal_formula}
use Rattle.document.specs.declared.form.Form.TheVariants.{Prop}
use Rattle.lasso.specs.Readings.{Reading, Truth, Lasso, read, blank_moment}
use Rattle.tableau.specs.Graphs.{Node, Sign, Sign.T, Sign.F, form, FirstNode, Successor}

-- a path of the graph read for ever, from a first node, with closing nodes again and again
pub record AcceptingRun (d : Document) (ρ : ℕ → Node) : Type 0 where
  pub starts : FirstNode d (ρ 0)
  pub goes : (i : ℕ) → Successor d (ρ i) (ρ (suc i))
  pub closes : (i : ℕ) → (j : ℕ) × (i ≤ j) × ((ρ j).closing ≡ true)

-- a session that does the actions of the nodes and shows what they claim of the propositions
pub record Agrees (d : Document) (s : Reading) (ρ : ℕ → Node) : Type 0 where
  pub same_action : (i : ℕ) → (s i).action ≡ (ρ i).action
  pub shows : (i e p : ℕ) → (ρ i).claims (form T e) ≡ true → form_at d e ≡ Prop p → (s i).marks p ≡ true
  pub hides : (i e p : ℕ) → (ρ i).claims (form F e) ≡ true → form_at d e ≡ Prop p → (s i).marks p ≡ false

-- soundness: what agrees with an accepting run meets the goal
abbrev pub Sound : Type 0
Sound = (d : Document) → WellFormed d → (ρ : ℕ → Node) → AcceptingRun d ρ → (s : Reading) → Agrees d s ρ → Truth s 0 (goal_formula d)

-- completeness: a lasso that meets the goal has an accepting run that it agrees with
abbrev pub Complete : Type 0
Complete = (d : Document) → WellFormed d → (l : Lasso)
    → ((i : ℕ) → (read blank_moment l i).action < d.acts)
    → Truth (read blank_moment l) 0 (goal_formula d)
    → (ρ : ℕ → Node) × AcceptingRun d ρ × Agrees d (read blank_moment l) ρ
