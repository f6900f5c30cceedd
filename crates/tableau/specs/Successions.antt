-- What a set of claims tells of the node that is made of it, and what a node hands on.
use Rattle.std.specs.Prelude.{◌≡◌, ℕ, ◌+◌, ◌<◌, ◌≤◌, Bool, true, false, ◌⊎◌, ◌↔◌, List, [], ◌∷◌}
use Rattle.program.specs.Automata.{Leads}
use Rattle.program.specs.Masks.{Bit}
use Rattle.document.specs.Documents.{Document, form_at}
use Rattle.document.specs.declared.form.Form.TheVariants.{Prop, Next}
use Rattle.tableau.specs.Claims.{member, Same}
use Rattle.tableau.specs.Graphs.{Sign, Sign.T, Sign.F, Claim, form, until_true, until_false, step_true, step_false, says, program_of}
use Rattle.tableau.specs.Numbers.{number_of, ClaimOf}
use Rattle.tableau.specs.declared.node.Node.{Node}
use Rattle.tableau.specs.declared.unit.Origin.{Origin}
use Rattle.tableau.specs.declared.unit.Origin.TheVariants.{First, Opened}

-- the set has the claim
abbrev pub Claims : Document → (ℕ → Bool) → Claim → Type 0
Claims d N k = ClaimOf d k × (N (number_of d k) ≡ true)

-- the action clashes with no claim T next
abbrev pub Allowed : Document → (ℕ → Bool) → ℕ → Type 0
Allowed d N a = (e b f : ℕ) → Claims d N (form T e) → form_at d e ≡ Next b f → b ≡ a

-- the set has a T until with this label
abbrev pub Promises : Document → (ℕ → Bool) → ℕ → Type 0
Promises d N l = (e : ℕ) × (q : ℕ) × Claims d N (until_true e q l)

-- the mask has just the propositions that the set claims with this sign
abbrev pub Tells : Document → (ℕ → Bool) → Sign → ℕ → Type 0
Tells d N s mask = (p : ℕ) → Bit mask p ↔ ((e : ℕ) × Claims d N (form s e) × (form_at d e ≡ Prop p))

-- whether a node of this set and phase is closing
abbrev pub Closes : Document → ℕ → Origin → (ℕ → Bool) → Bool → Type 0
Closes d x First N b = b ≡ true
Closes d x (Opened node closing first) N true = (closing ≡ false) × (Promises d N x → ⊥)
Closes d x (Opened node closing first) N false = (closing ≡ true) ⊎ Promises d N x

-- the node is made of the set
pub record Made (d : Document) (x : ℕ) (o : Origin) (N : ℕ → Bool) (n : Node) : Type 0 where
  pub declared : n.action < d.acts
  pub allowed : Allowed d N n.action
  pub phase : n.phase ≡ x
  pub closing : Closes d x o N n.closing
  pub claims : Same (member n.claims.words) N

-- the node's marks are those that its claims tell
pub record Marked (d : Document) (n : Node) : Type 0 where
  pub shows : Tells d (member n.claims.words) T n.shows
  pub hides : Tells d (member n.claims.words) F n.hides

-- the numbers of the claims that a node hands on whatever is chosen, to a successor of phase x
pub data Handed (d : Document) (n : Node) (x : ℕ) : ℕ → Type 0 where
  nexts : (s : Sign) {e f : ℕ} → Claims d (member n.claims.words) (form s e) → form_at d e ≡ Next n.action f → Handed d n x (number_of d (says d x s f))
  fails : {e q : ℕ} (r : ℕ) → Claims d (member n.claims.words) (step_false e q) → Leads (program_of d (form_at d e)) q n.action r → Handed d n x (number_of d (until_false e r))

-- no claim T step of the node has a number from a up to b
abbrev pub NoStep : Document → Node → ℕ → ℕ → Type 0
NoStep d n a b = (e q l : ℕ) → Claims d (member n.claims.words) (step_true e q l) → a ≤ number_of d (step_true e q l) → number_of d (step_true e q l) < b → ⊥

-- a target for each claim T step of the node of a number from `from` on, in order: the numbers of the claims T until
pub data Chosen (d : Document) (n : Node) : ℕ → List ℕ → Type 0 where
  none : {from : ℕ} → NoStep d n from 256 → Chosen d n from []
  one : {from e q l : ℕ} {rest : List ℕ} (r : ℕ) → Claims d (member n.claims.words) (step_true e q l) → from ≤ number_of d (step_true e q l)
      → NoStep d n from (number_of d (step_true e q l)) → Leads (program_of d (form_at d e)) q n.action r
      → Chosen d n (number_of d (step_true e q l) + 1) rest → Chosen d n from (number_of d (until_true e r l) ∷ rest)
