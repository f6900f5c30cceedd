-- Adding what a node hands on, part by part.
use Rattle.std.specs.Prelude.{◌≡◌, ℕ, true, ◌⊎◌, ◌↔◌, List, Option, MatchOption}
use Rattle.program.specs.Automata.{Leads}
use Rattle.document.specs.Documents.{Document, form_at}
use Rattle.document.specs.declared.form.Form.TheVariants.{Next}
use Rattle.tableau.specs.Calculus.{Calculus, Fine}
use Rattle.tableau.specs.Claims.{member, has}
use Rattle.tableau.specs.Expansions.{Stuck}
use Rattle.tableau.specs.Graphs.{Sign, form, until_false, step_false, says, program_of}
use Rattle.tableau.specs.Numbers.{number_of}
use Rattle.tableau.specs.Successions.{Claims}
use Rattle.tableau.specs.Walk.{grown}
use Rattle.tableau.specs.declared.claims.ClaimSet.{ClaimSet}
use Rattle.tableau.specs.declared.node.Node.{Node}

-- one of a family of parts has the claim
abbrev pub Any : (ℕ → ℕ → Type 0) → ℕ → Type 0
Any part y = (i : ℕ) × part i y

-- F until of state r, to which the node's action leads from state q
abbrev pub To : Document → Node → ℕ → ℕ → ℕ → ℕ → Type 0
To d n e q r y = Leads (program_of d (form_at d e)) q n.action r × (y ≡ number_of d (until_false e r))

-- what the node's claim F step of state q hands on
abbrev pub From : Document → Node → ℕ → ℕ → ℕ → Type 0
From d n e q y = Claims d (member n.claims.words) (step_false e q) × Any (To d n e q) y

-- the operand f of form e, with the sign that the node claims the form with
abbrev pub Operand : Document → Node → ℕ → ℕ → ℕ → Sign → ℕ → Type 0
Operand d n x e f s y = Claims d (member n.claims.words) (form s e) × (y ≡ number_of d (says d x s f))

-- what the node hands on by its claims of form e
abbrev pub By : Document → Node → ℕ → ℕ → ℕ → Type 0
By d n x e y = ((f : ℕ) × (form_at d e ≡ Next n.action f) × (s : Sign) × Operand d n x e f s y) ⊎ Any (From d n e) y

-- the claims with S, and no others, were added to t
pub record Added (m : Calculus) (S : ℕ → Type 0) (t u : List ℕ) : Type 0 where
  pub claims : List ℕ
  pub listed : (y : ℕ) → (has claims y ≡ true) ↔ S y
  pub grew : u ≡ grown t claims
  pub fine : Fine m (has u)

-- some of the claims with S clash when they are added to t
pub record Clashed (m : Calculus) (S : ℕ → Type 0) (t : List ℕ) : Type 0 where
  pub claims : List ℕ
  pub listed : (y : ℕ) → has claims y ≡ true → S y
  pub stuck : Stuck m (grown t claims)

-- what adding all claims with S answers
abbrev pub Hands : Calculus → (ℕ → Type 0) → List ℕ → List ℕ → Option ClaimSet → Type 0
Hands m S t u r = MatchOption r (Clashed m S t) (λ _. Added m S t u)
