-- The graph of a goal: claims, expansions, nodes, and the tables after a number of units.
use Rattle.std.specs.Prelude.{◌≡◌, ℕ, suc, ◌-◌, ◌<◌, Bool, true, false, cond, ◌⊎◌, List, [], ◌++◌, length, get_or, ◌≢◌, slice_index_or}
use Rattle.std.specs.List.{ContainsAt as Has}
use Rattle.program.specs.Words.{Program, act}
use Rattle.program.specs.Automata.{Leads, Final}
use Rattle.document.specs.Documents.{Document, form_at, program_at}
use Rattle.document.specs.declared.form.Form.{Form}
use Rattle.document.specs.declared.form.Form.TheVariants.{True, Prop, Not, And, Or, Next, Until}

pub data Sign : Type 0 where
  T F : Sign

abbrev pub opposite : Sign → Sign
opposite T = F
opposite F = T

-- what a node may claim; an until and a step speak of a form and a state of its automaton, and
-- under T they bear a label
pub data Claim : Type 0 where
  form : Sign → ℕ → Claim
  until_true step_true : ℕ → ℕ → ℕ → Claim
  until_false step_false : ℕ → ℕ → Claim

-- the claim that a form is true or false, in a node of a phase
abbrev pub claim_as : Sign → ℕ → ℕ → Form → Claim
claim_as s x e True = form s e
claim_as s x e (Prop p) = form s e
claim_as s x e (Not f) = form s e
claim_as s x e (And f g) = form s e
claim_as s x e (Or f g) = form s e
claim_as s x e (Next a f) = form s e
claim_as T x e (Until f p g) = until_true e 0 (1 - x)
claim_as F x e (Until f p g) = until_false e 0

abbrev pub says : Document → ℕ → Sign → ℕ → Claim
says d x s e = claim_as s x e (form_at d e)

-- Gives d x first c k: claim c, in a node of phase x, gives claim k; where there are two
-- alternatives, 'first' tells which is chosen
abbrev pub GivesForm : Document → ℕ → Bool → Sign → Form → Claim → Type 0
GivesForm d x b s True k = ⊥
GivesForm d x b s (Prop p) k = ⊥
GivesForm d x b s (Not f) k = k ≡ says d x (opposite s) f
GivesForm d x b T (And f g) k = (k ≡ says d x T f) ⊎ (k ≡ says d x T g)
GivesForm d x b F (And f g) k = k ≡ says d x F (cond b f g)
GivesForm d x b T (Or f g) k = k ≡ says d x T (cond b f g)
GivesForm d x b F (Or f g) k = (k ≡ says d x F f) ⊎ (k ≡ says d x F g)
GivesForm d x b s (Next a f) k = ⊥
GivesForm d x b s (Until f p g) k = ⊥

abbrev pub GivesUntil : Document → ℕ → Bool → ℕ → ℕ → ℕ → Form → Claim → Type 0
GivesUntil d x b e q l True k = ⊥
GivesUntil d x b e q l (Prop p) k = ⊥
GivesUntil d x b e q l (Not f) k = ⊥
GivesUntil d x b e q l (And f g) k = ⊥
GivesUntil d x b e q l (Or f g) k = ⊥
GivesUntil d x b e q l (Next a f) k = ⊥
GivesUntil d x b e q l (Until f p g) k =
    (Final (program_at d p) q × (b ≡ true) × (k ≡ says d x T g))
    ⊎ ((Final (program_at d p) q → b ≡ false) × ((k ≡ says d x T f) ⊎ (k ≡ step_true e q l)))

abbrev pub GivesNotUntil : Document → ℕ → Bool → ℕ → ℕ → Form → Claim → Type 0
GivesNotUntil d x b e q True k = ⊥
GivesNotUntil d x b e q (Prop p) k = ⊥
GivesNotUntil d x b e q (Not f) k = ⊥
GivesNotUntil d x b e q (And f g) k = ⊥
GivesNotUntil d x b e q (Or f g) k = ⊥
GivesNotUntil d x b e q (Next a f) k = ⊥
GivesNotUntil d x b e q (Until f p g) k =
    (k ≡ cond b (says d x F f) (step_false e q)) ⊎ (Final (program_at d p) q × (k ≡ says d x F g))

abbrev pub Gives : Document → ℕ → Bool → Claim → Claim → Type 0
Gives d x b (form s e) k = GivesForm d x b s (form_at d e) k
Gives d x b (until_true e q l) k = GivesUntil d x b e q l (form_at d e) k
Gives d x b (until_false e q) k = GivesNotUntil d x b e q (form_at d e) k
Gives d x b (step_true e q l) k = ⊥
Gives d x b (step_false e q) k = ⊥

-- the least set that holds S and, by the alternative chosen for each claim, what its claims give
pub data Closure (d : Document) (x : ℕ) (choice : Claim → Bool) (S : Claim → Type 0) : Claim → Type 0 where
  given : {c : Claim} → S c → Closure d x choice S c
  made : {c k : Claim} → Closure d x choice S c → Gives d x (choice c) c k → Closure d x choice S k

pub record NoClash (d : Document) (a : ℕ) (N : Claim → Bool) : Type 0 where
  pub false_true : (e : ℕ) → N (form F e) ≡ true → form_at d e ≢ True
  pub same_mark : (e h p : ℕ) → N (form T e) ≡ true → N (form F h) ≡ true → form_at d e ≡ Prop p → form_at d h ≢ Prop p
  pub same_form : (e : ℕ) → N (form T e) ≡ true → N (form F e) ≢ true
  pub same_until : (e q l : ℕ) → N (until_true e q l) ≡ true → N (until_false e q) ≢ true
  pub same_step : (e q l : ℕ) → N (step_true e q l) ≡ true → N (step_false e q) ≢ true
  pub other_action : (e b f : ℕ) → N (form T e) ≡ true → form_at d e ≡ Next b f → b ≡ a

pub record Expansion (d : Document) (a x : ℕ) (S : Claim → Type 0) (N : Claim → Bool) : Type 0 where
  pub choice : Claim → Bool
  pub holds : (c : Claim) → Closure d x choice S c → N c ≡ true
  pub least : (c : Claim) → N c ≡ true → Closure d x choice S c
  pub no_clash : NoClash d a N

pub record Node : Type 0 where
  pub action : ℕ
  pub claims : Claim → Bool
  pub phase : ℕ
  pub closing : Bool

pub record FirstNode (d : Document) (n : Node) : Type 0 where
  pub declared : n.action < d.acts
  pub even : n.phase ≡ 0
  pub closes : n.closing ≡ true
  pub expands : Expansion d n.action 0 (λ c. c ≡ says d 0 T d.goal) n.claims

abbrev pub turned : Node → ℕ
turned n = cond n.closing (1 - n.phase) n.phase

abbrev pub program_of : Document → Form → Program
program_of d True = act 0
program_of d (Prop p) = act 0
program_of d (Not f) = act 0
program_of d (And f g) = act 0
program_of d (Or f g) = act 0
program_of d (Next a f) = act 0
program_of d (Until f p g) = program_at d p

-- what a node hands on to a successor, given the state that each true step goes on to
pub data Carried (d : Document) (n : Node) (target : ℕ → ℕ → ℕ → ℕ) : Claim → Type 0 where
  nexts : {s : Sign} {e f : ℕ} → n.claims (form s e) ≡ true → form_at d e ≡ Next n.action f → Carried d n target (says d (turned n) s f)
  goes : {e q l : ℕ} → n.claims (step_true e q l) ≡ true → Carried d n target (until_true e (target e q l) l)
  fails : {e q r : ℕ} → n.claims (step_false e q) ≡ true → Leads (program_of d (form_at d e)) q n.action r → Carried d n target (until_false e r)

pub record Successor (d : Document) (n m : Node) : Type 0 where
  pub target : ℕ → ℕ → ℕ → ℕ
  pub reaches : (e q l : ℕ) → n.claims (step_true e q l) ≡ true → Leads (program_of d (form_at d e)) q n.action (target e q l)
  pub declared : m.action < d.acts
  pub turns : m.phase ≡ turned n
  pub expands : Expansion d m.action (turned n) (Carried d n target) m.claims
  pub closed : m.closing ≡ true → (n.closing ≡ false) × ((e q : ℕ) → m.claims (until_true e q m.phase) ≢ true)
  pub open_still : m.closing ≡ false → (n.closing ≡ true) ⊎ ((e : ℕ) × (q : ℕ) × (m.claims (until_true e q m.phase) ≡ true))

pub data InGraph (d : Document) : Node → Type 0 where
  first : {n : Node} → FirstNode d n → InGraph d n
  onward : {n m : Node} → InGraph d n → Successor d n m → InGraph d m

-- a list that holds each thing with a property once, and nothing else
pub record Lists {A : Type 0} (xs : List A) (P : A → Type 0) : Type 0 where
  pub only : (x : A) → Has xs x → P x
  pub all : (x : A) → P x → Has xs x
  pub once : (i j : ℕ) (z : A) → i < j → j < length xs → slice_index_or xs i z ≢ slice_index_or xs j z

pub record Tables : Type 0 where
  pub nodes : List Node
  pub edges : List (ℕ × ℕ)

-- the unit that opens node k
pub record Opens (d : Document) (k : ℕ) (t u : Tables) : Type 0 where
  pub opened : Node
  pub new : List Node
  pub out : List (ℕ × ℕ)
  pub due : k < length t.nodes
  pub at : get_or t.nodes k opened ≡ opened
  pub nodes_after : u.nodes ≡ t.nodes ++ new
  pub edges_after : u.edges ≡ t.edges ++ out
  pub entered : Lists new (λ m. Successor d opened m × (Has t.nodes m → ⊥))
  pub all_in : (m : Node) → Successor d opened m → Has u.nodes m
  pub leads : Lists out (λ e. (e.0 ≡ k) × (e.1 < length u.nodes) × Successor d opened (slice_index_or u.nodes e.1 opened))

-- the tables after a number of units
pub data Worked (d : Document) : ℕ → Tables → Type 0 where
  none : Worked d 0 (record { nodes = []; edges = [] })
  starts : {ns : List Node} → Lists ns (FirstNode d) → Worked d 1 (record { nodes = ns; edges = [] })
  opens : {k : ℕ} {t u : Tables} → Worked d (suc k) t → Opens d k t u → Worked d (suc (suc k)) u
