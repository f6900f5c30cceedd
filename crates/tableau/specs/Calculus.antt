-- Claims as numbers: what gives what, what clashes with what, and what the alternatives of a claim offer.
use Rattle.std.specs.Prelude.{◌≡◌, ℕ, Bool, true, false, cond, ◌||◌, ◌⊎◌, ◌↔◌, List, [], ◌∷◌, ◌==◌}
use Rattle.std.proofs.Common.{inl, inr}
use Rattle.document.specs.Documents.{Document, form_at}
use Rattle.document.specs.declared.form.Form.TheVariants.{True, Prop}
use Rattle.tableau.specs.Claims.{has}
use Rattle.tableau.specs.Graphs.{Sign, Sign.T, Sign.F, Claim, form, until_true, until_false, step_true, step_false, says, Gives}
use Rattle.tableau.specs.Numbers.{number_of, ClaimOf}
use Rattle.tableau.specs.Offers.{listed}
use Rattle.tableau.specs.declared.rules.Alternatives.{Alternatives}
use Rattle.tableau.specs.declared.rules.Alternatives.TheVariants.{Nothing, One, Two}

-- what a claim gives by its first alternative (true) and by its second (false), and which claims clash
pub record Calculus : Type 1 where
  pub gives : ℕ → Bool → ℕ → Type 0
  pub clash : ℕ → ℕ → Type 0
  pub back : (a b : ℕ) → clash a b → clash b a

-- what T of form e clashes with: F of it, or of a form of the same proposition
abbrev pub AgainstTrue : Document → ℕ → Claim → Type 0
AgainstTrue d e (form T h) = ⊥
AgainstTrue d e (form F h) = (e ≡ h) ⊎ ((p : ℕ) × (form_at d e ≡ Prop p) × (form_at d h ≡ Prop p))
AgainstTrue d e (until_true h q l) = ⊥
AgainstTrue d e (until_false h q) = ⊥
AgainstTrue d e (step_true h q l) = ⊥
AgainstTrue d e (step_false h q) = ⊥

-- F of a `true` form clashes with itself
abbrev pub AgainstFalse : Document → ℕ → Claim → Type 0
AgainstFalse d e (form T h) = ⊥
AgainstFalse d e (form F h) = (e ≡ h) × (form_at d e ≡ True)
AgainstFalse d e (until_true h q l) = ⊥
AgainstFalse d e (until_false h q) = ⊥
AgainstFalse d e (step_true h q l) = ⊥
AgainstFalse d e (step_false h q) = ⊥

-- a claim T until clashes with F of the same until
abbrev pub AgainstUntil : ℕ → ℕ → Claim → Type 0
AgainstUntil e q (form s h) = ⊥
AgainstUntil e q (until_true h r l) = ⊥
AgainstUntil e q (until_false h r) = (e ≡ h) × (q ≡ r)
AgainstUntil e q (step_true h r l) = ⊥
AgainstUntil e q (step_false h r) = ⊥

-- and T step with F of the same step
abbrev pub AgainstStep : ℕ → ℕ → Claim → Type 0
AgainstStep e q (form s h) = ⊥
AgainstStep e q (until_true h r l) = ⊥
AgainstStep e q (until_false h r) = ⊥
AgainstStep e q (step_true h r l) = ⊥
AgainstStep e q (step_false h r) = (e ≡ h) × (q ≡ r)

-- the clashes of two claims, whatever the action
abbrev pub Against : Document → Claim → Claim → Type 0
Against d (form T e) j = AgainstTrue d e j
Against d (form F e) j = AgainstFalse d e j
Against d (until_true e q l) j = AgainstUntil e q j
Against d (until_false e q) j = ⊥
Against d (step_true e q l) j = AgainstStep e q j
Against d (step_false e q) j = ⊥

-- the numbers are those of two claims that clash
abbrev pub Clash : Document → ℕ → ℕ → Type 0
Clash d c a = (k : Claim) × (j : Claim) × ClaimOf d k × ClaimOf d j × (number_of d k ≡ c) × (number_of d j ≡ a) × (Against d k j ⊎ Against d j k)

-- the rules of a document for a node of a phase
abbrev pub calculus : Document → ℕ → Calculus
calculus d x = record {
  gives = λ c b y. (k : Claim) × (j : Claim) × ClaimOf d k × (number_of d k ≡ c) × (number_of d j ≡ y) × Gives d x b k j;
  clash = Clash d;
  back = λ a b h. (h.1, h.0, h.3, h.2, h.5, h.4, elim h.6 [ inl p ↦ inr p | inr p ↦ inl p ]);
}

-- the list has just what the claim gives by an alternative
abbrev pub ListsGiven : Calculus → ℕ → Bool → List ℕ → Type 0
ListsGiven m c b xs = (y : ℕ) → (has xs y ≡ true) ↔ m.gives c b y

abbrev pub Offers : Calculus → ℕ → Alternatives → Type 0
Offers m c Nothing = (b : Bool) → ListsGiven m c b []
Offers m c (One f) = (b : Bool) → ListsGiven m c b (listed f)
Offers m c (Two f h) = ListsGiven m c true (listed f) × ListsGiven m c false (listed h)

-- the list has the numbers of just the claims that are given
abbrev pub ListsClaims : Document → (Claim → Type 0) → List ℕ → Type 0
ListsClaims d G xs = (y : ℕ) → (has xs y ≡ true) ↔ ((j : Claim) × (number_of d j ≡ y) × G j)

-- the alternatives are those of one claim, of which G tells what each gives
abbrev pub Offered : Document → (Bool → Claim → Type 0) → Alternatives → Type 0
Offered d G Nothing = (b : Bool) (j : Claim) → G b j → ⊥
Offered d G (One f) = (b : Bool) → ListsClaims d (G b) (listed f)
Offered d G (Two f h) = ListsClaims d (G true) (listed f) × ListsClaims d (G false) (listed h)

-- one number or another, of which one is enough where they are the same
abbrev pub Either : ℕ → ℕ → Alternatives → Type 0
Either a b Nothing = ⊥
Either a b (One f) = (a ≡ b) × (listed f ≡ a ∷ [])
Either a b (Two f h) = (listed f ≡ a ∷ []) × (listed h ≡ b ∷ [])

-- what joins two forms gives: both of them, or the one that is chosen
abbrev pub Joined : Document → ℕ → Sign → Bool → ℕ → ℕ → Bool → Claim → Type 0
Joined d x s true f g b k = (k ≡ says d x s f) ⊎ (k ≡ says d x s g)
Joined d x s false f g b k = k ≡ says d x s (cond b f g)

-- the claim clashes with one of the set, or with itself
abbrev pub ClashesWith : Document → (ℕ → Bool) → Claim → Type 0
ClashesWith d N k = (j : Claim) × ClaimOf d j × ((N (number_of d j) ≡ true) ⊎ (j ≡ k)) × (Against d j k ⊎ Against d k j)

-- no two claims of the set clash, and none clashes with itself
abbrev pub Fine : Calculus → (ℕ → Bool) → Type 0
Fine m N = (a b : ℕ) → N a ≡ true → N b ≡ true → m.clash a b → ⊥

-- a claim clashes with one of the set, or with itself
abbrev pub Clashing : Calculus → (ℕ → Bool) → ℕ → Type 0
Clashing m N c = (a : ℕ) × ((N a || a == c) ≡ true) × m.clash a c
