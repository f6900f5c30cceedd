-- What the claims of a document give and hand on are claims of the document.
use Rattle.std.proofs.Common.{◌≡◌, ℕ, ◌<◌, ◌≤◌, Bool, true, false, cond, length, sym, refl, ap, subst, inl, inr, arith}
use Rattle.program.specs.Automata.{Leads}
use Rattle.program.proofs.States.{leads_to}
use Rattle.document.specs.Documents.{Document, WellFormed, Refers, form_at}
use Rattle.document.specs.declared.form.Form.{Form}
use Rattle.document.specs.declared.form.Form.TheVariants.{True, Prop, Not, And, Or, Next, Until}
use Rattle.tableau.specs.Graphs.{Sign, Sign.T, Sign.F, opposite, Claim, form, until_true, until_false, step_true, step_false, claim_as, says, program_of, GivesForm, GivesUntil, GivesNotUntil, Gives, Closure, Closure.given, Closure.made}
use Rattle.tableau.specs.Numbers.{is_until, StateOf, ClaimOf}

-- the claim that a form is true or false
says_form : (d : Document) (x e : ℕ) (s : Sign) (f : Form) → e < length d.forms → form_at d e ≡ f → ClaimOf d (claim_as s x e f)
says_form d x e s True l h = (l, ap is_until h)
says_form d x e s (Prop p) l h = (l, ap is_until h)
says_form d x e s (Not f) l h = (l, ap is_until h)
says_form d x e s (And f g) l h = (l, ap is_until h)
says_form d x e s (Or f g) l h = (l, ap is_until h)
says_form d x e s (Next a f) l h = (l, ap is_until h)
says_form d x e T (Until f p g) l h = (record { there = l; fated = ap is_until h; known = omega arith }, omega arith)
says_form d x e F (Until f p g) l h = record { there = l; fated = ap is_until h; known = omega arith }

pub says_own : (d : Document) (x : ℕ) (s : Sign) (e : ℕ) → e < length d.forms → ClaimOf d (says d x s e)
says_own d x s e l = says_form d x e s (form_at d e) l refl

said_own : (d : Document) (x : ℕ) (s : Sign) (e : ℕ) (k : Claim) → k ≡ says d x s e → e < length d.forms → ClaimOf d k
said_own d x s e k is l = subst (ClaimOf d) (sym is) (says_own d x s e l)

chosen_own : (d : Document) (x : ℕ) (s : Sign) (b : Bool) (f g n : ℕ) (k : Claim) → n ≤ length d.forms → f < n → g < n → k ≡ says d x s (cond b f g) → ClaimOf d k
chosen_own d x s true f g n k l h i is = said_own d x s f k is (omega arith)
chosen_own d x s false f g n k l h i is = said_own d x s g k is (omega arith)

form_own : (d : Document) (x : ℕ) (b : Bool) (e : ℕ) (s : Sign) (f : Form) (k : Claim) → e < length d.forms → Refers d e f → GivesForm d x b s f k → ClaimOf d k
form_own d x b e s True k l r h = absurd h
form_own d x b e s (Prop p) k l r h = absurd h
form_own d x b e s (Not f) k l r h = said_own d x (opposite s) f k h (omega arith)
form_own d x b e T (And f g) k l r (inl h) = said_own d x T f k h (let a = r.0 in omega arith)
form_own d x b e T (And f g) k l r (inr h) = said_own d x T g k h (let a = r.1 in omega arith)
form_own d x b e F (And f g) k l r h = chosen_own d x F b f g e k (omega arith) r.0 r.1 h
form_own d x b e T (Or f g) k l r h = chosen_own d x T b f g e k (omega arith) r.0 r.1 h
form_own d x b e F (Or f g) k l r (inl h) = said_own d x F f k h (let a = r.0 in omega arith)
form_own d x b e F (Or f g) k l r (inr h) = said_own d x F g k h (let a = r.1 in omega arith)
form_own d x b e s (Next a f) k l r h = absurd h
form_own d x b e s (Until f p g) k l r h = absurd h

until_own : (d : Document) (x : ℕ) (b : Bool) (e q l : ℕ) (f : Form) (k : Claim) → StateOf d e q → l < 2 → Refers d e f → GivesUntil d x b e q l f k → ClaimOf d k
until_own d x b e q l True k s m r h = absurd h
until_own d x b e q l (Prop p) k s m r h = absurd h
until_own d x b e q l (Not f) k s m r h = absurd h
until_own d x b e q l (And f g) k s m r h = absurd h
until_own d x b e q l (Or f g) k s m r h = absurd h
until_own d x b e q l (Next a f) k s m r h = absurd h
until_own d x b e q l (Until f p g) k s m r (inl h) = said_own d x T g k h.2 (let a = r.2 in let t = s.there in omega arith)
until_own d x b e q l (Until f p g) k s m r (inr (n, inl h)) = said_own d x T f k h (let a = r.0 in let t = s.there in omega arith)
until_own d x b e q l (Until f p g) k s m r (inr (n, inr h)) = subst (ClaimOf d) (sym h) (s, m)

not_until_own : (d : Document) (x : ℕ) (b : Bool) (e q : ℕ) (f : Form) (k : Claim) → StateOf d e q → Refers d e f → GivesNotUntil d x b e q f k → ClaimOf d k
not_until_own d x b e q True k s r h = absurd h
not_until_own d x b e q (Prop p) k s r h = absurd h
not_until_own d x b e q (Not f) k s r h = absurd h
not_until_own d x b e q (And f g) k s r h = absurd h
not_until_own d x b e q (Or f g) k s r h = absurd h
not_until_own d x b e q (Next a f) k s r h = absurd h
not_until_own d x true e q (Until f p g) k s r (inl h) = said_own d x F f k h (let a = r.0 in let t = s.there in omega arith)
not_until_own d x false e q (Until f p g) k s r (inl h) = subst (ClaimOf d) (sym h) s
not_until_own d x b e q (Until f p g) k s r (inr h) = said_own d x F g k h.1 (let a = r.2 in let t = s.there in omega arith)

pub gives_own : (d : Document) → WellFormed d → (x : ℕ) (b : Bool) (c k : Claim) → ClaimOf d c → Gives d x b c k → ClaimOf d k
gives_own d good x b (form s e) k own h = form_own d x b e s (form_at d e) k own.0 (good.refers e own.0) h
gives_own d good x b (until_true e q l) k own h = until_own d x b e q l (form_at d e) k own.0 own.1 (good.refers e own.0.there) h
gives_own d good x b (until_false e q) k own h = not_until_own d x b e q (form_at d e) k own (good.refers e own.there) h
gives_own d good x b (step_true e q l) k own h = absurd h
gives_own d good x b (step_false e q) k own h = absurd h

-- a set of the document's claims is closed within them
pub closure_own : (d : Document) → WellFormed d → (x : ℕ) (choice : Claim → Bool) (S : Claim → Type 0) → ((k : Claim) → S k → ClaimOf d k) → (k : Claim) → Closure d x choice S k → ClaimOf d k
closure_own d good x choice S own k (given h) = own k h
closure_own d good x choice S own k (made {c = c} h g) = gives_own d good x (choice c) c k (closure_own d good x choice S own c h) g

-- a step of an until leads to states of it
pub leads_own : (d : Document) (e q a r : ℕ) → StateOf d e q → Leads (program_of d (form_at d e)) q a r → StateOf d e r
leads_own d e q a r s h = let l = leads_to (program_of d (form_at d e)) q a r h in record { there = s.there; fated = s.fated; known = let m = l.1 in omega arith }
