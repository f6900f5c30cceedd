-- Expansions of numbers and expansions of claims are the same.
use Rattle.std.proofs.Common.{◌≡◌, ℕ, Bool, true, ◌↔◌, List, sym, refl, ap, ◌∙◌, subst, inl, inr}
use Rattle.document.specs.Documents.{Document, WellFormed}
use Rattle.tableau.specs.Calculus.{calculus, Against, Fine}
use Rattle.tableau.specs.Claims.{has}
use Rattle.tableau.specs.Expansions as walk
use Rattle.tableau.specs.Expansions.{from_start, from_claim}
use Rattle.tableau.specs.Graphs.{Sign.T, Sign.F, Claim, form, until_true, until_false, step_true, step_false, Gives, Closure, Closure.given, Closure.made, NoClash, Expansion}
use Rattle.tableau.specs.Held.{claims_of}
use Rattle.tableau.specs.Numbers.{number_of, ClaimOf}
use Rattle.tableau.specs.Successions.{Allowed}
use Rattle.tableau.proofs.Numbering.{one_number}
use Rattle.tableau.proofs.Decoding.{claims_told, claims_tell, claim_numbered, claim_numbered_is, numbers_of, numbers_told, numbers_tell}
use Rattle.tableau.proofs.Own.{gives_own, closure_own}

-- the list has the numbers of just these claims
abbrev pub ListsSet : Document → (Claim → Type 0) → List ℕ → Type 0
ListsSet d S start = (c : ℕ) → (has start c ≡ true) ↔ ((k : Claim) × S k × (number_of d k ≡ c))

-- a closure of numbers is one of claims
closure_claims : (d : Document) → WellFormed d → (x : ℕ) (start : List ℕ) (S : Claim → Type 0) → ((k : Claim) → S k → ClaimOf d k) → ListsSet d S start → (f : ℕ → Bool) (c : ℕ)
    → walk.NumberClosure (calculus d x) start f c → (k : Claim) → ClaimOf d k → number_of d k ≡ c → Closure d x (λ j. f (number_of d j)) S k
closure_claims d good x start S own lists f c (from_start h) k mine is =
    let s = (lists c).0 h in
    given (subst S (one_number d s.0 k (own s.0 s.1) mine (s.2 ∙ sym is)) s.1)
closure_claims d good x start S own lists f c (from_claim {c = b} h g) k mine is =
    let j = g.0 in
    let from = closure_claims d good x start S own lists f b h j g.2 g.3 in
    let to = gives_own d good x (f b) j g.1 g.2 g.5 in
    made from (subst (λ v. Gives d x (f (number_of d j)) j v) (one_number d g.1 k to mine (g.4 ∙ sym is)) (subst (λ v. Gives d x (f v) j g.1) (sym g.3) g.5))

-- a closure of claims is one of numbers
closure_numbers : (d : Document) → WellFormed d → (x : ℕ) (start : List ℕ) (S : Claim → Type 0) → ((k : Claim) → S k → ClaimOf d k) → ListsSet d S start → (choice : Claim → Bool) (f : ℕ → Bool)
    → ((k : Claim) → ClaimOf d k → f (number_of d k) ≡ choice k) → (k : Claim) → Closure d x choice S k → walk.NumberClosure (calculus d x) start f (number_of d k)
closure_numbers d good x start S own lists choice f same k (given h) = from_start ((lists (number_of d k)).1 (k, h, refl))
closure_numbers d good x start S own lists choice f same k (made {c = c} h g) =
    let mine = closure_own d good x choice S own c h in
    from_claim (closure_numbers d good x start S own lists choice f same c h) (c, k, mine, refl, refl, subst (λ b. Gives d x b c k) (sym (same c mine)) g)

-- clashes of numbers and of claims
fine_claims : (d : Document) (x a : ℕ) (N : ℕ → Bool) → Fine (calculus d x) N → Allowed d N a → NoClash d a (claims_of d N)
fine_claims d x a N fine allowed =
    let clash : (k j : Claim) → claims_of d N k ≡ true → claims_of d N j ≡ true → Against d k j → ⊥ = λ k j h i w.
    let p = claims_told d N k h in
    let q = claims_told d N j i in
    fine (number_of d k) (number_of d j) p.1 q.1 (k, j, p.0, q.0, refl, refl, inl w) in
    record {
      false_true = λ e h t. clash (form F e) (form F e) h h (refl, t);
      same_mark = λ e h p i j a b. clash (form T e) (form F h) i j (inr (p, a, b));
      same_form = λ e i j. clash (form T e) (form F e) i j (inl refl);
      same_until = λ e q l i j. clash (until_true e q l) (until_false e q) i j (refl, refl);
      same_step = λ e q l i j. clash (step_true e q l) (step_false e q) i j (refl, refl);
      other_action = λ e b f h is. allowed e b f (claims_told d N (form T e) h) is;
    }

against_clash : (d : Document) (a : ℕ) (M : Claim → Bool) → NoClash d a M → (k j : Claim) → M k ≡ true → M j ≡ true → Against d k j → ⊥
against_clash d a M none (form T e) (form T h) i j w = w
against_clash d a M none (form T e) (form F h) i j (inl w) = none.same_form e i (subst (λ v. M (form F v) ≡ true) (sym w) j)
against_clash d a M none (form T e) (form F h) i j (inr (p, s, t)) = none.same_mark e h p i j s t
against_clash d a M none (form T e) (until_true h q l) i j w = w
against_clash d a M none (form T e) (until_false h q) i j w = w
against_clash d a M none (form T e) (step_true h q l) i j w = w
against_clash d a M none (form T e) (step_false h q) i j w = w
against_clash d a M none (form F e) (form T h) i j w = w
against_clash d a M none (form F e) (form F h) i j (s, t) = none.false_true e i t
against_clash d a M none (form F e) (until_true h q l) i j w = w
against_clash d a M none (form F e) (until_false h q) i j w = w
against_clash d a M none (form F e) (step_true h q l) i j w = w
against_clash d a M none (form F e) (step_false h q) i j w = w
against_clash d a M none (until_true e q l) (form s h) i j w = w
against_clash d a M none (until_true e q l) (until_true h r m) i j w = w
against_clash d a M none (until_true e q l) (until_false h r) i j (s, t) = none.same_until e q l i (subst (λ v. M (until_false v q) ≡ true) (sym s) (subst (λ v. M (until_false h v) ≡ true) (sym t) j))
against_clash d a M none (until_true e q l) (step_true h r m) i j w = w
against_clash d a M none (until_true e q l) (step_false h r) i j w = w
against_clash d a M none (until_false e q) k i j w = w
against_clash d a M none (step_true e q l) (form s h) i j w = w
against_clash d a M none (step_true e q l) (until_true h r m) i j w = w
against_clash d a M none (step_true e q l) (until_false h r) i j w = w
against_clash d a M none (step_true e q l) (step_true h r m) i j w = w
against_clash d a M none (step_true e q l) (step_false h r) i j (s, t) = none.same_step e q l i (subst (λ v. M (step_false v q) ≡ true) (sym s) (subst (λ v. M (step_false h v) ≡ true) (sym t) j))
against_clash d a M none (step_false e q) k i j w = w

-- an expansion of numbers, with an action that it allows, is one of claims
pub expansion_claims : (d : Document) → WellFormed d → (x a : ℕ) (start : List ℕ) (S : Claim → Type 0) → ((k : Claim) → S k → ClaimOf d k) → ListsSet d S start → (N : ℕ → Bool)
    → walk.NumberExpansion (calculus d x) start N → Allowed d N a → Expansion d a x S (claims_of d N)
expansion_claims d good x a start S own lists N e allowed =
    let f = e.choice in
    let choice : Claim → Bool = λ k. f (number_of d k) in
    record {
      choice = choice;
      holds = λ k h. claims_tell d N k (closure_own d good x choice S own k h) (e.whole (number_of d k) (closure_numbers d good x start S own lists choice f (λ j c. refl) k h));
      least = λ k h. let p = claims_told d N k h in closure_claims d good x start S own lists f (number_of d k) (e.within (number_of d k) p.1) k p.0 refl;
      no_clash = fine_claims d x a N e.fine allowed;
    }

-- the numbers of a closure are those of claims
pub closure_numbered : (d : Document) → WellFormed d → (x : ℕ) (start : List ℕ) (S : Claim → Type 0) → ((k : Claim) → S k → ClaimOf d k) → ListsSet d S start → (f : ℕ → Bool) (c : ℕ)
    → walk.NumberClosure (calculus d x) start f c → (k : Claim) × ClaimOf d k × (number_of d k ≡ c)
closure_numbered d good x start S own lists f c (from_start h) = let s = (lists c).0 h in (s.0, own s.0 s.1, s.2)
closure_numbered d good x start S own lists f c (from_claim {c = b} h g) = (g.1, gives_own d good x (f b) g.0 g.1 g.2 g.5, g.4)

-- an expansion of claims is one of numbers, and allows the action
pub expansion_numbers : (d : Document) → WellFormed d → (x a : ℕ) (start : List ℕ) (S : Claim → Type 0) → ((k : Claim) → S k → ClaimOf d k) → ListsSet d S start → (M : Claim → Bool)
    → Expansion d a x S M → walk.NumberExpansion (calculus d x) start (numbers_of d M) × Allowed d (numbers_of d M) a
expansion_numbers d good x a start S own lists M e =
    let choice = e.choice in
    let f : ℕ → Bool = λ c. choice (claim_numbered d c) in
    let same : (k : Claim) → ClaimOf d k → f (number_of d k) ≡ choice k = λ k c. ap choice (claim_numbered_is d k c) in (
      record {
        choice = f;
        within = λ c h. let t = numbers_told d M c h in subst (walk.NumberClosure (calculus d x) start f) t.2 (closure_numbers d good x start S own lists choice f same t.0 (e.least t.0 t.3));
        whole = λ c h. let t = closure_numbered d good x start S own lists f c h in subst (λ v. numbers_of d M v ≡ true) t.2 (numbers_tell d M t.0 t.1 (e.holds t.0 (like t.0 (closure_claims d good x start S own lists f c h t.0 t.1 t.2))));
        fine = λ b c h i w. let p = numbers_told d M b h in let q = numbers_told d M c i in
            let kb = one_number d p.0 w.0 p.1 w.2 (p.2 ∙ sym w.4) in
            let kc = one_number d q.0 w.1 q.1 w.3 (q.2 ∙ sym w.5) in
            let mb = subst (λ v. M v ≡ true) kb p.3 in
            let mc = subst (λ v. M v ≡ true) kc q.3 in
            elim w.6 [ inl v ↦ against_clash d a M e.no_clash w.0 w.1 mb mc v | inr v ↦ against_clash d a M e.no_clash w.1 w.0 mc mb v ];
      },
      λ e' b g h is. let t = numbers_told d M (number_of d (form T e')) h.1 in e.no_clash.other_action e' b g (subst (λ v. M v ≡ true) (one_number d t.0 (form T e') t.1 h.0 t.2) t.3) is,
    )
  where
    -- choices that agree on claims of the document close alike
    like : (k : Claim) → Closure d x (λ j. e.choice (claim_numbered d (number_of d j))) S k → Closure d x e.choice S k
    like k (given h) = given h
    like k (made {c = c} h g) =
        let l = like c h in
        let mine = closure_own d good x e.choice S own c l in
        made l (subst (λ v. Gives d x (e.choice v) c k) (claim_numbered_is d c mine) g)
