-- The claim of a number, and the sets of claims and of numbers that belong together.
use Rattle.std.proofs.Common.{◌≡◌, ℕ, zero, suc, ◌-◌, ◌<◌, ◌≤◌, Bool, true, false, cond, not, ◌&&◌, eqb, ltb, leb, length, sym, refl, ap, ◌∙◌, subst, inl, inr, arith}
use Rattle.std.proofs.lemmas.Bool.{and_parts, and_from, ltb-true, lt-ltb, leb-true, leb-false, not-true, not_from_false, eqb-true, eq-eqb, cond_both, cases_order}
use Rattle.document.specs.Documents.{Document, form_at}
use Rattle.tableau.specs.Graphs.{Claim, form, until_true, until_false, step_true, step_false}
use Rattle.tableau.specs.Held.{has_state, is_claim, claims_of}
use Rattle.tableau.specs.Numbers.{is_until, base, states, speaks_of, place_in, number_of, StateOf, ClaimOf}
use Rattle.tableau.proofs.Numbering.{base_apart, place_within, speaks_there, decoded, decoded_place, one_number}

-- the test of a claim tells whether it is the document's
state_told : (d : Document) (e q : ℕ) → has_state d e q ≡ true → StateOf d e q
state_told d e q h =
    let a = and_parts (ltb e (length d.forms)) (is_until (form_at d e) && ltb q (states d e)) h in
    let b = and_parts (is_until (form_at d e)) (ltb q (states d e)) a.1 in
    record { there = ltb-true e (length d.forms) a.0; fated = b.0; known = ltb-true q (states d e) b.1 }

state_tells : (d : Document) (e q : ℕ) → StateOf d e q → has_state d e q ≡ true
state_tells d e q s = and_from (ltb e (length d.forms)) (is_until (form_at d e) && ltb q (states d e)) (lt-ltb e (length d.forms) s.there) (and_from (is_until (form_at d e)) (ltb q (states d e)) s.fated (lt-ltb q (states d e) s.known))

pub claim_told : (d : Document) (k : Claim) → is_claim d k ≡ true → ClaimOf d k
claim_told d (form s e) h = let a = and_parts (ltb e (length d.forms)) (not (is_until (form_at d e))) h in (ltb-true e (length d.forms) a.0, not-true (is_until (form_at d e)) a.1)
claim_told d (until_true e q l) h = let a = and_parts (has_state d e q) (ltb l 2) h in (state_told d e q a.0, ltb-true l 2 a.1)
claim_told d (until_false e q) h = state_told d e q h
claim_told d (step_true e q l) h = let a = and_parts (has_state d e q) (ltb l 2) h in (state_told d e q a.0, ltb-true l 2 a.1)
claim_told d (step_false e q) h = state_told d e q h

pub claim_tells : (d : Document) (k : Claim) → ClaimOf d k → is_claim d k ≡ true
claim_tells d (form s e) (l, h) = and_from (ltb e (length d.forms)) (not (is_until (form_at d e))) (lt-ltb e (length d.forms) l) (not_from_false (is_until (form_at d e)) h)
claim_tells d (until_true e q l) (s, h) = and_from (has_state d e q) (ltb l 2) (state_tells d e q s) (lt-ltb l 2 h)
claim_tells d (until_false e q) s = state_tells d e q s
claim_tells d (step_true e q l) (s, h) = and_from (has_state d e q) (ltb l 2) (state_tells d e q s) (lt-ltb l 2 h)
claim_tells d (step_false e q) s = state_tells d e q s

-- a set of numbers has the claim
pub claims_told : (d : Document) (N : ℕ → Bool) (k : Claim) → claims_of d N k ≡ true → ClaimOf d k × (N (number_of d k) ≡ true)
claims_told d N k h = let a = and_parts (is_claim d k) (N (number_of d k)) h in (claim_told d k a.0, a.1)

pub claims_tell : (d : Document) (N : ℕ → Bool) (k : Claim) → ClaimOf d k → N (number_of d k) ≡ true → claims_of d N k ≡ true
claims_tell d N k c h = and_from (is_claim d k) (N (number_of d k)) (claim_tells d k c) h

-- of the first n forms the last that begins at or before the number
speaker : Document → ℕ → ℕ → ℕ
speaker d c zero = 0
speaker d c (suc n) = cond (leb (base d n) c) n (speaker d c n)

-- later forms begin after the number of a claim
speaker_is : (d : Document) (k : Claim) → ClaimOf d k → (n : ℕ) → speaks_of k < n → n ≤ length d.forms → speaker d (number_of d k) n ≡ speaks_of k
unfolding speaker number_of
speaker_is d k c zero l h = absurd (omega arith)
speaker_is d k c (suc n) l h =
    elim (cases_order (speaks_of k) n) [
      | inl same ↦
          cond_both (leb (base d n) (number_of d k)) n (speaker d (number_of d k) n) (λ v. v ≡ speaks_of k) (λ t. sym same)
          (λ f. absurd (let b = leb-false (base d n) (number_of d k) f in let s : base d (speaks_of k) ≡ base d n = ap (base d) same in omega arith))
      | inr (inl less) ↦
          cond_both (leb (base d n) (number_of d k)) n (speaker d (number_of d k) n) (λ v. v ≡ speaks_of k)
          (λ t. absurd (let b = leb-true (base d n) (number_of d k) t in let a = base_apart d (speaks_of k) n less (speaks_there d k c) in let p = place_within d k c in omega arith))
          (λ f. speaker_is d k c n less (omega arith))
      | inr (inr more) ↦ absurd (omega arith)
    ]

-- the claim of a number, where it is one's
pub claim_numbered : Document → ℕ → Claim
claim_numbered d c = decoded d (speaker d c (length d.forms)) (c - base d (speaker d c (length d.forms)))

pub claim_numbered_is : (d : Document) (k : Claim) → ClaimOf d k → claim_numbered d (number_of d k) ≡ k
unfolding claim_numbered number_of
claim_numbered_is d k c =
    let e = speaker_is d k c (length d.forms) (speaks_there d k c) (omega arith) in
    let rest : number_of d k - base d (speaks_of k) ≡ place_in d k = omega arith in
    ap (λ v. decoded d v (number_of d k - base d v)) e ∙ ap (decoded d (speaks_of k)) rest ∙ decoded_place d k c

-- the numbers of a set of claims
pub numbers_of : Document → (Claim → Bool) → ℕ → Bool
numbers_of d M c = is_claim d (claim_numbered d c) && (eqb (number_of d (claim_numbered d c)) c && M (claim_numbered d c))

pub numbers_told : (d : Document) (M : Claim → Bool) (c : ℕ) → numbers_of d M c ≡ true → (k : Claim) × ClaimOf d k × (number_of d k ≡ c) × (M k ≡ true)
unfolding numbers_of
numbers_told d M c h =
    let k = claim_numbered d c in
    let a = and_parts (is_claim d k) (eqb (number_of d k) c && M k) h in
    let b = and_parts (eqb (number_of d k) c) (M k) a.1 in
    (k, claim_told d k a.0, eqb-true (number_of d k) c b.0, b.1)

pub numbers_tell : (d : Document) (M : Claim → Bool) (k : Claim) → ClaimOf d k → M k ≡ true → numbers_of d M (number_of d k) ≡ true
unfolding numbers_of
numbers_tell d M k c h =
    let n = number_of d k in
    let P : Claim → Type 0 = λ v. (is_claim d v && (eqb (number_of d v) n && M v)) ≡ true in
    subst P (sym (claim_numbered_is d k c)) (and_from (is_claim d k) (eqb n n && M k) (claim_tells d k c) (and_from (eqb n n) (M k) (eq-eqb n n refl) h))

-- there and back: the claims of the numbers are the claims, where all are the document's
pub claims_back : (d : Document) (M : Claim → Bool) → ((k : Claim) → M k ≡ true → ClaimOf d k) → (k : Claim) → claims_of d (numbers_of d M) k ≡ M k
claims_back d M own k = same_bool (claims_of d (numbers_of d M) k) (M k)
    (λ h. let a = claims_told d (numbers_of d M) k h in let b = numbers_told d M (number_of d k) a.1 in subst (λ v. M v ≡ true) (one_number d b.0 k b.1 a.0 b.2) b.3)
    (λ h. claims_tell d (numbers_of d M) k (own k h) (numbers_tell d M k (own k h) h))
  where
    same_bool : (a b : Bool) → (a ≡ true → b ≡ true) → (b ≡ true → a ≡ true) → a ≡ b
    same_bool true b to from = sym (to refl)
    same_bool false true to from = from refl
    same_bool false false to from = refl
