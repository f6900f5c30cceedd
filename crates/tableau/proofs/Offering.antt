-- What the alternatives of a claim offer, put together from claims and their numbers.
use Rattle.std.proofs.Common.{◌≡◌, ℕ, Bool, true, false, ◌||◌, eqb, ◌⊎◌, ◌↔◌, List, [], ◌∷◌, sym, refl, ap, ◌∙◌, subst, inl, inr}
use Rattle.std.proofs.lemmas.Bool.{both_ways, eqb-true, eq-eqb, or_cases, or_left, or_right}
use Rattle.document.specs.Documents.{Document}
use Rattle.tableau.specs.Calculus.{calculus, ListsGiven, Offers, ListsClaims, Offered, Either, Against, Clashing, ClashesWith}
use Rattle.tableau.specs.Claims.{has}
use Rattle.tableau.specs.Graphs.{Claim, Gives}
use Rattle.tableau.specs.Numbers.{number_of, ClaimOf}
use Rattle.tableau.specs.Offers.{listed}
use Rattle.tableau.specs.declared.rules.Alternatives.{Alternatives}
use Rattle.tableau.specs.declared.rules.Alternatives.TheVariants.{Nothing, One, Two}
use Rattle.tableau.proofs.Numbering.{one_number}

-- a list of one number
pub lists_one : (d : Document) (G : Claim → Type 0) (xs : List ℕ) (a : ℕ) (j : Claim) → xs ≡ a ∷ [] → a ≡ number_of d j → G j → ((i : Claim) → G i → i ≡ j) → ListsClaims d G xs
lists_one d G xs a j is at here only y = (
  λ h. elim (or_cases (eqb a y) false (subst (λ l. has l y ≡ true) is h)) [
    | inl e ↦ (j, sym at ∙ eqb-true a y e, here)
    | inr e ↦ absurd (both_ways false refl e)
  ],
  λ g. subst (λ l. has l y ≡ true) (sym is) (or_left (eqb a y) false (eq-eqb a y (at ∙ ap (number_of d) (sym (only g.0 g.2)) ∙ g.1))),
)

-- a list of two
pub lists_two : (d : Document) (G : Claim → Type 0) (xs : List ℕ) (a b : ℕ) (j i : Claim) → xs ≡ a ∷ b ∷ [] → a ≡ number_of d j → b ≡ number_of d i → G j → G i → ((k : Claim) → G k → (k ≡ j) ⊎ (k ≡ i)) → ListsClaims d G xs
lists_two d G xs a b j i is at bt here there only y = (
  λ h. elim (or_cases (eqb a y) (eqb b y || false) (subst (λ l. has l y ≡ true) is h)) [
    | inl e ↦ (j, sym at ∙ eqb-true a y e, here)
    | inr e ↦ elim (or_cases (eqb b y) false e) [
      | inl f ↦ (i, sym bt ∙ eqb-true b y f, there)
      | inr f ↦ absurd (both_ways false refl f)
    ]
  ],
  λ g. subst (λ l. has l y ≡ true) (sym is) (elim (only g.0 g.2) [
    | inl e ↦ or_left (eqb a y) (eqb b y || false) (eq-eqb a y (at ∙ ap (number_of d) (sym e) ∙ g.1))
    | inr e ↦ or_right (eqb a y) (eqb b y || false) (or_left (eqb b y) false (eq-eqb b y (bt ∙ ap (number_of d) (sym e) ∙ g.1)))
  ]),
)

-- one number or another
pub offered_either : (d : Document) (G : Bool → Claim → Type 0) (r : Alternatives) (a b : ℕ) (j i : Claim) → Either a b r → a ≡ number_of d j → b ≡ number_of d i
    → G true j → ((k : Claim) → G true k → k ≡ j) → G false i → ((k : Claim) → G false k → k ≡ i) → Offered d G r
offered_either d G Nothing a b j i e at bt h g k l = absurd e
offered_either d G (One f) a b j i (same, is) at bt h g k l =
    λ c. elim c as (λ v. ListsClaims d (G v) (listed f)) [ true ↦ lists_one d (G true) (listed f) a j is at h g | false ↦ lists_one d (G false) (listed f) a i is (same ∙ bt) k l ]
offered_either d G (Two f t) a b j i (is, it) at bt h g k l = (lists_one d (G true) (listed f) a j is at h g, lists_one d (G false) (listed t) b i it bt k l)

given_number : (d : Document) (x c : ℕ) (k : Claim) → ClaimOf d k → number_of d k ≡ c → (b : Bool) (xs : List ℕ) → ListsClaims d (Gives d x b k) xs → ListsGiven (calculus d x) c b xs
given_number d x c k own is b xs l y = (
  λ h. let g = (l y).0 h in (k, g.0, own, is, g.1, g.2),
  λ g. (l y).1 (g.1, g.4, subst (λ i. Gives d x b i g.1) (one_number d g.0 k g.2 own (g.3 ∙ sym is)) g.5),
)

-- the alternatives of a claim are those of its number
pub offered_offers : (d : Document) (x c : ℕ) (k : Claim) (r : Alternatives) → ClaimOf d k → number_of d k ≡ c → Offered d (λ b. Gives d x b k) r → Offers (calculus d x) c r
offered_offers d x c k Nothing own is o = λ b y. (
  λ h. absurd (both_ways false refl h),
  λ g. absurd (o b g.1 (subst (λ i. Gives d x b i g.1) (one_number d g.0 k g.2 own (g.3 ∙ sym is)) g.5)),
)
offered_offers d x c k (One f) own is o = λ b. given_number d x c k own is b (listed f) (o b)
offered_offers d x c k (Two f h) own is o = (given_number d x c k own is true (listed f) o.0, given_number d x c k own is false (listed h) o.1)

-- a number that is no claim's offers nothing
pub nothing_offers : (d : Document) (x c : ℕ) → ((k : Claim) → ClaimOf d k → number_of d k ≡ c → ⊥) → Offers (calculus d x) c Nothing
nothing_offers d x c none b y = (λ h. absurd (both_ways false refl h), λ g. absurd (none g.0 g.2 g.3))

-- a claim clashes just as its number does
pub clash_number : (d : Document) (x c : ℕ) (N : ℕ → Bool) (k : Claim) → ClaimOf d k → number_of d k ≡ c → ClashesWith d N k ↔ Clashing (calculus d x) N c
clash_number d x c N k own is = (
  λ w. (
    number_of d w.0,
    elim w.2 [
      | inl h ↦ or_left (N (number_of d w.0)) (eqb (number_of d w.0) c) h
      | inr e ↦ or_right (N (number_of d w.0)) (eqb (number_of d w.0) c) (eq-eqb (number_of d w.0) c (ap (number_of d) e ∙ is))
    ],
    (w.0, k, w.1, own, refl, is, w.3),
  ),
  λ w. let j = w.2.0 in
      let same = one_number d w.2.1 k w.2.3 own (w.2.5 ∙ sym is) in (
        j,
        w.2.2,
        elim (or_cases (N w.0) (eqb w.0 c) w.1) [
          | inl h ↦ inl (subst (λ a. N a ≡ true) (sym w.2.4) h)
          | inr e ↦ inr (one_number d j k w.2.2 own (w.2.4 ∙ eqb-true w.0 c e ∙ sym is))
        ],
        subst (λ i. Against d j i ⊎ Against d i j) same w.2.6,
      ),
)
