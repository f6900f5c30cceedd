-- Adding claims part by part.
use Rattle.std.proofs.Common.{◌≡◌, ℕ, ◌+◌, ◌<◌, Bool, true, false, cond, ◌||◌, eqb, ◌⊎◌, ◌↔◌, List, [], ◌∷◌, ◌++◌, IfSome, Some, None, Option, sym, refl, ap, ◌∙◌, subst, inl, inr, arith, MatchOption}
use mathlib.Core.Bool.{or_assoc}
use Rattle.std.proofs.lemmas.Bool.{cases_lt, eq-eqb, eqb-true, both_ways, or_cases, or_left, or_right}
use Rattle.tableau.specs.Calculus.{Calculus, Fine}
use Rattle.tableau.specs.Claims.{has}
use Rattle.tableau.specs.Expansions.{Stuck}
use Rattle.tableau.specs.Handing.{Any, Added, Clashed, Hands}
use Rattle.tableau.specs.Walk.{grown}
use Rattle.tableau.specs.declared.claims.ClaimSet.{ClaimSet}

pub grown_append : (t xs ys : List ℕ) → grown (grown t xs) ys ≡ grown t (xs ++ ys)
grown_append t [] ys = refl
grown_append t (x ∷ xs) ys = go (has t x) (grown_append t xs ys) (grown_append (t ++ x ∷ []) xs ys)
  where
    go : (b : Bool) → grown (grown t xs) ys ≡ grown t (xs ++ ys) → grown (grown (t ++ x ∷ []) xs) ys ≡ grown (t ++ x ∷ []) (xs ++ ys)
        → grown (cond b (grown t xs) (grown (t ++ x ∷ []) xs)) ys ≡ cond b (grown t (xs ++ ys)) (grown (t ++ x ∷ []) (xs ++ ys))
    go true old new = old
    go false old new = new

pub has_append : (xs ys : List ℕ) (y : ℕ) → has (xs ++ ys) y ≡ (has xs y || has ys y)
has_append [] ys y = refl
has_append (x ∷ xs) ys y = ap (λ v. eqb x y || v) (has_append xs ys y) ∙ sym (or_assoc (eqb x y) (has xs y) (has ys y))

has_one : (x y : ℕ) → has (x ∷ []) y ≡ true → y ≡ x
has_one x y h = elim (or_cases (eqb x y) false h) [ inl e ↦ sym (eqb-true x y e) | inr e ↦ absurd (both_ways false refl e) ]

one_has : (x y : ℕ) → y ≡ x → has (x ∷ []) y ≡ true
one_has x y e = or_left (eqb x y) false (eq-eqb x y (sym e))

-- the parts below i
abbrev pub Below : (ℕ → ℕ → Type 0) → ℕ → ℕ → Type 0
Below part i y = (r : ℕ) × (r < i) × part r y

pub added_none : (m : Calculus) (part : ℕ → ℕ → Type 0) (t : List ℕ) → Fine m (has t) → Added m (Below part 0) t t
added_none m part t fine = record { claims = []; listed = λ y. (λ h. absurd (both_ways false refl h), λ h. absurd (omega (arith, h.1))); grew = refl; fine = fine }

pub added_join : {m : Calculus} {S R : ℕ → Type 0} {t u v : List ℕ} (U : ℕ → Type 0) → ((y : ℕ) → U y ↔ (S y ⊎ R y)) → Added m S t u → Added m R u v → Added m U t v
added_join {m} {S} {R} {t} {u} {v} U same f g = record {
  claims = f.claims ++ g.claims;
  listed = λ y. (
    λ h. (same y).1 (elim (or_cases (has f.claims y) (has g.claims y) (sym (has_append f.claims g.claims y) ∙ h)) [ inl e ↦ inl ((f.listed y).0 e) | inr e ↦ inr ((g.listed y).0 e) ]),
    λ h. has_append f.claims g.claims y ∙ elim ((same y).0 h) [ inl e ↦ or_left (has f.claims y) (has g.claims y) ((f.listed y).1 e) | inr e ↦ or_right (has f.claims y) (has g.claims y) ((g.listed y).1 e) ],
  );
  grew = g.grew ∙ ap (λ l. grown l g.claims) f.grew ∙ grown_append t f.claims g.claims;
  fine = g.fine;
}

pub clashed_after : {m : Calculus} {S R : ℕ → Type 0} {t u : List ℕ} (U : ℕ → Type 0) → ((y : ℕ) → S y → U y) → ((y : ℕ) → R y → U y) → Added m S t u → Clashed m R u → Clashed m U t
clashed_after {m} {S} {R} {t} {u} U a b f g = record {
  claims = f.claims ++ g.claims;
  listed = λ y h. elim (or_cases (has f.claims y) (has g.claims y) (sym (has_append f.claims g.claims y) ∙ h)) [ inl e ↦ a y ((f.listed y).0 e) | inr e ↦ b y (g.listed y e) ];
  stuck = subst (Stuck m) (ap (λ l. grown l g.claims) f.grew ∙ grown_append t f.claims g.claims) g.stuck;
}

pub clashed_weaken : {m : Calculus} {S : ℕ → Type 0} {t : List ℕ} (U : ℕ → Type 0) → ((y : ℕ) → S y → U y) → Clashed m S t → Clashed m U t
clashed_weaken U a g = record { claims = g.claims; listed = λ y h. a y (g.listed y h); stuck = g.stuck }

pub added_like : {m : Calculus} {S : ℕ → Type 0} {t u : List ℕ} (U : ℕ → Type 0) → ((y : ℕ) → U y ↔ S y) → Added m S t u → Added m U t u
added_like U same f = record { claims = f.claims; listed = λ y. (λ h. (same y).1 ((f.listed y).0 h), λ h. (f.listed y).1 ((same y).0 h)); grew = f.grew; fine = f.fine }

-- one claim
pub added_one : (m : Calculus) (t u : List ℕ) (c : ℕ) → u ≡ grown t (c ∷ []) → Fine m (has (grown t (c ∷ []))) → Added m (λ y. y ≡ c) t u
added_one m t u c grew fine = record { claims = c ∷ []; listed = λ y. (has_one c y, one_has c y); grew = grew; fine = subst (λ l. Fine m (has l)) (sym grew) fine }

pub clashed_one : (m : Calculus) (t : List ℕ) (c : ℕ) → Stuck m (grown t (c ∷ [])) → Clashed m (λ y. y ≡ c) t
clashed_one m t c stuck = record { claims = c ∷ []; listed = has_one c; stuck = stuck }

-- a part more
below_more : (part : ℕ → ℕ → Type 0) (i y : ℕ) → Below part (i + 1) y ↔ (Below part i y ⊎ part i y)
below_more part i y = (
  λ h. elim (cases_lt h.0 i) [ inl l ↦ inl (h.0, l, h.2) | inr l ↦ inr (subst (λ r. part r y) (let lt = h.1 in omega arith) h.2) ],
  λ h. elim h [ inl b ↦ (b.0, omega (arith, b.1), b.2) | inr p ↦ (i, omega arith, p) ],
)

pub added_more : {m : Calculus} {t u v : List ℕ} (part : ℕ → ℕ → Type 0) (i : ℕ) → Added m (Below part i) t u → Added m (part i) u v → Added m (Below part (i + 1)) t v
added_more part i f g = added_join (Below part (i + 1)) (below_more part i) f g

pub added_skip : {m : Calculus} {t u : List ℕ} (part : ℕ → ℕ → Type 0) (i : ℕ) → ((y : ℕ) → part i y → ⊥) → Added m (Below part i) t u → Added m (Below part (i + 1)) t u
added_skip part i none f = added_like (Below part (i + 1)) (λ y. (λ h. elim ((below_more part i y).0 h) [ inl b ↦ b | inr p ↦ absurd (none y p) ], λ h. (below_more part i y).1 (inl h))) f

pub added_all : {m : Calculus} {t u : List ℕ} (part : ℕ → ℕ → Type 0) (i : ℕ) → ((r y : ℕ) → part r y → r < i) → Added m (Below part i) t u → Added m (Any part) t u
added_all part i within f = added_like (Any part) (λ y. (λ h. (h.0, within h.0 y h.1, h.1), λ h. (h.0, h.2))) f

pub clashed_more : {m : Calculus} {t u : List ℕ} (part : ℕ → ℕ → Type 0) (i : ℕ) → Added m (Below part i) t u → Clashed m (part i) u → Clashed m (Any part) t
clashed_more part i f g = clashed_after (Any part) (λ y h. (h.0, h.2)) (λ y h. (i, h)) f g

-- what a call of `add` with one claim answers
pub hands_one : (m : Calculus) (A : ClaimSet → Type 0) (t u : List ℕ) (c : ℕ) (r : Option ClaimSet) → IfSome r (λ s. A s × (u ≡ grown t (c ∷ [])))
    → MatchOption r (Stuck m (grown t (c ∷ []))) (λ _. Fine m (has (grown t (c ∷ [])))) → Hands m (λ y. y ≡ c) t u r
hands_one m A t u c None grew fine = clashed_one m t c fine
hands_one m A t u c (Some s) grew fine = added_one m t u c grew.1 fine

pub hands_like : (m : Calculus) (S U : ℕ → Type 0) (t u : List ℕ) (r : Option ClaimSet) → ((y : ℕ) → U y ↔ S y) → Hands m S t u r → Hands m U t u r
hands_like m S U t u None same h = clashed_weaken U (λ y s. (same y).1 s) h
hands_like m S U t u (Some s) same h = added_like U same h

pub hands_after : (m : Calculus) (S R U : ℕ → Type 0) (t u v : List ℕ) (r : Option ClaimSet) → ((y : ℕ) → U y ↔ (S y ⊎ R y)) → Added m S t u → Hands m R u v r → Hands m U t v r
hands_after m S R U t u v None same f h = clashed_after U (λ y s. (same y).1 (inl s)) (λ y s. (same y).1 (inr s)) f h
hands_after m S R U t u v (Some s) same f h = added_join U same f h

-- nothing to add
pub added_nothing : (m : Calculus) (U : ℕ → Type 0) (t : List ℕ) → ((y : ℕ) → U y → ⊥) → Fine m (has t) → Added m U t t
added_nothing m U t none fine = record { claims = []; listed = λ y. (λ h. absurd (both_ways false refl h), λ h. absurd (none y h)); grew = refl; fine = fine }
