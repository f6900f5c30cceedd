-- Lists of claims: what they have, how they grow, and that no claim stands twice.
use Rattle.std.proofs.Common.{◌≡◌, ℕ, zero, suc, ◌+◌, ◌<◌, Bool, true, false, cond, ◌||◌, eqb, ltb, ◌⊎◌, List, [], ◌∷◌, ◌++◌, length, get_or, take, sym, refl, ap, ◌∙◌, subst, inl, inr, arith}
use mathlib.Core.Bool.{or-false, or_assoc}
use Rattle.std.proofs.lemmas.Bool.{cases_eq, cases_lt, eq-eqb, ne_eqb, eqb-true, lt-ltb, le-ltb, both_ways, or_cases, or_left, or_right}
use Rattle.std.proofs.lemmas.List.{append-nil, append_assoc, take_at, take-append-le, get_or_append_left, length_push, get_or-take, length-take-le, get_or_push}
use Rattle.tableau.specs.Claims.{has}
use Rattle.tableau.specs.Walk.{grown, room, Fresh}

pub has_push : (t : List ℕ) (x y : ℕ) → has (t ++ x ∷ []) y ≡ (has t y || eqb x y)
has_push [] x y = or-false (eqb x y)
has_push (z ∷ t) x y = ap (λ v. eqb z y || v) (has_push t x y) ∙ sym (or_assoc (eqb z y) (has t y) (eqb x y))

pub has_at : (t : List ℕ) (i : ℕ) → i < length t → has t (get_or t i 0) ≡ true
has_at [] i h = absurd (omega arith)
has_at (x ∷ t) zero h = or_left _ _ (eq-eqb x x refl)
has_at (x ∷ t) (suc i) h = or_right _ _ (has_at t i (omega arith))

pub at_has : (t : List ℕ) (x : ℕ) → has t x ≡ true → (i : ℕ) × (i < length t) × (get_or t i 0 ≡ x)
at_has [] x h = absurd (both_ways false refl h)
at_has (y ∷ t) x h = go (or_cases (eqb y x) (has t x) h) (at_has t x)
  where
    go : (eqb y x ≡ true) ⊎ (has t x ≡ true) → (has t x ≡ true → (i : ℕ) × (i < length t) × (get_or t i 0 ≡ x)) → (i : ℕ) × (i < suc (length t)) × (get_or (y ∷ t) i 0 ≡ x)
    go (inl e) ih = (0, omega arith, eqb-true y x e)
    go (inr e) ih = let r = ih e in (suc r.0, omega arith, r.2)

-- a claim that is there already adds nothing
pub absorbed : (a e b : Bool) → (e ≡ true → a ≡ true) → (a || b) ≡ (a || (e || b))
absorbed true e b h = refl
absorbed false true b h = absurd (both_ways false refl (h refl))
absorbed false false b h = refl

pub has_grown : (t xs : List ℕ) (y : ℕ) → has (grown t xs) y ≡ (has t y || has xs y)
has_grown t [] y = sym (or-false (has t y))
has_grown t (x ∷ xs) y = go (has t x) refl (has_grown t xs y) (has_grown (t ++ x ∷ []) xs y)
  where
    go : (b : Bool) → has t x ≡ b → has (grown t xs) y ≡ (has t y || has xs y) → has (grown (t ++ x ∷ []) xs) y ≡ (has (t ++ x ∷ []) y || has xs y) → has (cond b (grown t xs) (grown (t ++ x ∷ []) xs)) y ≡ (has t y || (eqb x y || has xs y))
    go true e old new = old ∙ absorbed (has t y) (eqb x y) (has xs y) (λ s. subst (λ v. has t v ≡ true) (eqb-true x y s) e)
    go false e old new = new ∙ ap (λ v. v || has xs y) (has_push t x y) ∙ or_assoc (has t y) (eqb x y) (has xs y)

pub grown_old : (t xs : List ℕ) (y : ℕ) → has t y ≡ true → has (grown t xs) y ≡ true
grown_old t xs y h = has_grown t xs y ∙ or_left _ _ h

pub grown_new : (t xs : List ℕ) (y : ℕ) → has xs y ≡ true → has (grown t xs) y ≡ true
grown_new t xs y h = has_grown t xs y ∙ or_right _ _ h

pub grown_cases : (t xs : List ℕ) (y : ℕ) → has (grown t xs) y ≡ true → (has t y ≡ true) ⊎ (has xs y ≡ true)
grown_cases t xs y h = or_cases _ _ (sym (has_grown t xs y) ∙ h)

-- what is grown begins with what was there
pub begins : (t xs : List ℕ) → (more : List ℕ) × (grown t xs ≡ t ++ more)
begins t [] = ([], sym (append-nil t))
begins t (x ∷ xs) = go (has t x) (begins t xs) (begins (t ++ x ∷ []) xs)
  where
    go : (b : Bool) → ((more : List ℕ) × (grown t xs ≡ t ++ more)) → ((more : List ℕ) × (grown (t ++ x ∷ []) xs ≡ (t ++ x ∷ []) ++ more)) → (more : List ℕ) × (cond b (grown t xs) (grown (t ++ x ∷ []) xs) ≡ t ++ more)
    go true old new = old
    go false old new = (x ∷ new.0, new.1 ∙ append_assoc t (x ∷ []) new.0)

pub take_grown : (t xs : List ℕ) (n : ℕ) → length t ≡ n → take n (grown t xs) ≡ t
take_grown t xs n e = let b = begins t xs in ap (take n) b.1 ∙ take_at t b.0 n e

pub get_d_grown : (t xs : List ℕ) (i : ℕ) → i < length t → get_or (grown t xs) i 0 ≡ get_or t i 0
get_d_grown t xs i h = let b = begins t xs in ap (λ l. get_or l i 0) b.1 ∙ get_or_append_left t b.0 0 i h

-- one claim more to add
pub grown_push : (t xs : List ℕ) (x : ℕ) → grown t (xs ++ x ∷ []) ≡ cond (has (grown t xs) x) (grown t xs) (grown t xs ++ x ∷ [])
grown_push t [] x = refl
grown_push t (y ∷ xs) x = go (has t y) (grown_push t xs x) (grown_push (t ++ y ∷ []) xs x)
  where
    go : (b : Bool) → grown t (xs ++ x ∷ []) ≡ cond (has (grown t xs) x) (grown t xs) (grown t xs ++ x ∷ [])
        → grown (t ++ y ∷ []) (xs ++ x ∷ []) ≡ cond (has (grown (t ++ y ∷ []) xs) x) (grown (t ++ y ∷ []) xs) (grown (t ++ y ∷ []) xs ++ x ∷ [])
        → cond b (grown t (xs ++ x ∷ [])) (grown (t ++ y ∷ []) (xs ++ x ∷ []))
        ≡ cond (has (cond b (grown t xs) (grown (t ++ y ∷ []) xs)) x) (cond b (grown t xs) (grown (t ++ y ∷ []) xs)) (cond b (grown t xs) (grown (t ++ y ∷ []) xs) ++ x ∷ [])
    go true old new = old
    go false old new = new

pub fresh_none : Fresh []
fresh_none i h = absurd (omega arith)

pub fresh_push : (t : List ℕ) (x : ℕ) → Fresh t → has t x ≡ false → Fresh (t ++ x ∷ [])
fresh_push t x f n i h = elim (cases_lt i (length t)) [
  | inl l ↦ ap (λ v. has (take i (t ++ x ∷ [])) v) (get_or_append_left t (x ∷ []) 0 i l) ∙ ap (λ v. has v (get_or t i 0)) (take-append-le i t (x ∷ []) (omega arith)) ∙ f i l
  | inr l ↦
      let p = length_push t x in
      let e : length t ≡ i = omega arith in
      ap (λ v. has (take i (t ++ x ∷ [])) v) (get_or_push t x 0 i e) ∙ ap (λ v. has v x) (take_at t (x ∷ []) i e) ∙ n
]

pub fresh_grown : (t xs : List ℕ) → Fresh t → Fresh (grown t xs)
fresh_grown t [] f = f
fresh_grown t (x ∷ xs) f = go (has t x) refl (fresh_grown t xs f) (λ p. fresh_grown (t ++ x ∷ []) xs p)
  where
    go : (b : Bool) → has t x ≡ b → Fresh (grown t xs) → (Fresh (t ++ x ∷ []) → Fresh (grown (t ++ x ∷ []) xs)) → Fresh (cond b (grown t xs) (grown (t ++ x ∷ []) xs))
    go true e old new = old
    go false e old new = new (fresh_push t x f e)

-- an earlier claim is another
pub earlier : (t : List ℕ) (i j : ℕ) → Fresh t → i < length t → j < i → get_or t j 0 ≡ get_or t i 0 → ⊥
earlier t i j f h l e =
    both_ways (has (take i t) (get_or t i 0)) (f i h)
    (ap (has (take i t)) (sym e) ∙ ap (has (take i t)) (sym (get_or-take i t j 0 l)) ∙ has_at (take i t) j (subst (λ v. j < v) (sym (length-take-le i t (omega arith))) l))

-- a new claim takes one place
pub room_push : (t : List ℕ) (x n : ℕ) → has t x ≡ false → room (t ++ x ∷ []) n + cond (ltb x n) 1 0 ≡ room t n
unfolding room
room_push t x zero h = ap (λ b. 0 + cond b 1 0) (le-ltb x 0 (omega arith))
room_push t x (suc n) h = go (cases_eq x n) (room_push t x n h)
  where
    go : (x ≡ n) ⊎ (x ≡ n → ⊥) → room (t ++ x ∷ []) n + cond (ltb x n) 1 0 ≡ room t n → (cond (has (t ++ x ∷ []) n) 0 1 + room (t ++ x ∷ []) n) + cond (ltb x (suc n)) 1 0 ≡ cond (has t n) 0 1 + room t n
    go (inl e) ih =
        let a : cond {A = ℕ} (has (t ++ x ∷ []) n) 0 1 ≡ 0 = ap (λ b. cond b 0 1) (has_push t x n ∙ or_right _ _ (eq-eqb x n e)) in
        let b : cond {A = ℕ} (has t n) 0 1 ≡ 1 = ap (λ b. cond b 0 1) (subst (λ v. has t v ≡ false) e h) in
        let d : cond {A = ℕ} (ltb x (suc n)) 1 0 ≡ 1 = ap (λ b. cond b 1 0) (lt-ltb x (suc n) (omega arith)) in
        let f : cond {A = ℕ} (ltb x n) 1 0 ≡ 0 = ap (λ b. cond b 1 0) (le-ltb x n (omega arith)) in
        omega arith
    go (inr ne) ih =
        let a : cond {A = ℕ} (has (t ++ x ∷ []) n) 0 1 ≡ cond (has t n) 0 1 = ap (λ b. cond b 0 1) (has_push t x n ∙ ap (λ b. has t n || b) (ne_eqb x n ne) ∙ or-false (has t n)) in
        let d : cond {A = ℕ} (ltb x (suc n)) 1 0 ≡ cond (ltb x n) 1 0 = elim (cases_lt x n) [
          | inl l ↦ ap (λ b. cond b 1 0) (lt-ltb x (suc n) (omega arith) ∙ sym (lt-ltb x n l))
          | inr l ↦ ap (λ b. cond b 1 0) (le-ltb x (suc n) (omega arith) ∙ sym (le-ltb x n l))
        ] in
        omega arith

pub room_none : (n : ℕ) → room [] n ≡ n
unfolding room
room_none zero = refl
room_none (suc n) = let ih = room_none n in omega arith
