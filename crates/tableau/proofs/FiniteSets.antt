-- Properties of finitely many things, listed.
use Rattle.std.proofs.Common.{◌≡◌, ℕ, zero, suc, ◌+◌, ◌<◌, Bool, true, false, ◌⊎◌, List, [], ◌∷◌, ◌++◌, sym, refl, ap, subst, inl, inr, arith}
use native.Mathlib.Decide.{ℕ_discrete}
use Rattle.tableau.proofs.Members.{In, in_left, in_right, in_either}

abbrev pub is_yes : {A : Type 0} → Dec A → Bool
is_yes (yes a) = true
is_yes (no h) = false

pub from_yes : {A : Type 0} (b : Dec A) → is_yes b ≡ true → A
from_yes (yes a) e = a
from_yes (no h) e = let z : ◌≡◌ {A = ℕ} 0 1 = cc in absurd (omega arith)

pub to_yes : {A : Type 0} (b : Dec A) → A → is_yes b ≡ true
to_yes (yes a) x = refl
to_yes (no h) x = absurd (h x)

pub both_dec : {A B : Type 0} → Dec A → Dec B → Dec (A × B)
both_dec (yes a) (yes b) = yes (a, b)
both_dec (yes a) (no h) = no (λ p. h p.1)
both_dec (no h) b = no (λ p. h p.0)

-- what has a property, in a list
pub record Finite {X : Type 0} (P : X → Type 0) : Type 0 where
  pub list : List X
  pub all : (x : X) → P x → In list x
  pub only : (x : X) → In list x → P x

pub finite_iff : {X : Type 0} (P Q : X → Type 0) → ((x : X) → P x → Q x) → ((x : X) → Q x → P x) → Finite P → Finite Q
finite_iff P Q f g s = record { list = s.list; all = λ x q. s.all x (g x q); only = λ x h. f x (s.only x h) }

pub finite_none : {X : Type 0} (P : X → Type 0) → ((x : X) → P x → ⊥) → Finite P
finite_none P h = record { list = []; all = h; only = λ x n. absurd n }

pub finite_one : {X : Type 0} (y : X) → Finite (λ x. x ≡ y)
finite_one y = record { list = y ∷ []; all = λ x e. inl (sym e); only = λ x h. elim h [ inl e ↦ sym e | inr n ↦ absurd n ] }

pub finite_or : {X : Type 0} (P Q : X → Type 0) → Finite P → Finite Q → Finite (λ x. P x ⊎ Q x)
finite_or P Q s t = record {
  list = s.list ++ t.list;
  all = λ x h. elim h [ inl p ↦ in_left s.list t.list x (s.all x p) | inr q ↦ in_right s.list t.list x (t.all x q) ];
  only = λ x h. elim (in_either s.list t.list x h) [ inl a ↦ inl (s.only x a) | inr b ↦ inr (t.only x b) ];
}

pub finite_when : {X : Type 0} {A : Type 0} (P : X → Type 0) → Dec A → Finite P → Finite (λ x. A × P x)
finite_when P (yes a) s = finite_iff P _ (λ x p. (a, p)) (λ x h. h.1) s
finite_when P (no n) s = finite_none _ (λ x h. n h.0)

finite_over : {X Y : Type 0} (P : X → Y → Type 0) (xs : List X) → ((x : X) → In xs x → Finite (P x)) → Finite (λ y. (x : X) × In xs x × P x y)
finite_over P [] f = finite_none _ (λ y h. h.1)
finite_over {X} {Y} P (z ∷ xs) f = finite_iff _ _ to from (finite_or _ _ (f z (inl refl)) (finite_over P xs (λ x h. f x (inr h))))
  where
    to : (y : Y) → P z y ⊎ ((x : X) × In xs x × P x y) → (x : X) × In (z ∷ xs) x × P x y
    to y (inl p) = (z, inl refl, p)
    to y (inr h) = (h.0, inr h.1, h.2)

    from' : (y : Y) (x : X) → In (z ∷ xs) x → P x y → P z y ⊎ ((x : X) × In xs x × P x y)
    from' y x (inl e) p = inl (subst (λ w. P w y) (sym e) p)
    from' y x (inr h) p = inr (x, h, p)

    from : (y : Y) → (x : X) × In (z ∷ xs) x × P x y → P z y ⊎ ((x : X) × In xs x × P x y)
    from y h = from' y h.0 h.1 h.2

pub finite_some : {X Y : Type 0} (A : X → Type 0) (P : X → Y → Type 0) → Finite A → ((x : X) → A x → Finite (P x)) → Finite (λ y. (x : X) × A x × P x y)
finite_some A P s f =
    finite_iff _ _ (λ y h. (h.0, s.only h.0 h.1, h.2)) (λ y h. (h.0, s.all h.0 h.1, h.2))
    (finite_over P s.list (λ x h. f x (s.only x h)))

in_dec : {X : Type 0} → Discrete X → (xs : List X) (x : X) → Dec (In xs x)
in_dec D [] x = no (λ n. n)
in_dec D (y ∷ ys) x = go (D y x) (in_dec D ys x)
  where
    go : Dec (y ≡ x) → Dec (In ys x) → Dec (In (y ∷ ys) x)
    go (yes e) b = yes (inl e)
    go (no n) (yes h) = yes (inr h)
    go (no n) (no m) = no (λ h. elim h [ inl e ↦ n e | inr k ↦ m k ])

map_dec : {A B : Type 0} → (A → B) → (B → A) → Dec A → Dec B
map_dec f g (yes a) = yes (f a)
map_dec f g (no h) = no (λ b. h (g b))

pub finite_dec : {X : Type 0} (P : X → Type 0) → Discrete X → Finite P → (x : X) → Dec (P x)
finite_dec P D s x = map_dec (s.only x) (s.all x) (in_dec D s.list x)

list_some : {X : Type 0} (Q : X → Type 0) → ((x : X) → Dec (Q x)) → (xs : List X) → Dec ((x : X) × In xs x × Q x)
list_some Q D [] = no (λ h. h.1)
list_some {X} Q D (y ∷ ys) = go (D y) (list_some Q D ys)
  where
    out : ((Q y) → ⊥) → (((x : X) × In ys x × Q x) → ⊥) → (x : X) → In (y ∷ ys) x → Q x → ⊥
    out n m x (inl e) q = n (subst Q (sym e) q)
    out n m x (inr h) q = m (x, h, q)

    go : Dec (Q y) → Dec ((x : X) × In ys x × Q x) → Dec ((x : X) × In (y ∷ ys) x × Q x)
    go (yes q) b = yes (y, inl refl, q)
    go (no n) (yes h) = yes (h.0, inr h.1, h.2)
    go (no n) (no m) = no (λ h. out n m h.0 h.1 h.2)

pub some_dec : {X : Type 0} (P Q : X → Type 0) → Finite P → ((x : X) → Dec (Q x)) → Dec ((x : X) × P x × Q x)
some_dec P Q s D = map_dec (λ h. (h.0, s.only h.0 h.1, h.2)) (λ h. (h.0, s.all h.0 h.1, h.2)) (list_some Q D s.list)

list_bound : {X : Type 0} (f : X → ℕ) (xs : List X) → (m : ℕ) × ((x : X) → In xs x → f x < m)
list_bound f [] = (0, λ x n. absurd n)
list_bound {X} f (y ∷ ys) = more (list_bound f ys)
  where
    under : (m : ℕ) → ((x : X) → In ys x → f x < m) → (x : X) → In (y ∷ ys) x → f x < suc (f y) + m
    under m h x (inl e) = let p : f y ≡ f x = ap f e in omega arith
    under m h x (inr i) = let p : f x < m = h x i in omega arith

    more : ((m : ℕ) × ((x : X) → In ys x → f x < m)) → (m : ℕ) × ((x : X) → In (y ∷ ys) x → f x < m)
    more b = (suc (f y) + b.0, under b.0 b.1)

pub finite_bound : {X : Type 0} (P : X → Type 0) (f : X → ℕ) → Finite P → (m : ℕ) × ((x : X) → P x → f x < m)
finite_bound P f s = let b = list_bound f s.list in (b.0, λ x p. b.1 x (s.all x p))

-- numbers under a bound
below : (n : ℕ) → Finite (λ k. k < n)
below zero = finite_none _ (λ k h. omega arith)
below (suc n) = finite_iff _ _ to from (finite_or _ _ (finite_one n) (below n))
  where
    to : (k : ℕ) → (k ≡ n) ⊎ (k < n) → k < suc n
    to k h = omega arith

    from : (k : ℕ) → k < suc n → (k ≡ n) ⊎ (k < n)
    from k h = elim (ℕ_discrete k n) [ yes e ↦ inl e | no u ↦ inr (omega arith) ]

pub finite_below : (P : ℕ → Type 0) (n : ℕ) → ((k : ℕ) → P k → k < n) → ((k : ℕ) → Dec (P k)) → Finite P
finite_below P n b D = finite_iff _ _ to from (finite_some _ (λ k j. P k × (j ≡ k)) (below n) (λ k h. finite_when _ (D k) (finite_one k)))
  where
    to : (j : ℕ) → ((k : ℕ) × (k < n) × (P k × (j ≡ k))) → P j
    to j h = subst P (sym h.2.1) h.2.0

    from : (j : ℕ) → P j → (k : ℕ) × (k < n) × (P k × (j ≡ k))
    from j p = (j, b j p, (p, refl))
