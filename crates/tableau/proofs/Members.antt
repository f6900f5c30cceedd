-- Membership and distinctness of lists by their structure, and counting with them.
use Rattle.std.proofs.Common.{◌≡◌, ℕ, zero, suc, ◌<◌, ◌≤◌, ◌⊎◌, List, [], ◌∷◌, ◌++◌, length, get_or, sym, refl, ap, ◌∙◌, subst, inl, inr, suc-le-suc, zero-le, arith}
use native.Mathlib.Bridge.{unsuc}
use Rattle.std.specs.List.{ContainsAt as Has}
use Rattle.tableau.specs.Graphs.{Lists}

abbrev pub In : {A : Type 0} → List A → A → Type 0
In [] x = ⊥
In (y ∷ ys) x = (y ≡ x) ⊎ In ys x

abbrev pub Apart : {A : Type 0} → List A → Type 0
Apart [] = Unit {0}
Apart (x ∷ xs) = (In xs x → ⊥) × Apart xs

pub has : {A : Type 0} (xs : List A) (x : A) → In xs x → Has xs x
has [] x m = absurd m
has (y ∷ ys) x (inl e) = (0, omega arith, λ d. e)
has (y ∷ ys) x (inr m) = let k = has ys x m in (suc k.0, suc-le-suc k.1, k.2)

pub at : {A : Type 0} (xs : List A) (k : ℕ) (z x : A) → k < length xs → get_or xs k z ≡ x → In xs x
at [] k z x h e = absurd (omega arith)
at (y ∷ ys) zero z x h e = inl e
at (y ∷ ys) (suc k) z x h e = inr (at ys k z x (unsuc h) e)

pub member : {A : Type 0} (xs : List A) (x : A) → Has xs x → In xs x
member xs x h = at xs h.0 x x h.1 (h.2 x)

-- the entry at a place, with no default
pub entry : {A : Type 0} (xs : List A) (k : ℕ) → k < length xs → (x : A) × ((z : A) → get_or xs k z ≡ x)
entry [] k h = absurd (omega arith)
entry (y ∷ ys) zero h = (y, λ z. refl)
entry (y ∷ ys) (suc k) h = entry ys k (unsuc h)

pub in_left : {A : Type 0} (xs ys : List A) (x : A) → In xs x → In (xs ++ ys) x
in_left [] ys x m = absurd m
in_left (z ∷ xs) ys x (inl e) = inl e
in_left (z ∷ xs) ys x (inr m) = inr (in_left xs ys x m)

pub in_right : {A : Type 0} (xs ys : List A) (x : A) → In ys x → In (xs ++ ys) x
in_right [] ys x m = m
in_right (z ∷ xs) ys x m = inr (in_right xs ys x m)

pub in_either : {A : Type 0} (xs ys : List A) (x : A) → In (xs ++ ys) x → In xs x ⊎ In ys x
in_either [] ys x m = inr m
in_either (z ∷ xs) ys x (inl e) = inl (inl e)
in_either (z ∷ xs) ys x (inr m) = elim (in_either xs ys x m) [ inl k ↦ inl (inr k) | inr k ↦ inr k ]

pub apart_append : {A : Type 0} (xs ys : List A) → Apart xs → Apart ys → ((x : A) → In xs x → In ys x → ⊥) → Apart (xs ++ ys)
apart_append [] ys a b c = b
apart_append (x ∷ xs) ys a b c = (
  (λ m. elim (in_either xs ys x m) [ inl k ↦ a.0 k | inr k ↦ c x (inl refl) k ]),
  apart_append xs ys a.1 b (λ y k. c y (inr k)),
)

abbrev pub Once : {A : Type 0} → List A → Type 0
Once {A} xs = (i j : ℕ) (z : A) → i < j → j < length xs → get_or xs i z ≡ get_or xs j z → ⊥

pub apart : {A : Type 0} (xs : List A) → Once xs → Apart xs
apart [] o = tt
apart (x ∷ xs) o = (
  (λ m. let k = has xs x m in o 0 (suc k.0) x (omega arith) (suc-le-suc k.1) (sym (k.2 x))),
  apart xs (λ i j z l h e. o (suc i) (suc j) z (suc-le-suc l) (suc-le-suc h) e),
)

pub once : {A : Type 0} (xs : List A) → Apart xs → Once xs
once [] a i j z l h e = absurd (omega arith)
once (x ∷ xs) a zero zero z l h e = absurd (omega arith)
once (x ∷ xs) a zero (suc j) z l h e = a.0 (at xs j z x (unsuc h) (sym e))
once (x ∷ xs) a (suc i) zero z l h e = absurd (omega arith)
once (x ∷ xs) a (suc i) (suc j) z l h e = once xs a.1 i j z (unsuc l) (unsuc h) e

-- equal entries of a list of distinct ones stand at one place
pub same_place : {A : Type 0} (xs : List A) → Apart xs → (i j : ℕ) (z : A) → i < length xs → j < length xs → get_or xs i z ≡ get_or xs j z → i ≡ j
same_place [] a i j z h k e = absurd (omega arith)
same_place (x ∷ xs) a zero zero z h k e = refl
same_place (x ∷ xs) a zero (suc j) z h k e = absurd (a.0 (at xs j z x (unsuc k) (sym e)))
same_place (x ∷ xs) a (suc i) zero z h k e = absurd (a.0 (at xs i z x (unsuc h) e))
same_place (x ∷ xs) a (suc i) (suc j) z h k e = ap suc (same_place xs a.1 i j z (unsuc h) (unsuc k) e)

pub lists : {A : Type 0} (xs : List A) (P : A → Type 0) → ((x : A) → In xs x → P x) → ((x : A) → P x → In xs x) → Apart xs → Lists xs P
lists xs P f g a = record { only = λ x h. f x (member xs x h); all = λ x h. has xs x (g x h); once = once xs a }

-- a list without one entry that it has
without : {A : Type 0} (xs : List A) (x : A) → In xs x
    → (ys : List A) × (length xs ≡ suc (length ys)) × ((y : A) → In xs y → (x ≡ y) ⊎ In ys y)
without [] x m = absurd m
without (z ∷ zs) x (inl e) = (zs, refl, λ y k. elim k [ inl f ↦ inl (sym e ∙ f) | inr k ↦ inr k ])
without (z ∷ zs) x (inr m) =
    let r = without zs x m in (
      z ∷ r.0,
      ap suc r.1,
      λ y k. elim k [ inl f ↦ inr (inl f) | inr k ↦ elim (r.2 y k) [ inl f ↦ inl f | inr n ↦ inr (inr n) ] ],
    )

-- different entries of one list have different partners in another, so the other is as long
pub pigeon : {A B : Type 0} (R : A → B → Type 0) (xs : List A) (ys : List B) → Apart xs
    → ((x : A) → In xs x → (y : B) × In ys y × R x y)
    → ((x w : A) (y : B) → R x y → R w y → x ≡ w)
    → length xs ≤ length ys
pigeon R [] ys a f g = zero-le
pigeon {A} R (x ∷ xs) ys a f g =
    let s = f x (inl refl) in
    let r = without ys s.0 s.1 in
    let h = pigeon R xs r.0 a.1
    (λ w m. let t = f w (inr m) in
    elim (r.2 t.0 t.1) [
      | inl e ↦ absurd (a.0 (subst (In xs) (g w x s.0 (subst (R w) (sym e) t.2) s.2) m))
      | inr k ↦ (t.0, k, t.2)
    ])
    g in
    let e = r.1 in
    omega arith

-- the entries of a list that have a property
pub record Part {A : Type 0} (P : A → Type 0) (xs : List A) : Type 0 where
  pub part : List A
  pub distinct : Apart part
  pub sound : (x : A) → In part x → In xs x × P x
  pub whole : (x : A) → In xs x → P x → In part x

-- it is not so that there is no such list
pub parted : {A : Type 0} (P : A → Type 0) (xs : List A) → Apart xs → (Part P xs → ⊥) → ⊥
parted P [] a k = k (record { part = []; distinct = tt; sound = λ x m. absurd m; whole = λ x m. absurd m })
parted P (x ∷ xs) a k = parted P xs a.1 λ s.
    let fails : P x → ⊥ = λ h. k (record {
      part = x ∷ s.part;
      distinct = ((λ m. a.0 (s.sound x m).0), s.distinct);
      sound = λ y m. elim m [ inl e ↦ (inl e, subst P e h) | inr m ↦ (inr (s.sound y m).0, (s.sound y m).1) ];
      whole = λ y m q. elim m [ inl e ↦ inl e | inr m ↦ inr (s.whole y m q) ];
    }) in
    k (record {
      part = s.part;
      distinct = s.distinct;
      sound = λ y m. (inr (s.sound y m).0, (s.sound y m).1);
      whole = λ y m q. elim m [ inl e ↦ absurd (fails (subst P (sym e) q)) | inr m ↦ s.whole y m q ];
    })

-- what is never missing of an entry is not missing of all at once
pub none_missing : {A : Type 0} (P : A → Type 0) (xs : List A) → ((x : A) → In xs x → (P x → ⊥) → ⊥) → (((x : A) → In xs x → P x) → ⊥) → ⊥
none_missing P [] f k = k (λ x m. absurd m)
none_missing P (x ∷ xs) f k = none_missing P xs (λ y m. f y (inr m)) λ h. f x (inl refl) λ p.
    k (λ y m. elim m [ inl e ↦ subst P e p | inr m ↦ h y m ])
