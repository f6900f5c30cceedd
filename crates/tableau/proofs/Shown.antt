-- The first entries of a table, shown one by one.
use Rattle.std.proofs.Common.{◌≡◌, ℕ, ◌+◌, ◌-◌, ◌<◌, ◌≤◌, List, ◌++◌, map, length, get_or, take, drop, sym, ap, ◌∙◌, inl, inr, arith}
use Rattle.std.proofs.lemmas.List.{length-map, length-take-le, length-drop, length-append, get_or-map, get_or-take, get_or-drop, get_or_append_left, get_or-append_right, ext_get_or}
use Rattle.std.proofs.lemmas.Bool.{cases_lt}
use Rattle.tableau.proofs.Members.{In, Apart, has, at, apart}

-- the first n entries, shown
abbrev pub shown : {A B : Type 0} → (A → B) → List A → ℕ → List B
shown f xs n = map f (take n xs)

-- those from n up to m
abbrev pub shown_from : {A B : Type 0} → (A → B) → List A → ℕ → ℕ → List B
shown_from f xs n m = map f (take (m - n) (drop n xs))

pub length_shown : {A B : Type 0} (f : A → B) (xs : List A) (n : ℕ) → n ≤ length xs → length (shown f xs n) ≡ n
length_shown f xs n h = length-map (take n xs) f ∙ length-take-le n xs h

pub at_shown : {A B : Type 0} (f : A → B) (xs : List A) (n k : ℕ) (w : A) (z : B) → n ≤ length xs → k < n → get_or (shown f xs n) k z ≡ f (get_or xs k w)
at_shown f xs n k w z h l =
    let e = length-take-le n xs h in
    get_or-map f (take n xs) k w z (omega arith) ∙ ap f (get_or-take n xs k w l)

pub in_shown : {A B : Type 0} (f : A → B) (xs : List A) (n k : ℕ) (w : A) → n ≤ length xs → k < n → In (shown f xs n) (f (get_or xs k w))
in_shown f xs n k w h l = let e = length_shown f xs n h in at (shown f xs n) k (f w) (f (get_or xs k w)) (omega arith) (at_shown f xs n k w (f w) h l)

pub shown_place : {A B : Type 0} (f : A → B) (xs : List A) (n : ℕ) (w : A) (y : B) → n ≤ length xs → In (shown f xs n) y → (k : ℕ) × (k < n) × (f (get_or xs k w) ≡ y)
shown_place f xs n w y h m =
    let t = has (shown f xs n) y m in
    let e = length_shown f xs n h in
    let l = t.1 in
    let low : t.0 < n = omega arith in
    (t.0, low, sym (at_shown f xs n t.0 w y h low) ∙ t.2 y)

pub length_shown_from : {A B : Type 0} (f : A → B) (xs : List A) (n m : ℕ) → n ≤ m → m ≤ length xs → length (shown_from f xs n m) ≡ m - n
length_shown_from f xs n m l h =
    let e = length-drop n xs in
    length-map (take (m - n) (drop n xs)) f ∙ length-take-le (m - n) (drop n xs) (omega arith)

pub at_shown_from : {A B : Type 0} (f : A → B) (xs : List A) (n m k : ℕ) (w : A) (z : B) → n ≤ m → m ≤ length xs → k < m - n → get_or (shown_from f xs n m) k z ≡ f (get_or xs (n + k) w)
at_shown_from f xs n m k w z l h b =
    let e = length-drop n xs in
    let t = length-take-le (m - n) (drop n xs) (omega arith) in
    get_or-map f (take (m - n) (drop n xs)) k w z (omega arith) ∙ ap f (get_or-take (m - n) (drop n xs) k w b ∙ get_or-drop n xs k w)

pub in_shown_from : {A B : Type 0} (f : A → B) (xs : List A) (n m k : ℕ) (w : A) → n ≤ k → k < m → m ≤ length xs → In (shown_from f xs n m) (f (get_or xs k w))
in_shown_from f xs n m k w low high h =
    let e = length_shown_from f xs n m (omega arith) h in
    let back : n + (k - n) ≡ k = omega arith in
    at (shown_from f xs n m) (k - n) (f w) (f (get_or xs k w)) (omega arith) (at_shown_from f xs n m (k - n) w (f w) (omega arith) h (omega arith) ∙ ap (λ v. f (get_or xs v w)) back)

pub shown_from_place : {A B : Type 0} (f : A → B) (xs : List A) (n m : ℕ) (w : A) (y : B) → n ≤ m → m ≤ length xs → In (shown_from f xs n m) y → (k : ℕ) × (n ≤ k) × (k < m) × (f (get_or xs k w) ≡ y)
shown_from_place f xs n m w y l h i =
    let t = has (shown_from f xs n m) y i in
    let e = length_shown_from f xs n m l h in
    let b = t.1 in
    (n + t.0, omega arith, omega arith, sym (at_shown_from f xs n m t.0 w y l h (omega arith)) ∙ t.2 y)

-- more entries than before: those that stayed, and the new ones
pub shown_more : {A B : Type 0} (f : A → B) (xs ys : List A) (n m : ℕ) (w : A) → n ≤ m → n ≤ length xs → m ≤ length ys → ((k : ℕ) → k < n → f (get_or ys k w) ≡ f (get_or xs k w)) → shown f ys m ≡ shown f xs n ++ shown_from f ys n m
shown_more f xs ys n m w l hx hy kept =
    let a = length_shown f ys m hy in
    let b = length_shown f xs n hx in
    let c = length_shown_from f ys n m l hy in
    let s = length-append (shown f xs n) (shown_from f ys n m) in
    ext_get_or (f w) (shown f ys m) (shown f xs n ++ shown_from f ys n m) (omega arith)
    (λ k h. elim (cases_lt k n) [
      | inl low ↦ at_shown f ys m k w (f w) hy (omega arith) ∙ kept k low ∙ sym (at_shown f xs n k w (f w) hx low) ∙ sym (get_or_append_left (shown f xs n) (shown_from f ys n m) (f w) k (omega arith))
      | inr high ↦
          let back : n + (k - n) ≡ k = omega arith in
          at_shown f ys m k w (f w) hy (omega arith) ∙ ap (λ v. f (get_or ys v w)) (sym back) ∙ sym (at_shown_from f ys n m (k - n) w (f w) l hy (omega arith))
          ∙ sym (get_or-append_right (shown f xs n) (shown_from f ys n m) n k (f w) b high)
    ])

-- entries that stay are shown as before
pub shown_same : {A B : Type 0} (f : A → B) (xs ys : List A) (n : ℕ) (w : A) → n ≤ length xs → n ≤ length ys → ((k : ℕ) → k < n → f (get_or ys k w) ≡ f (get_or xs k w)) → shown f ys n ≡ shown f xs n
shown_same f xs ys n w hx hy kept =
    let a = length_shown f ys n hy in
    let b = length_shown f xs n hx in
    ext_get_or (f w) (shown f ys n) (shown f xs n) (omega arith) (λ k h. at_shown f ys n k w (f w) hy (omega arith) ∙ kept k (omega arith) ∙ sym (at_shown f xs n k w (f w) hx (omega arith)))

-- entries that differ stand once
pub apart_shown : {A B : Type 0} (f : A → B) (xs : List A) (n : ℕ) (w : A) → n ≤ length xs → ((j k : ℕ) → j < k → k < n → f (get_or xs j w) ≡ f (get_or xs k w) → ⊥) → Apart (shown f xs n)
apart_shown f xs n w h differ =
    let e = length_shown f xs n h in
    apart (shown f xs n) (λ i j z l b same. differ i j l (omega arith) (sym (at_shown f xs n i w z h (omega arith)) ∙ same ∙ at_shown f xs n j w z h (omega arith)))

pub apart_shown_from : {A B : Type 0} (f : A → B) (xs : List A) (n m : ℕ) (w : A) → n ≤ m → m ≤ length xs → ((j k : ℕ) → n ≤ j → j < k → k < m → f (get_or xs j w) ≡ f (get_or xs k w) → ⊥) → Apart (shown_from f xs n m)
apart_shown_from f xs n m w l h differ =
    let e = length_shown_from f xs n m l h in
    apart (shown_from f xs n m) (λ i j z less b same. differ (n + i) (n + j) (omega arith) (omega arith) (omega arith) (sym (at_shown_from f xs n m i w z l h (omega arith)) ∙ same ∙ at_shown_from f xs n m j w z l h (omega arith)))
