-- Numbers in decimal, digit by digit.
use Rattle.std.proofs.Common.{◌≡◌, ℕ, ◌+◌, ◌-◌, ◌*◌, ◌/◌, ◌%◌, ◌<◌, ◌≤◌, List, [], ◌∷◌, ◌++◌, length, get_or, sym, refl, ap, ◌∙◌, subst, ⊎_elim, arith}
use Rattle.std.specs.List.{AllByRecursion}
use Rattle.std.proofs.lemmas.Bool.{cases_lt, le-leb, lt-leb}
use Rattle.lasso.specs.LassoTexts.{decimal, digits}

-- the number that digits spell after the number v
abbrev pub number : ℕ → List ℕ → ℕ
number v [] = v
number v (d ∷ ds) = number (v * 10 + (d - 48)) ds

number_push : (v : ℕ) (ds : List ℕ) (d : ℕ) → number v (ds ++ d ∷ []) ≡ number v ds * 10 + (d - 48)
number_push v [] d = refl
number_push v (e ∷ ds) d = number_push (v * 10 + (e - 48)) ds d

-- 0 to 9
abbrev pub Digit : ℕ → Type 0
Digit b = (48 ≤ b) × (b ≤ 57)

-- up to four digits, the first no 0 unless it stands alone
pub record Numeral (field : List ℕ) : Type 0 where
  pub some : 0 < length field
  pub few : length field ≤ 4
  pub head : 1 < length field → get_or field 0 0 ≡ 48 → ⊥
  pub digits : AllByRecursion Digit field

module _ (n : ℕ) where
  one : n < 10 → decimal n ≡ (48 + n) ∷ []
  one h =
      let a = lt-leb 1000 n (omega arith) in
      let b = lt-leb 100 n (omega arith) in
      let c = lt-leb 10 n (omega arith) in rw (a, b, c)

  two : 10 ≤ n → n < 100 → decimal n ≡ (48 + n / 10) ∷ (48 + n % 10) ∷ []
  two l h =
      let a = lt-leb 1000 n (omega arith) in
      let b = lt-leb 100 n (omega arith) in
      let c = le-leb 10 n (omega arith) in rw (a, b, c)

  three : 100 ≤ n → n < 1000 → decimal n ≡ (48 + n / 100) ∷ (48 + n / 10 % 10) ∷ (48 + n % 10) ∷ []
  three l h =
      let a = lt-leb 1000 n (omega arith) in
      let b = le-leb 100 n (omega arith) in rw (a, b)

  four : 1000 ≤ n → decimal n ≡ (48 + n / 1000) ∷ (48 + n / 100 % 10) ∷ (48 + n / 10 % 10) ∷ (48 + n % 10) ∷ []
  four l = let a = le-leb 1000 n (omega arith) in rw a

  pub digits_decimal : n < 10000 → digits n ≡ decimal n
  digits_decimal h =
      let z = lt-leb 10000 n h in
      ⊎_elim (λ a. let t = lt-leb 1000 n (omega arith) in let u = lt-leb 100 n (omega arith) in let v = lt-leb 10 n a in let e : n % 10 ≡ n = omega arith in rw (z, t, u, v) (ap (λ (d : ℕ). (48 + d) ∷ []) e))
      (λ a. ⊎_elim (λ b. let t = lt-leb 1000 n (omega arith) in let u = lt-leb 100 n b in let v = le-leb 10 n a in let e : n / 10 % 10 ≡ n / 10 = omega arith in rw (z, t, u, v) (ap (λ (d : ℕ). (48 + d) ∷ (48 + n % 10) ∷ []) e))
      (λ b. ⊎_elim (λ c. let t = lt-leb 1000 n c in let u = le-leb 100 n b in let v = le-leb 10 n a in let e : n / 100 % 10 ≡ n / 100 = omega arith in rw (z, t, u, v) (ap (λ (d : ℕ). (48 + d) ∷ (48 + n / 10 % 10) ∷ (48 + n % 10) ∷ []) e))
      (λ c. let t = le-leb 1000 n c in let u = le-leb 100 n b in let v = le-leb 10 n a in let e : n / 1000 % 10 ≡ n / 1000 = omega arith in rw (z, t, u, v) (ap (λ (d : ℕ). (48 + d) ∷ (48 + n / 100 % 10) ∷ (48 + n / 10 % 10) ∷ (48 + n % 10) ∷ []) e))
      (cases_lt n 1000))
      (cases_lt n 100))
      (cases_lt n 10)

-- the text of a number is a numeral of that number
abbrev Spells : ℕ → List ℕ → Type 0
Spells n field = Numeral field × (number 0 field ≡ n)

pub decimal_spells : (n : ℕ) → n ≤ 4095 → Numeral (decimal n) × (number 0 (decimal n) ≡ n)
decimal_spells n h =
    let tens : n / 10 / 10 ≡ n / 100 = omega arith in
    let hundreds : n / 100 / 10 ≡ n / 1000 = omega arith in
    ⊎_elim
    (λ a. subst (Spells n) (sym (one n a)) (record { some = omega arith; few = omega arith; head = λ l. absurd (omega arith); digits = ((omega arith, omega arith), tt) }, omega arith))
    (λ a. ⊎_elim
    (λ b. subst (Spells n) (sym (two n a b)) (record { some = omega arith; few = omega arith; head = λ l e. omega arith; digits = ((omega arith, omega arith), ((omega arith, omega arith), tt)) }, omega arith))
    (λ b. ⊎_elim
    (λ c. subst (Spells n) (sym (three n b c)) (record { some = omega arith; few = omega arith; head = λ l e. omega arith; digits = ((omega arith, omega arith), ((omega arith, omega arith), ((omega arith, omega arith), tt))) }, omega arith))
    (λ c. subst (Spells n) (sym (four n c)) (record { some = omega arith; few = omega arith; head = λ l e. omega arith; digits = ((omega arith, omega arith), ((omega arith, omega arith), ((omega arith, omega arith), ((omega arith, omega arith), tt)))) }, omega arith))
    (cases_lt n 1000))
    (cases_lt n 100))
    (cases_lt n 10)

-- a numeral is the text of its number
pub numeral_is : (field : List ℕ) (n : ℕ) → Numeral field → n ≡ number 0 field → field ≡ decimal n
numeral_is [] n r e = absurd (omega (arith, r.some))
numeral_is (a ∷ []) n r e =
    let p = r.digits.0 in
    let x : a ≡ 48 + n = omega arith in ap (λ (d : ℕ). d ∷ []) x ∙ sym (one n (omega arith))
numeral_is (a ∷ b ∷ []) n r e =
    let p = r.digits.0 in
    let q = r.digits.1.0 in
    let h : 48 < a = first a p (r.head (omega arith)) in
    let x : a ≡ 48 + n / 10 = omega arith in
    let y : b ≡ 48 + n % 10 = omega arith in
    ap (λ (d : ℕ). d ∷ b ∷ []) x ∙ ap (λ (d : ℕ). (48 + n / 10) ∷ d ∷ []) y ∙ sym (two n (omega arith) (omega arith))
  where
    first : (a : ℕ) → Digit a → (a ≡ 48 → ⊥) → 48 < a
    first a p ne = omega arith
numeral_is (a ∷ b ∷ c ∷ []) n r e =
    let p = r.digits.0 in
    let q = r.digits.1.0 in
    let s = r.digits.1.1.0 in
    let h : 48 < a = first a p (r.head (omega arith)) in
    let x : a ≡ 48 + n / 100 = omega arith in
    let y : b ≡ 48 + n / 10 % 10 = omega arith in
    let z : c ≡ 48 + n % 10 = omega arith in
    ap (λ (d : ℕ). d ∷ b ∷ c ∷ []) x ∙ ap (λ (d : ℕ). (48 + n / 100) ∷ d ∷ c ∷ []) y ∙ ap (λ (d : ℕ). (48 + n / 100) ∷ (48 + n / 10 % 10) ∷ d ∷ []) z
    ∙ sym (three n (omega arith) (omega arith))
  where
    first : (a : ℕ) → Digit a → (a ≡ 48 → ⊥) → 48 < a
    first a p ne = omega arith
numeral_is (a ∷ b ∷ c ∷ t ∷ []) n r e =
    let p = r.digits.0 in
    let q = r.digits.1.0 in
    let s = r.digits.1.1.0 in
    let u = r.digits.1.1.1.0 in
    let h : 48 < a = first a p (r.head (omega arith)) in
    let x : a ≡ 48 + n / 1000 = omega arith in
    let y : b ≡ 48 + n / 100 % 10 = omega arith in
    let z : c ≡ 48 + n / 10 % 10 = omega arith in
    let w : t ≡ 48 + n % 10 = omega arith in
    ap (λ (d : ℕ). d ∷ b ∷ c ∷ t ∷ []) x ∙ ap (λ (d : ℕ). (48 + n / 1000) ∷ d ∷ c ∷ t ∷ []) y
    ∙ ap (λ (d : ℕ). (48 + n / 1000) ∷ (48 + n / 100 % 10) ∷ d ∷ t ∷ []) z ∙ ap (λ (d : ℕ). (48 + n / 1000) ∷ (48 + n / 100 % 10) ∷ (48 + n / 10 % 10) ∷ d ∷ []) w
    ∙ sym (four n (omega arith))
  where
    first : (a : ℕ) → Digit a → (a ≡ 48 → ⊥) → 48 < a
    first a p ne = omega arith
numeral_is (a ∷ b ∷ c ∷ t ∷ u ∷ ds) n r e = absurd (omega (arith, r.few))

-- no field is the text of two numbers
pub decimal_same : (m n : ℕ) → m ≤ 4095 → n ≤ 4095 → decimal m ≡ decimal n → m ≡ n
decimal_same m n h l e = sym (decimal_spells m h).1 ∙ ap (number 0) e ∙ (decimal_spells n l).1
