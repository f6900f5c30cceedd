-- A text from one of its places on.
use Rattle.std.proofs.Common.{◌≡◌, ℕ, zero, suc, ◌+◌, ◌-◌, ◌<◌, ◌≤◌, Bool, true, false, eqb, List, [], ◌∷◌, ◌++◌, length, get_or, take, drop, replicate, sym, refl, ap, ◌∙◌, subst, ⊎_elim, add-zero, arith}
use Rattle.std.proofs.lemmas.List.{drop_at, drop-drop, drop_more, take_at, get_or-drop, get_or-replicate, get_or_append_left, get_or-append_right, length-append, length-drop, length-replicate}
use Rattle.std.proofs.lemmas.Bool.{cases_order, both_ways, eqb-true, eq-eqb}
use Rattle.program.specs.Names.{naming, Named}
use Rattle.program.specs.Reading.{Unnamed, Ends}
use Rattle.program.specs.Text.{factor}

pub past : (text bs rest : List ℕ) (at : ℕ) → drop at text ≡ bs ++ rest → drop (at + length bs) text ≡ rest
past text bs rest at e = sym (drop-drop (length bs) at text) ∙ ap (drop (length bs)) e ∙ drop_at bs rest (length bs) refl

inside : (text bs rest : List ℕ) (at : ℕ) → at ≤ length text → drop at text ≡ bs ++ rest → at + length bs + length rest ≡ length text
inside text bs rest at h e = omega (arith, length-drop at text, length-append bs rest, ap length e)

-- the byte at a place, and what comes after it
pub record Head (text : List ℕ) (at c : ℕ) (rest : List ℕ) : Type 0 where
  pub within : at < length text
  pub is : get_or text at 0 ≡ c
  pub after : drop (at + 1) text ≡ rest

pub head : (text rest : List ℕ) (at c : ℕ) → drop at text ≡ c ∷ rest → Head text at c rest
head text rest at c e =
    record {
      within = omega (arith, length-drop at text, ap length e);
      is = ap (λ v. get_or text v 0) (sym (add-zero at)) ∙ sym (get_or-drop at text 0 0) ∙ ap (λ l. get_or l 0 0) e;
      after = past text (c ∷ []) rest at e;
    }

pub seen : (text : List ℕ) (at c : ℕ) → at < length text → get_or text at 0 ≡ c → drop at text ≡ c ∷ drop (at + 1) text
seen text at c h e = drop_more text at 0 h ∙ ap (λ v. v ∷ drop (at + 1) text) e

-- the bytes do not begin with one of P
abbrev pub Halts : (ℕ → Type 0) → List ℕ → Type 0
Halts P [] = Unit {0}
Halts P (c ∷ bs) = P c → ⊥

-- P holds of the first r bytes, and not of the next
pub record RunOf (P : ℕ → Type 0) (xs : List ℕ) (r : ℕ) : Type 0 where
  pub within : r ≤ length xs
  pub all : (k : ℕ) → k < r → P (get_or xs k 0)
  pub stops : r < length xs → P (get_or xs r 0) → ⊥

pub run_of : (p : ℕ → Bool) (xs : List ℕ) (r : ℕ) → r ≤ length xs → ((k : ℕ) → k < r → true ≡ p (get_or xs k 0)) → (r < length xs → false ≡ p (get_or xs r 0)) → RunOf (λ c. p c ≡ true) xs r
run_of p xs r within all stops = record { within = within; all = λ k h. sym (all k h); stops = λ h t. both_ways (p (get_or xs r 0)) (sym (stops h)) t }

pub run_end : (P : ℕ → Type 0) (bs rest : List ℕ) (r : ℕ) → RunOf P (bs ++ rest) r → ((k : ℕ) → k < length bs → P (get_or bs k 0)) → Halts P rest → r ≡ length bs
run_end P bs rest r run each halts =
    let long = length-append bs rest in
    ⊎_elim (λ same. same)
    (⊎_elim
    (λ short. absurd (run.stops (omega (arith, long)) (subst P (sym (get_or_append_left bs rest 0 r short)) (each r short))))
    (λ past. absurd (stands rest halts (omega (arith, long, run.within)) (subst P (get_or-append_right bs rest (length bs) (length bs) 0 refl (omega arith)) (run.all (length bs) past)))))
    (cases_order r (length bs))
  where
    stands : (rest : List ℕ) → Halts P rest → 0 < length rest → P (get_or rest (length bs - length bs) 0) → ⊥
    stands [] h l p = omega arith
    stands (c ∷ rest) h l p = let z : length bs - length bs ≡ 0 = omega arith in h (subst (λ k. P (get_or (c ∷ rest) k 0)) z p)

-- where a name ends
pub word_end : (xs bs rest : List ℕ) (r : ℕ) → RunOf (λ c. naming c ≡ true) xs r → Named bs → xs ≡ bs ++ rest → Unnamed rest → r ≡ length bs
word_end xs bs rest r run n e un = run_end (λ c. naming c ≡ true) bs rest r (subst (λ v. RunOf (λ c. naming c ≡ true) v r) e run) n.rest (halts rest un)
  where
    halts : (rest : List ℕ) → Unnamed rest → Halts (λ c. naming c ≡ true) rest
    halts [] h = tt
    halts (c ∷ bs) h = both_ways (naming c) h

pub word_is : (xs bs rest : List ℕ) (r : ℕ) → r ≡ length bs → xs ≡ bs ++ rest → take r xs ≡ bs
word_is xs bs rest r i e = ap (take r) e ∙ take_at bs rest r (sym i)

-- the stars at the front of what is left
pub stars_of : (xs left : List ℕ) (r : ℕ) → left ≡ xs → RunOf (λ c. eqb c 42 ≡ true) left r → RunOf (λ c. c ≡ 42) xs r
stars_of xs left r e run =
    subst (λ v. RunOf (λ c. c ≡ 42) v r) e
    (record { within = run.within; all = λ k h. eqb-true _ 42 (run.all k h); stops = λ h i. run.stops h (eq-eqb _ 42 i) })

-- where the stars end
pub stars_end : (xs rest : List ℕ) (k r : ℕ) → RunOf (λ c. c ≡ 42) xs r → xs ≡ replicate k 42 ++ rest → Ends factor rest → r ≡ k
stars_end xs rest k r run e ends =
    let long : length (replicate {A = ℕ} k 42) ≡ k = length-replicate k 42 in
    run_end (λ c. c ≡ 42) (replicate k 42) rest r (subst (λ v. RunOf (λ c. c ≡ 42) v r) e run) (λ j h. get_or-replicate k j 42 0 (omega arith)) (halts rest ends) ∙ long
  where
    halts : (rest : List ℕ) → Ends factor rest → Halts (λ c. c ≡ 42) rest
    halts [] h = tt
    halts (c ∷ bs) h = λ e. ⊎_elim (λ x. omega arith) (⊎_elim (λ x. omega arith) (λ x. omega arith)) h

-- a name does not go on behind a factor, nor with stars
pub unnamed : (k : ℕ) (rest : List ℕ) → Ends factor rest → Unnamed (replicate k 42 ++ rest)
unnamed zero [] h = tt
unnamed zero (c ∷ rest) h =
    let P : ℕ → Type 0 = λ v. naming v ≡ false in
    ⊎_elim (λ e. subst P (sym e) refl) (⊎_elim (λ e. subst P (sym e) refl) (λ e. subst P (sym e) refl)) h
unnamed (suc k) rest h = refl
