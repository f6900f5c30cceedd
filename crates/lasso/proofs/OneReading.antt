-- A line has one reading, where the names declared are well formed and no two alike.
use Rattle.std.proofs.Common.{◌≡◌, ℕ, zero, suc, ◌+◌, ◌*◌, ◌/◌, ◌%◌, ◌^◌, ◌<◌, ◌≤◌, Bool, true, ◌&&◌, eqb, ltb, leb, List, [], ◌∷◌, length, get_or, sym, refl, ap, ◌∙◌, subst, ⊎_elim, zero-add, arith}
use Rattle.std.specs.List.{AllByRecursion}
use Rattle.std.proofs.lemmas.Nat.{pow_below, pow_pos, div-add-mod', mod_below}
use Rattle.std.proofs.ByRecursion.{All-get_or}
use Rattle.std.proofs.lemmas.Bool.{and_parts, ltb-true, leb-true, eqb-true, eq-eqb, ne_eqb, cases_lt, cases_eq, cases_order, cond-true, cond-false, true≢false, false≢true}
use Rattle.program.specs.Masks.{Bit}
use Rattle.program.specs.Names.{Named}
use Rattle.program.specs.Spellings.{Missing, NumberIn}
use Rattle.program.proofs.Bits.{bit_past}
use Rattle.lasso.specs.Lassos.{fits}
use Rattle.lasso.specs.LassoTexts.{Words, words_of, marked}
use Rattle.lasso.specs.LassoLines.{Apart, Ordered, Shaped, Unknown, Faulty, shape, naming, Reads}
use Rattle.lasso.specs.Sessions.{bit_of}
use Rattle.lasso.specs.Parts.{is_stem}
use Rattle.lasso.specs.declared.part.Part.{Part}
use Rattle.lasso.specs.declared.part.Part.TheVariants.{Stem, Loop}
use Rattle.lasso.specs.declared.scan.StepLine.{StepLine}
use Rattle.lasso.specs.declared.step.Step.{Step}
use Rattle.lasso.proofs.Subsets.{subset_le}
use Rattle.lasso.proofs.Worded.{worded_same}

-- where bit q is set the list goes on with x, else without it
marked_cases : (P : List (List ℕ) → Type 0) (x : List ℕ) (xs : List (List ℕ)) (q m : ℕ)
    → (Bit m q → P (x ∷ marked xs (suc q) m)) → ((Bit m q → ⊥) → P (marked xs (suc q) m)) → P (marked (x ∷ xs) q m)
marked_cases P x xs q m yes' no' =
    ⊎_elim (λ e. subst P (sym (cond-true (bit_of m q) _ _ (eq-eqb _ 1 e))) (yes' e)) (λ e. subst P (sym (cond-false (bit_of m q) _ _ (ne_eqb _ 1 e))) (no' e)) (cases_eq (m / 2 ^ q % 2) 1)

-- a name that is marked is a name of the list, and its bit is set
Placed : List (List ℕ) → ℕ → ℕ → List ℕ → Type 0
Placed xs q m n = (k : ℕ) × (k < length xs) × (n ≡ get_or xs k []) × Bit m (q + k)

placed_next : (x : List ℕ) (xs : List (List ℕ)) (q m : ℕ) (n : List ℕ) → Placed xs (suc q) m n → Placed (x ∷ xs) q m n
unfolding Placed
placed_next x xs q m n p = (suc p.0, omega (arith, p.1), p.2, subst (Bit m) (let k = p.0 in omega arith) p.3)

marked_place : (xs : List (List ℕ)) (q m i : ℕ) → i < length (marked xs q m) → Placed xs q m (get_or (marked xs q m) i [])
unfolding Placed
marked_place [] q m i = λ h. absurd (omega arith)
marked_place (x ∷ xs) q m i =
    marked_cases (λ l. i < length l → Placed (x ∷ xs) q m (get_or l i [])) x xs q m (λ b. here (λ j h. marked_place xs (suc q) m j h) b i) (λ b h. placed_next x xs q m _ (marked_place xs (suc q) m i h))
  where
    here : ((j : ℕ) → j < length (marked xs (suc q) m) → Placed xs (suc q) m (get_or (marked xs (suc q) m) j [])) → Bit m q → (i : ℕ) → i < length (x ∷ marked xs (suc q) m) → Placed (x ∷ xs) q m (get_or (x ∷ marked xs (suc q) m) i [])
    here ih b zero h = (0, omega arith, refl, subst (Bit m) (omega arith) b)
    here ih b (suc j) h = placed_next x xs q m _ (ih j (omega arith))

-- marks stand in the list's order
InTurn : List (List ℕ) → List ℕ → List ℕ → Type 0
InTurn xs n o = (k : ℕ) × (l : ℕ) × (k < l) × (l < length xs) × (n ≡ get_or xs k []) × (o ≡ get_or xs l [])

turn_next : (x : List ℕ) (xs : List (List ℕ)) (n o : List ℕ) → InTurn xs n o → InTurn (x ∷ xs) n o
unfolding InTurn
turn_next x xs n o p = (suc p.0, suc p.1, omega (arith, p.2), omega (arith, p.3), p.4, p.5)

marked_turn : (xs : List (List ℕ)) (q m i j : ℕ) → i < j → j < length (marked xs q m) → InTurn xs (get_or (marked xs q m) i []) (get_or (marked xs q m) j [])
unfolding InTurn Placed
marked_turn [] q m i j h = λ l. absurd (omega arith)
marked_turn (x ∷ xs) q m i j h =
    marked_cases (λ v. j < length v → InTurn (x ∷ xs) (get_or v i []) (get_or v j [])) x xs q m (λ b. here (λ i j h l. marked_turn xs (suc q) m i j h l) i j h) (λ b l. turn_next x xs _ _ (marked_turn xs (suc q) m i j h l))
  where
    here : ((i j : ℕ) → i < j → j < length (marked xs (suc q) m) → InTurn xs (get_or (marked xs (suc q) m) i []) (get_or (marked xs (suc q) m) j []))
        → (i j : ℕ) → i < j → j < length (x ∷ marked xs (suc q) m) → InTurn (x ∷ xs) (get_or (x ∷ marked xs (suc q) m) i []) (get_or (x ∷ marked xs (suc q) m) j [])
    here ih i zero h l = absurd (omega arith)
    here ih zero (suc j) h l = let p = marked_place xs (suc q) m j (omega arith) in (0, suc p.0, omega arith, omega (arith, p.1), refl, p.2)
    here ih (suc i) (suc j) h l = turn_next x xs _ _ (ih i j (omega arith) (omega arith))

-- a name whose bit is set is marked
marked_has : (xs : List (List ℕ)) (q m k : ℕ) → k < length xs → Bit m (q + k) → (i : ℕ) × (i < length (marked xs q m)) × (get_or (marked xs q m) i [] ≡ get_or xs k [])
marked_has [] q m k h b = absurd (omega arith)
marked_has (x ∷ xs) q m zero h b =
    marked_cases (λ v. (i : ℕ) × (i < length v) × (get_or v i [] ≡ x)) x xs q m (λ e. (0, omega arith, refl)) (λ e. absurd (e (subst (Bit m) (omega arith) b)))
marked_has (x ∷ xs) q m (suc k) h b =
    let r = marked_has xs (suc q) m k (omega arith) (subst (Bit m) (omega arith) b) in
    marked_cases (λ v. (i : ℕ) × (i < length v) × (get_or v i [] ≡ get_or xs k [])) x xs q m (λ e. (suc r.0, omega (arith, r.1), r.2)) (λ e. r)

pub marked_all : (P : List ℕ → Type 0) (xs : List (List ℕ)) (q m : ℕ) → AllByRecursion P xs → AllByRecursion P (marked xs q m)
marked_all P [] q m h = tt
marked_all P (x ∷ xs) q m h = let r = marked_all P xs (suc q) m h.1 in marked_cases (AllByRecursion P) x xs q m (λ e. (h.0, r)) (λ e. r)

-- a name that is marked is declared
pub marked_known : (props : List (List ℕ)) (m i : ℕ) → i < length (marked props 0 m) → Missing props (get_or (marked props 0 m) i []) → ⊥
unfolding Placed
marked_known props m i h miss = let p = marked_place props 0 m i h in miss p.0 p.1 (sym p.2)

-- the stem is one part and the loop the other
pub part_same : (a b : Part) → is_stem a ≡ is_stem b → a ≡ b
part_same Stem Stem e = refl
part_same Loop Loop e = refl
part_same Stem Loop e = absurd (true≢false e)
part_same Loop Stem e = absurd (false≢true e)

module _ (acts props : List (List ℕ)) where
  pub reads_fine : (line : List ℕ) (s : StepLine) {code : ℕ} → Reads acts props line s → Faulty acts props line code → ⊥
  reads_fine line s x (shape h) = h (words_of acts props (is_stem s.part) s.step) x.shaped x.text
  reads_fine line s x (naming w sh is u) = x.known (subst (Unknown acts props) (worded_same w _ sh x.shaped (sym is ∙ x.text)) u)

  pub faulty_same : (line : List ℕ) {m n : ℕ} → Faulty acts props line m → Faulty acts props line n → m ≡ n
  faulty_same line (shape x) (shape y) = refl
  faulty_same line (shape x) (naming w s e u) = absurd (x w s e)
  faulty_same line (naming w s e u) (shape x) = absurd (x w s e)
  faulty_same line (naming w s e u) (naming v t f x) = refl

  -- a line has one kind
  pub kind_same : (line : List ℕ) (s t : StepLine) → Reads acts props line s → Reads acts props line t → s.part ≡ t.part
  kind_same line s t x y = part_same s.part t.part (ap (λ (v : Words). v.in_stem) (worded_same _ _ x.shaped y.shaped (sym x.text ∙ y.text)))

module _ (names : List (List ℕ)) (a : Apart names) where
  -- places of one name are one place
  pub place_same : (i j : ℕ) → i < length names → j < length names → get_or names i [] ≡ get_or names j [] → i ≡ j
  place_same i j h l e = ⊎_elim (λ x. x) (⊎_elim (λ x. absurd (a.apart i j x l e)) (λ x. absurd (a.apart j i x h (sym e)))) (cases_order i j)

  number_at : (n : List ℕ) (k b : ℕ) → k < length names → n ≡ get_or names k [] → NumberIn names n b → b ≡ k
  number_at n k b h e x = place_same b k x.0 h (x.1 ∙ e)

  marked_ordered : (m : ℕ) → Ordered names (marked names 0 m)
  unfolding InTurn
  marked_ordered m i j p q h l x y =
      let t = marked_turn names 0 m i j h l in
      let k = number_at _ t.0 p (omega (arith, t.2, t.3)) t.4 x in
      let o = number_at _ t.1 q t.3 t.5 y in omega (arith, t.2)

  mask_inside : (m n : ℕ) → marked names 0 m ≡ marked names 0 n → m < 2 ^ length names → (p : ℕ) → Bit m p → Bit n p
  unfolding Placed
  mask_inside m n e small p b =
      ⊎_elim
      (λ h.
      let s = marked_has names 0 m p h (subst (Bit m) (omega arith) b) in
      let P : List (List ℕ) → Type 0 = λ l. (s.0 < length l) × (get_or l s.0 [] ≡ get_or names p []) in
      let r = subst P e (s.1, s.2) in
      let k = marked_place names 0 n s.0 r.0 in
      subst (Bit n) (zero-add k.0 ∙ sym (place_same p k.0 h k.1 (sym r.1 ∙ k.2))) k.3)
      (λ h. absurd (bit_past m p (past m (length names) p h small) b))
      (cases_lt p (length names))
    where
      past : (m l p : ℕ) → l ≤ p → m < 2 ^ l → m < 2 ^ p
      past m l p h s = ⊎_elim (λ x. subst (λ (k : ℕ). m < 2 ^ k) x s) (λ x. let w = pow_below l p (omega arith) in omega arith) (cases_eq l p)

  -- one set of marks has one mask
  mask_same : (m n : ℕ) → marked names 0 m ≡ marked names 0 n → m < 2 ^ length names → n < 2 ^ length names → m ≡ n
  mask_same m n e h l =
      let a = subset_le m n (mask_inside m n e h) in
      let b = subset_le n m (mask_inside n m (sym e) l) in omega arith

below_power : (m k : ℕ) → m / 2 ^ k ≡ 0 → m < 2 ^ k
below_power m k z = let e = div-add-mod' m (2 ^ k) in let h = mod_below m (2 ^ k) (pow_pos k) in go (m / 2 ^ k) (m % 2 ^ k) z e h
  where
    go : (q r : ℕ) → q ≡ 0 → q * 2 ^ k + r ≡ m → r < 2 ^ k → m < 2 ^ k
    go q r z e h = let f : 0 * 2 ^ k + r ≡ m = subst (λ (v : ℕ). v * 2 ^ k + r ≡ m) z e in omega arith

-- a declared step
pub record Fit (acts props : ℕ) (s : Step) : Type 0 where
  pub action : s.action < acts
  pub state : s.state ≤ 4095
  pub marks : s.marks < 2 ^ props

pub fit_parts : (acts props : ℕ) (s : Step) → fits acts props s ≡ true → Fit acts props s
fit_parts acts props s e =
    let x = and_parts (ltb s.action acts) (leb s.state 4095 && eqb (s.marks / 2 ^ props) 0) e in
    let y = and_parts (leb s.state 4095) (eqb (s.marks / 2 ^ props) 0) x.1 in
    record { action = ltb-true s.action acts x.0; state = leb-true s.state 4095 y.0; marks = below_power s.marks props (eqb-true _ 0 y.1) }

module _ (acts props : List (List ℕ)) (a : Apart acts) (b : Apart props) where
  -- the words of a declared step make a line
  pub words_shaped : (k : Bool) (s : Step) → fits (length acts) (length props) s ≡ true → Shaped props (words_of acts props k s)
  words_shaped k s e =
      let f = fit_parts (length acts) (length props) s e in
      record {
        action = All-get_or Named acts s.action [] f.action a.named;
        state = f.state;
        marks = marked_all Named props 0 s.marks b.named;
        ordered = marked_ordered props b s.marks;
      }

  pub words_known : (k : Bool) (s : Step) → fits (length acts) (length props) s ≡ true → Unknown acts props (words_of acts props k s) → ⊥
  words_known k s e u =
      ⊎_elim (λ miss. miss s.action (fit_parts (length acts) (length props) s e).action refl) (λ miss. marked_known props s.marks miss.0 miss.1 miss.2) u

  pub reads_same : (line : List ℕ) (s t : StepLine) → Reads acts props line s → Reads acts props line t → s ≡ t
  reads_same line s t x y =
      let f = fit_parts (length acts) (length props) s.step x.fit in
      let g = fit_parts (length acts) (length props) t.step y.fit in
      let w : words_of acts props (is_stem s.part) s.step ≡ words_of acts props (is_stem t.part) t.step =
      worded_same _ _ x.shaped y.shaped (sym x.text ∙ y.text) in
      let k : s.part ≡ t.part = part_same s.part t.part (ap (λ (v : Words). v.in_stem) w) in
      let o : s.step.action ≡ t.step.action =
      place_same acts a s.step.action t.step.action f.action g.action (ap (λ (v : Words). v.action) w) in
      let n : s.step.state ≡ t.step.state = ap (λ (v : Words). v.state) w in
      let m : s.step.marks ≡ t.step.marks =
      mask_same props b s.step.marks t.step.marks (ap (λ (v : Words). v.marks) w) f.marks g.marks in
      λ i. record { step = record { state = n i; action = o i; marks = m i }; part = k i }
