-- Marks read name by name, and the mask that stands for them.
use Rattle.std.proofs.Common.{◌≡◌, ℕ, suc, ◌+◌, ◌^◌, ◌<◌, ◌≤◌, Bool, true, false, cond, eqb, ◌⊎◌, ◌↔◌, List, [], ◌∷◌, ◌++◌, length, get_or, take, drop, Some, None, sym, refl, ap, ◌∙◌, subst, inl, inr, ⊎_elim, append-nil, arith}
use lib.Bits.{bit_or}
use Rattle.std.specs.List.{AllByRecursion, slice_split}
use Rattle.std.specs.Option.{option_map}
use Rattle.std.proofs.lemmas.Nat.{pow_below, or_lt}
use Rattle.std.proofs.ByRecursion.{All-append, All-get_or}
use Rattle.std.proofs.lemmas.List.{take-append-drop, take_more, take_all, drop_more, take-take, length-take-le, get_or_append_left, get_or_push, get_or_at, length_push, length-append}
use Rattle.std.proofs.lemmas.Bool.{cases_lt, cases_eq, cases_order, cond-false, ne_eqb, eq-eqb}
use Rattle.std.proofs.lemmas.Bool.Decides.{Decides-eqb, Decides-like, same_from_decides}
use Rattle.program.specs.Masks.{Bit}
use Rattle.program.specs.Names.{Named}
use Rattle.program.specs.Spellings.{Missing, NumberIn}
use Rattle.program.proofs.Bits.{bit_of_or, bit_one, bit_past}
use Rattle.document.specs.Texts.{pieces}
use Rattle.document.proofs.Pieces.{pieces_some}
use Rattle.lasso.specs.LassoTexts.{marked, joined}
use Rattle.lasso.specs.MarkFields.{AddsMark, RefusesMark, MarksRead, NoMarks}
use Rattle.lasso.specs.LassoLines.{Ordered}
use Rattle.lasso.specs.Sessions.{bit_of}
use Rattle.lasso.specs.declared.scan.Marks.{Marks}
use Rattle.lasso.proofs.Lines.{marked_more}
use Rattle.lasso.proofs.Options.{mapped, unmapped}
use Rattle.lasso.proofs.Splits.{together, together_is, pieces_split}
use Rattle.lasso.proofs.Worded.{joined_pieces}

-- a name has one number
pub number_same : (names : List (List ℕ)) (n : List ℕ) (a b : ℕ) → NumberIn names n a → NumberIn names n b → a ≡ b
number_same names n a b x y =
    ⊎_elim (λ e. e) (⊎_elim (λ l. absurd (y.2 a l x.1)) (λ l. absurd (x.2 b l y.1))) (cases_order a b)

pub number_not_missing : (names : List (List ℕ)) (n : List ℕ) (a : ℕ) → NumberIn names n a → Missing names n → ⊥
number_not_missing names n a x m = m a x.0 x.1

pub bit_same : (m k i : ℕ) → Bit m i ↔ Bit k i → bit_of m i ≡ bit_of k i
bit_same m k i s = same_from_decides (bit_of m i) (bit_of k i) (Decides-like (bit_of m i) s.0 s.1 (Decides-eqb _ 1)) (Decides-eqb _ 1)

pub marked_same : (xs : List (List ℕ)) (q m k : ℕ) → ((i : ℕ) → q ≤ i → i < q + length xs → bit_of m i ≡ bit_of k i) → marked xs q m ≡ marked xs q k
marked_same [] q m k h = refl
marked_same (x ∷ xs) q m k h =
    let rest = marked_same xs (suc q) m k (λ i l b. h i (omega arith) (omega arith)) in
    ap (λ (t : Bool). cond t (x ∷ marked xs (suc q) m) (marked xs (suc q) m)) (h q (omega arith) (omega arith))
    ∙ ap (λ (l : List (List ℕ)). cond (bit_of k q) (x ∷ l) l) rest

marked_clear : (xs : List (List ℕ)) (q m : ℕ) → m < 2 ^ q → marked xs q m ≡ []
marked_clear [] q m h = refl
marked_clear (x ∷ xs) q m h =
    let up = pow_below q (suc q) (omega arith) in
    cond-false (bit_of m q) _ _ (ne_eqb _ 1 (bit_past m q h)) ∙ marked_clear xs (suc q) m (omega arith)

marked_append : (xs ys : List (List ℕ)) (q m k : ℕ) → k ≡ q + length xs → marked (xs ++ ys) q m ≡ marked xs q m ++ marked ys k m
marked_append [] ys q m k is = ap (λ (j : ℕ). marked ys j m) (omega arith)
marked_append (x ∷ xs) ys q m k is =
    let rest = marked_append xs ys (suc q) m k (omega arith) in
    elim (bit_of m q) as (λ b. cond b (x ∷ marked (xs ++ ys) (suc q) m) (marked (xs ++ ys) (suc q) m) ≡ cond b (x ∷ marked xs (suc q) m) (marked xs (suc q) m) ++ marked ys k m) [
      | true ↦ ap {B = List (List ℕ)} (λ l. x ∷ l) rest
      | false ↦ rest
    ]

-- names past the highest bit play no part
pub marked_low : (props : List (List ℕ)) (f m : ℕ) → f ≤ length props → m < 2 ^ f → marked props 0 m ≡ marked (take f props) 0 m
marked_low props f m h l =
    ap (λ (ps : List (List ℕ)). marked ps 0 m) (sym (take-append-drop f props))
    ∙ marked_append (take f props) (drop f props) 0 m f (omega (arith, length-take-le f props h))
    ∙ ap (λ (r : List (List ℕ)). marked (take f props) 0 m ++ r) (marked_clear (drop f props) f m l) ∙ append-nil _

-- the next proposition is entered in the mask
mask_more : (props : List (List ℕ)) (f p m : ℕ) → f ≤ p → p < length props → m < 2 ^ f
    → marked (take (p + 1) props) 0 (bit_or m (2 ^ p)) ≡ marked (take f props) 0 m ++ get_or props p [] ∷ []
mask_more props f p m h l s =
    let new = bit_or m (2 ^ p) in
    let here : bit_of new p ≡ true = eq-eqb _ 1 ((bit_of_or m (2 ^ p) p).1 (inr ((bit_one p p).1 refl))) in
    let front = marked_same (take p props) 0 new m (λ i a b. bit_same new m i (
      λ x. ⊎_elim (λ y. y) (λ y. absurd (omega (arith, (bit_one p i).0 y, length-take-le p props (omega arith)))) ((bit_of_or m (2 ^ p) i).0 x),
      λ x. (bit_of_or m (2 ^ p) i).1 (inl x),
    )) in
    let low = marked_low (take p props) f m (omega (arith, length-take-le p props (omega arith))) s in
    marked_more props p new l ∙ ap (λ (b : Bool). marked (take p props) 0 new ++ cond b (get_or props p [] ∷ []) []) here
    ∙ ap (λ (r : List (List ℕ)). r ++ get_or props p [] ∷ []) (front ∙ low ∙ ap (λ (r : List (List ℕ)). marked r 0 m) (take-take f p props h))

-- names that were read, and the marks of them
pub record Taken (props ns : List (List ℕ)) (m : Marks) : Type 0 where
  pub named : AllByRecursion Named ns
  pub ordered : Ordered props ns
  pub below : (i a : ℕ) → i < length ns → NumberIn props (get_or ns i []) a → a < m.floor
  pub top : (m.floor ≡ 0) ⊎ ((i : ℕ) × (a : ℕ) × (i < length ns) × NumberIn props (get_or ns i []) a × (m.floor ≡ a + 1))
  pub high : m.floor ≤ length props
  pub small : (v : ℕ) → m.mask ≡ Some v → v < 2 ^ m.floor
  pub known : (v : ℕ) → m.mask ≡ Some v → marked (take m.floor props) 0 v ≡ ns
  pub unknown : m.mask ≡ None → (i : ℕ) × (i < length ns) × Missing props (get_or ns i [])

pub taken_none : (props : List (List ℕ)) → Taken props [] (record { mask = Some 0; floor = 0 })
taken_none props = record {
  named = tt;
  ordered = λ i j a b h l. absurd (omega arith);
  below = λ i a h. absurd (omega arith);
  top = inl refl;
  high = omega arith;
  small = λ v e. let z : 0 ≡ v = cc in omega arith;
  known = λ v e. refl;
  unknown = λ e. absurd (cc);
}

ordered_push : (props ns : List (List ℕ)) (n : List ℕ) → Ordered props ns
    → ((i a b : ℕ) → i < length ns → NumberIn props (get_or ns i []) a → NumberIn props n b → a < b) → Ordered props (ns ++ n ∷ [])
ordered_push props ns n old new i j a b h l x y =
    let long = length_push ns n in
    let first : NumberIn props (get_or ns i []) a = subst (λ (v : List ℕ). NumberIn props v a) (get_or_append_left ns (n ∷ []) [] i (omega arith)) x in
    ⊎_elim (λ e. new i a b (omega arith) first (subst (λ (v : List ℕ). NumberIn props v b) (get_or_push ns n [] j (sym e)) y))
    (λ e. old i j a b h (omega arith) first (subst (λ (v : List ℕ). NumberIn props v b) (get_or_append_left ns (n ∷ []) [] j (omega arith)) y)) (cases_eq j (length ns))

module _ (props ns : List (List ℕ)) (n : List ℕ) (m : Marks) (t : Taken props ns m) where
  stays : (P : List ℕ → Type 0) (i : ℕ) → i < length ns → P (get_or ns i []) → P (get_or (ns ++ n ∷ []) i [])
  stays P i h x = subst P (sym (get_or_append_left ns (n ∷ []) [] i h)) x

  back : (P : List ℕ → Type 0) (i : ℕ) → i < length (ns ++ n ∷ []) → P (get_or (ns ++ n ∷ []) i []) → ((i < length ns) × P (get_or ns i [])) ⊎ P n
  back P i h x =
      let long = length_push ns n in
      ⊎_elim (λ l. inl (l, subst P (get_or_append_left ns (n ∷ []) [] i l) x)) (λ l. inr (subst P (get_or_push ns n [] i (omega arith)) x)) (cases_lt i (length ns))

  -- one name more that is not declared
  taken_other : Named n → Missing props n → Taken props (ns ++ n ∷ []) (record { mask = None; floor = m.floor })
  taken_other h miss = record {
    named = All-append Named ns (n ∷ []) t.named (h, tt);
    ordered = ordered_push props ns n t.ordered (λ i a b l x y. absurd (number_not_missing props n b y miss));
    below = λ i a l x. ⊎_elim (λ y. t.below i a y.0 y.1) (λ y. absurd (number_not_missing props n a y miss)) (back (λ v. NumberIn props v a) i l x);
    top = ⊎_elim inl (λ s. inr (s.0, s.1, omega (arith, s.2, length_push ns n), stays (λ v. NumberIn props v s.1) s.0 s.2 s.3, s.4)) t.top;
    high = t.high;
    small = λ v e. absurd (cc);
    known = λ v e. absurd (cc);
    unknown = λ e. (length ns, omega (arith, length_push ns n), subst (Missing props) (sym (get_or_push ns n [] (length ns) refl)) miss);
  }

  -- one proposition more
  taken_next : (p : ℕ) → Named n → NumberIn props n p → m.floor ≤ p
      → Taken props (ns ++ n ∷ []) (record { mask = option_map (λ v. bit_or v (2 ^ p)) m.mask; floor = p + 1 })
  taken_next p h num l = record {
    named = All-append Named ns (n ∷ []) t.named (h, tt);
    ordered = ordered_push props ns n t.ordered (λ i a b k x y. let e = number_same props n b p y num in let f = t.below i a k x in omega arith);
    below = λ i a k x. ⊎_elim (λ y. let f = t.below i a y.0 y.1 in omega arith) (λ y. let e = number_same props n a p y num in omega arith) (back (λ v. NumberIn props v a) i k x);
    top = inr (length ns, p, omega (arith, length_push ns n), subst (λ (v : List ℕ). NumberIn props v p) (sym (get_or_push ns n [] (length ns) refl)) num, refl);
    high = omega (arith, num.0);
    small = λ v e.
        let u = mapped (λ v. bit_or v (2 ^ p)) m.mask v e in
        let s = pow_below m.floor (p + 1) (omega arith) in
        subst (λ (k : ℕ). k < 2 ^ (p + 1)) u.2 (or_lt (p + 1) u.0 (2 ^ p) (omega (arith, t.small u.0 u.1)) (pow_below p (p + 1) (omega arith)));
    known = λ v e.
        let u = mapped (λ v. bit_or v (2 ^ p)) m.mask v e in
        ap (λ (k : ℕ). marked (take (p + 1) props) 0 k) (sym u.2) ∙ mask_more props m.floor p u.0 l num.0 (t.small u.0 u.1)
        ∙ ap (λ (r : List (List ℕ)). r ++ get_or props p [] ∷ []) (t.known u.0 u.1) ∙ ap (λ (v : List ℕ). ns ++ v ∷ []) num.1;
    unknown = λ e. let u = t.unknown (unmapped (λ v. bit_or v (2 ^ p)) m.mask e) in (u.0, omega (arith, u.1, length_push ns n), stays (Missing props) u.0 u.1 u.2);
  }

  pub taken_more : (new : Marks) → AddsMark props n m new → Taken props (ns ++ n ∷ []) new
  taken_more new a =
      let P : Marks → Type 0 = λ v. Taken props (ns ++ n ∷ []) v in
      ⊎_elim (λ x. subst P (sym x.1) (taken_other a.0 x.0)) (λ x. subst P (sym x.3) (taken_next x.0 a.0 x.1 x.2)) a.1

  -- no names that begin so are in order
  pub taken_refused : RefusesMark props n m → (rest : List (List ℕ)) → AllByRecursion Named (ns ++ n ∷ rest) → Ordered props (ns ++ n ∷ rest) → ⊥
  taken_refused r rest all ord =
      let here : get_or (ns ++ n ∷ rest) (length ns) [] ≡ n = get_or_at ns n rest [] (length ns) refl in
      let long = length-append ns (n ∷ rest) in
      ⊎_elim (λ no. no (subst Named here (All-get_or Named (ns ++ n ∷ rest) (length ns) [] (omega arith) all)))
      (λ x. ⊎_elim (λ z. omega (arith, x.2))
      (λ s.
      let first : NumberIn props (get_or (ns ++ n ∷ rest) s.0 []) s.1 = subst (λ (v : List ℕ). NumberIn props v s.1) (sym (get_or_append_left ns (n ∷ rest) [] s.0 s.2)) s.3 in
      let second : NumberIn props (get_or (ns ++ n ∷ rest) (length ns) []) x.0 = subst (λ (v : List ℕ). NumberIn props v x.0) (sym here) x.1 in
      omega (arith, x.2, s.4, ord s.0 (length ns) s.1 x.0 s.2 (omega arith) first second))
      t.top)
      r

-- at the end
pub taken_read : (props ns : List (List ℕ)) (m : Marks) → Taken props ns m → MarksRead props ns m
taken_read props ns m t = record {
  named = t.named;
  ordered = t.ordered;
  known = λ v e. let s = t.small v e in (marked_low props m.floor v t.high s ∙ t.known v e, low m.floor (length props) v t.high s);
  unknown = t.unknown;
}
  where
    low : (f n m : ℕ) → f ≤ n → m < 2 ^ f → m < 2 ^ n
    low f n m h l = ⊎_elim (λ e. subst (λ (k : ℕ). m < 2 ^ k) e l) (λ e. let p = pow_below f n (omega arith) in omega arith) (cases_eq f n)

pub together_joined : (ps : List (List ℕ)) → 0 < length ps → joined ps ≡ together 44 ps
together_joined [] h = absurd (omega arith)
together_joined (p ∷ ps) h = refl

module _ (props : List (List ℕ)) (text : List ℕ) (n : ℕ) (m : Marks) (t : Taken props (take n (pieces 44 text)) m) where
  module _ (name : List ℕ) (is : (n < length (slice_split (λ b. eqb b 44) text)) × (name ≡ get_or (slice_split (λ b. eqb b 44) text) n name)) where
    here : (n < length (pieces 44 text)) × (name ≡ get_or (pieces 44 text) n name)
    here = let P : List (List ℕ) → Type 0 = λ l. (n < length l) × (name ≡ get_or l n name) in subst P (pieces_split 44 text) is

    -- the next name is added
    pub taken_turn : (new : Marks) → AddsMark props name m new → Taken props (take (n + 1) (pieces 44 text)) new
    taken_turn new a =
        let e : take (n + 1) (pieces 44 text) ≡ take n (pieces 44 text) ++ name ∷ [] =
        take_more (pieces 44 text) n name here.0 ∙ ap (λ (v : List ℕ). take n (pieces 44 text) ++ v ∷ []) (sym here.1) in
        subst (λ (l : List (List ℕ)). Taken props l new) (sym e) (taken_more props (take n (pieces 44 text)) name m t new a)

    -- the next name is refused
    pub taken_bad : (text ≡ 45 ∷ [] → ⊥) → RefusesMark props name m → NoMarks props text
    taken_bad dash r [] all ord is = dash is
    taken_bad dash r (v ∷ vs) all ord is =
        let e : v ∷ vs ≡ take n (pieces 44 text) ++ name ∷ drop (n + 1) (pieces 44 text) =
        sym (joined_pieces v vs all) ∙ ap (pieces 44) (sym is) ∙ sym (take-append-drop n (pieces 44 text))
        ∙ ap (λ (l : List (List ℕ)). take n (pieces 44 text) ++ l) (drop_more (pieces 44 text) n name here.0)
        ∙ ap (λ (v : List ℕ). take n (pieces 44 text) ++ v ∷ drop (n + 1) (pieces 44 text)) (sym here.1) in
        taken_refused props (take n (pieces 44 text)) name m t r (drop (n + 1) (pieces 44 text)) (subst (AllByRecursion Named) e all) (subst (Ordered props) e ord)

  -- all names are read
  pub taken_end : n ≡ length (slice_split (λ b. eqb b 44) text) → (names : List (List ℕ)) × (text ≡ joined names) × MarksRead props names m
  taken_end is =
      let long : length (slice_split (λ b. eqb b 44) text) ≡ length (pieces 44 text) = ap length (pieces_split 44 text) in
      let all : Taken props (pieces 44 text) m = subst (λ (l : List (List ℕ)). Taken props l m) (take_all n (pieces 44 text) (omega arith)) t in
      (pieces 44 text, sym (together_joined (pieces 44 text) (pieces_some 44 text) ∙ together_is 44 text), taken_read props (pieces 44 text) m all)
