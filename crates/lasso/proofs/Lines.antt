-- The text of a lasso, one mark and one line more.
use Rattle.std.proofs.Common.{◌≡◌, ℕ, suc, ◌+◌, ◌<◌, Bool, true, false, cond, ltb, List, [], ◌∷◌, ◌++◌, length, get_or, take, sym, refl, ap, ◌∙◌, append_assoc, append-nil, arith}
use Rattle.std.proofs.lemmas.List.{take_more, length-take-le}
use Rattle.std.proofs.lemmas.Bool.{true≢false, false≢true}
use Rattle.lasso.specs.LassoTexts.{marked, each_after, joined, worded_line, worded_lines}
use Rattle.lasso.specs.Sessions.{bit_of}
use Rattle.lasso.specs.declared.step.Step.{Step}
use Rattle.lasso.specs.Written.{Wrote}
use Rattle.lasso.specs.declared.print.Writer.{Writer}
use Rattle.lasso.proofs.Written.{wrote_then, wrote_as}

-- no name is there
abbrev pub none : List (List ℕ) → Bool
none [] = true
none (n ∷ ns) = false

-- the names joined so far
abbrev pub so_far : List (List ℕ) → List ℕ
so_far [] = []
so_far (n ∷ ns) = n ++ each_after 44 ns

marked_push : (xs : List (List ℕ)) (n : List ℕ) (q marks k : ℕ) → k ≡ q + length xs → marked (xs ++ n ∷ []) q marks ≡ marked xs q marks ++ cond (bit_of marks k) (n ∷ []) []
marked_push [] n q marks k is = ap (λ (i : ℕ). cond (bit_of marks i) (n ∷ []) []) (omega arith)
marked_push (x ∷ xs) n q marks k is =
    let rest = marked_push xs n (suc q) marks k (omega arith) in
    elim (bit_of marks q) as (λ b. cond b (x ∷ marked (xs ++ n ∷ []) (suc q) marks) (marked (xs ++ n ∷ []) (suc q) marks) ≡ cond b (x ∷ marked xs (suc q) marks) (marked xs (suc q) marks) ++ cond (bit_of marks k) (n ∷ []) []) [
      | true ↦ ap {B = List (List ℕ)} (λ l. x ∷ l) rest
      | false ↦ rest
    ]

pub marked_more : (names : List (List ℕ)) (p marks : ℕ) → p < length names
    → marked (take (p + 1) names) 0 marks ≡ marked (take p names) 0 marks ++ cond (bit_of marks p) (get_or names p [] ∷ []) []
marked_more names p marks h =
    ap (λ (l : List (List ℕ)). marked l 0 marks) (take_more names p [] h)
    ∙ marked_push (take p names) (get_or names p []) 0 marks p (omega (arith, length-take-le p names (omega arith)))

commas_push : (ns : List (List ℕ)) (n : List ℕ) → each_after 44 (ns ++ n ∷ []) ≡ each_after 44 ns ++ (44 ∷ n)
commas_push [] n = ap {B = List ℕ} (λ l. 44 ∷ l) (append-nil n)
commas_push (m ∷ ns) n = ap (λ (l : List ℕ). 44 ∷ (m ++ l)) (commas_push ns n) ∙ ap {B = List ℕ} (λ l. 44 ∷ l) (sym (append_assoc m (each_after 44 ns) (44 ∷ n)))

-- one name more
pub so_far_more : (ms : List (List ℕ)) (n : List ℕ) → so_far (ms ++ n ∷ []) ≡ so_far ms ++ cond (none ms) n (44 ∷ n)
so_far_more [] n = append-nil n
so_far_more (m ∷ ms) n = ap (λ (l : List ℕ). m ++ l) (commas_push ms n) ∙ sym (append_assoc m (each_after 44 ms) (44 ∷ n))

pub none_push : (ms : List (List ℕ)) (n : List ℕ) → none (ms ++ n ∷ []) ≡ false
none_push [] n = refl
none_push (m ∷ ms) n = refl

module _ (names : List (List ℕ)) (p marks : ℕ) (h : p < length names) where
  -- a mark that is in the set is written
  pub mark_put : {a b c : Writer} (first : Bool) (name : List ℕ) → bit_of marks p ≡ true → name ≡ get_or names p [] → first ≡ none (marked (take p names) 0 marks)
      → Wrote a b (so_far (marked (take p names) 0 marks)) → Wrote b c (cond first name (44 ∷ name))
      → Wrote a c (so_far (marked (take (p + 1) names) 0 marks)) × (false ≡ none (marked (take (p + 1) names) 0 marks))
  mark_put first name b is f a w =
      let ms = marked (take p names) 0 marks in
      let more : marked (take (p + 1) names) 0 marks ≡ ms ++ name ∷ [] =
      marked_more names p marks h ∙ ap (λ (t : Bool). ms ++ cond t (get_or names p [] ∷ []) []) b ∙ ap (λ (l : List ℕ). ms ++ l ∷ []) (sym is) in
      let word : so_far ms ++ cond first name (44 ∷ name) ≡ so_far (marked (take (p + 1) names) 0 marks) =
      ap (λ (t : Bool). so_far ms ++ cond t name (44 ∷ name)) f ∙ sym (so_far_more ms name) ∙ ap so_far (sym more) in
      (wrote_as _ (wrote_then a w) word, sym (ap none more ∙ none_push ms name))

  -- another is not
  pub mark_left : bit_of marks p ≡ false → marked (take p names) 0 marks ≡ marked (take (p + 1) names) 0 marks
  mark_left b = sym (marked_more names p marks h ∙ ap (λ (t : Bool). marked (take p names) 0 marks ++ cond t (get_or names p [] ∷ []) []) b ∙ append-nil _)

-- at the end the marks are there, or a dash in place of none
pub dash_put : (ms : List (List ℕ)) → none ms ≡ true → so_far ms ++ 45 ∷ [] ≡ joined ms
dash_put [] e = refl
dash_put (m ∷ ms) e = absurd (false≢true e)

pub marks_put : (ms : List (List ℕ)) → none ms ≡ false → so_far ms ≡ joined ms
marks_put [] e = absurd (true≢false e)
marks_put (m ∷ ms) e = refl

module _ (acts props : List (List ℕ)) (stem : ℕ) where
  lines_push : (ss : List Step) (s : Step) (i k : ℕ) → k ≡ i + length ss
      → worded_lines acts props stem i (ss ++ s ∷ []) ≡ worded_lines acts props stem i ss ++ worded_line acts props (ltb k stem) s
  lines_push [] s i k is = append-nil (worded_line acts props (ltb i stem) s) ∙ ap (λ (j : ℕ). worded_line acts props (ltb j stem) s) (omega arith)
  lines_push (x ∷ ss) s i k is =
      ap (λ (l : List ℕ). worded_line acts props (ltb i stem) x ++ l) (lines_push ss s (suc i) k (omega arith))
      ∙ sym (append_assoc (worded_line acts props (ltb i stem) x) (worded_lines acts props stem (suc i) ss) (worded_line acts props (ltb k stem) s))

  pub lines_more : (steps : List Step) (i : ℕ) (d : Step) → i < length steps
      → worded_lines acts props stem 0 (take (i + 1) steps) ≡ worded_lines acts props stem 0 (take i steps) ++ worded_line acts props (ltb i stem) (get_or steps i d)
  lines_more steps i d h =
      ap (λ (l : List Step). worded_lines acts props stem 0 l) (take_more steps i d h)
      ∙ lines_push (take i steps) (get_or steps i d) 0 i (omega (arith, length-take-le i steps (omega arith)))
