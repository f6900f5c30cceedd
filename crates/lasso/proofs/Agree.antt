-- Lines by their words are the lines of the text, where the marked names are well formed.
use Rattle.std.proofs.Common.{◌≡◌, ℕ, suc, Bool, true, false, cond, eqb, ltb, List, [], ◌∷◌, ◌++◌, length, get_or, codes, sym, refl, ap, ◌∙◌, append_assoc, append-nil, arith}
use Rattle.std.proofs.lemmas.Bool.{ne_eqb, cond-false}
use Rattle.std.specs.List.{AllByRecursion}
use Rattle.program.specs.Names.{Named}
use Rattle.lasso.specs.LassoTexts.{comma, joined_names, marks_text, step_line, lines_from, marked, each_after, joined, worded_line, worded_lines, decimal}
use Rattle.lasso.specs.Sessions.{bit_of}
use Rattle.lasso.specs.declared.step.Step.{Step}
use Rattle.lasso.proofs.Lines.{so_far}
use Rattle.lasso.proofs.OneReading.{marked_all}

comma_names : (n : List ℕ) (ms : List (List ℕ)) → Named n → AllByRecursion Named ms → comma n (so_far ms) ≡ n ++ each_after 44 ms
comma_names [] ms h a = absurd (let s = h.some in omega arith)
comma_names (x ∷ n) [] h a = sym (append-nil (x ∷ n))
comma_names (x ∷ n) ([] ∷ ms) h a = absurd (let s = a.0.some in omega arith)
comma_names (x ∷ n) ((y ∷ m) ∷ ms) h a = refl

joined_agree : (names : List (List ℕ)) (q marks : ℕ) → AllByRecursion Named (marked names q marks) → joined_names names q marks ≡ so_far (marked names q marks)
joined_agree [] q marks h = refl
joined_agree (x ∷ xs) q marks h =
    (elim (bit_of marks q) as (λ b. AllByRecursion Named (cond b (x ∷ marked xs (suc q) marks) (marked xs (suc q) marks))
    → cond b (comma x (joined_names xs (suc q) marks)) (joined_names xs (suc q) marks) ≡ so_far (cond b (x ∷ marked xs (suc q) marks) (marked xs (suc q) marks))) [
      | true ↦ λ a. ap (comma x) (joined_agree xs (suc q) marks a.1) ∙ comma_names x (marked xs (suc q) marks) a.0 a.1
      | false ↦ λ a. joined_agree xs (suc q) marks a
    ]) h

dash_agree : (ms : List (List ℕ)) → AllByRecursion Named ms → cond (eqb (length (so_far ms)) 0) (45 ∷ []) (so_far ms) ≡ joined ms
dash_agree [] a = refl
dash_agree ([] ∷ ms) a = absurd (let s = a.0.some in omega arith)
dash_agree ((x ∷ n) ∷ ms) a = cond-false _ _ _ (ne_eqb (length (so_far ((x ∷ n) ∷ ms))) 0 (λ e. omega arith))

pub marks_agree : (names : List (List ℕ)) (marks : ℕ) → AllByRecursion Named (marked names 0 marks) → marks_text names marks ≡ joined (marked names 0 marks)
marks_agree names marks a =
    ap (λ (l : List ℕ). cond (eqb (length l) 0) (45 ∷ []) l) (joined_agree names 0 marks a) ∙ dash_agree (marked names 0 marks) a

module _ (acts props : List (List ℕ)) where
  pub line_agree : (b : Bool) (s : Step) → AllByRecursion Named (marked props 0 s.marks) → worded_line acts props b s ≡ step_line acts props b s
  line_agree b s a =
      let kind = cond b (codes "stem") (codes "loop") in
      let action = get_or acts s.action [] in
      let marks = joined (marked props 0 s.marks) in
      append_assoc kind (9 ∷ (action ++ 9 ∷ (decimal s.state ++ 9 ∷ marks))) (10 ∷ [])
      ∙ ap (λ (l : List ℕ). kind ++ 9 ∷ l) (append_assoc action (9 ∷ (decimal s.state ++ 9 ∷ marks)) (10 ∷ []))
      ∙ ap (λ (l : List ℕ). kind ++ 9 ∷ (action ++ 9 ∷ l)) (append_assoc (decimal s.state) (9 ∷ marks) (10 ∷ []))
      ∙ ap (λ (l : List ℕ). kind ++ 9 ∷ (action ++ 9 ∷ (decimal s.state ++ 9 ∷ (l ++ 10 ∷ [])))) (sym (marks_agree props s.marks a))

  pub lines_agree : AllByRecursion Named props → (stem i : ℕ) (ss : List Step) → worded_lines acts props stem i ss ≡ lines_from acts props stem i ss
  lines_agree a stem i [] = refl
  lines_agree a stem i (s ∷ ss) =
      ap (λ (l : List ℕ). l ++ worded_lines acts props stem (suc i) ss) (line_agree (ltb i stem) s (marked_all Named props 0 s.marks a))
      ∙ ap (λ (l : List ℕ). step_line acts props (ltb i stem) s ++ l) (lines_agree a stem (suc i) ss)
