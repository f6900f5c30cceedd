-- Pieces of a text, put together again.
use Rattle.std.proofs.Common.{◌≡◌, ℕ, ◌<◌, cond, eqb, List, [], ◌∷◌, ◌++◌, length, sym, refl, ap, ◌∙◌, subst, ⊎_elim, append-nil, arith}
use Rattle.std.specs.List.{AllByRecursion, slice_split, onto_first}
use Rattle.std.proofs.lemmas.Bool.{cond-true, cond-false, eq-eqb, ne_eqb, cases_eq}
use Rattle.document.specs.Texts.{pieces, put_first}
use Rattle.document.proofs.Pieces.{pieces_some}
use Rattle.lasso.specs.LassoTexts.{each_after}

-- b stands nowhere in it
abbrev pub Lacks : ℕ → List ℕ → Type 0
Lacks b xs = AllByRecursion (λ x. x ≡ b → ⊥) xs

pub pieces_next : (b : ℕ) (p rest : List ℕ) → Lacks b p → pieces b (p ++ b ∷ rest) ≡ p ∷ pieces b rest
pieces_next b [] rest h = cond-true (eqb b b) _ _ (eq-eqb b b refl)
pieces_next b (x ∷ p) rest h = cond-false (eqb x b) _ _ (ne_eqb x b h.0) ∙ ap (put_first x) (pieces_next b p rest h.1)

pub piece_whole : (b : ℕ) (p : List ℕ) → Lacks b p → pieces b p ≡ p ∷ []
piece_whole b [] h = refl
piece_whole b (x ∷ p) h = cond-false (eqb x b) _ _ (ne_eqb x b h.0) ∙ ap (put_first x) (piece_whole b p h.1)

-- pieces that lack the byte are found again
pub pieces_back : (b : ℕ) (p : List ℕ) (ps : List (List ℕ)) → Lacks b p → AllByRecursion (Lacks b) ps → pieces b (p ++ each_after b ps) ≡ p ∷ ps
pieces_back b p [] h t = ap (pieces b) (append-nil p) ∙ piece_whole b p h
pieces_back b p (q ∷ ps) h t = pieces_next b p (q ++ each_after b ps) h ∙ ap {B = List (List ℕ)} (λ l. p ∷ l) (pieces_back b q ps t.0 t.1)

-- the text that has these pieces
abbrev pub together : ℕ → List (List ℕ) → List ℕ
together b [] = []
together b (p ∷ ps) = p ++ each_after b ps

together_put : (b x : ℕ) (ps : List (List ℕ)) → together b (put_first x ps) ≡ x ∷ together b ps
together_put b x [] = refl
together_put b x (p ∷ ps) = refl

together_more : (b : ℕ) (ps : List (List ℕ)) → 0 < length ps → each_after b ps ≡ b ∷ together b ps
together_more b [] h = absurd (omega arith)
together_more b (p ∷ ps) h = refl

pub together_is : (b : ℕ) (xs : List ℕ) → together b (pieces b xs) ≡ xs
together_is b [] = refl
together_is b (x ∷ xs) =
    ⊎_elim
    (λ e. ap (together b) (cond-true (eqb x b) _ _ (eq-eqb x b e)) ∙ together_more b (pieces b xs) (pieces_some b xs) ∙ ap (λ (l : List ℕ). b ∷ l) (together_is b xs)
    ∙ ap (λ (y : ℕ). y ∷ xs) (sym e))
    (λ e. ap (together b) (cond-false (eqb x b) _ _ (ne_eqb x b e)) ∙ together_put b x (pieces b xs) ∙ ap (λ (l : List ℕ). x ∷ l) (together_is b xs))
    (cases_eq x b)

-- the pieces are what `split` gives
pub pieces_split : (b : ℕ) (xs : List ℕ) → slice_split (λ x. eqb x b) xs ≡ pieces b xs
pieces_split b [] = refl
pieces_split b (x ∷ xs) =
    ap (λ (l : List (List ℕ)). cond (eqb x b) ([] ∷ l) (onto_first x l)) (pieces_split b xs) ∙ ap (λ (l : List (List ℕ)). cond (eqb x b) ([] ∷ pieces b xs) l) (put (pieces b xs))
  where
    put : (ps : List (List ℕ)) → onto_first x ps ≡ put_first x ps
    put [] = refl
    put (p ∷ ps) = refl

-- no piece has the byte
pub pieces_lack : (b : ℕ) (xs : List ℕ) → AllByRecursion (Lacks b) (pieces b xs)
pieces_lack b [] = (tt, tt)
pieces_lack b (x ∷ xs) =
    ⊎_elim
    (λ e. subst (AllByRecursion (Lacks b)) (sym (cond-true (eqb x b) _ _ (eq-eqb x b e))) (tt, pieces_lack b xs))
    (λ e. subst (AllByRecursion (Lacks b)) (sym (cond-false (eqb x b) _ _ (ne_eqb x b e))) (put (pieces b xs) e (pieces_lack b xs)))
    (cases_eq x b)
  where
    put : (ps : List (List ℕ)) → (x ≡ b → ⊥) → AllByRecursion (Lacks b) ps → AllByRecursion (Lacks b) (put_first x ps)
    put [] ne all = ((ne, tt), tt)
    put (p ∷ ps) ne all = ((ne, all.0), all.1)
