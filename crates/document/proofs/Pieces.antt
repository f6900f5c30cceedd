-- The pieces of a list: its first piece, and the rest.
use Rattle.std.proofs.Common.{◌≡◌, ℕ, zero, suc, ◌+◌, ◌<◌, ◌≤◌, Bool, true, false, cond, eqb, ltb, ltb-false, List, [], ◌∷◌, length, get_or, take, drop, Some, None, refl, ap, ◌∙◌, arith}
use Rattle.std.specs.List.{count_by, position, position_or_len, slice_split, onto_first}
use Rattle.std.proofs.lemmas.List.Splits.{length-slice_split}
use Rattle.std.proofs.lemmas.Bool.{cond-true, cond-false, eq-eqb, ne_eqb}
use Rattle.document.specs.Texts.{pieces, put_first}

-- where no element passes
pub position_none : (p : ℕ → Bool) (xs : List ℕ) → position p xs ≡ None → length xs ≤ position_or_len p xs
position_none p xs e = ltb-false _ _ (by (ltb (position_or_len p xs) (length xs)) refl e)
  where
    by : (b : Bool) → ltb (position_or_len p xs) (length xs) ≡ b → cond b (Some (position_or_len p xs)) None ≡ None → ltb (position_or_len p xs) (length xs) ≡ false
    by true s h = absurd cc
    by false s h = s

-- where b does not stand, the whole is one piece
pub pieces_none : (b : ℕ) (xs : List ℕ) → ((k : ℕ) → k < length xs → get_or xs k 0 ≡ b → ⊥) → pieces b xs ≡ xs ∷ []
pieces_none b [] h = refl
pieces_none b (x ∷ xs) h =
    cond-false (eqb x b) _ _ (ne_eqb x b (h 0 (omega arith))) ∙ ap (put_first x) (pieces_none b xs (λ k l. h (suc k) (omega arith)))

-- up to where b first stands
pub pieces_first : (b k : ℕ) (xs : List ℕ) → k < length xs → ((j : ℕ) → j < k → get_or xs j 0 ≡ b → ⊥) → get_or xs k 0 ≡ b
    → pieces b xs ≡ take k xs ∷ pieces b (drop (suc k) xs)
pieces_first b k [] l h e = absurd (omega arith)
pieces_first b zero (x ∷ xs) l h e = cond-true (eqb x b) _ _ (eq-eqb x b e)
pieces_first b (suc k) (x ∷ xs) l h e =
    cond-false (eqb x b) _ _ (ne_eqb x b (h 0 (omega arith))) ∙ ap (put_first x) (pieces_first b k xs (omega arith) (λ j m. h (suc j) (omega arith)) e)

-- the byte b stands at none of the places from at on below end
abbrev pub Clear : ℕ → List ℕ → ℕ → ℕ → Type 0
Clear b xs at end = (k : ℕ) → at ≤ k → k < end → get_or xs k 0 ≡ b → ⊥

put_onto : (x : ℕ) (ps : List (List ℕ)) → put_first x ps ≡ onto_first x ps
put_onto x [] = refl
put_onto x (p ∷ ps) = refl

-- the parts that std's `split` gives are the pieces
pub pieces_split : (b : ℕ) (xs : List ℕ) → pieces b xs ≡ slice_split (λ y. eqb y b) xs
pieces_split b [] = refl
pieces_split b (x ∷ xs) =
    ap (λ ps. cond (eqb x b) ([] ∷ ps) (put_first x ps)) (pieces_split b xs)
    ∙ ap (λ ps. cond (eqb x b) ([] ∷ slice_split (λ y. eqb y b) xs) ps) (put_onto x (slice_split (λ y. eqb y b) xs))

pub length_pieces : (b : ℕ) (xs : List ℕ) → length (pieces b xs) ≡ count_by (λ y. eqb y b) xs + 1
length_pieces b xs = ap length (pieces_split b xs) ∙ length-slice_split (λ y. eqb y b) xs

pub pieces_some : (b : ℕ) (xs : List ℕ) → 0 < length (pieces b xs)
pieces_some b xs = let long = length_pieces b xs in omega arith
