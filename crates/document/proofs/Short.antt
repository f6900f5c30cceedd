-- Short lists, by their elements.
use Rattle.std.proofs.Common.{◌≡◌, ℕ, ◌<◌, List, [], ◌∷◌, length, get_or, drop, ap, ◌∙◌, arith}
use Rattle.std.proofs.lemmas.List.{drop_more, drop_all}

module _ {X : Type 0} (d : X) (xs : List X) where
  pub two : length xs ≡ 2 → xs ≡ get_or xs 0 d ∷ get_or xs 1 d ∷ []
  two h = drop_more xs 0 d (omega arith) ∙ ap (λ v. get_or xs 0 d ∷ v) (drop_more xs 1 d (omega arith) ∙ ap (λ v. get_or xs 1 d ∷ v) (drop_all 2 xs (omega arith)))

  after_two : 2 < length xs → xs ≡ get_or xs 0 d ∷ get_or xs 1 d ∷ get_or xs 2 d ∷ drop 3 xs
  after_two h =
      drop_more xs 0 d (omega arith)
      ∙ ap (λ v. get_or xs 0 d ∷ v) (drop_more xs 1 d (omega arith) ∙ ap (λ v. get_or xs 1 d ∷ v) (drop_more xs 2 d (omega arith)))

  pub three : length xs ≡ 3 → xs ≡ get_or xs 0 d ∷ get_or xs 1 d ∷ get_or xs 2 d ∷ []
  three h = after_two (omega arith) ∙ ap (λ v. get_or xs 0 d ∷ get_or xs 1 d ∷ get_or xs 2 d ∷ v) (drop_all 3 xs (omega arith))

  pub four : length xs ≡ 4 → xs ≡ get_or xs 0 d ∷ get_or xs 1 d ∷ get_or xs 2 d ∷ get_or xs 3 d ∷ []
  four h =
      after_two (omega arith)
      ∙ ap (λ v. get_or xs 0 d ∷ get_or xs 1 d ∷ get_or xs 2 d ∷ v) (drop_more xs 3 d (omega arith) ∙ ap (λ v. get_or xs 3 d ∷ v) (drop_all 4 xs (omega arith)))

  pub five : length xs ≡ 5 → xs ≡ get_or xs 0 d ∷ get_or xs 1 d ∷ get_or xs 2 d ∷ get_or xs 3 d ∷ get_or xs 4 d ∷ []
  five h =
      after_two (omega arith)
      ∙ ap (λ v. get_or xs 0 d ∷ get_or xs 1 d ∷ get_or xs 2 d ∷ v)
      (drop_more xs 3 d (omega arith) ∙ ap (λ v. get_or xs 3 d ∷ v) (drop_more xs 4 d (omega arith) ∙ ap (λ v. get_or xs 4 d ∷ v) (drop_all 5 xs (omega arith))))

  pub six : length xs ≡ 6 → xs ≡ get_or xs 0 d ∷ get_or xs 1 d ∷ get_or xs 2 d ∷ get_or xs 3 d ∷ get_or xs 4 d ∷ get_or xs 5 d ∷ []
  six h =
      after_two (omega arith)
      ∙ ap (λ v. get_or xs 0 d ∷ get_or xs 1 d ∷ get_or xs 2 d ∷ v)
      (drop_more xs 3 d (omega arith)
      ∙ ap (λ v. get_or xs 3 d ∷ v)
      (drop_more xs 4 d (omega arith) ∙ ap (λ v. get_or xs 4 d ∷ v) (drop_more xs 5 d (omega arith) ∙ ap (λ v. get_or xs 5 d ∷ v) (drop_all 6 xs (omega arith)))))

-- words
pub word_2 : (w : List ℕ) (a b : ℕ) → length w ≡ 2 → get_or w 0 0 ≡ a → get_or w 1 0 ≡ b → w ≡ a ∷ b ∷ []
word_2 w a b h e f = two 0 w h ∙ rw (e, f)

pub word_3 : (w : List ℕ) (a b c : ℕ) → length w ≡ 3 → get_or w 0 0 ≡ a → get_or w 1 0 ≡ b → get_or w 2 0 ≡ c → w ≡ a ∷ b ∷ c ∷ []
word_3 w a b c h e f g = three 0 w h ∙ rw (e, f, g)

pub word_4 : (w : List ℕ) (a b c d : ℕ) → length w ≡ 4 → get_or w 0 0 ≡ a → get_or w 1 0 ≡ b → get_or w 2 0 ≡ c → get_or w 3 0 ≡ d → w ≡ a ∷ b ∷ c ∷ d ∷ []
word_4 w a b c d h e f g i = four 0 w h ∙ rw (e, f, g, i)

pub word_5 : (w : List ℕ) (a b c d x : ℕ) → length w ≡ 5 → get_or w 0 0 ≡ a → get_or w 1 0 ≡ b → get_or w 2 0 ≡ c → get_or w 3 0 ≡ d → get_or w 4 0 ≡ x → w ≡ a ∷ b ∷ c ∷ d ∷ x ∷ []
word_5 w a b c d x h e f g i j = five 0 w h ∙ rw (e, f, g, i, j)
