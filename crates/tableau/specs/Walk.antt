-- The trail of claims: how it grows, and that it tells of the same claims as the set.
use Rattle.std.specs.Prelude.{◌≡◌, ℕ, zero, suc, ◌+◌, ◌<◌, false, cond, List, [], ◌∷◌, ◌++◌, length, take, slice_index}
use Rattle.tableau.specs.Claims.{member, has, Same}
use Rattle.tableau.specs.declared.trail.Trail.{Trail}

-- the claims, and those of the second list that are not there yet
abbrev pub grown : List ℕ → List ℕ → List ℕ
grown t [] = t
grown t (x ∷ xs) = cond (has t x) (grown t xs) (grown (t ++ x ∷ []) xs)

-- how many numbers below n are not in the list
unfoldable pub room : List ℕ → ℕ → ℕ
room t zero = 0
room t (suc n) = cond (has t n) 0 1 + room t n

-- no claim stands twice
abbrev pub Fresh : List ℕ → Type 0
Fresh t = (i : ℕ) → i < length t → has (take i t) (slice_index t i) ≡ false

-- the claims on the trail
abbrev pub on : Trail → List ℕ
on trail = take trail.len trail.claims

-- the set's words and the list t, which the trail holds, tell of the same claims
pub record Stands (words t : List ℕ) (len : ℕ) : Type 0 where
  pub long : length t ≡ len
  pub counted : len + room t 256 ≡ 256
  pub fresh : Fresh t
  pub same : Same (member words) (has t)
