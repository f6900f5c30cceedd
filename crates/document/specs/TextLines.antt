-- The lines of a text, each without its line feed.
use Rattle.std.specs.Prelude.{◌≡◌, ◌<◌, List, ℕ, [], ◌∷◌, length, Option, Result, MatchOption, MatchResult}
use denote.Ref.{Bor}
use Rattle.document.specs.Texts.{pieces}
use Rattle.document.specs.declared.fault.LineFault.{LineFault}
use Rattle.document.specs.declared.fault.LineFault.TheVariants.{Shape}

-- the bytes that are left, what comes of them, and the bytes that are left then: a line that ends with a line feed, or a last
-- one that does not, or nothing
abbrev pub NextLine : List ℕ → Option (Result (Bor (List ℕ)) LineFault) → List ℕ → Type 0
NextLine left r next =
    MatchOption r ((length left ≡ 0) × (next ≡ left))
    (λ x. (length next < length left)
    × MatchResult x (λ line. pieces 10 left ≡ line.now ∷ pieces 10 next) (λ f. (f ≡ Shape) × (pieces 10 left ≡ left ∷ []) × (next ≡ [])))
