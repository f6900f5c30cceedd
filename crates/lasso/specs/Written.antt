-- Bytes written into a text, as far as it reaches.
use Rattle.std.specs.Prelude.{◌≡◌, ℕ, ◌+◌, ◌<◌, ◌≤◌, List, [], ◌∷◌, ◌++◌, length, drop, Option, MatchOption, slice_set}
use Rattle.lasso.specs.declared.print.Writer.{Writer}

-- the text with the bytes from this place on; what would stand past its end is left out
abbrev pub written : List ℕ → ℕ → List ℕ → List ℕ
written text at [] = text
written text at (b ∷ bs) = written (slice_set text at b) (at + 1) bs

-- the word was written, and the writer stands after it
pub record Wrote (old new : Writer) (word : List ℕ) : Type 0 where
  pub same : new.text.ghost_name ≡ old.text.ghost_name
  pub next : new.at ≡ old.at + length word
  pub text : new.text.now ≡ written old.text.now old.at word

-- the words come first where they fit, with their length; else the text is as before
abbrev pub Printed : List ℕ → List ℕ → List ℕ → Option ℕ → Type 0
Printed words before after r =
    MatchOption r ((length before < length words) × (after ≡ before)) (λ n. (n ≡ length words) × (n ≤ length before) × (after ≡ words ++ drop n before))
