-- The text of a lasso: a line for each step.
use Rattle.std.specs.Prelude.{ℕ, suc, ◌+◌, ◌/◌, ◌%◌, ◌^◌, Bool, cond, if◌then◌else◌, List, [], ◌∷◌, ◌++◌, length, codes, ◌==◌, nat_le, nat_lt, slice_index_or}
use Rattle.lasso.specs.declared.step.Step.{Step}

-- a number below ten thousand in decimal, without leading zeros
abbrev pub decimal : ℕ → List ℕ
decimal n =
    cond (nat_le 1000 n) ((48 + n / 1000) ∷ (48 + n / 100 % 10) ∷ (48 + n / 10 % 10) ∷ (48 + n % 10) ∷ [])
    (cond (nat_le 100 n) ((48 + n / 100) ∷ (48 + n / 10 % 10) ∷ (48 + n % 10) ∷ [])
    (cond (nat_le 10 n) ((48 + n / 10) ∷ (48 + n % 10) ∷ []) ((48 + n) ∷ [])))

-- a digit, if it is shown
abbrev pub digit_if : Bool → ℕ → List ℕ
digit_if shown d = if shown then (48 + d) ∷ [] else []

-- a number below a hundred thousand in decimal, without leading zeros
abbrev pub digits : ℕ → List ℕ
digits n = digit_if (nat_le 10000 n) (n / 10000) ++ (digit_if (nat_le 1000 n) (n / 1000 % 10) ++ (digit_if (nat_le 100 n) (n / 100 % 10) ++ (digit_if (nat_le 10 n) (n / 10 % 10) ++ (48 + n % 10) ∷ [])))

-- two texts with a comma between them, where both have something
abbrev pub comma : List ℕ → List ℕ → List ℕ
comma [] ys = ys
comma (x ∷ xs) [] = x ∷ xs
comma (x ∷ xs) (y ∷ ys) = (x ∷ xs) ++ 44 ∷ (y ∷ ys)

-- the names of the propositions of a set, joined by commas, where the first name has number p
abbrev pub joined_names : List (List ℕ) → ℕ → ℕ → List ℕ
joined_names [] p marks = []
joined_names (n ∷ ns) p marks = cond (marks / 2 ^ p % 2 == 1) (comma n (joined_names ns (suc p) marks)) (joined_names ns (suc p) marks)

-- the marks of a step: names in proposition order joined by commas, or a dash
abbrev pub marks_text : List (List ℕ) → ℕ → List ℕ
marks_text props marks = cond (length (joined_names props 0 marks) == 0) (45 ∷ []) (joined_names props 0 marks)

-- the line of a step: stem or loop, the action, the state, the marks
abbrev pub step_line : List (List ℕ) → List (List ℕ) → Bool → Step → List ℕ
step_line acts props in_stem s =
    cond in_stem (codes "stem") (codes "loop") ++ 9 ∷ (slice_index_or acts s.action [] ++ 9 ∷ (decimal s.state ++ 9 ∷ (marks_text props s.marks ++ 10 ∷ [])))

-- the lines of steps of which the first is number i
abbrev pub lines_from : List (List ℕ) → List (List ℕ) → ℕ → ℕ → List Step → List ℕ
lines_from acts props stem i [] = []
lines_from acts props stem i (s ∷ ss) = step_line acts props (nat_lt i stem) s ++ lines_from acts props stem (suc i) ss

-- the text that spells the lasso, over the names of actions and propositions
abbrev pub lasso_text : List (List ℕ) → List (List ℕ) → List Step → ℕ → List ℕ
lasso_text acts props steps stem = lines_from acts props stem 0 steps

-- the names of the propositions of a set, in their order, where the first name has number p
abbrev pub marked : List (List ℕ) → ℕ → ℕ → List (List ℕ)
marked [] p marks = []
marked (n ∷ ns) p marks = cond (marks / 2 ^ p % 2 == 1) (n ∷ marked ns (suc p) marks) (marked ns (suc p) marks)

-- pieces, each after the byte b
abbrev pub each_after : ℕ → List (List ℕ) → List ℕ
each_after b [] = []
each_after b (p ∷ ps) = b ∷ (p ++ each_after b ps)

-- names joined by commas, or a dash if there are none
abbrev pub joined : List (List ℕ) → List ℕ
joined [] = 45 ∷ []
joined (n ∷ ns) = n ++ each_after 44 ns

-- the words of a step line: stem or loop, the action's name, the state, the names of the marks
pub record Words : Type 0 where
  pub in_stem : Bool
  pub action : List ℕ
  pub state : ℕ
  pub marks : List (List ℕ)

-- the line of such words, without its line feed
abbrev pub worded : Words → List ℕ
worded w = cond w.in_stem (codes "stem") (codes "loop") ++ 9 ∷ (w.action ++ 9 ∷ (decimal w.state ++ 9 ∷ joined w.marks))

-- the words of a step, over the names of actions and propositions: marks in proposition order
abbrev pub words_of : List (List ℕ) → List (List ℕ) → Bool → Step → Words
words_of acts props in_stem s = record { in_stem = in_stem; action = slice_index_or acts s.action []; state = s.state; marks = marked props 0 s.marks }

-- the line of a step, by its words
abbrev pub worded_line : List (List ℕ) → List (List ℕ) → Bool → Step → List ℕ
worded_line acts props in_stem s = worded (words_of acts props in_stem s) ++ 10 ∷ []

-- the lines of steps by their words, where the first step is number i
abbrev pub worded_lines : List (List ℕ) → List (List ℕ) → ℕ → ℕ → List Step → List ℕ
worded_lines acts props stem i [] = []
worded_lines acts props stem i (s ∷ ss) = worded_line acts props (nat_lt i stem) s ++ worded_lines acts props stem (suc i) ss

-- the lines of a lasso by their words: its text, where the names of propositions have a letter each
abbrev pub worded_lasso : List (List ℕ) → List (List ℕ) → List Step → ℕ → List ℕ
worded_lasso acts props steps stem = worded_lines acts props stem 0 steps
