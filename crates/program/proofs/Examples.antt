-- Worked examples of the definitions: the program (a+b)*;a over the actions a = 0 and b = 1.
use Rattle.std.proofs.Common.{◌≡◌, ℕ, false, List, [], ◌∷◌, ◌++◌, refl, inl, inr, arith}
use Rattle.program.specs.Words.{Program, act, either, seq, star, Words}
use Rattle.program.specs.Automata.{names, nullable, Leads, Final}

ends_in_a : Program
ends_in_a = seq (star (either (act 0) (act 1))) (act 0)

three_names : names ends_in_a ≡ 0 ∷ 1 ∷ 0 ∷ []
unfolding ends_in_a
three_names = refl

not_nullable : nullable ends_in_a ≡ false
unfolding ends_in_a
not_nullable = refl

-- from state 0 the action a leads to 1 and 3, and not to 2
to_one : Leads ends_in_a 0 0 1
unfolding ends_in_a
to_one = (inl (inl refl), refl)

to_three : Leads ends_in_a 0 0 3
unfolding ends_in_a
to_three = (inr (refl, refl), refl)

not_to_two : Leads ends_in_a 0 0 2 → ⊥
unfolding ends_in_a
not_to_two (f, e) = omega arith

-- state 0 is not final, and state 3 is
start_not_final : Final ends_in_a 0 → ⊥
unfolding ends_in_a
start_not_final e = let z : ◌≡◌ {A = ℕ} 0 1 = cc in omega arith

three_final : Final ends_in_a 3
unfolding ends_in_a
three_final = inl refl

-- words: a, ba; and neither the empty word nor b nor ab
word_a : Words ends_in_a (0 ∷ [])
unfolding ends_in_a
word_a = ([], 0 ∷ [], (0, refl), refl, refl)

word_ba : Words ends_in_a (1 ∷ 0 ∷ [])
unfolding ends_in_a
word_ba = (1 ∷ [], 0 ∷ [], (1, (1 ∷ [], [], inr refl, refl, refl)), refl, refl)

-- what ends in a is not empty
longer : (u v : List ℕ) → v ≡ 0 ∷ [] → [] ≡ u ++ v → ⊥
longer [] v e w = let h : ◌≡◌ {A = List ℕ} [] (0 ∷ []) = cc in let z : ◌≡◌ {A = ℕ} 0 1 = cc in omega arith
longer (x ∷ u) v e w = let z : ◌≡◌ {A = ℕ} 0 1 = cc in omega arith

not_empty : Words ends_in_a [] → ⊥
unfolding ends_in_a
not_empty (u, v, s, e, w) = longer u v e w

-- ab is no word: its last letter is b
not_ab : Words ends_in_a (0 ∷ 1 ∷ []) → ⊥
unfolding ends_in_a
not_ab (u, v, s, e, w) = last_letter u v e w
  where
    last_letter : (u v : List ℕ) → v ≡ 0 ∷ [] → 0 ∷ 1 ∷ [] ≡ u ++ v → ⊥
    last_letter [] v e w = let h : ◌≡◌ {A = List ℕ} (0 ∷ 1 ∷ []) (0 ∷ []) = cc in let z : ◌≡◌ {A = List ℕ} (1 ∷ []) [] = cc in let y : ◌≡◌ {A = ℕ} 0 1 = cc in omega arith
    last_letter (x ∷ []) v e w = let h : ◌≡◌ {A = List ℕ} (1 ∷ []) (0 ∷ []) = cc in let z : ◌≡◌ {A = ℕ} 1 0 = cc in omega arith
    last_letter (x ∷ y ∷ u) v e w = let h : ◌≡◌ {A = List ℕ} [] (u ++ v) = cc in longer u v e h
