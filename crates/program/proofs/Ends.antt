-- What may stand behind the parts of a text.
use Rattle.std.proofs.Common.{◌≡◌, ℕ, ◌⊎◌, List, [], ◌∷◌, subst, inl, inr, ⊎_elim, arith}
use Rattle.program.specs.Reading.{Ends}
use Rattle.program.specs.Text.{factor, sequence, sum}

pub ends_sum : (rest : List ℕ) → Ends sum rest → Ends sequence rest
ends_sum [] h = tt
ends_sum (c ∷ rest) h = inl h

pub ends_sequence : (rest : List ℕ) → Ends sequence rest → Ends factor rest
ends_sequence [] h = tt
ends_sequence (c ∷ rest) h = ⊎_elim inl (λ x. inr (inl x)) h

pub not_plus : (rest more : List ℕ) → Ends sum rest → rest ≡ 43 ∷ more → ⊥
not_plus rest more h e = let z : ◌≡◌ {A = ℕ} 43 41 = subst (Ends sum) e h in omega arith

pub not_semi : (rest more : List ℕ) → Ends sequence rest → rest ≡ 59 ∷ more → ⊥
not_semi rest more h e = let z : (◌≡◌ {A = ℕ} 59 41) ⊎ (◌≡◌ {A = ℕ} 59 43) = subst (Ends sequence) e h in ⊎_elim (λ x. omega arith) (λ x. omega arith) z
