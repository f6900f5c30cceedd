-- Worked example: what comes of a text of three lines.
use Rattle.std.proofs.Common.{◌≡◌, ℕ, true, List, [], ◌∷◌, ◌++◌, get_or, codes, refl, subst, arith}
use Rattle.program.specs.Names.{Named, letter, naming}
use Rattle.document.specs.declared.form.Form.TheVariants.{True}
use Rattle.document.specs.Lines.{act_line, true_form}
use Rattle.document.specs.Outcomes.{taken}
use Rattle.document.specs.Coming.{LoadsByFirst, read, declares, aims}

-- a text of three lines that is taken
three_lines : List ℕ
three_lines = (codes "act" ++ 9 ∷ 97 ∷ 10 ∷ []) ++ (codes "form" ++ 9 ∷ 102 ∷ 9 ∷ codes "true" ++ 10 ∷ []) ++ (codes "goal" ++ 9 ∷ 102 ∷ 10 ∷ [])

lone : (c : ℕ) → letter c ≡ true → naming c ≡ true → Named (c ∷ [])
lone c l n = record { some = omega arith; short = omega arith; begins = l; rest = λ k h. let z : 0 ≡ k = omega arith in subst (λ v. naming (get_or (c ∷ []) v 0) ≡ true) z n }

its_outcome : LoadsByFirst three_lines (taken (record { acts = (97 ∷ []) ∷ []; props = []; prog_names = []; progs = []; form_names = (102 ∷ []) ∷ []; forms = True ∷ [] }) 0)
unfolding three_lines
its_outcome =
    read (omega arith)
    (declares (act_line (97 ∷ [])) (refl, (lone 97 refl refl, tt)) (record { spelled = λ c m. m; well_named = (λ k h e. omega arith, tt); within = omega arith; in_place = tt }) refl
    (declares (true_form (102 ∷ [])) (refl, (lone 102 refl refl, tt))
    (record { spelled = λ c m. m; well_named = (λ k h e. omega arith, tt); within = (omega arith, λ e h. rw h (omega arith)); in_place = tt }) (True, refl, refl)
    (aims (102 ∷ []) (refl, (lone 102 refl refl, tt))
    (record { spelled = λ c m. m; well_named = (tt, (0, (omega arith, refl, λ k h e. omega arith))); within = tt; in_place = omega arith })
    (omega arith, refl, λ k h e. omega arith))))
