-- Worked examples: pieces of a text, and what comes of the shortest texts.
use Rattle.std.proofs.Common.{◌≡◌, [], ◌∷◌, refl, arith}
use Rattle.program.specs.Words.{act, seq, star}
use Rattle.document.specs.Formulas.{truth, prop, until}
use Rattle.document.specs.Documents.{Document, goal_formula, weight}
use Rattle.document.specs.Texts.{pieces}
use Rattle.document.specs.Outcomes.{refused, Loads, read, no_goal, unended}
use Rattle.document.specs.declared.form.Form.TheVariants.{True, Prop, Until}

-- a line of two fields
two_fields : pieces 9 (97 ∷ 9 ∷ 98 ∷ []) ≡ (97 ∷ []) ∷ (98 ∷ []) ∷ []
two_fields = refl

-- two tabs in a row have an empty field between them
empty_field : pieces 9 (9 ∷ 9 ∷ []) ≡ [] ∷ [] ∷ [] ∷ []
empty_field = refl

-- the empty text has no goal: code 6, line 1
empty_text : Loads [] (refused 6 1 0)
empty_text = read (omega arith) no_goal

-- a text without its line feed: code 2
no_line_feed : Loads (97 ∷ []) (refused 2 1 0)
no_line_feed = read (omega arith) unended

-- until true (a;a)* p, by the lines: true, prop 0, until 0 0 1
pairs_then_p : Document
pairs_then_p = record { acts = 1; props = 1; progs = star (seq (act 0) (act 0)) ∷ []; forms = True ∷ Prop 0 ∷ Until 0 0 1 ∷ []; goal = 2 }

its_formula : goal_formula pairs_then_p ≡ until truth (star (seq (act 0) (act 0))) (prop 0)
unfolding pairs_then_p
its_formula = refl

-- 2 + 2 + 6 times three states
its_weight : weight pairs_then_p.progs pairs_then_p.forms ≡ 22
unfolding pairs_then_p
its_weight = refl
