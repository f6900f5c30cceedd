-- The names of a document that was loaded are well formed, and no two of one kind alike.
use Rattle.std.proofs.Common.{◌≡◌, ℕ, ◌<◌, List, [], ◌∷◌, ◌++◌, length, get_or, sym, ◌∙◌, subst, ⊎_elim, arith}
use Rattle.std.specs.List.{AllByRecursion}
use Rattle.std.proofs.ByRecursion.{All-push}
use Rattle.std.proofs.lemmas.List.{get_or_append_left, get_or_push, length_push}
use Rattle.std.proofs.lemmas.Bool.{cases_lt}
use Rattle.program.specs.Names.{Named}
use Rattle.program.specs.Spellings.{Missing}
use Rattle.document.specs.Lines.{Declarations, Line, act_line, prop_line, goal_line, prog_line, true_form, prop_form, not_form, and_form, or_form, next_form, until_form, named_fields}
use Rattle.document.specs.Declaring.{NewName, AddsByFirst}
use Rattle.document.specs.Outcomes.{taken}
use Rattle.document.specs.Coming.{ComesByFirst, declares, aims, LoadsByFirst, read}
use Rattle.lasso.specs.LassoLines.{Apart}
use Rattle.lasso.specs.ScanLaws.{LoadedApart}

-- a new name
apart_push : (names : List (List ℕ)) (n : List ℕ) → Apart names → Named n → Missing names n → Apart (names ++ n ∷ [])
apart_push names n a h miss = record { named = All-push Named names n a.named h; apart = two }
  where
    two : (i j : ℕ) → i < j → j < length (names ++ n ∷ []) → get_or (names ++ n ∷ []) i [] ≡ get_or (names ++ n ∷ []) j [] → ⊥
    two i j l b e =
        let long = length_push names n in
        let first = get_or_append_left names (n ∷ []) [] i (omega arith) in
        ⊎_elim (λ x. a.apart i j l x (sym first ∙ e ∙ get_or_append_left names (n ∷ []) [] j x))
        (λ x. miss i (omega arith) (sym first ∙ e ∙ get_or_push names n [] j (omega arith))) (cases_lt j (length names))

abbrev Both : Declarations → Type 0
Both d = Apart d.acts × Apart d.props

line_apart : (d e : Declarations) (x : Line) → AllByRecursion Named (named_fields x) → NewName d x → AddsByFirst d x e → Both d → Both e
line_apart d e (act_line n) h new is x = subst Both (sym is) (apart_push d.acts n x.0 h.0 new, x.1)
line_apart d e (prop_line n) h new is x = subst Both (sym is) (x.0, apart_push d.props n x.1 h.0 new)
line_apart d e (goal_line f) h new is x = absurd is
line_apart d e (prog_line n t) h new is x = subst Both (sym is.2) x
line_apart d e (true_form n) h new is x = subst Both (sym is.2) x
line_apart d e (prop_form n p) h new is x = subst Both (sym is.2) x
line_apart d e (not_form n f) h new is x = subst Both (sym is.2) x
line_apart d e (and_form n f g) h new is x = subst Both (sym is.2) x
line_apart d e (or_form n f g) h new is x = subst Both (sym is.2) x
line_apart d e (next_form n a f) h new is x = subst Both (sym is.2) x
line_apart d e (until_form n f p g) h new is x = subst Both (sym is.2) x

lines_apart : {d e : Declarations} {n goal : ℕ} {ls : List (List ℕ)} → ComesByFirst d n ls (taken e goal) → Both d → Both e
lines_apart (declares {d} {e} x r f is c) b = lines_apart c (line_apart d e x r.1 f.well_named.0 is b)
lines_apart (aims f r g num) b = b

text_apart : {text : List ℕ} {e : Declarations} {goal : ℕ} → LoadsByFirst text (taken e goal) → Both e
text_apart (read h c) = lines_apart c (none, none)
  where
    none : Apart []
    none = record { named = tt; apart = λ i j h l. absurd (omega arith) }

pub loaded_apart : LoadedApart
loaded_apart text doc t = let b = text_apart t.loads in (subst Apart t.holds.acts b.0, subst Apart t.holds.props b.1)
