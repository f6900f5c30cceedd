-- The one reading that the fields of a line leave.
use Rattle.std.proofs.Common.{◌≡◌, ℕ, ◌+◌, cond, eqb, List, [], length, get_or, codes, sym, refl, ap, ◌∙◌, subst}
use Rattle.std.specs.List.{AllByRecursion}
use Rattle.program.specs.Names.{Named}
use Rattle.document.specs.Kinds.{word_of, form_with}
use Rattle.document.specs.Lines.{Declarations, Line, act_line, prop_line, goal_line, prog_line, true_form, prop_form, not_form, and_form, or_form, next_form, until_form, shown, named_fields, ReadsAs}
use Rattle.document.specs.Declaring.{FaultyByFirst, shape}
use Rattle.document.specs.Texts.{fields}
use Rattle.document.specs.declared.words.Kind.{Kind}
use Rattle.document.specs.declared.words.Kind.TheVariants.{True, Prop, Not, And, Or, Next, Until}

-- the kind's word, told by its first two letters
abbrev by_kind : List ℕ → List (List ℕ) → Line
by_kind w fs =
    let k = get_or w 0 0 + get_or w 1 0 in
    cond (eqb k 230) (form_with True fs)
    (cond (eqb k 226) (form_with Prop fs)
    (cond (eqb k 221) (form_with Not fs)
    (cond (eqb k 207) (form_with And fs) (cond (eqb k 225) (form_with Or fs) (cond (eqb k 211) (form_with Next fs) (form_with Until fs))))))

-- the first word, told by its fourth letter
abbrev by_word : ℕ → List (List ℕ) → Line
by_word w fs =
    cond (eqb w 0) (act_line (get_or fs 1 []))
    (cond (eqb w 112) (prop_line (get_or fs 1 []))
    (cond (eqb w 103) (prog_line (get_or fs 1 []) (get_or fs 2 [])) (cond (eqb w 108) (goal_line (get_or fs 1 [])) (by_kind (get_or fs 2 []) fs))))

abbrev pub reading : List (List ℕ) → Line
reading fs = by_word (get_or (get_or fs 0 []) 3 0) fs

reading_shown : (x : Line) → reading (shown x) ≡ x
reading_shown (act_line n) = refl
reading_shown (prop_line n) = refl
reading_shown (goal_line f) = refl
reading_shown (prog_line n p) = refl
reading_shown (true_form n) = refl
reading_shown (prop_form n p) = refl
reading_shown (not_form n f) = refl
reading_shown (and_form n f g) = refl
reading_shown (or_form n f g) = refl
reading_shown (next_form n a f) = refl
reading_shown (until_form n f p g) = refl

pub only : (bytes : List ℕ) (x : Line) → ReadsAs bytes x → x ≡ reading (fields bytes)
only bytes x r = sym (reading_shown x) ∙ ap reading (sym r.0)

-- a line reads one way at most
pub one_reading : (bytes : List ℕ) (x y : Line) → ReadsAs bytes x → ReadsAs bytes y → x ≡ y
one_reading bytes x y r s = only bytes x r ∙ sym (only bytes y s)

pub at_act : (fs : List (List ℕ)) → get_or fs 0 [] ≡ codes "act" → reading fs ≡ act_line (get_or fs 1 [])
at_act fs e = ap (λ w. by_word (get_or w 3 0) fs) e

pub at_prop : (fs : List (List ℕ)) → get_or fs 0 [] ≡ codes "prop" → reading fs ≡ prop_line (get_or fs 1 [])
at_prop fs e = ap (λ w. by_word (get_or w 3 0) fs) e

pub at_prog : (fs : List (List ℕ)) → get_or fs 0 [] ≡ codes "prog" → reading fs ≡ prog_line (get_or fs 1 []) (get_or fs 2 [])
at_prog fs e = ap (λ w. by_word (get_or w 3 0) fs) e

pub at_goal : (fs : List (List ℕ)) → get_or fs 0 [] ≡ codes "goal" → reading fs ≡ goal_line (get_or fs 1 [])
at_goal fs e = ap (λ w. by_word (get_or w 3 0) fs) e

pub at_form : (k : Kind) (fs : List (List ℕ)) → get_or fs 0 [] ≡ codes "form" → get_or fs 2 [] ≡ word_of k → reading fs ≡ form_with k fs
at_form True fs e f = ap (λ w. by_word (get_or w 3 0) fs) e ∙ ap (λ w. by_kind w fs) f
at_form Prop fs e f = ap (λ w. by_word (get_or w 3 0) fs) e ∙ ap (λ w. by_kind w fs) f
at_form Not fs e f = ap (λ w. by_word (get_or w 3 0) fs) e ∙ ap (λ w. by_kind w fs) f
at_form And fs e f = ap (λ w. by_word (get_or w 3 0) fs) e ∙ ap (λ w. by_kind w fs) f
at_form Or fs e f = ap (λ w. by_word (get_or w 3 0) fs) e ∙ ap (λ w. by_kind w fs) f
at_form Next fs e f = ap (λ w. by_word (get_or w 3 0) fs) e ∙ ap (λ w. by_kind w fs) f
at_form Until fs e f = ap (λ w. by_word (get_or w 3 0) fs) e ∙ ap (λ w. by_kind w fs) f

-- a line of which only one reading is left, and that one fails, is misshapen
module _ (d : Declarations) (bytes : List ℕ) (x : Line) (is : reading (fields bytes) ≡ x) where
  pub wrong_line : (ReadsAs bytes x → ⊥) → FaultyByFirst d bytes 2 0
  wrong_line un = shape (λ y r. un (subst (ReadsAs bytes) (only bytes y r ∙ is) r))

  pub wrong_count : (length (fields bytes) ≡ length (shown x) → ⊥) → FaultyByFirst d bytes 2 0
  wrong_count ne = wrong_line (λ r. ne (ap length r.0))

  pub wrong_name : (AllByRecursion Named (named_fields x) → ⊥) → FaultyByFirst d bytes 2 0
  wrong_name un = wrong_line (λ r. un r.1)
