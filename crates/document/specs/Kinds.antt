-- The words that lines begin with, and the kinds of forms.
use Rattle.std.specs.Prelude.{◌≡◌, ℕ, List, [], Result, MatchResult, codes, slice_index_or, ◌≢◌}
use Rattle.document.specs.Lines.{Line, true_form, prop_form, not_form, and_form, or_form, next_form, until_form}
use Rattle.document.specs.declared.fault.LineFault.{LineFault}
use Rattle.document.specs.declared.fault.LineFault.TheVariants.{Shape}
use Rattle.document.specs.declared.words.Word.{Word}
use Rattle.document.specs.declared.words.Word.TheVariants as word
use Rattle.document.specs.declared.words.Word.TheVariants.{Act, Prog, Form, Goal}
use Rattle.document.specs.declared.words.Kind.{Kind}
use Rattle.document.specs.declared.words.Kind.TheVariants.{True, Prop, Not, And, Or, Next, Until}

-- the word of a line of each sort
abbrev pub first_word : Word → List ℕ
first_word Act = codes "act"
first_word word.Prop = codes "prop"
first_word Prog = codes "prog"
first_word Form = codes "form"
first_word Goal = codes "goal"

-- what a line begins with, or none of the five words
abbrev pub ReadsWord : List ℕ → Result Word LineFault → Type 0
ReadsWord bytes r = MatchResult r (λ k. bytes ≡ first_word k) (λ f. (f ≡ Shape) × ((k : Word) → bytes ≢ first_word k))

-- the word of each kind of form
abbrev pub word_of : Kind → List ℕ
word_of True = codes "true"
word_of Prop = codes "prop"
word_of Not = codes "not"
word_of And = codes "and"
word_of Or = codes "or"
word_of Next = codes "next"
word_of Until = codes "until"

-- the kind that the bytes name, or none of the seven
abbrev pub ReadsKind : List ℕ → Result Kind LineFault → Type 0
ReadsKind bytes r = MatchResult r (λ k. bytes ≡ word_of k) (λ f. (f ≡ Shape) × ((k : Kind) → bytes ≢ word_of k))

abbrev pub operands_of : Kind → ℕ
operands_of True = 0
operands_of Prop = 1
operands_of Not = 1
operands_of And = 2
operands_of Or = 2
operands_of Next = 2
operands_of Until = 3

-- the form line of a kind that has these fields: the name in field 1, the operands from field 3 on
abbrev pub form_with : Kind → List (List ℕ) → Line
form_with True fs = true_form (slice_index_or fs 1 [])
form_with Prop fs = prop_form (slice_index_or fs 1 []) (slice_index_or fs 3 [])
form_with Not fs = not_form (slice_index_or fs 1 []) (slice_index_or fs 3 [])
form_with And fs = and_form (slice_index_or fs 1 []) (slice_index_or fs 3 []) (slice_index_or fs 4 [])
form_with Or fs = or_form (slice_index_or fs 1 []) (slice_index_or fs 3 []) (slice_index_or fs 4 [])
form_with Next fs = next_form (slice_index_or fs 1 []) (slice_index_or fs 3 []) (slice_index_or fs 4 [])
form_with Until fs = until_form (slice_index_or fs 1 []) (slice_index_or fs 3 []) (slice_index_or fs 4 []) (slice_index_or fs 5 [])
