-- Worked examples: a lasso of three steps with a stem of one, read around its loop, and texts.
use Rattle.std.proofs.Common.{◌≡◌, [], ◌∷◌, codes, refl, arith}
use Rattle.lasso.specs.Readings.{Lasso, place, blank_moment}
use Rattle.lasso.specs.LassoTexts.{decimal, marks_text, marked, joined}

three : Lasso
three = record { steps = blank_moment ∷ blank_moment ∷ blank_moment ∷ []; stem = 1; short = omega arith }

-- steps 3, 4, 5 read onward stand at places 1, 2, 1
fourth : place three 3 ≡ 1
unfolding three
fourth = refl

fifth : place three 4 ≡ 2
unfolding three
fifth = refl

sixth : place three 5 ≡ 1
unfolding three
sixth = refl

-- states in decimal
zero_text : decimal 0 ≡ codes "0"
zero_text = refl

large_text : decimal 4095 ≡ codes "4095"
large_text = refl

-- marks: none, the second alone, both
no_marks : marks_text (codes "p" ∷ codes "q" ∷ []) 0 ≡ codes "-"
no_marks = refl

second_mark : marks_text (codes "p" ∷ codes "q" ∷ []) 2 ≡ codes "q"
second_mark = refl

both_marks : marks_text (codes "p" ∷ codes "q" ∷ []) 3 ≡ codes "p,q"
both_marks = refl

-- the same, name by name
no_names : joined (marked (codes "p" ∷ codes "q" ∷ []) 0 0) ≡ codes "-"
no_names = refl

second_name : joined (marked (codes "p" ∷ codes "q" ∷ []) 0 2) ≡ codes "q"
second_name = refl

both_names : joined (marked (codes "p" ∷ codes "q" ∷ []) 0 3) ≡ codes "p,q"
both_names = refl
