-- What a line's fields say of it.
use Rattle.std.proofs.Common.{◌≡◌, ℕ, ◌≤◌, Bool, true, false, List, [], ◌∷◌, ◌++◌, length, get_or, IsErrAnd, codes, Some, None, Result, sym, refl, ap, ◌∙◌, subst, inl, inr, ⊎_elim, append-nil, arith, MatchResult}
use native.Mathlib.Nat.{div-eq_of_lt}
use Rattle.std.proofs.lemmas.Result.{err_from_is_err_and}
use Rattle.std.proofs.lemmas.Bool.{and_from, lt-ltb, le-leb, eq-eqb}
use Rattle.program.specs.Names.{Named}
use Rattle.program.specs.Spellings.{Missing, NumberIn}
use Rattle.document.specs.Texts.{fields}
use Rattle.lasso.specs.LassoTexts.{Words, worded, words_of, decimal, joined}
use Rattle.lasso.specs.MarkFields.{MarksRead, NoMarks}
use Rattle.lasso.specs.LassoLines.{Shaped, Faulty, shape, naming, Reads}
use Rattle.lasso.specs.Parts.{is_stem}
use Rattle.lasso.specs.declared.part.Part.{Part}
use Rattle.lasso.specs.declared.scan.Marks.{Marks}
use Rattle.lasso.proofs.OneReading.{marked_known}
use Rattle.lasso.proofs.Splits.{together, together_is}
use Rattle.lasso.proofs.Worded.{kind_word, words_fields, worded_fields}

-- what a `?` returns where its call was refused
pub exit_at : {X E : Type 0} (r : Result X E) (f : E) (P : X → Type 0) (Q : E → Type 0) → IsErrAnd r (λ y. y ≡ f) → Q f → MatchResult r P Q
exit_at r f P Q e q = let p = err_from_is_err_and r e in rw (p.1, p.2) q

pub four_bytes : {X : Type 0} (xs : List X) (d a b e f : X) → length xs ≡ 4 → get_or xs 0 d ≡ a → get_or xs 1 d ≡ b → get_or xs 2 d ≡ e → get_or xs 3 d ≡ f → xs ≡ a ∷ b ∷ e ∷ f ∷ []
four_bytes [] d a b e f h p q r s = absurd (omega arith)
four_bytes (x ∷ []) d a b e f h p q r s = absurd (omega arith)
four_bytes (x ∷ y ∷ []) d a b e f h p q r s = absurd (omega arith)
four_bytes (x ∷ y ∷ z ∷ []) d a b e f h p q r s = absurd (omega arith)
four_bytes (x ∷ y ∷ z ∷ t ∷ []) d a b e f h p q r s = λ i. p i ∷ q i ∷ r i ∷ s i ∷ []
four_bytes (x ∷ y ∷ z ∷ t ∷ u ∷ xs) d a b e f h p q r s = absurd (omega arith)

module _ (acts props : List (List ℕ)) (line : List ℕ) where
  field_is : (k : ℕ) (w : Words) → Shaped props w → line ≡ worded w → get_or (fields line) k [] ≡ get_or (words_fields w) k []
  field_is k w s e = ap (λ (l : List ℕ). get_or (fields l) k []) e ∙ ap (λ (l : List (List ℕ)). get_or l k []) (worded_fields s)

  pub fault_fields : (length (fields line) ≡ 4 → ⊥) → Faulty acts props line 2
  fault_fields never = shape (λ w s e. never (ap (λ (l : List ℕ). length (fields l)) e ∙ ap length (worded_fields s)))

  pub fault_kind : (f : List ℕ) → f ≡ get_or (fields line) 0 [] → (f ≡ codes "stem" → ⊥) → (f ≡ codes "loop" → ⊥) → Faulty acts props line 2
  fault_kind f is a b = shape (λ w s e. go w.in_stem (is ∙ field_is 0 w s e))
    where
      go : (k : Bool) → f ≡ kind_word k → ⊥
      go true = a
      go false = b

  pub fault_action : (f : List ℕ) → f ≡ get_or (fields line) 1 [] → (Named f → ⊥) → Faulty acts props line 2
  fault_action f is never = shape (λ w s e. never (subst Named (sym (is ∙ field_is 1 w s e)) s.action))

  pub fault_state : (f : List ℕ) → f ≡ get_or (fields line) 2 [] → ((n : ℕ) → n ≤ 4095 → f ≡ decimal n → ⊥) → Faulty acts props line 2
  fault_state f is never = shape (λ w s e. never w.state s.state (is ∙ field_is 2 w s e))

  pub fault_marks : (f : List ℕ) → f ≡ get_or (fields line) 3 [] → NoMarks props f → Faulty acts props line 2
  fault_marks f is never = shape (λ w s e. never w.marks s.marks s.ordered (is ∙ field_is 3 w s e))

  -- the line's four fields as they were read
  pub record Parted (part : Part) (action : List ℕ) (n : ℕ) (names : List (List ℕ)) (m : Marks) : Type 0 where
    pub count : length (fields line) ≡ 4
    pub kind : kind_word (is_stem part) ≡ get_or (fields line) 0 []
    pub name : action ≡ get_or (fields line) 1 []
    pub state : decimal n ≡ get_or (fields line) 2 []
    pub marks : joined names ≡ get_or (fields line) 3 []
    pub named : Named action
    pub low : n ≤ 4095
    pub read : MarksRead props names m

  -- the same, from what the readers of the fields say
  pub parted : (part : Part) (action digits texts : List ℕ) (n : ℕ) (names : List (List ℕ)) (m : Marks) → length (fields line) ≡ 4
      → get_or (fields line) 0 [] ≡ kind_word (is_stem part) → action ≡ get_or (fields line) 1 [] → digits ≡ get_or (fields line) 2 [] → texts ≡ get_or (fields line) 3 []
      → Named action → (n ≤ 4095) × (digits ≡ decimal n) → texts ≡ joined names → MarksRead props names m → Parted part action n names m
  parted part action digits texts n names m count kind name d t named s j read =
      record { count = count; kind = sym kind; name = name; state = sym s.1 ∙ d; marks = sym j ∙ t; named = named; low = s.0; read = read }

  module _ (part : Part) (action : List ℕ) (n : ℕ) (names : List (List ℕ)) (m : Marks) (p : Parted part action n names m) where
    is_worded : line ≡ worded (record { in_stem = is_stem part; action = action; state = n; marks = names })
    is_worded =
        sym (together_is 9 line)
        ∙ ap (together 9) (four_bytes (fields line) [] (kind_word (is_stem part)) action (decimal n) (joined names) p.count (sym p.kind) (sym p.name) (sym p.state) (sym p.marks))
        ∙ ap (λ (l : List ℕ). kind_word (is_stem part) ++ 9 ∷ (action ++ 9 ∷ (decimal n ++ 9 ∷ l))) (append-nil (joined names))

    is_shaped : Shaped props (record { in_stem = is_stem part; action = action; state = n; marks = names })
    is_shaped = record { action = p.named; state = p.low; marks = p.read.named; ordered = p.read.ordered }

    pub fault_unknown_action : Missing acts action → Faulty acts props line 4
    fault_unknown_action miss = naming (record { in_stem = is_stem part; action = action; state = n; marks = names }) is_shaped is_worded (inl miss)

    pub fault_unknown_mark : m.mask ≡ None → Faulty acts props line 4
    fault_unknown_mark e = naming (record { in_stem = is_stem part; action = action; state = n; marks = names }) is_shaped is_worded (inr (p.read.unknown e))

    pub line_reads : (a v : ℕ) → NumberIn acts action a → m.mask ≡ Some v
        → Reads acts props line (record { step = record { state = n; action = a; marks = v }; part = part })
    line_reads a v num e =
        let k = p.read.known v e in
        let w : record { in_stem = is_stem part; action = action; state = n; marks = names } ≡ words_of acts props (is_stem part) (record { state = n; action = a; marks = v }) =
        λ i. record { in_stem = is_stem part; action = sym num.1 i; state = n; marks = sym k.0 i } in
        record {
          fit = and_from _ _ (lt-ltb a (length acts) num.0) (and_from _ _ (le-leb n 4095 p.low) (eq-eqb _ 0 (div-eq_of_lt k.1)));
          text = is_worded ∙ ap worded w;
          shaped = subst (Shaped props) w is_shaped;
          known = ⊎_elim (λ miss. miss a num.0 refl) (λ miss. marked_known props v miss.0 miss.1 miss.2);
        }
