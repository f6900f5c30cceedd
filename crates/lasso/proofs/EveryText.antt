-- Every text has an outcome.
use Rattle.std.proofs.Common.{◌≡◌, ℕ, zero, suc, ◌+◌, ◌^◌, ◌<◌, true, ◌⊎◌, List, [], ◌∷◌, ◌++◌, map, length, get_or, codes, Some, None, sym, refl, ap, ◌∙◌, subst, inl, inr, ⊎_elim, append_assoc, append-nil, arith}
use lib.Bits.{bit_or}
use Rattle.std.specs.List.{AllByRecursion}
use Rattle.std.specs.Option.{option_map}
use Rattle.std.proofs.ByRecursion.{All-get_or, All-from_get_or}
use Rattle.std.proofs.lemmas.Option.{same_Some, none-some}
use Rattle.std.proofs.lemmas.Bool.{cases_eq, cases_lt, cases_Bool, both_ways}
use Rattle.program.specs.Names.{letter, naming, Named}
use Rattle.program.specs.Spellings.{Missing, NumberIn}
use Rattle.document.specs.Texts.{pieces, fields}
use Rattle.document.proofs.Pieces.{pieces_some}
use Rattle.lasso.specs.LassoTexts.{decimal, joined}
use Rattle.lasso.specs.MarkFields.{AddsMark, RefusesMark, MarksRead, NoMarks}
use Rattle.lasso.specs.LassoLines.{Ordered, Faulty, Reads, AllRead, none, more, FirstFault, unended, faulty, later}
use Rattle.lasso.specs.ScanLaws.{HasOneOutcome, ScanOfPrint, PrintOfScan, OneLasso, LoadedApart}
use Rattle.lasso.specs.Scans.{at_fault, Outcome, spelled, refused, Scans, no_places, taken}
use Rattle.lasso.specs.Tallies.{Tallied}
use Rattle.lasso.specs.Parts.{is_stem}
use Rattle.lasso.specs.declared.part.Part.{Part}
use Rattle.lasso.specs.declared.part.Part.TheVariants.{Stem, Loop}
use Rattle.lasso.specs.declared.scan.Marks.{Marks}
use Rattle.lasso.specs.declared.scan.StepLine.{StepLine}
use Rattle.lasso.specs.declared.scan.Tally.{Tally}
use Rattle.lasso.proofs.Marking.{Taken, taken_none, taken_more, taken_refused, taken_read, together_joined}
use Rattle.lasso.proofs.NamesApart.{loaded_apart}
use Rattle.lasso.proofs.Options.{some_or_none}
use Rattle.lasso.proofs.Splits.{together_is}
use Rattle.lasso.proofs.StepLines.{fault_fields, fault_kind, fault_action, fault_state, fault_marks, fault_unknown_action, fault_unknown_mark, line_reads, parted}
use Rattle.lasso.proofs.Surveys.{tallied_none, tallied_more}
use Rattle.lasso.proofs.TextLaws.{read_lasso, step_of, scan_not, outcomes_same, one_lasso, scan_of_print, print_of_scan}
use Rattle.lasso.proofs.Worded.{kind_word, joined_pieces}

same_bytes : (xs ys : List ℕ) → (xs ≡ ys) ⊎ (xs ≡ ys → ⊥)
same_bytes [] [] = inl refl
same_bytes [] (y ∷ ys) = inr (λ e. let n = ap length e in omega arith)
same_bytes (x ∷ xs) [] = inr (λ e. let n = ap length e in omega arith)
same_bytes (x ∷ xs) (y ∷ ys) =
    ⊎_elim (λ p. ⊎_elim (λ q. inl (λ i. p i ∷ q i)) (λ q. inr (λ e. q (ap (tail) e))) (same_bytes xs ys))
    (λ p. inr (λ e. p (ap (λ (l : List ℕ). get_or l 0 0) e))) (cases_eq x y)
  where
    tail : List ℕ → List ℕ
    tail [] = []
    tail (x ∷ xs) = xs

-- a list of bytes is a name or none
all_naming : (bs : List ℕ) → AllByRecursion (λ b. naming b ≡ true) bs ⊎ (AllByRecursion (λ b. naming b ≡ true) bs → ⊥)
all_naming [] = inl tt
all_naming (b ∷ bs) =
    ⊎_elim (λ p. ⊎_elim (λ q. inl (p, q)) (λ q. inr (λ h. q h.1)) (all_naming bs)) (λ p. inr (λ h. both_ways (naming b) p h.0)) (cases_Bool (naming b))

name_or_none : (bs : List ℕ) → Named bs ⊎ (Named bs → ⊥)
name_or_none bs =
    ⊎_elim
    (λ a. ⊎_elim
    (λ b. ⊎_elim
    (λ c. ⊎_elim
    (λ d. inl (record { some = a; short = omega arith; begins = c; rest = λ k h. All-get_or (λ b. naming b ≡ true) bs k 0 h d }))
    (λ d. inr (λ h. d (All-from_get_or (λ b. naming b ≡ true) bs 0 h.rest))) (all_naming bs))
    (λ c. inr (λ h. both_ways (letter (get_or bs 0 0)) c h.begins)) (cases_Bool (letter (get_or bs 0 0))))
    (λ b. inr (λ h. omega (arith, h.short))) (cases_lt (length bs) 17))
    (λ a. inr (λ h. omega (arith, h.some))) (cases_lt 0 (length bs))

number_or_none : (names : List (List ℕ)) (n : List ℕ) → ((i : ℕ) × NumberIn names n i) ⊎ Missing names n
number_or_none [] n = inr (λ k h. absurd (omega arith))
number_or_none (m ∷ ms) n =
    ⊎_elim (λ e. inl (0, (omega arith, e, λ k h. absurd (omega arith))))
    (λ e. ⊎_elim (λ r. inl (suc r.0, (omega (arith, r.1.0), r.1.1, below e r.0 r.1.2))) (λ r. inr (below e (length ms) r)) (number_or_none ms n))
    (same_bytes m n)
  where
    below : (m ≡ n → ⊥) → (i : ℕ) → ((k : ℕ) → k < i → get_or ms k [] ≡ n → ⊥) → (k : ℕ) → k < suc i → get_or (m ∷ ms) k [] ≡ n → ⊥
    below e i r zero h = e
    below e i r (suc k) h = r k (omega arith)

mark_or_none : (props : List (List ℕ)) (n : List ℕ) (m : Marks) → ((new : Marks) × AddsMark props n m new) ⊎ RefusesMark props n m
mark_or_none props n m =
    ⊎_elim
    (λ h. ⊎_elim
    (λ r. ⊎_elim (λ l. inr (inr (r.0, r.1, l)))
    (λ l. inl (record { mask = option_map (λ v. bit_or v (2 ^ r.0)) m.mask; floor = r.0 + 1 }, (h, inr (r.0, r.1, l, refl)))) (cases_lt r.0 m.floor))
    (λ r. inl (record { mask = None; floor = m.floor }, (h, inl (r, refl)))) (number_or_none props n))
    (λ h. inr (inl h)) (name_or_none n)

marks_or_none : (props ns rest : List (List ℕ)) (m : Marks) → Taken props ns m
    → ((new : Marks) × Taken props (ns ++ rest) new) ⊎ (AllByRecursion Named (ns ++ rest) → Ordered props (ns ++ rest) → ⊥)
marks_or_none props ns [] m t = inl (m, subst (λ (l : List (List ℕ)). Taken props l m) (sym (append-nil ns)) t)
marks_or_none props ns (n ∷ rest) m t =
    ⊎_elim
    (λ a.
    let e : (ns ++ n ∷ []) ++ rest ≡ ns ++ n ∷ rest = append_assoc ns (n ∷ []) rest in
    let P : List (List ℕ) → Type 0 = λ l. ((new : Marks) × Taken props l new) ⊎ (AllByRecursion Named l → Ordered props l → ⊥) in
    subst P e (marks_or_none props (ns ++ n ∷ []) rest a.0 (taken_more props ns n m t a.0 a.1)))
    (λ r. inr (taken_refused props ns n m t r rest))
    (mark_or_none props n m)

field_or_none : (props : List (List ℕ)) (field : List ℕ) → ((names : List (List ℕ)) × (m : Marks) × (field ≡ joined names) × MarksRead props names m) ⊎ NoMarks props field
field_or_none props field =
    ⊎_elim (λ e. inl ([], record { mask = Some 0; floor = 0 }, e, taken_read props [] _ (taken_none props)))
    (λ dash. ⊎_elim
    (λ r. inl (pieces 44 field, r.0, sym (together_joined (pieces 44 field) (pieces_some 44 field) ∙ together_is 44 field), taken_read props (pieces 44 field) r.0 r.1))
    (λ r. inr (other dash r)) (marks_or_none props [] (pieces 44 field) (record { mask = Some 0; floor = 0 }) (taken_none props)))
    (same_bytes field (45 ∷ []))
  where
    other : (field ≡ 45 ∷ [] → ⊥) → (AllByRecursion Named (pieces 44 field) → Ordered props (pieces 44 field) → ⊥) → NoMarks props field
    other dash r [] all ord is = dash is
    other dash r (v ∷ vs) all ord is =
        let e : v ∷ vs ≡ pieces 44 field = sym (joined_pieces v vs all) ∙ ap (pieces 44) (sym is) in r (subst (AllByRecursion Named) e all) (subst (Ordered props) e ord)

state_or_none : (field : List ℕ) (k : ℕ) → ((n : ℕ) × (n < k) × (field ≡ decimal n)) ⊎ ((n : ℕ) → n < k → field ≡ decimal n → ⊥)
state_or_none field zero = inr (λ n h. absurd (omega arith))
state_or_none field (suc k) =
    ⊎_elim (λ r. inl (r.0, omega (arith, r.1), r.2))
    (λ r. ⊎_elim (λ e. inl (k, omega arith, e)) (λ e. inr (λ n h is. ⊎_elim (λ x. e (subst (λ (v : ℕ). field ≡ decimal v) x is)) (λ x. r n (omega arith) is) (cases_eq n k))) (same_bytes field (decimal k)))
    (state_or_none field k)

module _ (acts props : List (List ℕ)) where
  module _ (line : List ℕ) where
    abbrev Answer : Type 0
    Answer = ((s : StepLine) × Reads acts props line s) ⊎ ((code : ℕ) × Faulty acts props line code)

    abbrev f : ℕ → List ℕ
    f k = get_or (fields line) k []

    after_kind : length (fields line) ≡ 4 → (b : Part) → kind_word (is_stem b) ≡ f 0 → Answer
    after_kind count b k =
        ⊎_elim
        (λ named. ⊎_elim
        (λ n. ⊎_elim
        (λ m. let p = parted acts props line b (f 1) (f 2) (f 3) n.0 m.0 m.1 count (sym k) refl refl refl named (omega (arith, n.1), n.2) m.2 m.3 in ⊎_elim
        (λ a. ⊎_elim
        (λ d. inl (_, line_reads acts props line b (f 1) n.0 m.0 m.1 p a.0 d.0 a.1 d.1))
        (λ d. inr (4, fault_unknown_mark acts props line b (f 1) n.0 m.0 m.1 p d))
        (some_or_none m.1.mask))
        (λ a. inr (4, fault_unknown_action acts props line b (f 1) n.0 m.0 m.1 p a))
        (number_or_none acts (f 1)))
        (λ m. inr (2, fault_marks acts props line (f 3) refl m)) (field_or_none props (f 3)))
        (λ n. inr (2, fault_state acts props line (f 2) refl (λ v h. n v (omega arith)))) (state_or_none (f 2) 4096))
        (λ named. inr (2, fault_action acts props line (f 1) refl named)) (name_or_none (f 1))

    line_or_none : Answer
    line_or_none =
        ⊎_elim
        (λ count. ⊎_elim (λ k. after_kind count Stem (sym k))
        (λ stem. ⊎_elim (λ k. after_kind count Loop (sym k)) (λ loop. inr (2, fault_kind acts props line (f 0) refl stem loop)) (same_bytes (f 0) (codes "loop")))
        (same_bytes (f 0) (codes "stem")))
        (λ count. inr (2, fault_fields acts props line count))
        (cases_eq (length (fields line)) 4)

  lines_or_none : (n : ℕ) (ls : List (List ℕ)) → 0 < length ls
      → ((ss : List StepLine) × AllRead acts props ls ss) ⊎ ((code : ℕ) × (k : ℕ) × FirstFault acts props n ls code k)
  lines_or_none n [] h = absurd (omega arith)
  lines_or_none n ([] ∷ []) h = inl ([], none)
  lines_or_none n ((x ∷ xs) ∷ []) h = inr (2, n, unended)
  lines_or_none n (l ∷ m ∷ ms) h =
      ⊎_elim
      (λ r. ⊎_elim (λ s. inl (r.0 ∷ s.0, more r.1 s.1)) (λ s. inr (s.0, s.1, later r.1 s.2)) (lines_or_none (suc n) (m ∷ ms) (omega arith)))
      (λ r. inr (r.0, n, faulty r.1))
      (line_or_none l)

  tally_of : (pre rest : List StepLine) (t : Tally) → Tallied pre t → (u : Tally) × Tallied (pre ++ rest) u
  tally_of pre [] t x = (t, subst (λ (l : List StepLine). Tallied l t) (sym (append-nil pre)) x)
  tally_of pre (s ∷ rest) t x =
      let P : List StepLine → Type 0 = λ l. (u : Tally) × Tallied l u in
      subst P (append_assoc pre (s ∷ []) rest) (tally_of (pre ++ s ∷ []) rest _ (tallied_more pre t x s))

  outcome_of : (text : List ℕ) (places : ℕ) → (o : Outcome) × Scans acts props text places o
  outcome_of text places =
      ⊎_elim (λ r. tallied r.0 r.1 (tally_of [] r.0 _ tallied_none)) (λ r. (refused r.0 r.1, at_fault r.2)) (lines_or_none 1 (pieces 10 text) (pieces_some 10 text))
    where
      tallied : (ss : List StepLine) → AllRead acts props (pieces 10 text) ss → ((u : Tally) × Tallied ss u) → (o : Outcome) × Scans acts props text places o
      tallied ss r u =
          let t = u.0 in
          let never : ((n : ℕ) → t.stem ≡ Some n → (n ≡ t.steps) ⊎ (131072 < t.steps)) → (o : Outcome) × Scans acts props text places o =
          λ h. (refused 12 0, scan_not acts props text places t (ss, r, u.1) h) in
          ⊎_elim
          (λ e. ⊎_elim (λ x. never (λ n z. let s : e.0 ≡ n = same_Some _ _ (sym e.1 ∙ z) in inl (omega arith)))
          (λ x. ⊎_elim
          (λ l.
          let y = read_lasso acts props text ss t e.0 r u.1 e.1 (omega (arith, (u.1.ordered e.0 e.1).0)) (omega arith) in
          ⊎_elim (λ few. (refused 9 0, no_places y.0 y.1 few)) (λ room. (spelled _ e.0, taken y.0 y.1 room)) (cases_lt places (length (map step_of ss))))
          (λ l. never (λ n z. inr (omega arith))) (cases_lt t.steps 131073))
          (cases_eq e.0 t.steps))
          (λ e. never (λ n z. absurd (none-some _ (sym e ∙ z))))
          (some_or_none t.stem)

one_outcome : HasOneOutcome
one_outcome acts props a b text places =
    let r = outcome_of acts props text places in (r.0, r.1, λ q x. outcomes_same acts props a b x r.1)

pub text_laws : HasOneOutcome × (ScanOfPrint × (PrintOfScan × (OneLasso × LoadedApart)))
text_laws = (one_outcome, (scan_of_print, (print_of_scan, (one_lasso, loaded_apart))))
