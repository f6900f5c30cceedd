-- Texts of lassos: one outcome, one lasso.
use Rattle.std.proofs.Common.{◌≡◌, ℕ, zero, suc, ◌+◌, ◌<◌, ◌≤◌, Bool, true, false, ltb, ◌⊎◌, List, [], ◌∷◌, ◌++◌, map, length, take, drop, Option, Some, None, sym, refl, ap, ◌∙◌, subst, inl, inr, ⊎_elim, append_assoc, arith}
use Rattle.std.specs.List.{AllByRecursion}
use Rattle.std.proofs.ByRecursion.{All-get_or, All-from_get_or}
use Rattle.std.proofs.lemmas.List.{length-map, take_at, drop_at}
use Rattle.std.proofs.lemmas.Bool.{lt-ltb, le-ltb, ltb-true, ltb-false, cases_order, both_ways}
use Rattle.document.specs.Texts.{pieces}
use Rattle.lasso.specs.Lassos.{fits, IsLasso}
use Rattle.lasso.specs.LassoTexts.{worded, words_of, lines_from, lasso_text}
use Rattle.lasso.specs.LassoLines.{Apart, Reads, AllRead, none, more, FirstFault, unended, faulty, later}
use Rattle.lasso.specs.ScanLaws.{ScanOfPrint, PrintOfScan, OneLasso}
use Rattle.lasso.specs.Scans.{at_fault, in_stem_at, SpellsNoLasso, Outcome, spelled, refused, Scans, no_lasso, no_places, taken}
use Rattle.lasso.specs.Tallies.{Tallied, Surveyed, Filled}
use Rattle.lasso.specs.Parts.{is_stem}
use Rattle.lasso.specs.declared.part.Part.{Part}
use Rattle.lasso.specs.declared.part.Part.TheVariants.{Stem, Loop}
use Rattle.lasso.specs.declared.scan.StepLine.{StepLine}
use Rattle.lasso.specs.declared.scan.Tally.{Tally}
use Rattle.lasso.specs.declared.step.Step.{Step}
use Rattle.lasso.proofs.Agree.{line_agree}
use Rattle.lasso.proofs.OneReading.{words_shaped, words_known, reads_same, reads_fine, faulty_same, kind_same}
use Rattle.lasso.proofs.Splits.{pieces_next, together, together_is}
use Rattle.lasso.proofs.Worded.{worded_lacks}

abbrev part_of : Bool → Part
part_of true = Stem
part_of false = Loop

part_of_is : (b : Bool) → is_stem (part_of b) ≡ b
part_of_is true = refl
part_of_is false = refl

-- the lines of steps of which the first is number i
abbrev lines_of : ℕ → ℕ → List Step → List StepLine
lines_of stem i [] = []
lines_of stem i (s ∷ ss) = record { step = s; part = part_of (ltb i stem) } ∷ lines_of stem (suc i) ss

abbrev pub step_of : StepLine → Step
step_of s = s.step

lines_long : (stem i : ℕ) (ss : List Step) → length (lines_of stem i ss) ≡ length ss
lines_long stem i [] = refl
lines_long stem i (s ∷ ss) = ap suc (lines_long stem (suc i) ss)

lines_steps : (stem i : ℕ) (ss : List Step) → map step_of (lines_of stem i ss) ≡ ss
lines_steps stem i [] = refl
lines_steps stem i (s ∷ ss) = ap {B = List Step} (λ l. s ∷ l) (lines_steps stem (suc i) ss)

lines_kinds : (stem i : ℕ) (ss : List Step) (k : ℕ) → k < length ss → in_stem_at (lines_of stem i ss) k ≡ ltb (i + k) stem
lines_kinds stem i [] k h = absurd (omega arith)
lines_kinds stem i (s ∷ ss) zero h = part_of_is (ltb i stem) ∙ ap (λ (j : ℕ). ltb j stem) (omega arith)
lines_kinds stem i (s ∷ ss) (suc k) h = lines_kinds stem (suc i) ss k (omega arith) ∙ ap (λ (j : ℕ). ltb j stem) (omega arith)

-- steps that stand first by their kinds are the stem
stems_same : (m n : ℕ) (s t : List Step) → m < length s → n < length t → lines_of m 0 s ≡ lines_of n 0 t → m ≡ n
stems_same m n s t h l e =
    let long : length s ≡ length t = sym (lines_long m 0 s) ∙ ap length e ∙ lines_long n 0 t in
    let at : (k : ℕ) → k < length s → ltb k m ≡ ltb k n = λ k b.
    ap (λ (j : ℕ). ltb j m) (omega arith) ∙ sym (lines_kinds m 0 s k b) ∙ ap (λ (v : List StepLine). in_stem_at v k) e ∙ lines_kinds n 0 t k (omega arith) ∙ ap (λ (j : ℕ). ltb j n) (omega arith) in
    ⊎_elim (λ x. x)
    (⊎_elim (λ x. absurd (both_ways (ltb m n) (sym (at m (omega arith)) ∙ le-ltb m m (omega arith)) (lt-ltb m n x)))
    (λ x. absurd (both_ways (ltb n m) (at n (omega arith) ∙ le-ltb n n (omega arith)) (lt-ltb n m x))))
    (cases_order m n)

lasso_lines : (acts props : ℕ) (steps : List Step) (stem : ℕ) → IsLasso acts props steps stem → SpellsNoLasso (lines_of stem 0 steps) → ⊥
lasso_lines acts props steps stem l n =
    let long = lines_long stem 0 steps in
    ⊎_elim
    (λ x. both_ways (ltb stem stem) (le-ltb stem stem (omega arith))
    (ap (λ (j : ℕ). ltb j stem) (omega arith) ∙ sym (lines_kinds stem 0 steps stem l.short) ∙ x stem (omega (arith, l.short))))
    (⊎_elim
    (λ x.
    let j : x.1 < length steps = omega (arith, x.3) in
    let i : x.0 < length steps = omega (arith, x.2) in
    let p = ltb-false (0 + x.0) stem (sym (lines_kinds stem 0 steps x.0 i) ∙ x.4) in
    let q = ltb-true (0 + x.1) stem (sym (lines_kinds stem 0 steps x.1 j) ∙ x.5) in
    omega (arith, x.2))
    (λ x. omega (arith, l.served)))
    n

module _ (acts props : List (List ℕ)) where
  abbrev Fits : Step → Type 0
  Fits s = fits (length acts) (length props) s ≡ true

  lasso_fits : (steps : List Step) (stem : ℕ) → IsLasso (length acts) (length props) steps stem → AllByRecursion Fits steps
  lasso_fits steps stem l = All-from_get_or Fits steps _ l.declared

  -- lines that are read make a text
  read_text : {ls : List (List ℕ)} {ss : List StepLine} → AllRead acts props ls ss → (stem i : ℕ) → ((k : ℕ) → k < length ss → in_stem_at ss k ≡ ltb (i + k) stem)
      → together 10 ls ≡ lines_from acts props stem i (map step_of ss)
  read_text none stem i h = refl
  read_text (more {l} {m} {ms} {s} {ss} r x) stem i h =
      let kind : is_stem s.part ≡ ltb i stem = h 0 (omega arith) ∙ ap (λ (j : ℕ). ltb j stem) (omega arith) in
      let rest = read_text x stem (suc i) (λ k b. h (suc k) (omega arith) ∙ ap (λ (j : ℕ). ltb j stem) (omega arith)) in
      ap (λ (v : List ℕ). v ++ 10 ∷ together 10 (m ∷ ms)) (r.text ∙ ap (λ (b : Bool). worded (words_of acts props b s.step)) kind)
      ∙ ap (λ (v : List ℕ). worded (words_of acts props (ltb i stem) s.step) ++ 10 ∷ v) rest
      ∙ sym (append_assoc (worded (words_of acts props (ltb i stem) s.step)) (10 ∷ []) (lines_from acts props stem (suc i) (map step_of ss)))
      ∙ ap (λ (v : List ℕ). v ++ lines_from acts props stem (suc i) (map step_of ss)) (line_agree acts props (ltb i stem) s.step r.shaped.marks)

  read_fits : {ls : List (List ℕ)} {ss : List StepLine} → AllRead acts props ls ss → AllByRecursion Fits (map step_of ss)
  read_fits none = tt
  read_fits (more r x) = (r.fit, read_fits x)

  -- lines in order spell a lasso
  pub read_lasso : (text : List ℕ) (ss : List StepLine) (t : Tally) (n : ℕ) → AllRead acts props (pieces 10 text) ss → Tallied ss t → t.stem ≡ Some n → n < t.steps → t.steps ≤ 131072
      → IsLasso (length acts) (length props) (map step_of ss) n × (text ≡ lasso_text acts props (map step_of ss) n)
  read_lasso text ss t n r x e h l =
      let long = length-map ss step_of in (
        record {
          short = omega (arith, x.steps);
          served = omega (arith, x.steps);
          declared = λ i b. All-get_or Fits (map step_of ss) i _ b (read_fits r);
        },
        sym (together_is 10 text) ∙ read_text r n 0 (λ k b. (x.ordered n e).1 k b ∙ ap (λ (j : ℕ). ltb j n) (omega arith)),
      )

  -- readings of the same lines have the same kinds
  alike : {ls : List (List ℕ)} {ss ts : List StepLine} → AllRead acts props ls ss → AllRead acts props ls ts → (length ss ≡ length ts) × ((i : ℕ) → in_stem_at ss i ≡ in_stem_at ts i)
  alike none none = (refl, λ i. refl)
  alike (more {l} {m} {ms} {s} {ss} r x) (more {s = t} {ss = ts} q y) = let e = alike x y in (ap suc e.0, here s t ss ts (ap is_stem (kind_same acts props l s t r q)) e.1)
    where
      here : (s t : StepLine) (ss ts : List StepLine) → is_stem s.part ≡ is_stem t.part → ((i : ℕ) → in_stem_at ss i ≡ in_stem_at ts i) → (i : ℕ) → in_stem_at (s ∷ ss) i ≡ in_stem_at (t ∷ ts) i
      here s t ss ts k h zero = k
      here s t ss ts k h (suc i) = h i

  -- so one is counted as the other is
  pub tallied_too : (text : List ℕ) (t : Tally) → Surveyed acts props text t → (ts : List StepLine) → AllRead acts props (pieces 10 text) ts → Tallied ts t
  tallied_too text t v ts r =
      let e = alike v.1 r in
      let x = v.2 in
      record {
        steps = x.steps ∙ e.0;
        ordered = λ n o. let y = x.ordered n o in (y.0, λ i h. sym (e.1 i) ∙ y.1 i (omega (arith, e.0)));
        mixed = λ o. let m = x.mixed o in (m.0, m.1, m.2, omega (arith, m.3, e.0), sym (e.1 m.0) ∙ m.4, sym (e.1 m.1) ∙ m.5);
      }

  module _ (a : Apart acts) (b : Apart props) where
    reads : (k : Bool) (s : Step) → Fits s → Reads acts props (worded (words_of acts props k s)) (record { step = s; part = part_of k })
    reads true s h = record { fit = h; text = refl; shaped = words_shaped acts props a b true s h; known = words_known acts props a b true s h }
    reads false s h = record { fit = h; text = refl; shaped = words_shaped acts props a b false s h; known = words_known acts props a b false s h }

    text_read : (stem i : ℕ) (steps : List Step) → AllByRecursion Fits steps → AllRead acts props (pieces 10 (lines_from acts props stem i steps)) (lines_of stem i steps)
    text_read stem i [] h = none
    text_read stem i (s ∷ ss) h =
        let line = worded (words_of acts props (ltb i stem) s) in
        let rest = lines_from acts props stem (suc i) ss in
        let e : pieces 10 (lines_from acts props stem i (s ∷ ss)) ≡ line ∷ pieces 10 rest =
        ap (λ (v : List ℕ). pieces 10 (v ++ rest)) (sym (line_agree acts props (ltb i stem) s (words_shaped acts props a b (ltb i stem) s h.0).marks))
        ∙ ap (pieces 10) (append_assoc line (10 ∷ []) rest) ∙ pieces_next 10 line rest (worded_lacks (words_shaped acts props a b (ltb i stem) s h.0)) in
        subst (λ (l : List (List ℕ)). AllRead acts props l (lines_of stem i (s ∷ ss))) (sym e)
        (on line (pieces 10 rest) (reads (ltb i stem) s h.0) (text_read stem (suc i) ss h.1))
      where
        on : {s : StepLine} {ss : List StepLine} (l : List ℕ) (ls : List (List ℕ)) → Reads acts props l s → AllRead acts props ls ss → AllRead acts props (l ∷ ls) (s ∷ ss)
        on l [] r x = elim x [ ]
        on l (m ∷ ms) r x = more r x

    lasso_read : (steps : List Step) (stem : ℕ) (text : List ℕ) → IsLasso (length acts) (length props) steps stem → text ≡ lasso_text acts props steps stem
        → AllRead acts props (pieces 10 text) (lines_of stem 0 steps)
    lasso_read steps stem text l e =
        subst (λ (v : List ℕ). AllRead acts props (pieces 10 v) (lines_of stem 0 steps)) (sym e) (text_read stem 0 steps (lasso_fits steps stem l))

    pub all_read_same : {ls : List (List ℕ)} {ss ts : List StepLine} → AllRead acts props ls ss → AllRead acts props ls ts → ss ≡ ts
    all_read_same none none = refl
    all_read_same (more {l} {m} {ms} {s} {ss} r x) (more {s = t} {ss = ts} q y) =
        let e = reads_same acts props a b l s t r q in
        let f = all_read_same x y in λ i. e i ∷ f i

    fault_read : {n code k : ℕ} {ls : List (List ℕ)} {ss : List StepLine} → FirstFault acts props n ls code k → AllRead acts props ls ss → ⊥
    fault_read unended x = elim x [ ]
    fault_read (faulty {l = l} f) (more {s = s} r x) = reads_fine acts props l s r f
    fault_read (later q f) (more r x) = fault_read f x

    fault_same : {n c d k j : ℕ} {ls : List (List ℕ)} → FirstFault acts props n ls c k → FirstFault acts props n ls d j → (c ≡ d) × (k ≡ j)
    fault_same unended unended = (refl, refl)
    fault_same (faulty {l = l} f) (faulty g) = (faulty_same acts props l f g, refl)
    fault_same (faulty {l = l} f) (later {s = s} r g) = absurd (reads_fine acts props l s r f)
    fault_same (later {l = l} {s = s} r f) (faulty g) = absurd (reads_fine acts props l s r g)
    fault_same (later r f) (later q g) = fault_same f g

    one_lasso' : (s t : List Step) (m n : ℕ) (text : List ℕ) → IsLasso (length acts) (length props) s m → IsLasso (length acts) (length props) t n
        → text ≡ lasso_text acts props s m → text ≡ lasso_text acts props t n → (s ≡ t) × (m ≡ n)
    one_lasso' s t m n text x y e f =
        let same = all_read_same (lasso_read s m text x e) (lasso_read t n text y f) in
        (sym (lines_steps m 0 s) ∙ ap (map step_of) same ∙ lines_steps n 0 t, stems_same m n s t x.short y.short same)

    not_both : {text : List ℕ} {ss : List StepLine} (steps : List Step) (stem : ℕ) → AllRead acts props (pieces 10 text) ss → SpellsNoLasso ss
        → IsLasso (length acts) (length props) steps stem → text ≡ lasso_text acts props steps stem → ⊥
    not_both {text} steps stem r n l e =
        lasso_lines (length acts) (length props) steps stem l (subst SpellsNoLasso (all_read_same r (lasso_read steps stem text l e)) n)

    pub outcomes_same : {text : List ℕ} {places : ℕ} {o q : Outcome} → Scans acts props text places o → Scans acts props text places q → o ≡ q
    outcomes_same (at_fault f) (at_fault g) = let e = fault_same f g in λ i. refused (e.0 i) (e.1 i)
    outcomes_same (at_fault f) (no_lasso r n) = absurd (fault_read f r)
    outcomes_same {text} (at_fault f) (no_places {steps = s} {stem = m} l e h) = absurd (fault_read f (lasso_read s m text l e))
    outcomes_same {text} (at_fault f) (taken {steps = s} {stem = m} l e h) = absurd (fault_read f (lasso_read s m text l e))
    outcomes_same (no_lasso r n) (at_fault f) = absurd (fault_read f r)
    outcomes_same (no_lasso r n) (no_lasso s m) = refl
    outcomes_same (no_lasso r n) (no_places {steps = s} {stem = m} l e h) = absurd (not_both s m r n l e)
    outcomes_same (no_lasso r n) (taken {steps = s} {stem = m} l e h) = absurd (not_both s m r n l e)
    outcomes_same {text} (no_places {steps = s} {stem = m} l e h) (at_fault f) = absurd (fault_read f (lasso_read s m text l e))
    outcomes_same (no_places {steps = s} {stem = m} l e h) (no_lasso r n) = absurd (not_both s m r n l e)
    outcomes_same (no_places l e h) (no_places k f j) = refl
    outcomes_same {text} (no_places {steps = s} {stem = m} l e h) (taken {steps = t} {stem = n} k f j) = let same = ap length (one_lasso' s t m n text l k e f).0 in absurd (omega arith)
    outcomes_same {text} (taken {steps = s} {stem = m} l e h) (at_fault f) = absurd (fault_read f (lasso_read s m text l e))
    outcomes_same (taken {steps = s} {stem = m} l e h) (no_lasso r n) = absurd (not_both s m r n l e)
    outcomes_same {text} (taken {steps = s} {stem = m} l e h) (no_places {steps = t} {stem = n} k f j) = let same = ap length (one_lasso' s t m n text l k e f).0 in absurd (omega arith)
    outcomes_same {text} (taken {steps = s} {stem = m} l e h) (taken {steps = t} {stem = n} k f j) = let same = one_lasso' s t m n text l k e f in λ i. spelled (same.0 i) (same.1 i)

module _ (acts props : List (List ℕ)) (text : List ℕ) (places : ℕ) (t : Tally) (v : Surveyed acts props text t) where
  pub scan_not : ((n : ℕ) → t.stem ≡ Some n → (n ≡ t.steps) ⊎ (131072 < t.steps)) → Scans acts props text places (refused 12 0)
  scan_not h = no_lasso v.1 (why t.stem refl)
    where
      why : (o : Option ℕ) → t.stem ≡ o → SpellsNoLasso v.0
      why None e = inr (inl (v.2.mixed e))
      why (Some n) e =
          let x = v.2 in
          let y = x.ordered n e in
          ⊎_elim (λ all. inl (λ i b. y.1 i b ∙ lt-ltb i n (omega (arith, x.steps)))) (λ large. inr (inr (omega (arith, x.steps)))) (h n e)

  module _ (n : ℕ) (e : t.stem ≡ Some n) (h : n ≡ t.steps → ⊥) (l : t.steps ≤ 131072) where
    lasso : IsLasso (length acts) (length props) (map step_of v.0) n × (text ≡ lasso_text acts props (map step_of v.0) n)
    lasso = read_lasso acts props text v.0 t n v.1 v.2 e (omega (arith, (v.2.ordered n e).0)) l

    pub scan_room : places < t.steps → Scans acts props text places (refused 9 0)
    scan_room few = no_places lasso.0 lasso.1 (omega (arith, v.2.steps, length-map v.0 step_of))

    pub scan_taken : (before after : List Step) → places ≡ length before → t.steps ≤ places → Filled v.0 before after
        → Scans acts props text places (spelled (take t.steps after) n) × (t.steps ≤ places) × (drop t.steps after ≡ drop t.steps before)
    scan_taken before after is room f =
        let ss = v.0 in
        let long : length (map step_of ss) ≡ t.steps = length-map ss step_of ∙ sym v.2.steps in
        let front : take t.steps after ≡ map step_of ss = ap (take t.steps) f ∙ take_at (map step_of ss) _ t.steps long in (
          subst (λ (w : List Step). Scans acts props text places (spelled w n)) (sym front) (taken lasso.0 lasso.1 (omega arith)),
          room,
          ap (drop t.steps) f ∙ drop_at (map step_of ss) _ t.steps long ∙ ap (λ (k : ℕ). drop k before) (sym v.2.steps),
        )

pub scan_of_print : ScanOfPrint
scan_of_print acts props a b steps stem places l h o x = outcomes_same acts props a b x (taken l refl h)

pub print_of_scan : PrintOfScan
print_of_scan acts props text places steps stem (taken l e h) = e

pub one_lasso : OneLasso
one_lasso acts props a b s t m n x y e = one_lasso' acts props a b s t m n (lasso_text acts props s m) x y refl e
