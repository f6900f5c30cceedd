-- Lines read one after another, and counted.
use Rattle.std.proofs.Common.{◌≡◌, ℕ, suc, ◌+◌, ◌<◌, ◌≤◌, Bool, true, false, cond, eqb, ltb, List, [], ◌∷◌, ◌++◌, length, Option, Some, None, Result, Ok, Err, sym, refl, ap, ◌∙◌, subst, ⊎_elim, append_assoc, append-nil, arith}
use denote.Ref.{Bor}
use Rattle.std.proofs.lemmas.List.{get_or_append_left, get_or_push, length_push, nil_from_length}
use Rattle.std.proofs.lemmas.Bool.{lt-ltb, le-ltb, cases_lt, eqb-true, eqb-false}
use Rattle.document.specs.Faults.{line_fault_code}
use Rattle.document.specs.Texts.{pieces}
use Rattle.document.specs.declared.fault.LineFault.{LineFault}
use Rattle.document.proofs.Pieces.{pieces_some}
use Rattle.lasso.specs.LassoLines.{Faulty, Reads, AllRead, none, more, FirstFault, unended, faulty, later}
use Rattle.lasso.specs.Scans.{in_stem_at}
use Rattle.lasso.specs.Parts.{is_stem}
use Rattle.lasso.specs.Tallies.{Tallied, longer, counted, Cut, Surveyed, ReadsNext, RefusedLine}
use Rattle.lasso.specs.declared.part.Part.{Part}
use Rattle.lasso.specs.declared.part.Part.TheVariants.{Stem, Loop}
use Rattle.lasso.specs.declared.scan.StepLine.{StepLine}
use Rattle.lasso.specs.declared.scan.Tally.{Tally}

pub tallied_none : Tallied [] (record { steps = 0; stem = Some 0 })
tallied_none = record { steps = refl; ordered = λ n e. let z : 0 ≡ n = cc in (omega arith, λ i h. absurd (omega arith)); mixed = λ e. absurd (cc) }

module _ (ss : List StepLine) (t : Tally) (x : Tallied ss t) (s : StepLine) where
  before : (i : ℕ) → i < length ss → in_stem_at (ss ++ s ∷ []) i ≡ in_stem_at ss i
  before i h = ap (λ (v : StepLine). is_stem v.part) (get_or_append_left ss (s ∷ []) _ i h)

  last : in_stem_at (ss ++ s ∷ []) (length ss) ≡ is_stem s.part
  last = ap (λ (v : StepLine). is_stem v.part) (get_or_push ss s _ (length ss) refl)

  -- every kind but the last is as before
  each : (P : ℕ → Bool → Type 0) → ((i : ℕ) → i < length ss → P i (in_stem_at ss i)) → P (length ss) (is_stem s.part) → (i : ℕ) → i < length (ss ++ s ∷ []) → P i (in_stem_at (ss ++ s ∷ []) i)
  each P old new i h =
      let long = length_push ss s in
      ⊎_elim (λ l. subst (P i) (sym (before i l)) (old i l))
      (λ l. let e : length ss ≡ i = omega arith in subst (λ (k : ℕ). P k (in_stem_at (ss ++ s ∷ []) k)) e (subst (P (length ss)) (sym last) new)) (cases_lt i (length ss))

  abbrev Mixed : List StepLine → Type 0
  Mixed l = (i : ℕ) × (j : ℕ) × (i < j) × (j < length l) × (in_stem_at l i ≡ false) × (in_stem_at l j ≡ true)

  still_mixed : Mixed ss → Mixed (ss ++ s ∷ [])
  still_mixed m =
      let long = length_push ss s in
      (m.0, m.1, m.2, omega (arith, m.3), before m.0 (omega (arith, m.2, m.3)) ∙ m.4, before m.1 m.3 ∙ m.5)

  loop_line : is_stem s.part ≡ false → Tallied (ss ++ s ∷ []) (record { steps = t.steps + 1; stem = t.stem })
  loop_line k = record {
    steps = omega (arith, x.steps, length_push ss s);
    ordered = λ n e.
        let y = x.ordered n e in
        (omega (arith, y.0), each (λ i b. b ≡ ltb i n) y.1 (k ∙ sym (le-ltb (length ss) n (omega (arith, x.steps, y.0)))));
    mixed = λ e. still_mixed (x.mixed e);
  }

  stem_line : is_stem s.part ≡ true → (o : Option ℕ) → t.stem ≡ o → Tallied (ss ++ s ∷ []) (record { steps = t.steps + 1; stem = longer t.steps o })
  stem_line k None e = record {
    steps = omega (arith, x.steps, length_push ss s);
    ordered = λ n f. absurd (cc);
    mixed = λ f. still_mixed (x.mixed e);
  }
  stem_line k (Some m) e = pick (eqb m t.steps) refl
    where
      pick : (b : Bool) → eqb m t.steps ≡ b → Tallied (ss ++ s ∷ []) (record { steps = t.steps + 1; stem = cond b (Some (m + 1)) None })
      pick true f =
          let y = x.ordered m e in
          let q = eqb-true m t.steps f in
          record {
            steps = omega (arith, x.steps, length_push ss s);
            ordered = λ n g.
                let z : m + 1 ≡ n = cc in (
                  omega arith,
                  each (λ i b. b ≡ ltb i n)
                      (λ i h. y.1 i h ∙ lt-ltb i m (omega (arith, x.steps)) ∙ sym (lt-ltb i n (omega (arith, x.steps))))
                      (k ∙ sym (lt-ltb (length ss) n (omega (arith, x.steps)))),
                );
            mixed = λ g. absurd (cc);
          }
      pick false f =
          let y = x.ordered m e in
          let q = eqb-false m t.steps f in
          let l : m < length ss = omega (arith, x.steps, y.0) in
          let long = length_push ss s in
          record {
            steps = omega (arith, x.steps, long);
            ordered = λ n g. absurd (cc);
            mixed = λ g. (m, length ss, l, omega arith, before m l ∙ y.1 m l ∙ le-ltb m m (omega arith), last ∙ k);
          }

  pub tallied_more : Tallied (ss ++ s ∷ []) (counted s.part t)
  tallied_more = go s.part refl
    where
      go : (p : Part) → s.part ≡ p → Tallied (ss ++ s ∷ []) (counted p t)
      go Stem e = stem_line (ap is_stem e) t.stem refl
      go Loop e = loop_line (ap is_stem e)

module _ (acts props : List (List ℕ)) where
  pub read_on : (l : List ℕ) (ls : List (List ℕ)) (s : StepLine) (ss : List StepLine) → 0 < length ls → Reads acts props l s → AllRead acts props ls ss → AllRead acts props (l ∷ ls) (s ∷ ss)
  read_on l [] s ss h r a = absurd (omega arith)
  read_on l (m ∷ ls) s ss h r a = more r a

  later_on : (n : ℕ) (l : List ℕ) (ls : List (List ℕ)) (s : StepLine) (code k : ℕ) → 0 < length ls → Reads acts props l s → FirstFault acts props (suc n) ls code k → FirstFault acts props n (l ∷ ls) code k
  later_on n l [] s code k h r a = absurd (omega arith)
  later_on n l (m ∷ ls) s code k h r a = later r a

  fault_on : (n : ℕ) (l : List ℕ) (ls : List (List ℕ)) (code : ℕ) → 0 < length ls → Faulty acts props l code → FirstFault acts props n (l ∷ ls) code n
  fault_on n l [] code h a = absurd (omega arith)
  fault_on n l (m ∷ ls) code h a = faulty a

  unended_on : (n : ℕ) (l : List ℕ) → 0 < length l → FirstFault acts props n (l ∷ []) 2 n
  unended_on n [] h = absurd (omega arith)
  unended_on n (x ∷ l) h = unended

  -- the lines before the rest of a text are read and counted
  pub record Passed (text rest : List ℕ) (t : Tally) : Type 0 where
    pub few : t.steps + length rest ≤ length text
    pub read : List StepLine
    pub tallied : Tallied read t
    pub reads : (ss : List StepLine) → AllRead acts props (pieces 10 rest) ss → AllRead acts props (pieces 10 text) (read ++ ss)
    pub faults : (code k : ℕ) → FirstFault acts props (t.steps + 1) (pieces 10 rest) code k → FirstFault acts props 1 (pieces 10 text) code k

  pub passed_none : (text : List ℕ) → Passed text text (record { steps = 0; stem = Some 0 })
  passed_none text = record { few = omega arith; read = []; tallied = tallied_none; reads = λ ss a. a; faults = λ code k f. f }

  module _ (text here rest : List ℕ) (t : Tally) (p : Passed text here t) where
    -- the line is read
    pub passed_more : (line : Result (Bor (List ℕ)) LineFault) → Cut here line rest → (s : StepLine) → ReadsNext acts props line s
        → (new : Tally) → new ≡ counted s.part t → new.steps ≡ t.steps + 1 → Passed text rest new
    passed_more (Ok body) c s r new e n =
        let some = pieces_some 10 rest in
        record {
          few = omega (arith, p.few, c.0);
          read = p.read ++ s ∷ [];
          tallied = subst (Tallied (p.read ++ s ∷ [])) (sym e) (tallied_more p.read t p.tallied s);
          reads = λ ss a.
              subst (AllRead acts props (pieces 10 text)) (sym (append_assoc p.read (s ∷ []) ss))
              (p.reads (s ∷ ss) (subst (λ (l : List (List ℕ)). AllRead acts props l (s ∷ ss)) (sym c.1) (read_on body.now (pieces 10 rest) s ss some r a)));
          faults = λ code k a.
              let g : FirstFault acts props (suc (t.steps + 1)) (pieces 10 rest) code k = subst (λ (v : ℕ). FirstFault acts props v (pieces 10 rest) code k) (omega arith) a in
              p.faults code k (subst (λ (l : List (List ℕ)). FirstFault acts props (t.steps + 1) l code k) (sym c.1) (later_on (t.steps + 1) body.now (pieces 10 rest) s code k some r g));
        }
    passed_more (Err f) c s r new e n = absurd r

    -- the line is refused
    pub passed_refused : (line : Result (Bor (List ℕ)) LineFault) → Cut here line rest → (code : ℕ) → RefusedLine acts props line code
        → FirstFault acts props 1 (pieces 10 text) code (t.steps + 1)
    passed_refused (Ok body) c code r =
        p.faults code (t.steps + 1)
        (subst (λ (l : List (List ℕ)). FirstFault acts props (t.steps + 1) l code (t.steps + 1)) (sym c.1) (fault_on (t.steps + 1) body.now (pieces 10 rest) code (pieces_some 10 rest) r))
    passed_refused (Err f) c code r =
        let two : code ≡ 2 = r ∙ ap line_fault_code c.1.0 in
        p.faults code (t.steps + 1)
        (subst (λ (k : ℕ). FirstFault acts props (t.steps + 1) (pieces 10 here) k (t.steps + 1)) (sym two)
        (subst (λ (l : List (List ℕ)). FirstFault acts props (t.steps + 1) l 2 (t.steps + 1)) (sym c.1.1) (unended_on (t.steps + 1) here (omega (arith, c.0)))))

  pub passed_all : (text rest : List ℕ) (t : Tally) → length rest ≡ 0 → Passed text rest t → Surveyed acts props text t
  passed_all text rest t is p =
      let e : AllRead acts props (pieces 10 rest) [] = subst (λ (l : List ℕ). AllRead acts props (pieces 10 l) []) (sym (nil_from_length rest is)) none in
      (p.read, subst (AllRead acts props (pieces 10 text)) (append-nil p.read) (p.reads [] e), p.tallied)
