-- Steps written line by line.
use Rattle.std.proofs.Common.{◌≡◌, ℕ, ◌+◌, ◌<◌, ◌≤◌, ◌⊎◌, List, [], ◌∷◌, ◌++◌, map, length, get_or, take, drop, set, Result, Ok, Err, sym, refl, ap, ◌∙◌, subst, ⊎_elim, append_assoc, append-nil, arith}
use denote.Ref.{Bor}
use Rattle.std.proofs.lemmas.List.{length-map, length_push, nil_from_length, drop_more, drop-append-le, take-append-drop, map_push, set_at}
use Rattle.document.specs.Texts.{pieces}
use Rattle.document.specs.declared.fault.LineFault.{LineFault}
use Rattle.document.proofs.Pieces.{pieces_some}
use Rattle.lasso.specs.LassoLines.{Reads, AllRead, none, more}
use Rattle.lasso.specs.Tallies.{Cut, ReadsNext, RefusedLine, Filled}
use Rattle.lasso.specs.declared.scan.StepLine.{StepLine}
use Rattle.lasso.specs.declared.step.Step.{Step}
use Rattle.lasso.proofs.OneReading.{reads_fine}
use Rattle.lasso.proofs.Surveys.{read_on}
use Rattle.lasso.proofs.TextLaws.{step_of}

module _ (acts props : List (List ℕ)) where
  -- of the lines, so many, those before the rest of a text are written
  pub record Going (text rest : List ℕ) (lines number : ℕ) (before after : List Step) : Type 0 where
    pub read : List StepLine
    pub left : List StepLine
    pub count : length read ≡ number
    pub sum : number + length left ≡ lines
    pub rest_read : AllRead acts props (pieces 10 rest) left
    pub reads : (ss : List StepLine) → AllRead acts props (pieces 10 rest) ss → AllRead acts props (pieces 10 text) (read ++ ss)
    pub so_far : after ≡ map step_of read ++ drop number before

  pub going_none : (text : List ℕ) (ss : List StepLine) (before : List Step) → AllRead acts props (pieces 10 text) ss → Going text text (length ss) 0 before before
  going_none text ss before r =
      record { read = []; left = ss; count = refl; sum = omega arith; rest_read = r; reads = λ us x. x; so_far = refl }

  -- what is left begins with this line, unless it is the end
  first_line : {l : List ℕ} {ls : List (List ℕ)} {ss : List StepLine} → AllRead acts props (l ∷ ls) ss → 0 < length ls
      → (s : StepLine) × (ts : List StepLine) × (ss ≡ s ∷ ts) × Reads acts props l s × AllRead acts props ls ts
  first_line none h = absurd (omega arith)
  first_line (more {s = s} {ss = ss} r x) h = (s, ss, refl, r, x)

  only_line : {l : List ℕ} {ss : List StepLine} → AllRead acts props (l ∷ []) ss → (length l ≡ 0) × (length ss ≡ 0)
  only_line none = (refl, refl)

  module _ (text here rest : List ℕ) (lines number : ℕ) (before now : List Step) (g : Going text here lines number before now) where
    next_line : (body : List ℕ) → pieces 10 here ≡ body ∷ pieces 10 rest
        → (s : StepLine) × (ts : List StepLine) × (g.left ≡ s ∷ ts) × Reads acts props body s × AllRead acts props (pieces 10 rest) ts
    next_line body is = first_line (subst (λ (v : List (List ℕ)). AllRead acts props v g.left) is g.rest_read) (pieces_some 10 rest)

    -- no line of these is refused
    pub going_read : (line : Result (Bor (List ℕ)) LineFault) → Cut here line rest → (code : ℕ) → RefusedLine acts props line code → ⊥
    going_read (Ok body) c code r = let n = next_line body.now c.1 in reads_fine acts props body.now n.0 n.3 r
    going_read (Err f) c code r =
        let o = only_line (subst (λ (v : List (List ℕ)). AllRead acts props v g.left) c.1.1 g.rest_read) in
        omega (arith, o.0, c.0)

    pub going_more : lines ≤ length before → (line : Result (Bor (List ℕ)) LineFault) → Cut here line rest → (r : StepLine) → ReadsNext acts props line r
        → (after : List Step) → after ≡ set now number r.step → Going text rest lines (number + 1) before after
    going_more room (Ok body) c r x after is =
        let n = next_line body.now c.1 in
        let less = ap length n.2 in
        let blank : Step = record { state = 0; action = 0; marks = 0 } in
        let front = map step_of g.read in
        let long : length front ≡ number = length-map g.read step_of ∙ g.count in
        let put : set (front ++ drop number before) number r.step ≡ front ++ r.step ∷ drop (number + 1) before =
        ap (λ (l : List Step). set (front ++ l) number r.step) (drop_more before number blank (omega (arith, g.sum)))
        ∙ set_at front (get_or before number blank) (drop (number + 1) before) r.step number long in
        record {
          read = g.read ++ r ∷ [];
          left = n.1;
          count = omega (arith, g.count, length_push g.read r);
          sum = omega (arith, g.sum);
          rest_read = n.4;
          reads = λ ss y.
              subst (AllRead acts props (pieces 10 text)) (sym (append_assoc g.read (r ∷ []) ss))
              (g.reads (r ∷ ss) (subst (λ (l : List (List ℕ)). AllRead acts props l (r ∷ ss)) (sym c.1)
              (read_on acts props body.now (pieces 10 rest) r ss (pieces_some 10 rest) x y)));
          so_far = is ∙ ap (λ (l : List Step). set l number r.step) g.so_far ∙ put ∙ sym (append_assoc front (r.step ∷ []) (drop (number + 1) before))
              ∙ ap (λ (l : List Step). l ++ drop (number + 1) before) (sym (map_push step_of g.read r));
        }
    going_more room (Err f) c r x after is = absurd x

  pub going_all : (text rest : List ℕ) (lines number : ℕ) (before after : List Step) → Going text rest lines number before after
      → (length rest ≡ 0) ⊎ (lines ≤ number) → (ts : List StepLine) × AllRead acts props (pieces 10 text) ts × Filled ts before after
  going_all text rest lines number before after g h =
      let empty : length g.left ≡ 0 =
      ⊎_elim (λ l. (only_line (subst (λ (v : List ℕ). AllRead acts props (pieces 10 v) g.left) (nil_from_length rest l) g.rest_read)).1) (λ l. omega (arith, g.sum)) h in
      let e : g.read ++ g.left ≡ g.read = ap (λ (l : List StepLine). g.read ++ l) (nil_from_length g.left empty) ∙ append-nil g.read in
      (g.read, subst (AllRead acts props (pieces 10 text)) e (g.reads g.left g.rest_read), g.so_far ∙ ap (λ (k : ℕ). map step_of g.read ++ drop k before) (sym g.count))

-- what is filled in a front of the places is filled in the places
pub filled_front : (ss : List StepLine) (n : ℕ) (before after : List Step) → length ss ≤ length (take n before) → Filled ss (take n before) after → Filled ss before (after ++ drop n before)
filled_front ss n before after h f =
    let steps = map step_of ss in
    let over : drop (length ss) before ≡ drop (length ss) (take n before) ++ drop n before =
    ap (λ (l : List Step). drop (length ss) l) (sym (take-append-drop n before)) ∙ drop-append-le (length ss) (take n before) (drop n before) h in
    ap (λ (l : List Step). l ++ drop n before) f ∙ append_assoc steps (drop (length ss) (take n before)) (drop n before)
    ∙ ap (λ (l : List Step). steps ++ l) (sym over)
