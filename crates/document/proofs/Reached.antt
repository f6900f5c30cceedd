-- How far a text was read, and what came of it so far.
use Rattle.std.proofs.Common.{◌≡◌, ℕ, suc, ◌+◌, ◌<◌, eqb, List, [], ◌∷◌, length, get_or, drop, Some, Ok, Err, Result, sym, refl, ap, ◌∙◌, subst, ⊎_elim, add-one, arith, MatchResult}
use denote.Ref.{Bor}
use Rattle.std.proofs.lemmas.List.{drop_more}
use Rattle.std.proofs.lemmas.Bool.{cond-true, cond-false, eq-eqb, ne_eqb, cases_eq}
use Rattle.document.specs.Faults.{line_fault_code, line_fault_column}
use Rattle.document.specs.Holds.{Holds}
use Rattle.document.specs.Lines.{Declarations, nothing}
use Rattle.document.specs.Declaring.{FaultyByFirst}
use Rattle.document.specs.Loading.{Goes_on, LineRead}
use Rattle.document.specs.Outcomes.{Outcome, taken, refused}
use Rattle.document.specs.Coming.{ComesByFirst, no_goal, unended, faulty, declares, aims, line_after}
use Rattle.document.specs.Texts.{pieces, put_first}
use Rattle.document.specs.declared.declared.Declared.{Declared}
use Rattle.document.specs.declared.document.Document.{Document}
use Rattle.document.specs.declared.fault.LineFault.{LineFault}
use Rattle.document.specs.declared.fault.LineFault.TheVariants.{Shape}
use Rattle.document.specs.declared.load.Progress.{Progress}
use Rattle.document.specs.declared.load.Progress.TheVariants.{Declaring, Done}
use Rattle.document.specs.TextLines.{NextLine}
use Rattle.document.proofs.Pieces.{pieces_some}

-- a list that has a first element
first_of : (ps : List (List ℕ)) → 0 < length ps → (m : List ℕ) × (ms : List (List ℕ)) × (ps ≡ m ∷ ms)
first_of [] h = absurd (omega arith)
first_of (p ∷ ps) h = (p, ps, refl)

put_some : (x : ℕ) (ps : List (List ℕ)) → put_first x ps ≡ [] ∷ [] → ⊥
put_some x [] e = let z : ◌≡◌ {A = ℕ} 1 0 = ap (λ v. length (get_or v 0 [])) e in omega arith
put_some x (p ∷ ps) e = let z : suc (length p) ≡ 0 = ap (λ v. length (get_or v 0 [])) e in omega arith

-- where a byte is left, more than one empty piece is
some_left : (b : ℕ) (xs : List ℕ) → 0 < length xs → pieces b xs ≡ [] ∷ [] → ⊥
some_left b [] h e = omega arith
some_left b (x ∷ xs) h e =
    ⊎_elim
    (λ same. let t : [] ∷ pieces b xs ≡ [] ∷ [] = sym (cond-true (eqb x b) ([] ∷ pieces b xs) (put_first x (pieces b xs)) (eq-eqb x b same)) ∙ e in
    let z : suc (length (pieces b xs)) ≡ 1 = ap length t in omega (arith, pieces_some b xs))
    (λ ne. put_some x (pieces b xs) (sym (cond-false (eqb x b) ([] ∷ pieces b xs) (put_first x (pieces b xs)) (ne_eqb x b ne)) ∙ e))
    (cases_eq x b)

-- the document was read, and pieces are left
abbrev pub Read : List ℕ → ℕ → List (List ℕ) → Document → Type 0
Read text number left doc =
    (d : Declarations) × Holds doc.declared d × (left ≡ [] ∷ [] → ComesByFirst nothing 1 (pieces 10 text) (taken d doc.goal))
    × ((left ≡ [] ∷ [] → ⊥) → ComesByFirst nothing 1 (pieces 10 text) (refused 6 number 0))

-- what comes of the pieces that are left comes of the whole
abbrev pub Unread : List ℕ → ℕ → List (List ℕ) → Declared → Type 0
Unread text number left held = (d : Declarations) × Holds held d × ((o : Outcome) → ComesByFirst d number left o → ComesByFirst nothing 1 (pieces 10 text) o)

abbrev pub Reached : List ℕ → ℕ → List (List ℕ) → Progress → Type 0
Reached text number left (Declaring held) = Unread text number left held
Reached text number left (Done doc) = Read text number left doc

-- one line more, which is fine
step_on : (text : List ℕ) (number : ℕ) (l : List ℕ) (rest : List (List ℕ)) (held : Declared) (next : Progress) → 0 < length rest
    → Unread text number (l ∷ rest) held
    → ((d : Declarations) → Holds held d → Goes_on held d l next)
    → Reached text (number + 1) rest next
step_on text number l rest held next some (d, h, f) on = by next (on d h)
  where
    by : (o : Progress) → Goes_on held d l o → Reached text (number + 1) rest o
    by (Declaring after) x =
        let p = first_of rest some in (
          x.after,
          x.holds,
          λ o c.
              f o (subst (λ v. ComesByFirst d number (l ∷ v) o) (sym p.2)
              (declares x.line x.reads x.fine x.adds (subst (λ v. ComesByFirst x.after (suc number) v o) p.2 (subst (λ v. ComesByFirst x.after v rest o) (add-one number) c)))),
        )
    by (Done doc) x =
        let p = first_of rest some in (
          d,
          subst (λ v. Holds v d) (sym x.declared) h,
          λ e. f (taken d doc.goal) (subst (λ v. ComesByFirst d number (l ∷ v) (taken d doc.goal)) (sym e) (aims x.name x.reads x.fine x.number)),
          λ ne. subst (λ v. ComesByFirst nothing 1 (pieces 10 text) (refused 6 v 0)) (sym (add-one number))
              (f (refused 6 (suc number) 0) (subst (λ v. ComesByFirst d number (l ∷ v) (refused 6 (suc number) 0)) (sym p.2) (line_after x.name x.reads x.fine (λ e. ne (p.2 ∙ e))))),
        )

same_err : {X : Type 0} {f g : LineFault} → ◌≡◌ {A = Result X LineFault} (Err f) (Err g) → f ≡ g
same_err e = cc

no_err : {X : Type 0} {x : X} {f : LineFault} → ◌≡◌ {A = Result X LineFault} (Ok x) (Err f) → ⊥
no_err e = let z : ◌≡◌ {A = ℕ} 0 1 = cc in omega arith

module _ (text left next : List ℕ) (number : ℕ) (progress : Progress) (reached : Reached text number (pieces 10 left) progress) where
  pub reached_more : (x : Result (Bor (List ℕ)) LineFault) (after : Progress) → NextLine left (Some x) next → LineRead progress x (Ok after) → Reached text (number + 1) (pieces 10 next) after
  reached_more x after came read = by progress reached read
    where
      of : (held : Declared) (y : Result (Bor (List ℕ)) LineFault) → Unread text number (pieces 10 left) held
          → MatchResult y (λ line. pieces 10 left ≡ line.now ∷ pieces 10 next) (λ g. (g ≡ Shape) × (pieces 10 left ≡ left ∷ []) × (next ≡ []))
          → LineRead (Declaring held) y (Ok after)
          → Reached text (number + 1) (pieces 10 next) after
      of held (Ok line) u n r = step_on text number line.now (pieces 10 next) held after (pieces_some 10 next) (subst (λ v. Unread text number v held) n u) r
      of held (Err g) u n r = absurd (no_err r)

      by : (o : Progress) → Reached text number (pieces 10 left) o → LineRead o x (Ok after) → Reached text (number + 1) (pieces 10 next) after
      by (Declaring held) u r = of held x u came.1 r
      by (Done doc) u r = absurd (no_err r)

  abbrev FaultComes : LineFault → Type 0
  FaultComes f = ComesByFirst nothing 1 (pieces 10 text) (refused (line_fault_code f) number (line_fault_column f))

  last_line : (held : Declared) → Unread text number (pieces 10 left) held → 0 < length left → pieces 10 left ≡ left ∷ [] → FaultComes Shape
  last_line held u some last =
      let ps : pieces 10 left ≡ (get_or left 0 0 ∷ drop 1 left) ∷ [] = last ∙ ap (λ v. v ∷ []) (drop_more left 0 0 some) in
      u.2 (refused 2 number 0) (subst (λ v. ComesByFirst u.0 number v (refused 2 number 0)) (sym ps) unended)

  bad_line : (held : Declared) (line : List ℕ) (f : LineFault) → Unread text number (pieces 10 left) held → pieces 10 left ≡ line ∷ pieces 10 next
      → ((d : Declarations) → Holds held d → FaultyByFirst d line (line_fault_code f) (line_fault_column f)) → FaultComes f
  bad_line held line f u parted bad =
      let p = first_of (pieces 10 next) (pieces_some 10 next) in
      u.2 (refused (line_fault_code f) number (line_fault_column f))
      (subst (λ v. ComesByFirst u.0 number v (refused (line_fault_code f) number (line_fault_column f))) (sym (parted ∙ ap (λ v. line ∷ v) p.2)) (faulty (bad u.0 u.1)))

  pub reached_fault : (x : Result (Bor (List ℕ)) LineFault) (f : LineFault) → NextLine left (Some x) next → LineRead progress x (Err f) → FaultComes f
  reached_fault x f came read = by progress reached read
    where
      of : (held : Declared) (y : Result (Bor (List ℕ)) LineFault) → Unread text number (pieces 10 left) held
          → MatchResult y (λ line. pieces 10 left ≡ line.now ∷ pieces 10 next) (λ g. (g ≡ Shape) × (pieces 10 left ≡ left ∷ []) × (next ≡ []))
          → LineRead (Declaring held) y (Err f)
          → FaultComes f
      of held (Ok line) u n r = bad_line held line.now f u n r
      of held (Err g) u n r = subst FaultComes (sym (same_err r ∙ n.0)) (last_line held u (omega (arith, came.0)) n.1)

      by : (o : Progress) → Reached text number (pieces 10 left) o → LineRead o x (Err f) → FaultComes f
      by (Declaring held) u r = of held x u came.1 r
      by (Done doc) u r = subst FaultComes (sym (same_err r)) (u.3 (some_left 10 left (omega (arith, came.0))))

-- nothing is left
pub reached_end : (text left : List ℕ) (number : ℕ) (held : Declared) → length left ≡ 0 → Unread text number (pieces 10 left) held
    → ComesByFirst nothing 1 (pieces 10 text) (refused 6 number 0)
reached_end text left number held none u =
    u.2 (refused 6 number 0) (subst (λ v. ComesByFirst u.0 number v (refused 6 number 0)) (ap (pieces 10) (empty left none)) no_goal)
  where
    empty : (xs : List ℕ) → length xs ≡ 0 → [] ≡ xs
    empty [] h = refl
    empty (x ∷ xs) h = absurd (omega arith)
