-- What the readers give, from what the readers of their parts give.
use Rattle.std.proofs.Common.{Bool, false, Decides, ◌≡◌, ℕ, zero, suc, ◌+◌, ◌-◌, true, List, [], ◌∷◌, ◌++◌, length, drop, replicate, IsErrAnd, Ok, Err, Result, sym, refl, ap, ◌∙◌, subst, inr, arith, MatchResult}
use Rattle.std.proofs.lemmas.List.{append_assoc, length-append, length-replicate}
use Rattle.std.proofs.lemmas.Result.{err_from_is_err_and}
use Rattle.std.proofs.lemmas.Bool.{both_ways}
use Rattle.program.specs.Automata.{names}
use Rattle.program.specs.Names.{Named, letter}
use Rattle.program.specs.Programs.{Means}
use Rattle.program.specs.Reading.{PartOf, Entered, Joined, word, inner, Ends, ReadAs, Unread, ReadsAt, ReadsWord, ReadsAtom, ReadsPart, APart, At, Sees, SameTexts, ClosedOff}
use Rattle.program.specs.Text.{Tree, Kind, factor, sequence, sum, Spells, lone, semi, single, plus}
use Rattle.program.specs.Words.{Program, either, seq, star}
use Rattle.program.specs.declared.fault.ProgramFault.{ProgramFault}
use Rattle.program.specs.declared.name.Name.{Name}
use Rattle.program.specs.declared.read.Reader.{Reader}
use Rattle.program.specs.declared.row.Draft.{Draft}
use Rattle.program.specs.declared.row.Part.{Part}
use Rattle.program.proofs.Drafts.{next_name, either_entered, seq_entered, star_entered, entered_again}
use Rattle.program.proofs.Parts.{part_again}
use Rattle.program.proofs.Ends.{ends_sum, ends_sequence, not_plus, not_semi}
use Rattle.program.proofs.Factors.{trees, stars, Unstarred, unstarred}
use Rattle.program.proofs.Places.{past, Head, head, seen, RunOf, stars_end, unnamed}

-- the exit of a `?`
pub err_is : {T E : Type 0} {r : Result T E} {x : E} → IsErrAnd r (λ y. y ≡ x) → r ≡ Err x
err_is {T} {E} {r} {x} h = let p = err_from_is_err_and r h in p.1 ∙ ap Err p.2

means_stars : (acts : List Name) (k : ℕ) (t : Tree) (p : Program) → Means acts t p → Means acts (trees k t) (stars k p)
means_stars acts zero t p m = m
means_stars acts (suc k) t p m = (stars k p, means_stars acts k t p m, refl)

means_none : (acts : List Name) (k : ℕ) (t : Tree) → ((p : Program) → Means acts t p → ⊥) → (p : Program) → Means acts (trees k t) p → ⊥
means_none acts zero t h p m = h p m
means_none acts (suc k) t h p m = means_none acts k t h m.0 m.1

masks_stars : (k i : ℕ) (p : Program) (x : Part) → PartOf (star p) i x → PartOf (stars (suc k) p) i x
masks_stars zero i p x h = h
masks_stars (suc k) i p x h = part_again (stars k p) i x (masks_stars k i p x h)

entered_stars : (k : ℕ) (p : Program) (a c : Draft) → Entered (star p) a c → Entered (stars (suc k) p) a c
entered_stars zero p a c h = h
entered_stars (suc k) p a c h = entered_again (stars k p) a c (entered_stars k p a c h)

-- what a reader gives, by the parts of its states
abbrev pub PartAt : Kind → List ℕ → ℕ → List Name → Draft → ℕ → Draft → Result Part ProgramFault → Type 0
PartAt k = ReadsAt (APart k) (Ends k)

-- what stands behind the byte at a reader's place, where it has gone on in the same text
pub behind : {S : List ℕ → Tree → Type 0} {E : List ℕ → Type 0} (from mid next : Reader) (r : Result Part ProgramFault) → SameTexts from mid
    → ReadsAt S E mid.text.now (mid.at + 1) mid.acts.now mid.draft next.at next.draft r
    → ReadsAt S E from.text.now (mid.at + 1) from.acts.now mid.draft next.at next.draft r
behind {S} {E} from mid next r same h =
    subst (λ v. ReadsAt S E v.now (mid.at + 1) from.acts.now mid.draft next.at next.draft r) same.text
    (subst (λ v. ReadsAt S E mid.text.now (mid.at + 1) v.now mid.draft next.at next.draft r) same.acts h)

-- the byte that it sees
pub seen_at : (from mid : Reader) (c : ℕ) → SameTexts from mid → Sees mid c → At from.text.now mid.at c
seen_at from mid c same h = subst (λ v. At v.now mid.at c) same.text h

pub not_at : (from mid : Reader) (c : ℕ) (b : Bool) → SameTexts from mid → Decides b (Sees mid c) → b ≡ false → At from.text.now mid.at c → ⊥
not_at from mid c b same d h here = both_ways b h (d.1 (subst (λ v. At v.now mid.at c) (sym same.text) here))

pub closed_at : (from mid new : Reader) (l : Part) (r : Result Part ProgramFault) → SameTexts from mid → ClosedOff mid new l r
    → MatchResult r (λ p. (new.at ≡ mid.at + 1) × (new.draft ≡ mid.draft) × (p ≡ record { nullable = l.nullable; first = l.first; last = l.last; «end» = new.at })) (λ f. At from.text.now mid.at 41 → ⊥)
closed_at from mid new l (Ok p) same h = h
closed_at from mid new l (Err f) same h = λ here. h (subst (λ v. At v.now mid.at 41) (sym same.text) here)

module _ (from : Reader) where
  abbrev text : List ℕ
  text = from.text.now

  abbrev at : ℕ
  at = from.at

  abbrev acts : List Name
  acts = from.acts.now

  abbrev old : Draft
  old = from.draft

  -- what is read where a part stands that goes on to rest
  abbrev Answer : ℕ → Draft → Result Part ProgramFault → List ℕ → Tree → Type 0
  Answer to new r bs t = MatchResult r (ReadAs acts t (at + length bs) to old new) (Unread acts t)

  -- behind the left part, the bytes rs go on
  left_of : (ls rs rest : List ℕ) (c : ℕ) → drop at text ≡ (ls ++ c ∷ rs) ++ rest → drop at text ≡ ls ++ c ∷ (rs ++ rest)
  left_of ls rs rest c e = e ∙ append_assoc ls (c ∷ rs) rest

  -- where the left part ends, the byte c stands, and then rs
  turn : (ls rs rest : List ℕ) (c end : ℕ) → drop at text ≡ (ls ++ c ∷ rs) ++ rest → end ≡ at + length ls → Head text end c (rs ++ rest)
  turn ls rs rest c end e i = subst (λ v. Head text v c (rs ++ rest)) (sym i) (head text (rs ++ rest) (at + length ls) c (past text ls (c ∷ (rs ++ rest)) at (left_of ls rs rest c e)))

  -- the whole of both parts
  both_long : (ls rs : List ℕ) (c end to : ℕ) → end ≡ at + length ls → to ≡ end + 1 + length rs → to ≡ at + length (ls ++ c ∷ rs)
  both_long ls rs c end to i j = omega (arith, length-append ls (c ∷ rs))

  -- a whole part is followed by rest, not by the byte c
  no_turn : (bs rest : List ℕ) (c end : ℕ) → drop at text ≡ bs ++ rest → end ≡ at + length bs → At text end c → rest ≡ c ∷ drop (end + 1) text
  no_turn bs rest c end e i h = sym (past text bs rest at e) ∙ ap (λ v. drop v text) (sym i) ∙ seen text end c h.0 h.1

  -- sums
  pub sum_left_err : (mid : Reader) (f : ProgramFault) → ReadsPart sequence from mid (Err f) → ReadsPart sum from mid (Err f)
  sum_left_err mid f left bs rest t (d, single q) e ends = left bs rest t (d, q) e (ends_sum rest ends)
  sum_left_err mid f left bs rest t (d, plus {ls = ls} {rs = rs} q r) e ends =
      let u = left ls (43 ∷ (rs ++ rest)) _ (d, q) (left_of ls rs rest 43 e) (inr refl) in
      (u.0, λ p m. u.1 m.0 m.2)

  pub sum_alone : (mid : Reader) (l : Part) → ReadsPart sequence from mid (Ok l) → (At text mid.at 43 → ⊥) → ReadsPart sum from mid (Ok l)
  sum_alone mid l left none bs rest t (d, single q) e ends = left bs rest t (d, q) e (ends_sum rest ends)
  sum_alone mid l left none bs rest t (d, plus {ls = ls} {rs = rs} q r) e ends =
      let u = left ls (43 ∷ (rs ++ rest)) _ (d, q) (left_of ls rs rest 43 e) (inr refl) in
      let h = turn ls rs rest 43 mid.at e u.reaches in
      absurd (none (h.within, h.is))

  pub sum_right_err : (mid next : Reader) (l : Part) (f : ProgramFault) → ReadsPart sequence from mid (Ok l) → At text mid.at 43
      → PartAt sum text (mid.at + 1) acts mid.draft next.at next.draft (Err f) → ReadsPart sum from next (Err f)
  sum_right_err mid next l f left here right bs rest t (d, single q) e ends =
      let u = left bs rest t (d, q) e (ends_sum rest ends) in
      absurd (not_plus rest _ ends (no_turn bs rest 43 mid.at e u.reaches here))
  sum_right_err mid next l f left here right bs rest t (d, plus {ls = ls} {rs = rs} q r) e ends =
      let u = left ls (43 ∷ (rs ++ rest)) _ (d, q) (left_of ls rs rest 43 e) (inr refl) in
      let h = turn ls rs rest 43 mid.at e u.reaches in
      let w = right rs rest _ (d, r) h.after ends in
      (w.0, λ p m. w.1 m.1 m.3)

  pub sum_both : (mid next : Reader) (l r x : Part) → ReadsPart sequence from mid (Ok l) → At text mid.at 43
      → PartAt sum text (mid.at + 1) acts mid.draft next.at next.draft (Ok r)
      → x.«end» ≡ r.«end» → ((p q : Program) (i : ℕ) → PartOf p i l → PartOf q (i + length (names p)) r → PartOf (either p q) i x)
      → ReadsPart sum from next (Ok x)
  sum_both mid next l r x left here right stop make bs rest t (d, single q) e ends =
      let u = left bs rest t (d, q) e (ends_sum rest ends) in
      absurd (not_plus rest _ ends (no_turn bs rest 43 mid.at e u.reaches here))
  sum_both mid next l r x left here right stop make bs rest t (d, plus {ls = ls} {rs = rs} q s) e ends =
      let u = left ls (43 ∷ (rs ++ rest)) _ (d, q) (left_of ls rs rest 43 e) (inr refl) in
      let h = turn ls rs rest 43 mid.at e u.reaches in
      let w = right rs rest _ (d, s) h.after ends in
      let f = u.entered in
      let g = w.entered in
      record {
        program = either u.program w.program;
        means = (u.program, w.program, u.means, w.means, refl);
        reaches = both_long ls rs 43 mid.at next.at u.reaches w.reaches;
        «end» = both_long ls rs 43 mid.at x.«end» u.reaches (stop ∙ w.«end»);
        masks = make u.program w.program (old.names + 1) u.masks (subst (λ i. PartOf w.program i r) (next_name u.program w.program old mid.draft next.draft f g) w.masks);
        entered = either_entered u.program w.program old mid.draft next.draft f g;
      }

  -- sequences
  pub sequence_left_err : (mid : Reader) (f : ProgramFault) → ReadsPart factor from mid (Err f) → ReadsPart sequence from mid (Err f)
  sequence_left_err mid f left bs rest t (d, lone q) e ends = left bs rest t (d, q) e (ends_sequence rest ends)
  sequence_left_err mid f left bs rest t (d, semi {ls = ls} {rs = rs} q r) e ends =
      let u = left ls (59 ∷ (rs ++ rest)) _ (d, q) (left_of ls rs rest 59 e) (inr (inr refl)) in
      (u.0, λ p m. u.1 m.0 m.2)

  pub sequence_alone : (mid : Reader) (l : Part) → ReadsPart factor from mid (Ok l) → (At text mid.at 59 → ⊥) → ReadsPart sequence from mid (Ok l)
  sequence_alone mid l left none bs rest t (d, lone q) e ends = left bs rest t (d, q) e (ends_sequence rest ends)
  sequence_alone mid l left none bs rest t (d, semi {ls = ls} {rs = rs} q r) e ends =
      let u = left ls (59 ∷ (rs ++ rest)) _ (d, q) (left_of ls rs rest 59 e) (inr (inr refl)) in
      let h = turn ls rs rest 59 mid.at e u.reaches in
      absurd (none (h.within, h.is))

  pub sequence_right_err : (mid next : Reader) (l : Part) (f : ProgramFault) → ReadsPart factor from mid (Ok l) → At text mid.at 59
      → PartAt sequence text (mid.at + 1) acts mid.draft next.at next.draft (Err f) → ReadsPart sequence from next (Err f)
  sequence_right_err mid next l f left here right bs rest t (d, lone q) e ends =
      let u = left bs rest t (d, q) e (ends_sequence rest ends) in
      absurd (not_semi rest _ ends (no_turn bs rest 59 mid.at e u.reaches here))
  sequence_right_err mid next l f left here right bs rest t (d, semi {ls = ls} {rs = rs} q r) e ends =
      let u = left ls (59 ∷ (rs ++ rest)) _ (d, q) (left_of ls rs rest 59 e) (inr (inr refl)) in
      let h = turn ls rs rest 59 mid.at e u.reaches in
      let w = right rs rest _ (d, r) h.after ends in
      (w.0, λ p m. w.1 m.1 m.3)

  pub sequence_both : (mid next : Reader) (new'' : Draft) (l r x : Part) → ReadsPart factor from mid (Ok l) → At text mid.at 59
      → PartAt sequence text (mid.at + 1) acts mid.draft next.at next.draft (Ok r) → Joined l.last r.first next.draft new''
      → x.«end» ≡ r.«end» → ((p q : Program) (i : ℕ) → PartOf p i l → PartOf q (i + length (names p)) r → PartOf (seq p q) i x)
      → PartAt sequence text at acts old next.at new'' (Ok x)
  sequence_both mid next new'' l r x left here right joined stop make bs rest t (d, lone q) e ends =
      let u = left bs rest t (d, q) e (ends_sequence rest ends) in
      absurd (not_semi rest _ ends (no_turn bs rest 59 mid.at e u.reaches here))
  sequence_both mid next new'' l r x left here right joined stop make bs rest t (d, semi {ls = ls} {rs = rs} q s) e ends =
      let u = left ls (59 ∷ (rs ++ rest)) _ (d, q) (left_of ls rs rest 59 e) (inr (inr refl)) in
      let h = turn ls rs rest 59 mid.at e u.reaches in
      let w = right rs rest _ (d, s) h.after ends in
      let f = u.entered in
      let g = w.entered in
      record {
        program = seq u.program w.program;
        means = (u.program, w.program, u.means, w.means, refl);
        reaches = both_long ls rs 59 mid.at next.at u.reaches w.reaches;
        «end» = both_long ls rs 59 mid.at x.«end» u.reaches (stop ∙ w.«end»);
        masks = make u.program w.program (old.names + 1) u.masks (subst (λ i. PartOf w.program i r) (next_name u.program w.program old mid.draft next.draft f g) w.masks);
        entered = seq_entered u.program w.program old mid.draft next.draft f g new'' l r u.masks w.masks joined;
      }

  -- factors
  pub factor_err : (mid : Reader) (f : ProgramFault) → ReadsAtom from mid (Err f) → ReadsPart factor from mid (Err f)
  factor_err mid f base bs rest t (d, q) e ends =
      let u = unstarred q in
      let e' = e ∙ ap (λ v. v ++ rest) u.bytes ∙ append_assoc u.base (replicate u.count 42) rest in
      let x = base u.base (replicate u.count 42 ++ rest) u.tree (d, u.atom) e' (unnamed u.count rest ends) in
      subst (λ v. Unread acts v f) (sym u.is) (x.0, means_none acts u.count u.tree x.1)

  -- where the stars of a part end that was read up to its stars
  module _ (mid : Reader) (l : Part) (r : ℕ) (base : ReadsAtom from mid (Ok l)) (run : RunOf (λ c. c ≡ 42) (drop mid.at text) r) where
    record Based (d : ℕ) (bs : List ℕ) (t : Tree) : Type 0 where
      parts : Unstarred d bs t
      read : ReadAs acts parts.tree (at + length parts.base) mid.at old mid.draft l
      far : r ≡ parts.count
      long : length bs ≡ length parts.base + parts.count

    based : (d : ℕ) (bs rest : List ℕ) (t : Tree) → Spells factor d bs t → drop at text ≡ bs ++ rest → Ends factor rest → Based d bs t
    based d bs rest t q e ends =
        let u = unstarred q in
        let e' = e ∙ ap (λ v. v ++ rest) u.bytes ∙ append_assoc u.base (replicate u.count 42) rest in
        let x = base u.base (replicate u.count 42 ++ rest) u.tree (d, u.atom) e' (unnamed u.count rest ends) in
        let there : drop mid.at text ≡ replicate u.count 42 ++ rest = ap (λ v. drop v text) x.reaches ∙ past text u.base (replicate u.count 42 ++ rest) at e' in
        let size : length (replicate {A = ℕ} u.count 42) ≡ u.count = length-replicate u.count 42 in
        record {
          parts = u;
          read = x;
          far = stars_end (drop mid.at text) rest u.count r run there ends;
          long = ap length u.bytes ∙ length-append u.base (replicate u.count 42) ∙ ap (λ v. length u.base + v) size;
        }

    pub factor_alone : r ≡ 0 → ReadsPart factor from mid (Ok l)
    factor_alone same bs rest t (d, q) e ends =
        let b = based d bs rest t q e ends in
        let u = b.parts in
        let none : u.count ≡ 0 = omega (arith, b.far) in
        let i : t ≡ u.tree = u.is ∙ ap (λ k. trees k u.tree) none in
        let j : length u.base ≡ length bs = omega (arith, b.long) in
        subst (λ v. ReadAs acts v (at + length bs) mid.at old mid.draft l) (sym i) (subst (λ v. ReadAs acts u.tree (at + v) mid.at old mid.draft l) j b.read)

    pub factor_stars : (new' : Draft) (x : Part) → (r ≡ 0 → ⊥) → Joined l.last l.first mid.draft new'
        → x.«end» ≡ mid.at + r → ((p : Program) (i : ℕ) → PartOf p i l → PartOf (star p) i x) → PartAt factor text at acts old (mid.at + r) new' (Ok x)
    factor_stars new' x other joined stop make bs rest t (d, q) e ends =
        let b = based d bs rest t q e ends in
        let u = b.parts in
        let y = b.read in
        let p = y.program in
        let k = u.count - 1 in
        let some : u.count ≡ suc k = omega (arith, b.far, other) in
        let i : t ≡ trees (suc k) u.tree = u.is ∙ ap (λ v. trees v u.tree) some in
        subst (λ v. ReadAs acts v (at + length bs) (mid.at + r) old new' x) (sym i)
        (record {
          program = stars (suc k) p;
          means = means_stars acts (suc k) u.tree p y.means;
          reaches = omega (arith, b.far, b.long, y.reaches);
          «end» = omega (arith, b.far, b.long, y.reaches, stop);
          masks = masks_stars k (old.names + 1) p x (make p (old.names + 1) y.masks);
          entered = entered_stars k p old new' (star_entered p old mid.draft new' l y.entered y.masks joined);
        })

  -- atoms
  not_letter : (bs rest : List ℕ) → Named bs → drop at text ≡ bs ++ rest → At text at 40 → ⊥
  not_letter [] rest n e h = omega (arith, n.some)
  not_letter (c ∷ bs) rest n e h =
      let x = head text (bs ++ rest) at c e in
      let y : c ≡ 40 = sym x.is ∙ h.1 in
      both_ways (letter 40) refl (subst (λ v. letter v ≡ true) y n.begins)

  opened : (bs rest : List ℕ) → drop at text ≡ 40 ∷ ((bs ++ 41 ∷ []) ++ rest) → drop (at + 1) text ≡ bs ++ 41 ∷ rest
  opened bs rest e = (head text ((bs ++ 41 ∷ []) ++ rest) at 40 e).after ∙ append_assoc bs (41 ∷ []) rest

  pub atom_word : (mid : Reader) (r : Result Part ProgramFault) → ReadsWord from mid r → (At text at 40 → ⊥) → ReadsAtom from mid r
  atom_word mid r read none bs rest t (d, word h) e un = read bs rest t (h, refl) e un
  atom_word mid r read none bs rest t (d, inner {bs = cs} q) e un =
      let x = head text ((cs ++ 41 ∷ []) ++ rest) at 40 e in absurd (none (x.within, x.is))

  pub atom_err : (mid : Reader) (f : ProgramFault) → At text at 40 → PartAt sum text (at + 1) acts old mid.at mid.draft (Err f) → ReadsAtom from mid (Err f)
  atom_err mid f here read bs rest t (d, word h) e un = absurd (not_letter bs rest h e here)
  atom_err mid f here read bs rest t (d, inner {bs = cs} q) e un = read cs (41 ∷ rest) t (suc d, q) (opened cs rest e) refl

  pub atom_closed : (mid next : Reader) (l : Part) (r : Result Part ProgramFault) → At text at 40 → PartAt sum text (at + 1) acts old mid.at mid.draft (Ok l)
      → MatchResult r (λ p. (next.at ≡ mid.at + 1) × (next.draft ≡ mid.draft) × (p ≡ record { nullable = l.nullable; first = l.first; last = l.last; «end» = next.at })) (λ f. At text mid.at 41 → ⊥)
      → ReadsAtom from next r
  atom_closed mid next l r here read how bs rest t (d, word h) e un = absurd (not_letter bs rest h e here)
  atom_closed mid next l r here read how bs rest t (d, inner {bs = cs} q) e un =
      let x = read cs (41 ∷ rest) t (suc d, q) (opened cs rest e) refl in
      let y = subst (λ v. Head text v 41 rest) (sym x.reaches) (head text rest (at + 1 + length cs) 41 (past text cs (41 ∷ rest) (at + 1) (opened cs rest e))) in
      shut r x y how
    where
      shut : (r : Result Part ProgramFault) → ReadAs acts t (at + 1 + length cs) mid.at old mid.draft l → Head text mid.at 41 rest
          → MatchResult r (λ p. (next.at ≡ mid.at + 1) × (next.draft ≡ mid.draft) × (p ≡ record { nullable = l.nullable; first = l.first; last = l.last; «end» = next.at })) (λ f. At text mid.at 41 → ⊥)
          → Answer next.at next.draft r (40 ∷ (cs ++ 41 ∷ [])) t
      shut (Ok p) x y h =
          rw (h.1, h.2) (record {
            program = x.program;
            means = x.means;
            reaches = omega (arith, h.0, x.reaches, length-append cs (41 ∷ []));
            «end» = omega (arith, h.0, x.reaches, length-append cs (41 ∷ []));
            masks = record { empty = x.masks.empty; begins = x.masks.begins; ends = x.masks.ends };
            entered = x.entered;
          })
      shut (Err f) x y h = absurd (h (y.within, y.is))
