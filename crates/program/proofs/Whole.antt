-- What the reader of a whole text gives.
use Rattle.std.proofs.Common.{◌≡◌, ℕ, ◌+◌, ◌-◌, ◌<◌, ◌≤◌, List, [], ◌++◌, length, get_or, replicate, Ok, Err, sym, refl, ap, ◌∙◌, subst, inr, ⊎_elim, mod-eq_of_lt, arith}
use Rattle.std.proofs.lemmas.List.{append-nil, get_or_append_left, get_or-append_right, get_or-replicate, length-append}
use Rattle.std.proofs.lemmas.Bool.{cases_lt}
use Rattle.program.specs.Automata.{names}
use Rattle.program.specs.Faults.{MalformedBy}
use Rattle.program.specs.Masks.{Bit}
use Rattle.program.specs.Programs.{Means, SpellsProgram, SpellsRow, Refused}
use Rattle.program.specs.Reading.{ReadAs}
use Rattle.program.specs.Text.{Tree, leaf, choice, chain, repeat, sum, WellFormed}
use Rattle.program.specs.Words.{Program}
use Rattle.program.specs.declared.fault.ProgramFault.{ProgramFault}
use Rattle.program.specs.declared.fault.ProgramFault.TheVariants.{Malformed, Undeclared, TooMany}
use Rattle.program.specs.declared.name.Name.{Name}
use Rattle.program.specs.declared.row.Draft.{Draft}
use Rattle.program.specs.declared.row.Part.{Part}
use Rattle.program.proofs.Bits.{bit_none}
use Rattle.program.proofs.Readers.{PartAt}

abbrev pub blank : Draft
blank = record { names = 0; actions = replicate 16 0; follow = replicate 16 0 }

pub malformed : (text : List ℕ) (acts : List Name) (f : ProgramFault) → MalformedBy text f → Refused text acts f
malformed text acts (Malformed column) h = h
malformed text acts Undeclared h = absurd h
malformed text acts TooMany h = absurd h

-- the names of a program over the actions are numbers of actions
two_below : (xs ys : List ℕ) (n : ℕ) → ((k : ℕ) → k < length xs → get_or xs k 0 < n) → ((k : ℕ) → k < length ys → get_or ys k 0 < n)
    → (k : ℕ) → k < length (xs ++ ys) → get_or (xs ++ ys) k 0 < n
two_below xs ys n f g k h =
    let long = length-append xs ys in
    ⊎_elim
    (λ low. subst (λ v. v < n) (sym (get_or_append_left xs ys 0 k low)) (f k low))
    (λ high. subst (λ v. v < n) (sym (get_or-append_right xs ys (length xs) k 0 refl high)) (g (k - length xs) (omega arith)))
    (cases_lt k (length xs))

module _ (acts : List Name) where
  names_below : (t : Tree) (p : Program) → Means acts t p → (k : ℕ) → k < length (names p) → get_or (names p) k 0 < length acts
  names_below (leaf bs) p m k =
      rw m.2 (λ h. let z : k ≡ 0 = omega arith in rw z m.1.0)
  names_below (choice s t) p m k =
      rw m.4 (two_below (names m.0) (names m.1) (length acts) (names_below s m.0 m.2) (names_below t m.1 m.3) k)
  names_below (chain s t) p m k =
      rw m.4 (two_below (names m.0) (names m.1) (length acts) (names_below s m.0 m.2) (names_below t m.1 m.3) k)
  names_below (repeat t) p m k = rw m.2 (names_below t m.0 m.1 k)

module _ (text : List ℕ) (acts : List Name) (to : ℕ) (old new : Draft) (from : old ≡ blank) (well : WellFormed text) where
  -- a name is not declared
  pub whole_err : (f : ProgramFault) → PartAt sum text 0 acts old to new (Err f) → Refused text acts f
  whole_err f reads =
      let u = reads text [] well.0 (0, well.1) (sym (append-nil text)) tt in
      subst (Refused text acts) (sym u.0) (well, λ p m. (reads text [] m.0 (0, m.1) (sym (append-nil text)) tt).1 p m.2)

  module _ (l : Part) (reads : PartAt sum text 0 acts old to new (Ok l)) where
    whole : ReadAs acts well.0 (0 + length text) to blank new l
    whole = subst (λ d. ReadAs acts well.0 (0 + length text) to d new l) from (reads text [] well.0 (0, well.1) (sym (append-nil text)) tt)

    spells : SpellsProgram text acts whole.program
    spells = (well.0, well.1, whole.means)

    pub whole_end : to ≡ length text
    whole_end = omega (arith, whole.reaches)

    pub whole_many : 15 < new.names → (p : Program) × SpellsProgram text acts p × (15 < length (names p))
    whole_many h = (whole.program, spells, omega (arith, whole.entered.count))

    pub whole_row : new.names ≤ 15
        → SpellsRow text acts (record { names = new.names; actions = new.actions; nullable = l.nullable; first = l.first; last = l.last; follow = new.follow })
    whole_row h =
        let e = whole.entered in
        let m = whole.masks in
        let count : new.names ≡ length (names whole.program) = omega (arith, e.count) in (
          whole.program,
          spells,
          λ bytes. record {
            count = count;
            few = omega arith;
            acts = λ k less.
                let i : 0 + k + 1 ≡ k + 1 = omega arith in
                let low = names_below acts well.0 whole.program whole.means k less in
                ap (λ v. get_or new.actions v 0) (sym i) ∙ e.acts k less (omega arith) ∙ mod-eq_of_lt (omega arith);
            empty = m.empty;
            begins = m.begins;
            ends = m.ends;
            goes_on = λ k less n low.
                let t = e.goes_on k less n low in
                (λ b. ⊎_elim (λ z. absurd (bit_none n (subst (λ v. Bit v n) (get_or-replicate 16 k 0 0 less) z))) (λ f. f) (t.0 b), λ f. t.1 (inr f));
          },
        )
