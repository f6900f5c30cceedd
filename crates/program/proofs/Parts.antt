-- The masks of a program from those of its parts.
use Rattle.std.proofs.Common.{◌≡◌, ℕ, ◌+◌, Bool, true, false, cond, ◌⊎◌, length, refl, ap, ◌∙◌, subst, inl, ⊎_elim}
use mathlib.Core.Logic.{⊎_map}
use lib.Bits.{bit_or}
use Rattle.std.proofs.lemmas.Bool.{both_ways}
use Rattle.program.specs.Automata.{names, nullable, First, Last}
use Rattle.program.specs.Masks.{Marks}
use Rattle.program.specs.Reading.{PartOf}
use Rattle.program.specs.Words.{Program, either, seq, star}
use Rattle.program.specs.declared.row.Part.{Part}
use Rattle.program.proofs.Bits.{bit_of_or}

marks_or : (P Q : ℕ → Type 0) (a b : ℕ) → Marks a P → Marks b Q → Marks (bit_or a b) (λ n. P n ⊎ Q n)
marks_or P Q a b f g n h =
    let t = bit_of_or a b n in
    (λ x. ⊎_map (f n h).0 (g n h).0 (t.0 x), λ x. t.1 (⊎_map (f n h).1 (g n h).1 x))

-- the bits of the one mask, and those of the other where a test says so
marks_if : (P Q : ℕ → Type 0) (t : Bool) (a b m : ℕ) → m ≡ cond t (bit_or a b) a → Marks a P → Marks b Q → Marks m (λ n. P n ⊎ ((t ≡ true) × Q n))
marks_if P Q true a b m e f g = rw e (λ n h. let o = marks_or P Q a b f g n h in (λ x. ⊎_map (λ y. y) (λ y. (refl, y)) (o.0 x), λ x. o.1 (⊎_map (λ y. y) (λ y. y.1) x)))
marks_if P Q false a b m e f g = rw e (λ n h. (λ x. inl ((f n h).0 x), ⊎_elim (f n h).1 (λ y. absurd (both_ways false refl y.0))))

module _ (p q : Program) (i : ℕ) (l r : Part) (f : PartOf p i l) (g : PartOf q (i + length (names p)) r) where
  pub either_part : (b : Bool) (to : ℕ) → b ≡ cond l.nullable true r.nullable
      → PartOf (either p q) i (record { nullable = b; first = bit_or l.first r.first; last = bit_or l.last r.last; «end» = to })
  either_part b to h =
      record {
        empty = h ∙ ap (λ v. cond v true r.nullable) f.empty ∙ ap (cond (nullable p) true) g.empty;
        begins = marks_or (First p i) (First q (i + length (names p))) l.first r.first f.begins g.begins;
        ends = marks_or (Last p i) (Last q (i + length (names p))) l.last r.last f.ends g.ends;
      }

  pub seq_part : (b : Bool) (begin last to : ℕ) → b ≡ cond l.nullable r.nullable false
      → begin ≡ cond l.nullable (bit_or l.first r.first) l.first
      → last ≡ cond r.nullable (bit_or r.last l.last) r.last
      → PartOf (seq p q) i (record { nullable = b; first = begin; last = last; «end» = to })
  seq_part b begin last to h u v =
      record {
        empty = h ∙ ap (λ v. cond v r.nullable false) f.empty ∙ ap (λ v. cond (nullable p) v false) g.empty;
        begins = subst (λ t. Marks begin (λ n. First p i n ⊎ ((t ≡ true) × First q (i + length (names p)) n))) f.empty
            (marks_if (First p i) (First q (i + length (names p))) l.nullable l.first r.first begin u f.begins g.begins);
        ends = subst (λ t. Marks last (λ n. Last q (i + length (names p)) n ⊎ ((t ≡ true) × Last p i n))) g.empty
            (marks_if (Last q (i + length (names p))) (Last p i) r.nullable r.last l.last last v g.ends f.ends);
      }

-- a star of a star has the same masks
pub part_again : (p : Program) (i : ℕ) (l : Part) → PartOf (star p) i l → PartOf (star (star p)) i l
part_again p i l f = record { empty = f.empty; begins = f.begins; ends = f.ends }
