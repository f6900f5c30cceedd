-- What is said over records of names is said over their bytes, and what the bytes say is one program.
use Rattle.std.proofs.Common.{◌≡◌, ℕ, ◌<◌, ◌≤◌, List, [], length, map, get_or, sym, ap, ◌∙◌, subst, ⊎_elim}
use lib.ListN.{length-map}
use Rattle.std.proofs.Math.ListN.{get_or-map}
use Rattle.std.proofs.lemmas.Bool.{cases_order}
use Rattle.program.specs.Names.{spelled, name_at, Absent, Number}
use Rattle.program.specs.Programs.{Means, SpellsProgram, Refused, SpellsRow}
use Rattle.program.specs.Spellings.{AbsentIn, Missing, NumberIn, MeansIn, SpellsProgramIn, RefusedIn, SpellsRowIn, OneProgramIn}
use Rattle.program.specs.Text.{Tree, leaf, choice, chain, repeat}
use Rattle.program.specs.Words.{Program, act, either, seq}
use Rattle.program.specs.Words as words
use Rattle.program.specs.declared.fault.ProgramFault.{ProgramFault}
use Rattle.program.specs.declared.fault.ProgramFault.TheVariants.{Malformed, Undeclared, TooMany}
use Rattle.program.specs.declared.name.Name.{Name}
use Rattle.program.specs.declared.row.Row.{Row}
use Rattle.program.proofs.Unique.{one_tree}

name_in : (names : List Name) (k : ℕ) → get_or (map spelled names) k [] ≡ name_at names k
name_in names k = get_or-map spelled names k (record { bytes = []; len = 0 })

pub absent_in : (names : List Name) (n : ℕ) (bs : List ℕ) → Absent names n bs → AbsentIn (map spelled names) n bs
absent_in names n bs h k l e = h k l (sym (name_in names k) ∙ e)

absent_out : (names : List Name) (n : ℕ) (bs : List ℕ) → AbsentIn (map spelled names) n bs → Absent names n bs
absent_out names n bs h k l e = h k l (name_in names k ∙ e)

pub missing_in : (names : List Name) (bs : List ℕ) → Absent names (length names) bs → Missing (map spelled names) bs
missing_in names bs h = subst (λ n. AbsentIn (map spelled names) n bs) (sym (length-map names spelled)) (absent_in names (length names) bs h)

pub number_in : (names : List Name) (bs : List ℕ) (i : ℕ) → Number names bs i → NumberIn (map spelled names) bs i
number_in names bs i h = (subst (λ n. i < n) (sym (length-map names spelled)) h.0, name_in names i ∙ h.1, absent_in names i bs h.2)

number_out : (names : List Name) (bs : List ℕ) (i : ℕ) → NumberIn (map spelled names) bs i → Number names bs i
number_out names bs i h = (subst (λ n. i < n) (length-map names spelled) h.0, sym (name_in names i) ∙ h.1, absent_out names i bs h.2)

means_in : (names : List Name) (t : Tree) (p : Program) → Means names t p → MeansIn (map spelled names) t p
means_in names (leaf bs) p m = (m.0, number_in names bs m.0 m.1, m.2)
means_in names (choice s t) p m = (m.0, m.1, means_in names s m.0 m.2, means_in names t m.1 m.3, m.4)
means_in names (chain s t) p m = (m.0, m.1, means_in names s m.0 m.2, means_in names t m.1 m.3, m.4)
means_in names (repeat t) p m = (m.0, means_in names t m.0 m.1, m.2)

means_out : (names : List Name) (t : Tree) (p : Program) → MeansIn (map spelled names) t p → Means names t p
means_out names (leaf bs) p m = (m.0, number_out names bs m.0 m.1, m.2)
means_out names (choice s t) p m = (m.0, m.1, means_out names s m.0 m.2, means_out names t m.1 m.3, m.4)
means_out names (chain s t) p m = (m.0, m.1, means_out names s m.0 m.2, means_out names t m.1 m.3, m.4)
means_out names (repeat t) p m = (m.0, means_out names t m.0 m.1, m.2)

program_in : (text : List ℕ) (names : List Name) (p : Program) → SpellsProgram text names p → SpellsProgramIn text (map spelled names) p
program_in text names p s = (s.0, s.1, means_in names s.0 p s.2)

program_out : (text : List ℕ) (names : List Name) (p : Program) → SpellsProgramIn text (map spelled names) p → SpellsProgram text names p
program_out text names p s = (s.0, s.1, means_out names s.0 p s.2)

pub refused_in : (text : List ℕ) (names : List Name) (f : ProgramFault) → Refused text names f → RefusedIn text (map spelled names) f
refused_in text names (Malformed column) r = r
refused_in text names Undeclared r = (r.0, λ p s. r.1 p (program_out text names p s))
refused_in text names TooMany r = (r.0, program_in text names r.0 r.1, r.2)

pub row_in : (text : List ℕ) (names : List Name) (row : Row) → SpellsRow text names row → SpellsRowIn text (map spelled names) row
row_in text names row s = (s.0, program_in text names s.0 s.1, λ h. s.2 (subst (λ n. n ≤ 256) (length-map names spelled) h))

pub one_number_in : (acts : List (List ℕ)) (bs : List ℕ) (a b : ℕ) → NumberIn acts bs a → NumberIn acts bs b → a ≡ b
one_number_in acts bs a b f g =
    ⊎_elim (λ e. e) (⊎_elim (λ l. absurd (g.2 a l f.1)) (λ l. absurd (f.2 b l g.1))) (cases_order a b)

one_meaning_in : (acts : List (List ℕ)) (t : Tree) (p q : Program) → MeansIn acts t p → MeansIn acts t q → p ≡ q
one_meaning_in acts (leaf bs) p q f g = f.2 ∙ ap act (one_number_in acts bs f.0 g.0 f.1 g.1) ∙ sym g.2
one_meaning_in acts (choice s t) p q f g =
    f.4 ∙ ap (λ v. either v f.1) (one_meaning_in acts s f.0 g.0 f.2 g.2) ∙ ap (either g.0) (one_meaning_in acts t f.1 g.1 f.3 g.3) ∙ sym g.4
one_meaning_in acts (chain s t) p q f g =
    f.4 ∙ ap (λ v. seq v f.1) (one_meaning_in acts s f.0 g.0 f.2 g.2) ∙ ap (seq g.0) (one_meaning_in acts t f.1 g.1 f.3 g.3) ∙ sym g.4
one_meaning_in acts (repeat t) p q f g = f.2 ∙ ap words.star (one_meaning_in acts t f.0 g.0 f.1 g.1) ∙ sym g.2

pub one_program_in : OneProgramIn
one_program_in text acts p q f g =
    let e = one_tree text f.0 g.0 f.1 g.1 in
    one_meaning_in acts g.0 p q (subst (λ t. MeansIn acts t p) e f.2) g.2
