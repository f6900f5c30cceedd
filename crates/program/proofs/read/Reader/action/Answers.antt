use Rattle.std.proofs.Common.{◌≡◌, ℕ, ◌+◌, List, ◌++◌, take, MatchResult, true, length, ap, ◌∙◌, refl, sym, subst, MatchOption, Option, Some, None, Err}
use lib.Bits.{bit_and, and_mask}
use Rattle.std.specs.Option.{ok_or}
use Rattle.std.proofs.lemmas.Option.{MatchOption-at_some}
use Rattle.program.specs.Names.{naming, Named, Number, Absent}
use Rattle.program.specs.Reading.{Unnamed, ReadAs, Unread}
use Rattle.program.specs.Words.{act}
use Rattle.program.specs.declared.fault.ProgramFault.{ProgramFault}
use Rattle.program.specs.declared.fault.ProgramFault.TheVariants.{Undeclared}
use Rattle.program.proofs.Drafts.{act_entered}
use Rattle.program.proofs.Places.{RunOf, run_of, word_end, word_is}
use Rattle.program.proofs.Readers.{err_is}
use Rattle.program.proofs.read.Reader.action.Goals as goal

-- nothing was found
unfound : (o : Option ℕ) (f : ProgramFault) (P : Type 0) (Q : ℕ → Type 0) → ok_or o Undeclared ≡ Err f → MatchOption o P Q → P × (f ≡ Undeclared)
unfound None f P Q e h = (h, cc)
unfound (Some x) f P Q e h = cc

module _ (xs bs rest : List ℕ) (r : ℕ) (run : RunOf (λ c. naming c ≡ true) xs r) (n : Named bs) (e : xs ≡ bs ++ rest) (un : Unnamed rest) where
  -- the bytes that were read are the name
  the_name : take r xs ≡ bs
  the_name = word_is xs bs rest r (word_end xs bs rest r run n e un) e

pub returns-in_err-number-clause-reads : goal.returns-in_err-number-clause-reads
returns-in_err-number-clause-reads c bs rest t n e un =
    let acts = c.args.self.now.acts.now in
    let r = c.run in
    let xs = c.rest-rest.result.now in
    let run : RunOf (λ b. naming b ≡ true) xs r.result = run_of naming xs r.result r.ensures.within r.ensures.all r.ensures.stops in
    let w : take r.result xs ≡ bs = the_name xs bs rest r.result run n.0 (c.rest-rest.ensures ∙ e) un in
    let u = unfound c.find.result c.in_err-number.field-0.0 (Absent acts (length acts) (take r.result xs)) (λ i. Number acts (take r.result xs) i) (sym c.in_err-number.ensures.value) c.find.ensures.is in
    let none : Absent acts (length acts) bs = subst (Absent acts (length acts)) w u.0 in
    let s = c.args.self.now in
    subst (λ v. MatchResult v (ReadAs acts t (s.at + length bs) s.at s.draft s.draft) (Unread acts t)) (sym (err_is c.from_residual.ensures.1)) (rw n.1 (u.1, λ p m. none m.0 m.1.0 m.1.1))

pub returns-clause-reads : goal.returns-clause-reads
returns-clause-reads c bs rest t n e un =
    let acts = c.args.self.now.acts.now in
    let r = c.run in
    let xs = c.rest-rest.result.now in
    let number = c.in_ok-number.number in
    let a = c.add-bit.ensures in
    let bits = a.bit in
    let run : RunOf (λ b. naming b ≡ true) xs r.result = run_of naming xs r.result r.ensures.within r.ensures.all r.ensures.stops in
    let w : take r.result xs ≡ bs = the_name xs bs rest r.result run n.0 (c.rest-rest.ensures ∙ e) un in
    let found : Number acts bs number = subst (λ v. Number acts v number) w
    (MatchOption-at_some (Absent acts (length acts) (take r.result xs)) (λ i. Number acts (take r.result xs) i) number c.in_ok-number.ensures.ok_part c.find.ensures.is) in
    rw n.1
    (record {
      program = act number;
      means = (number, found, refl);
      reaches = ap (λ v. c.args.self.now.at + length v) w;
      «end» = ap (λ v. c.args.self.now.at + length v) w;
      masks = record { empty = refl; begins = bits; ends = bits };
      entered = act_entered number (bit_and number 255) c.args.self.now.draft c.add-bit.new.self (and_mask number 8) a.entered;
    })
