use Rattle.std.proofs.Common.{map, sym, subst, arith, rules, MatchResult}
use Rattle.program.specs.Names.{spelled}
use Rattle.program.specs.Programs.{Refused, SpellsRow}
use Rattle.program.specs.Spellings.{RefusedIn, SpellsRowIn}
use Rattle.program.specs.declared.fault.ProgramFault.TheVariants.{TooMany}
use Rattle.program.proofs.Readers.{err_is}
use Rattle.program.proofs.Spellings.{refused_in, row_in, one_program_in}
use Rattle.program.proofs.Unique.{one_program}
use Rattle.program.proofs.Whole.{whole_err, whole_end, whole_many, whole_row}
use Rattle.program.proofs.read.read.Goals as goal

pub returns-in_err-whole : goal.returns-in_err-whole
returns-in_err-whole c =
    let text = c.args.text.now in
    let acts = c.args.acts.now in
    let is = sym (err_is c.from_residual-in_err-whole.ensures.1) in
    let told = whole_err text acts c.sum.new.self.at c.new-draft.result c.sum.new.self.draft c.new-draft.ensures c.in_ok-check.ensures
    c.in_err-whole.field-0.0 c.in_err-whole.ensures.reads in
    record {
      names = search rules;
      one = one_program;
      says = subst (λ r. MatchResult r (SpellsRow text acts) (Refused text acts)) is told;
      one_in = one_program_in;
      spells = subst (λ r. MatchResult r (SpellsRowIn text (map spelled acts)) (RefusedIn text (map spelled acts))) is (refused_in text acts _ told);
    }

pub returns-then-reader-text : goal.returns-then-reader-text
returns-then-reader-text c =
    let e = whole_end c.args.text.now c.args.acts.now c.sum.new.self.at c.new-draft.result c.sum.new.self.draft c.new-draft.ensures
    c.in_ok-check.ensures c.in_ok-whole.whole c.in_ok-whole.ensures.reads in
    record {
      names = search rules;
      one = one_program;
      says = absurd (omega arith);
      one_in = one_program_in;
      spells = absurd (omega arith);
    }

pub returns-then-names-gt15 : goal.returns-then-names-gt15
returns-then-names-gt15 c =
    let told = whole_many c.args.text.now c.args.acts.now c.sum.new.self.at c.new-draft.result c.sum.new.self.draft c.new-draft.ensures
    c.in_ok-check.ensures c.in_ok-whole.whole c.in_ok-whole.ensures.reads c.if-names-gt15.true in
    record {
      names = search rules;
      one = one_program;
      says = told;
      one_in = one_program_in;
      spells = refused_in c.args.text.now c.args.acts.now TooMany told;
    }

pub returns : goal.returns
returns c =
    let told = whole_row c.args.text.now c.args.acts.now c.sum.new.self.at c.new-draft.result c.sum.new.self.draft c.new-draft.ensures
    c.in_ok-check.ensures c.in_ok-whole.whole c.in_ok-whole.ensures.reads c.if-names-gt15.false in
    record {
      names = search rules;
      one = one_program;
      says = told;
      one_in = one_program_in;
      spells = row_in c.args.text.now c.args.acts.now _ told;
    }

pub returns-in_err-check : goal.returns-in_err-check
returns-in_err-check c = record { names = search rules; one = one_program; says = search rules; one_in = one_program_in; spells = search rules }
