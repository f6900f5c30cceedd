use Rattle.std.proofs.Common.{◌≡◌, true, eqb, drop, Ok, Err, sym, ap, ◌∙◌, subst, rules}
use Rattle.std.proofs.lemmas.Bool.{both_ways}
use Rattle.program.specs.Reading.{ReadsAtom, ReadsPart}
use Rattle.program.specs.Text.{factor, sequence, sum}
use Rattle.program.proofs.Places.{RunOf, run_of, stars_of}
use Rattle.program.proofs.Readers.{err_is, behind, seen_at, not_at, closed_at, atom_word, atom_err, atom_closed, factor_err, factor_alone, factor_stars, sequence_left_err, sequence_right_err, sequence_both, sequence_alone, sum_left_err, sum_right_err, sum_both, sum_alone}
use Rattle.program.proofs.read.Reader.+atom_factor_sequence_sum.Goals as goal

pub atom-returns-then-not-sees-clause-reads : goal.atom-returns-then-not-sees-clause-reads
atom-returns-then-not-sees-clause-reads t c =
    let s = c.args.self.now in
    let m = c.action.new.self in
    atom_word s m c.action.result c.action.ensures.reads (λ h. both_ways c.sees.result c.if-not-sees.true (c.sees.ensures.1 h))

pub atom-returns-in_err-inside-clause-reads : goal.atom-returns-in_err-inside-clause-reads
atom-returns-in_err-inside-clause-reads t c =
    let s = c.args.self.now in
    let m = c.sum.new.self in
    subst (ReadsAtom s m) (sym (err_is c.from_residual.ensures.1))
    (atom_err s m c.in_err-inside.field-0.0 (c.sees.ensures.0 c.if-not-sees.false) c.in_err-inside.ensures.reads)

pub atom-returns-clause-reads : goal.atom-returns-clause-reads
atom-returns-clause-reads t c =
    let s = c.args.self.now in
    let m = c.sum.new.self in
    let n = c.closed.new.self in
    atom_closed s m n c.in_ok-inside.inside c.closed.result (c.sees.ensures.0 c.if-not-sees.false)
    c.in_ok-inside.ensures.reads (closed_at _ m n c.in_ok-inside.inside c.closed.result c.in_ok-inside.ensures.same c.closed.ensures.closed)

pub factor-returns-in_err-base-clause-reads : goal.factor-returns-in_err-base-clause-reads
factor-returns-in_err-base-clause-reads t c =
    let s = c.args.self.now in
    let m = c.atom.new.self in
    subst (ReadsPart factor s m) (sym (err_is c.from_residual.ensures.1))
    (factor_err s m c.in_err-base.field-0.0 c.in_err-base.ensures.reads)

pub factor-returns-then-stars-eq0-clause-reads : goal.factor-returns-then-stars-eq0-clause-reads
factor-returns-then-stars-eq0-clause-reads t c =
    let s = c.args.self.now in
    let m = c.atom.new.self in
    let r = c.run-stars in
    let xs = c.rest.result.now in
    let run : RunOf (λ b. eqb b 42 ≡ true) xs r.result =
    run_of (λ b. eqb b 42) xs r.result r.ensures.within (λ k h. search (rules, r.ensures.all k h)) (λ h. search (rules, r.ensures.stops h)) in
    factor_alone s m c.in_ok-base.base r.result c.in_ok-base.ensures.reads
    (stars_of (drop m.at s.text.now) xs r.result (c.rest.ensures ∙ ap (λ v. drop m.at v.now) c.in_ok-base.ensures.same.text) run) c.if-stars-eq0.true

pub factor-returns-clause-reads : goal.factor-returns-clause-reads
factor-returns-clause-reads t c =
    let s = c.args.self.now in
    let m = c.atom.new.self in
    let r = c.run-stars in
    let xs = c.rest.result.now in
    let run : RunOf (λ b. eqb b 42 ≡ true) xs r.result =
    run_of (λ b. eqb b 42) xs r.result r.ensures.within (λ k h. search (rules, r.ensures.all k h)) (λ h. search (rules, r.ensures.stops h)) in
    factor_stars s m c.in_ok-base.base r.result c.in_ok-base.ensures.reads
    (stars_of (drop m.at s.text.now) xs r.result (c.rest.ensures ∙ ap (λ v. drop m.at v.now) c.in_ok-base.ensures.same.text) run)
    c.connect.new.self c.starred.result c.if-stars-eq0.false c.connect.ensures c.starred.ensures.«end» c.starred.ensures.is

pub sequence-returns-in_err-left-clause-reads : goal.sequence-returns-in_err-left-clause-reads
sequence-returns-in_err-left-clause-reads t c =
    let s = c.args.self.now in
    let m = c.factor.new.self in
    subst (ReadsPart sequence s m) (sym (err_is c.from_residual.ensures.1))
    (sequence_left_err s m c.in_err-left.field-0.0 c.in_err-left.ensures.reads)

pub sequence-returns-then-not-sees-clause-reads : goal.sequence-returns-then-not-sees-clause-reads
sequence-returns-then-not-sees-clause-reads t c =
    let s = c.args.self.now in
    let m = c.factor.new.self in
    sequence_alone s m c.in_ok-left.left c.in_ok-left.ensures.reads
    (not_at s m 59 c.sees.result c.in_ok-left.ensures.same c.sees.ensures c.if-not-sees.true)

pub sequence-returns-in_err-right-clause-reads : goal.sequence-returns-in_err-right-clause-reads
sequence-returns-in_err-right-clause-reads t c =
    let s = c.args.self.now in
    let m = c.factor.new.self in
    let n = c.sequence.new.self in
    let same = c.in_ok-left.ensures.same in
    let f = c.in_err-right.field-0.0 in
    subst (ReadsPart sequence s n) (sym (err_is c.from_residual-in_err-right.ensures.1))
    (sequence_right_err s m n c.in_ok-left.left f c.in_ok-left.ensures.reads
    (seen_at s m 59 same (c.sees.ensures.0 c.if-not-sees.false)) (behind s m n (Err f) same c.in_err-right.ensures.reads))

pub sequence-returns-clause-reads : goal.sequence-returns-clause-reads
sequence-returns-clause-reads t c =
    let s = c.args.self.now in
    let m = c.factor.new.self in
    let n = c.sequence.new.self in
    let same = c.in_ok-left.ensures.same in
    sequence_both s m n c.connect.new.self c.in_ok-left.left c.in_ok-right.right c.then.result
    c.in_ok-left.ensures.reads (seen_at s m 59 same (c.sees.ensures.0 c.if-not-sees.false))
    (behind s m n (Ok c.in_ok-right.right) same c.in_ok-right.ensures.reads) c.connect.ensures c.then.ensures.«end» c.then.ensures.is

pub sum-returns-in_err-left-clause-reads : goal.sum-returns-in_err-left-clause-reads
sum-returns-in_err-left-clause-reads t c =
    let s = c.args.self.now in
    let m = c.sequence.new.self in
    subst (ReadsPart sum s m) (sym (err_is c.from_residual.ensures.1))
    (sum_left_err s m c.in_err-left.field-0.0 c.in_err-left.ensures.reads)

pub sum-returns-then-not-sees-clause-reads : goal.sum-returns-then-not-sees-clause-reads
sum-returns-then-not-sees-clause-reads t c =
    let s = c.args.self.now in
    let m = c.sequence.new.self in
    sum_alone s m c.in_ok-left.left c.in_ok-left.ensures.reads
    (not_at s m 43 c.sees.result c.in_ok-left.ensures.same c.sees.ensures c.if-not-sees.true)

pub sum-returns-in_err-right-clause-reads : goal.sum-returns-in_err-right-clause-reads
sum-returns-in_err-right-clause-reads t c =
    let s = c.args.self.now in
    let m = c.sequence.new.self in
    let n = c.sum.new.self in
    let same = c.in_ok-left.ensures.same in
    let f = c.in_err-right.field-0.0 in
    subst (ReadsPart sum s n) (sym (err_is c.from_residual-in_err-right.ensures.1))
    (sum_right_err s m n c.in_ok-left.left f c.in_ok-left.ensures.reads
    (seen_at s m 43 same (c.sees.ensures.0 c.if-not-sees.false)) (behind s m n (Err f) same c.in_err-right.ensures.reads))

pub sum-returns-clause-reads : goal.sum-returns-clause-reads
sum-returns-clause-reads t c =
    let s = c.args.self.now in
    let m = c.sequence.new.self in
    let n = c.sum.new.self in
    let same = c.in_ok-left.ensures.same in
    sum_both s m n c.in_ok-left.left c.in_ok-right.right c.either.result
    c.in_ok-left.ensures.reads (seen_at s m 43 same (c.sees.ensures.0 c.if-not-sees.false))
    (behind s m n (Ok c.in_ok-right.right) same c.in_ok-right.ensures.reads) c.either.ensures.«end» c.either.ensures.is
