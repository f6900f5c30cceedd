use Rattle.std.proofs.Common.{◌≡◌, ◌+◌, ◌<◌, ◌≤◌, true, ◌≢◌, length, set, sym, ◌∙◌, subst, arith, length-set, get_or-set_other, get_or-set_same, below_more}
use Rattle.document.specs.Forms.{Earlier, earlier, blank_line, form_in, base_in, weight_in}
use Rattle.document.specs.declared.declared.FormLine.{FormLine}
use Rattle.document.proofs.Operands.{so_earlier}
use Rattle.document.proofs.declared.Declared.with_form.Goals as goal

pub invariant_of-self : goal.invariant_of-self
invariant_of-self c =
    let s = c.args.self in
    let at = c.count-e.result in
    let form = c.args.form in
    let w = c.weight_of.result in
    let is : at ≡ s.forms.count = c.count-e.ensures.is in
    let line : FormLine = record { form = form; base = s.weight } in
    let more : c.with-self.result.count ≡ at + 1 = omega arith in
    let room : at < length s.lines = omega arith in
    record {
      acts_few = omega arith;
      props_few = omega arith;
      progs_few = omega arith;
      room = (s.room.0, length-set s.lines at _ ∙ s.room.1);
      light = omega arith;
      ordered =
          λ e h. below_more (λ k. earlier s.props.count s.acts.count s.progs.count k (form_in (set s.lines at line) k) ≡ true) at
          (λ k less. let ne : k ≢ at = omega arith in subst (λ (l : FormLine). earlier s.props.count s.acts.count s.progs.count k l.form ≡ true) (sym (get_or-set_other s.lines at k line blank_line ne)) (s.ordered k (omega arith)))
          (subst (λ (l : FormLine). earlier s.props.count s.acts.count s.progs.count at l.form ≡ true) (sym (get_or-set_same s.lines at line blank_line room)) (so_earlier _ _ _ at form (subst (λ n. Earlier s.props.count s.acts.count s.progs.count n form) (sym is) c.requires.known)))
          e (omega arith);
      numbered =
          λ e h. below_more (λ k. base_in (set s.lines at line) k + weight_in s.rows (form_in (set s.lines at line) k) ≤ s.weight + w) at
          (λ k less. let ne : k ≢ at = omega arith in
          let old = s.numbered k (omega arith) in
          subst (λ (l : FormLine). l.base + weight_in s.rows l.form ≤ s.weight + w) (sym (get_or-set_other s.lines at k line blank_line ne)) (omega arith))
          (subst (λ (l : FormLine). l.base + weight_in s.rows l.form ≤ s.weight + w) (sym (get_or-set_same s.lines at line blank_line room)) (omega arith))
          e (omega arith);
    }
