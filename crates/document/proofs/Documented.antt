-- The document in memory.
use Rattle.std.proofs.Common.{ℕ, length, get_or, sym, refl, subst, arith}
use Rattle.document.specs.Documents.{Refers, WellFormed}
use Rattle.document.specs.Documents as documents
use Rattle.document.specs.Forms.{Earlier, forms_of}
use Rattle.document.specs.Holds.{Holds}
use Rattle.document.specs.Lines.{Declarations, document_of}
use Rattle.document.specs.Represents.{Represents}
use Rattle.document.specs.declared.document.Document.{Document}
use Rattle.document.specs.declared.form.Form.{Form}
use Rattle.document.specs.declared.form.Form.TheVariants.{True, Prop, Not, And, Or, Next, Until}
use Rattle.document.proofs.Held.{told, of_all, acts_long, props_long, forms_long, form_held, refers}

pub refers_so : (d : documents.Document) (e : ℕ) (f : Form) → Earlier d.props d.acts (length d.progs) e f → Refers d e f
refers_so d e True h = tt
refers_so d e (Prop p) h = h
refers_so d e (Not f) h = h
refers_so d e (And f g) h = h
refers_so d e (Or f g) h = h
refers_so d e (Next a f) h = h
refers_so d e (Until f p g) h = h

pub represents : (doc : Document) (d : Declarations) → Holds doc.declared d → Represents doc (document_of d doc.goal)
represents doc =
    let held = doc.declared in
    of_all held (λ d. Represents doc (document_of d doc.goal)) (λ ps h.
    record {
      acts = sym (acts_long held);
      props = sym (props_long held);
      progs = sym h.progs;
      rows = h.rows;
      forms = sym (forms_long held);
      lines = λ e less. sym (form_held held e (omega (arith, forms_long held)));
      goal = refl;
    })

pub well_formed : (doc : Document) (d : Declarations) → Holds doc.declared d → WellFormed (document_of d doc.goal)
well_formed doc =
    let held = doc.declared in
    of_all held (λ d. WellFormed (document_of d doc.goal)) (λ ps h.
    record {
      active = omega (arith, acts_long held, doc.active);
      few_acts = omega (arith, acts_long held, held.acts_few);
      few_props = omega (arith, props_long held, held.props_few);
      few_progs = omega (arith, h.progs, held.progs_few);
      few_forms = omega (arith, forms_long held, held.forms.few);
      short_progs = λ p less. (h.rows p less).few;
      light = omega (arith, h.weighs, held.light);
      refers = λ e less.
          let a : Earlier held.props.count held.acts.count held.progs.count e (get_or (forms_of held.forms.count held.lines) e True) = refers held e (omega (arith, forms_long held)) in
          refers_so (document_of (told held ps) doc.goal) e (get_or (forms_of held.forms.count held.lines) e True)
          (subst (λ v. Earlier v (length (told held ps).acts) (length ps) e (get_or (forms_of held.forms.count held.lines) e True)) (sym (props_long held))
          (subst (λ v. Earlier held.props.count v (length ps) e (get_or (forms_of held.forms.count held.lines) e True)) (sym (acts_long held))
          (subst (λ v. Earlier held.props.count held.acts.count v e (get_or (forms_of held.forms.count held.lines) e True)) (sym h.progs) a)));
      aimed = omega (arith, forms_long held, doc.aimed);
    })
