-- What a document declares, counted.
use Rattle.document.specs.declared.document.Document.{Document}
use Rattle.compare.specs.declared.answer.Counts.{Counts}

-- how many actions, propositions, programs and forms there are, and their weight
abbrev pub counts_of : Document → Counts
counts_of d = record {
  acts = d.declared.acts.count;
  props = d.declared.props.count;
  progs = d.declared.progs.count;
  forms = d.declared.forms.count;
  weight = d.declared.weight;
}
