use Rattle.program.proofs.Glushkov.{accepts_its_words}
use Rattle.program.proofs.States.{dec_leads, dec_final, leads_to}
use Rattle.lasso.proofs.Decided.{truth_decided, until_decided}
use Rattle.runs.proofs.Soundness.{sound}
use Rattle.runs.proofs.Completeness.{complete_of_lassos}
use Rattle.runs.proofs.graph_is_right.Goals as goal

pub returns : goal.returns
returns c = record {
  sound = sound accepts_its_words;
  complete =
      complete_of_lassos truth_decided
      (λ l f g p q i. until_decided l p f g (λ j. truth_decided l j f) (λ j. truth_decided l j g) q i)
      accepts_its_words dec_final dec_leads (λ p q c n h. (leads_to p q c n h).1);
}
