-- The runs of a goal's graph are right: what agrees with one meets the goal, and a lasso that meets the goal has one.
use Rattle.program.proofs.Glushkov.{accepts_its_words}
use Rattle.program.proofs.States.{dec_leads, dec_final, leads_to}
use Rattle.lasso.proofs.Decided.{truth_decided, until_decided}
use Rattle.runs.specs.Runs.{Sound, Complete}
use Rattle.runs.proofs.Soundness as soundness
use Rattle.runs.proofs.Completeness.{complete_of_lassos}

pub sound : Sound
sound = soundness.sound accepts_its_words

pub complete : Complete
complete =
    complete_of_lassos truth_decided (λ l f g p q i. until_decided l p f g (λ j. truth_decided l j f) (λ j. truth_decided l j g) q i) accepts_its_words dec_final dec_leads
    (λ p q c n h. (leads_to p q c n h).1)
