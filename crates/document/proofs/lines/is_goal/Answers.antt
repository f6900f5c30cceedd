use Rattle.std.proofs.Common.{false, refl, ◌∙◌, subst}
use Rattle.std.proofs.lemmas.Bool.{both_ways}
use Rattle.document.specs.Kinds.{ReadsWord}
use Rattle.document.specs.declared.words.Word.TheVariants.{Goal}
use Rattle.document.proofs.lines.is_goal.Goals as goal

pub returns-in_default-2 : goal.returns-in_default-2
returns-in_default-2 c =
    let none = subst (ReadsWord c.field.result.now) c.in_default.is c.try_from.ensures in
    (λ e. absurd (both_ways false refl e), λ e. absurd (none.1 Goal (c.field.ensures ∙ e)))
