use Rattle.std.proofs.Common.{◌≡◌, ℕ, ◌<◌, ◌≤◌, List, ◌++◌, length, drop, sym, refl, ap, ◌∙◌, subst, arith}
use Rattle.lasso.specs.DeclaredNames.{acts_of, props_of}
use Rattle.lasso.specs.LassoTexts.{worded_lasso}
use Rattle.lasso.specs.Lassos.{IsLasso}
use Rattle.lasso.proofs.Agree.{lines_agree}
use Rattle.lasso.proofs.Written.{written_first}
use Rattle.lasso.proofs.print.print.Goals as goal

pub returns-then-needed-text : goal.returns-then-needed-text
returns-then-needed-text c =
    let d = c.args.document.now.declared in
    let words = worded_lasso (acts_of d) (props_of d) c.args.steps.now c.args.stem in
    let text = c.args.text.now in
    let P : List ℕ → Type 0 = λ w. (length text < length w) × (text ≡ text) in
    let printed : IsLasso d.acts.count d.props.count c.args.steps.now c.args.stem → P words =
    λ l. (omega (arith, c.write-needed.ensures.length l), refl) in
    record { untouched = refl; words = printed; text = λ l a. subst P (lines_agree (acts_of d) (props_of d) a c.args.stem 0 c.args.steps.now) (printed l) }

pub returns : goal.returns
returns c =
    let d = c.args.document.now.declared in
    let words = worded_lasso (acts_of d) (props_of d) c.args.steps.now c.args.stem in
    let text = c.args.text.now in
    let n = c.write.result in
    let P : List ℕ → Type 0 = λ w. (n ≡ length w) × (n ≤ length text) × (c.write.new.text ≡ w ++ drop n text) in
    let printed : IsLasso d.acts.count d.props.count c.args.steps.now c.args.stem → P words =
    λ l.
    let long = c.write.ensures.length l in
    let fits = c.write-needed.ensures.length l in (
      long,
      omega arith,
      c.write.ensures.text l ∙ written_first text words (omega arith) ∙ ap (λ (k : ℕ). words ++ drop k text) (sym long),
    ) in
    record { untouched = tt; words = printed; text = λ l a. subst P (lines_agree (acts_of d) (props_of d) a c.args.stem 0 c.args.steps.now) (printed l) }
