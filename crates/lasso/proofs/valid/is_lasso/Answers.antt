use Rattle.std.proofs.Common.{◌≡◌, ℕ, ◌<◌, ◌≤◌, Bool, true, List, length, Decides, sym, ap, ◌∙◌, rules, tests}
use Rattle.std.specs.List.{list_all}
use Rattle.std.proofs.lemmas.List.Elements.{All-get_or, All-from_get_or}
use Rattle.std.proofs.lemmas.List.Sums.{AllPass-from_list_all, list_all-from_AllPass}
use Rattle.std.proofs.lemmas.Iterator.{YieldsList-from_slice}
use Rattle.std.proofs.lemmas.Iterator.Search.{all_from_yields_List}
use Rattle.document.specs.declared.declared.Declared.{Declared}
use Rattle.document.specs.declared.names.Names.{Names}
use Rattle.lasso.specs.Lassos.{fits, IsLasso}
use Rattle.lasso.specs.declared.step.Step.{Step}
use Rattle.lasso.proofs.valid.is_lasso.Goals as goal

all_fit : (acts props : ℕ) (steps : List Step) (stem : ℕ) → stem < length steps → length steps ≤ 131072 → (r : Bool) → r ≡ list_all (fits acts props) steps
    → Decides r (IsLasso acts props steps stem)
all_fit acts props steps stem short served r is = (
  λ e. record {
    short = short;
    served = served;
    declared = λ i l. All-get_or (λ s. fits acts props s ≡ true) steps i _ l (AllPass-from_list_all (fits acts props) steps (sym is ∙ e));
  },
  λ l. is ∙ list_all-from_AllPass (fits acts props) steps (All-from_get_or (λ s. fits acts props s ≡ true) steps _ l.declared),
)

pub returns : goal.returns
returns c =
    let d = c.args.document.now.declared in
    let steps = c.args.steps.now in
    let acts : c.count-acts.result ≡ d.acts.count = c.count-acts.ensures.is ∙ ap (λ (n : Names). n.count) c.acts.ensures.is ∙ ap (λ (e : Declared). e.acts.count) c.declared-declared.ensures in
    let props : c.count-props.result ≡ d.props.count = c.count-props.ensures.is ∙ ap (λ (n : Names). n.count) c.props.ensures.is ∙ ap (λ (e : Declared). e.props.count) c.declared-declared.ensures in
    let test : Step → Bool = fits c.count-acts.result c.count-props.result in
    let all : c.all.result ≡ list_all test steps =
    all_from_yields_List test _ _ c.all.result c.all.ensures.ran (YieldsList-from_slice steps cc) (λ x b q k. search (rules, tests)) in
    let same : list_all test steps ≡ list_all (fits d.acts.count d.props.count) steps =
    ap (λ (n : ℕ). list_all (fits n c.count-props.result) steps) acts ∙ ap (λ (n : ℕ). list_all (fits d.acts.count n) steps) props in
    all_fit d.acts.count d.props.count steps c.args.stem c.if-stem-steps.false c.if-steps-gt-MOST_STEPS.false c.all.result (all ∙ same)
