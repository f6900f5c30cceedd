use Rattle.std.proofs.Common.{◌≡◌, ℕ, ◌+◌, ◌-◌, ◌<◌, ◌≤◌, eqb, List, length, get_or, take, drop, Some, None, Option, sym, ap, ◌∙◌, arith, rules}
use Rattle.std.specs.List.{position}
use Rattle.std.specs.Option.{option_map_or}
use Rattle.std.proofs.lemmas.Bool.{eqb-true, eqb-false}
use Rattle.std.proofs.lemmas.List.{get_or-drop, length-drop, take_rest}
use Rattle.std.proofs.lemmas.List.Sums.{fails_before_first}
use Rattle.std.proofs.lemmas.List.Quantifiers.{position-Some}
use Rattle.document.proofs.Pieces.{position_none}
use Rattle.document.proofs.fields.next_place.Goals as goal

-- the byte that stands at a place from at on
at_place : (text : List ℕ) (at k byte : ℕ) → at ≤ k → get_or text k 0 ≡ byte → get_or (drop at text) (k - at) 0 ≡ byte
at_place text at k byte low e =
    let sum : at + (k - at) ≡ k = omega arith in
    get_or-drop at text (k - at) 0 ∙ ap (λ j. get_or text j 0) sum ∙ e

module _ (text : List ℕ) (at byte : ℕ) where
  abbrev First : Option ℕ → Type 0
  First r = r ≡ position (λ b. eqb b byte) (take (length text - at) (drop at text))

  rest : (r : Option ℕ) → First r → position (λ b. eqb b byte) (drop at text) ≡ r
  rest r said = ap (position (λ b. eqb b byte)) (sym (take_rest text at)) ∙ sym said

  before : (r : Option ℕ) (n : ℕ) → First r → n ≡ option_map_or (λ k. at + k) r (length text) → (k : ℕ) → at ≤ k → k < n → get_or text k 0 ≡ byte → ⊥
  before None n said is k low high e =
      let long = length-drop at text in
      let past = position_none (λ b. eqb b byte) (drop at text) (rest None said) in
      eqb-false _ _ (fails_before_first (λ b. eqb b byte) (drop at text) (k - at) 0 (omega arith)) (at_place text at k byte low e)
  before (Some j) n said is k low high e =
      let first = position-Some (λ b. eqb b byte) (drop at text) j 0 (rest (Some j) said) in
      eqb-false _ _ (first.2 (k - at) (omega arith)) (at_place text at k byte low e)

  here : (r : Option ℕ) (n : ℕ) → First r → n ≡ option_map_or (λ k. at + k) r (length text) → n < length text → get_or text n 0 ≡ byte
  here None n said is less = absurd (omega arith)
  here (Some j) n said is less =
      let first = position-Some (λ b. eqb b byte) (drop at text) j 0 (rest (Some j) said) in
      ap (λ i. get_or text i 0) is ∙ sym (get_or-drop at text j 0) ∙ eqb-true _ _ first.1

pub returns-clause-before : goal.returns-clause-before
returns-clause-before c = before c.args.text.now c.args.at c.args.byte c.place.result c.map_or.result c.place.ensures (search rules)

pub returns-clause-here : goal.returns-clause-here
returns-clause-here c = here c.args.text.now c.args.at c.args.byte c.place.result c.map_or.result c.place.ensures (search rules)
