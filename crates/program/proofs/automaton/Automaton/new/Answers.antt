use Rattle.std.proofs.Common.{◌≡◌, ℕ, ◌+◌, List, [], ◌<◌, ◌≢◌, length, map, get_or, set, ap, ◌∙◌, true, false, Bool, ◌⊎◌, inl, inr, refl, rules, arith, length-set, below_more}
use lib.Bits.{bit_and}
use mir.Val.{bool_byte}
use Rattle.std.proofs.lemmas.List.{get_or-map, get_or-set_same, get_or-set_other}
use Rattle.program.proofs.Glushkov.{accepts_its_words}
use Rattle.program.proofs.Machine.{Made, steps_low, ends_low, automaton_of, accepts_words_of}
use Rattle.program.proofs.States.{accepts_by_parts, nullable_is_empty}
use Rattle.program.proofs.automaton.Automaton.new.Goals as goal
use Rattle.program.proofs.automaton.Automaton.new.Goals.{After-from-start as Before}

-- the targets of a state that the names of `follow` follow
abbrev targets : ℕ → List ℕ → ℕ → List ℕ
targets follow named all = map (λ n. bit_and (bit_and follow n) all) named

target : (follow : ℕ) (named row : List ℕ) (all k : ℕ) → length named ≡ 16 → k < 16 → row ≡ targets follow named all
    → get_or row k 0 ≡ bit_and (bit_and follow (get_or named k 0)) all
target follow named row all k long h is = ap (λ l. get_or l k 0) is ∙ get_or-map (λ n. bit_and (bit_and follow n) all) named k 0 0 (omega arith)

starts : (b : Bool) (start : ℕ) → start ≡ bool_byte b → ((start ≡ 1) × (b ≡ true)) ⊎ ((start ≡ 0) × (b ≡ false))
starts true start e = inl (e, refl)
starts false start e = inr (e, refl)

-- the state i comes to its targets, and those before it stay
one_more : (follow : List ℕ) (named : List ℕ) (all i : ℕ) (next : List (List ℕ)) (row : List ℕ) → length next ≡ 16 → i < 16
    → ((k : ℕ) → k < i → get_or next k [] ≡ targets (get_or follow k 0) named all) → row ≡ targets (get_or follow i 0) named all
    → (length (set next i row) ≡ 16) × ((k : ℕ) → k < i + 1 → get_or (set next i row) k [] ≡ targets (get_or follow k 0) named all)
one_more follow named all i next row long l before is = (
  length-set next i row ∙ long,
  below_more _ _
      (λ k h. let ne : k ≢ i = omega arith in rw get_or-set_other (before k h))
      (let lt : i < length next = omega arith in rw get_or-set_same is),
)

pub loop-i-preserved : goal.loop-i-preserved
loop-i-preserved c =
    one_more c.args.row.now.follow c.named-named.result c.lowest-all.result c.loop-i.i c.loop-i.next _ c.loop-i.invariant.0 (omega arith) c.loop-i.invariant.1
    c.targets_by.ensures

made : (c : Before) → Made c.args.row.now c.states-states.result (set c.loop-i.next 0 c.targets_by-2.result) c.named-named.result c.lowest-all.result c.from-start.result
made c =
    let row = c.args.row.now in
    let named = c.named-named.result in
    let all = c.lowest-all.result in
    let long = c.loop-i.invariant.0 in
    let each : (i : ℕ) → i < 16 → get_or c.loop-i.next i [] ≡ targets (get_or row.follow i 0) named all =
    λ i h. c.loop-i.invariant.1 i (omega arith) in
    record {
      count = c.states-states.ensures.count;
      mask = c.lowest-all.ensures;
      long = length-set c.loop-i.next 0 _ ∙ long;
      by = c.named-named.ensures;
      zeroth = λ k h.
          ap (λ l. get_or l k 0) (get_or-set_same c.loop-i.next 0 c.targets_by-2.result [] (omega (arith, long)))
          ∙ target row.first named c.targets_by-2.result all k (search rules) h c.targets_by-2.ensures;
      others = λ i k l h m.
          ap (λ r. get_or r k 0) (get_or-set_other c.loop-i.next 0 i c.targets_by-2.result [] (λ e. omega arith))
          ∙ target (get_or row.follow i 0) named _ all k (search rules) m (each i h);
      starts = starts row.nullable c.from-start.result c.from-start.ensures;
    }

pub invariant_of-result : goal.invariant_of-result
invariant_of-result c = let m = made (goal.at.invariant_of-result c).After-from-start in record { few = omega arith; ends = ends_low m; steps = steps_low m }

pub returns : goal.returns
returns c =
    let m = made (goal.at.returns c).After-from-start in
    record {
      made = automaton_of m;
      words = λ p is. accepts_words_of p _ _ _ (automaton_of m p is);
      laws = (accepts_its_words, (accepts_by_parts, nullable_is_empty));
    }
