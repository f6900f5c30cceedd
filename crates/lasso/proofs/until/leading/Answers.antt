use Rattle.std.proofs.Common.{◌≡◌, ℕ, ◌+◌, ◌*◌, ◌%◌, ◌^◌, ◌<◌, ◌≤◌, ◌↔◌, sym, subst, inl, inr, ⊎_elim, arith}
use lib.Bits.{bit_and, bit_or, and_le_l}
use Rattle.std.proofs.lemmas.Nat.{one_shl}
use Rattle.std.proofs.lemmas.Bool.{cases_eq, cases_lt}
use Rattle.program.specs.Masks.{Bit, cell}
use Rattle.program.specs.declared.automaton.Automaton.{Automaton}
use Rattle.program.proofs.Bits.{bit_of_or, bit_one, bit_none}
use Rattle.lasso.specs.Rounds.{LeadsBy}
use Rattle.lasso.proofs.Subsets.{common, uncommon}
use Rattle.lasso.proofs.until.leading.Goals as goal
use Rattle.lasso.proofs.until.leading.Goals.{then-targets-next-ne0, else-targets-next-ne0}

abbrev Goes : Automaton → ℕ → ℕ → ℕ → Type 0
Goes a action next q = (n : ℕ) × LeadsBy a q action n × Bit next n

abbrev Upto : Automaton → ℕ → ℕ → ℕ → ℕ → Type 0
Upto a action next q states = (k : ℕ) → Bit states k ↔ ((k < q) × Goes a action next k)

module _ (a : Automaton) (action next q to : ℕ) (within : q < a.states)
    (is : action < 16 → to ≡ cell a.next q action) (none : 16 ≤ action → to ≡ 0) where
  leads : (bit_and to next ≡ 0 → ⊥) → Goes a action next q
  leads ne =
      let b = and_le_l to next in
      ⊎_elim
      (λ l.
      let t = common to next ne in
      (t.0, (within, l, subst (λ (v : ℕ). Bit v t.0) (is l) t.1), t.2))
      (λ l. absurd (ne (omega (arith, none l)))) (cases_lt action 16)

  stuck : bit_and to next ≡ 0 → Goes a action next q → ⊥
  stuck e (n, (_, l, b), x) = uncommon to next n e (subst (λ (v : ℕ). Bit v n) (sym (is l)) b) x

  module _ (states : ℕ) (inv : Upto a action next q states) where
    one_more : q < 16 → (bit_and to next ≡ 0 → ⊥) → (new : ℕ) → new ≡ bit_or states ((1 * 2 ^ q) % 65536) → Upto a action next (q + 1) new
    one_more few ne new e k =
        let b = bit_of_or states ((1 * 2 ^ q) % 65536) k in
        let one = bit_one q k in
        let shl = one_shl q 16 few in (
          λ t.
              ⊎_elim (λ x. let y = (inv k).0 x in (omega (arith, y.0), y.1))
              (λ x. let y = one.0 (subst (λ (v : ℕ). Bit v k) shl x) in (omega arith, subst (Goes a action next) (sym y) (leads ne)))
              (b.0 (subst (λ (v : ℕ). Bit v k) e t)),
          λ t.
              subst (λ (v : ℕ). Bit v k) (sym e)
              (b.1 (⊎_elim (λ x. inr (subst (λ (v : ℕ). Bit v k) (sym shl) (one.1 x))) (λ x. inl ((inv k).1 (omega (arith, t.0), t.1))) (cases_eq k q))),
        )

    none_more : bit_and to next ≡ 0 → (new : ℕ) → new ≡ states → Upto a action next (q + 1) new
    none_more z new e k = (
      λ t. let y = (inv k).0 (subst (λ (v : ℕ). Bit v k) e t) in (omega (arith, y.0), y.1),
      λ t.
          subst (λ (v : ℕ). Bit v k) (sym e)
          (⊎_elim (λ x. absurd (stuck z (subst (Goes a action next) x t.1))) (λ x. (inv k).1 (omega (arith, t.0), t.1)) (cases_eq k q)),
    )

pub loop-q-init : goal.loop-q-init
loop-q-init c k = (λ b. absurd (bit_none k b), λ t. absurd (omega (arith, t.0)))

pub loop-q-preserved : goal.loop-q-preserved
loop-q-preserved c =
    let a = c.args.automaton.now in
    let small : c.loop-q.q < 16 = omega arith in
    let is : c.args.action < 16 → c.targets.result ≡ cell a.next c.loop-q.q c.args.action = c.targets.ensures.is small in
    elim c.if-targets-next-ne0.branch [
      | then-targets-next-ne0 w ↦
          one_more a c.args.action c.args.next c.loop-q.q c.targets.result (omega arith) is c.targets.ensures.none.1
          c.loop-q.states c.loop-q.invariant small w.if-targets-next-ne0.true _ w.states-is
      | else-targets-next-ne0 w ↦
          none_more a c.args.action c.args.next c.loop-q.q c.targets.result (omega arith) is c.targets.ensures.none.1
          c.loop-q.states c.loop-q.invariant w.if-targets-next-ne0.false _ w.states-is
    ]

pub returns : goal.returns
returns c q =
    let t = c.loop-q.invariant q in
    (λ b. (t.0 b).1, λ x. t.1 (omega (arith, x.1.0), x))
