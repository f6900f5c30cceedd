use Rattle.std.proofs.Common.{◌≡◌, ℕ, zero, suc, ◌+◌, ◌-◌, ◌<◌, ◌≤◌, Bool, true, false, cond, ◌⊎◌, [], length, sym, refl, ap, ◌∙◌, inl, inr, true≢false, not-suc-le-zero, add-zero, arith}
use native.Mathlib.Decide.{ℕ_discrete}
use Rattle.program.specs.Automata.{Accepts, Leads, Final}
use Rattle.lasso.specs.Readings.{Reading, actions, Truth}
use Rattle.document.specs.Documents.{Document, built, formulas, form_at, program_at, Refers, WellFormed, formula_at}
use Rattle.document.specs.declared.form.Form.{Form}
use Rattle.document.specs.declared.form.Form.TheVariants.{True, Prop, Not, And, Or, Next, Until}
use Rattle.tableau.specs.Graphs.{Sign, Sign.T, Sign.F, Claim, Claim.form, Claim.until_true, Claim.until_false, Claim.step_true, Claim.step_false, Node, NoClash, Expansion, Closure.given, Closure.made, Gives, GivesForm, GivesUntil, GivesNotUntil, Carried.nexts, Carried.goes, Carried.fails, claim_as, says, turned}
use Rattle.program.specs.Laws.{AcceptsItsWords}
use Rattle.lasso.specs.Untils.{UntilFrom}
use Rattle.runs.specs.Runs.{AcceptingRun, Agrees, Sound}
use Rattle.document.proofs.Formulas.{formula_is}
use Rattle.program.proofs.States.{dec_final}

-- a node that holds what its claims give, in its own phase
record Settled (d : Document) (n : Node) : Type 0 where
  choice : Claim → Bool
  follows : (c k : Claim) → n.claims c ≡ true → Gives d n.phase (choice c) c k → n.claims k ≡ true
  no_clash : NoClash d n.action n.claims

settled_by : (d : Document) (n : Node) (x : ℕ) (S : Claim → Type 0) → n.phase ≡ x → Expansion d n.action x S n.claims → Settled d n
settled_by d n x S same h = record {
  choice = h.choice;
  follows = λ c k held g. h.holds k (made (h.least c held) (rw same at g));
  no_clash = h.no_clash;
}

turned_small : (b : Bool) (x : ℕ) → x ≤ 1 → cond b (1 - x) x ≤ 1
turned_small true x h = omega arith
turned_small false x h = h

shift : (i m : ℕ) → suc i + m ≡ i + suc m
shift i m = omega arith

module _ (d : Document) (ρ : ℕ → Node) (run : AcceptingRun d ρ) where
  settled : (i : ℕ) → Settled d (ρ i)
  settled zero = settled_by d (ρ 0) 0 _ run.starts.even run.starts.expands
  settled (suc i) = settled_by d (ρ (suc i)) (turned (ρ i)) _ (run.goes i).turns (run.goes i).expands

  small : (i : ℕ) → (ρ i).phase ≤ 1
  small zero = rw run.starts.even (omega arith)
  small (suc i) = rw (run.goes i).turns (turned_small (ρ i).closing (ρ i).phase (small i))

  -- from node k on, a closing node of phase l
  abbrev ClosesAt : ℕ → ℕ → Type 0
  ClosesAt l k = (j : ℕ) × (k ≤ j) × ((ρ j).closing ≡ true) × ((ρ j).phase ≡ l)

  -- the phase stays up to the Next closing node
  stays : (l m k : ℕ) → (ρ k).phase ≡ l → (ρ (k + m)).closing ≡ true → ClosesAt l k
  stays l zero k p c = (k, omega arith, rw add-zero at c, p)
  stays l (suc m) k p c = split (ρ k).closing refl (stays l m (suc k))
    where
      split : (b : Bool) → (ρ k).closing ≡ b → ((ρ (suc k)).phase ≡ l → (ρ (suc k + m)).closing ≡ true → ClosesAt l (suc k)) → ClosesAt l k
      split true e later = (k, omega arith, e, p)
      split false e later =
          let found = later (rw e at (run.goes k).turns ∙ p) (rw (shift k m) c) in
          (found.0, omega arith, found.2, found.3)

  -- some steps after node i, no Until is true with label l
  abbrev Clear : ℕ → ℕ → Type 0
  Clear l i = (m : ℕ) × ((e q : ℕ) → (ρ (i + m)).claims (until_true e q l) ≡ true → ⊥)

  clears : (l i j : ℕ) → i < j → (ρ j).closing ≡ true → (ρ j).phase ≡ l → Clear l i
  clears l i zero h c p = absurd (not-suc-le-zero h)
  clears l i (suc j) h c p =
      let there : i + (suc j - i) ≡ suc j = omega arith in
      (suc j - i, λ e q held. ((run.goes j).closed c).1 e q (rw p (rw there at held)))

  -- of two closing nodes in a row, one has phase l
  due : (l i : ℕ) → l ≤ 1 → Clear l i
  due l i h = split (run.closes (suc i))
    where
      split : (j : ℕ) × (suc i ≤ j) × ((ρ j).closing ≡ true) → Clear l i
      split (j, b, c) = elim (ℕ_discrete (ρ j).phase l) [
        | yes p ↦ clears l i j b c p
        | no p ↦
            let t = rw c at (run.goes j).turns in
            let z = small j in
            let Next = run.closes (suc j) in
            let back : suc j + (Next.0 - suc j) ≡ Next.0 = omega arith in
            let found = stays l (Next.0 - suc j) (suc j) (omega arith) (rw back Next.2) in
            clears l i found.0 (omega arith) found.2 found.3
      ]

  -- what a node says of a form in its own phase
  abbrev Says : ℕ → Sign → ℕ → Type 0
  Says i v e = (ρ i).claims (says d (ρ i).phase v e) ≡ true

  form_gives : (i e : ℕ) (v : Sign) (f : Form) → form_at d e ≡ f → (ρ i).claims (form v e) ≡ true
      → (b : Bool) × ((k : Claim) → GivesForm d (ρ i).phase b v f k → (ρ i).claims k ≡ true)
  form_gives i e v f is h = ((settled i).choice (form v e), λ k g. (settled i).follows (form v e) k h (rw is g))

  chosen : (i f g : ℕ) (v : Sign) (b : Bool) → Says i v (cond b f g) → Says i v f ⊎ Says i v g
  chosen i f g v true h = inl h
  chosen i f g v false h = inr h

  next_says : (i e a f : ℕ) (v : Sign) → form_at d e ≡ Next a f → (ρ i).claims (form v e) ≡ true → a ≡ (ρ i).action → Says (suc i) v f
  next_says i e a f v is h same = rw (run.goes i).turns ((run.goes i).expands.holds _ (given (nexts h (is ∙ ap (λ b. Next b f) same))))

  module _ (s : Reading) (agrees : Agrees d s ρ) where
    -- what the nodes say of a form is so
    abbrev Right : ℕ → Type 0
    Right e = (i : ℕ) → (Says i T e → Truth s i (formula_at d e)) × (Says i F e → Truth s i (formula_at d e) → ⊥)

    module _ (e f p g : ℕ) (is : form_at d e ≡ Until f p g) (left : Right f) (right : Right g) where
      true_goes : (i q l : ℕ) → (ρ i).claims (until_true e q l) ≡ true
          → (Final (program_at d p) q × Truth s i (formula_at d g)) ⊎ (Truth s i (formula_at d f) × ((ρ i).claims (step_true e q l) ≡ true))
      true_goes i q l h = by_choice ((settled i).choice (until_true e q l)) (λ k w. (settled i).follows (until_true e q l) k h (rw is w))
          (dec_final (program_at d p) q)
        where
          Follows : Bool → Type 0
          Follows b = (k : Claim) → GivesUntil d (ρ i).phase b e q l (Until f p g) k → (ρ i).claims k ≡ true

          on : (b : Bool) → Follows b
              → (Final (program_at d p) q → b ≡ false) → Truth s i (formula_at d f) × ((ρ i).claims (step_true e q l) ≡ true)
          on b gives free = ((left i).0 (gives _ (inr (free, inl refl))), gives _ (inr (free, inr refl)))

          by_choice : (b : Bool) → Follows b → Dec (Final (program_at d p) q)
              → (Final (program_at d p) q × Truth s i (formula_at d g)) ⊎ (Truth s i (formula_at d f) × ((ρ i).claims (step_true e q l) ≡ true))
          by_choice true gives (yes final) = inl (final, (right i).0 (gives _ (inl (final, refl, refl))))
          by_choice true gives (no short) = inr (on true gives (λ final. absurd (short final)))
          by_choice false gives final = inr (on false gives (λ z. refl))

      true_handed : (i q l : ℕ) → (ρ i).claims (step_true e q l) ≡ true
          → (r : ℕ) × Leads (program_at d p) q (s i).action r × ((ρ (suc i)).claims (until_true e r l) ≡ true)
      true_handed i q l h = (
        (run.goes i).target e q l,
        rw (agrees.same_action i) (rw is at ((run.goes i).reaches e q l h)),
        (run.goes i).expands.holds _ (given (goes h)),
      )

      false_goes : (i q : ℕ) → (ρ i).claims (until_false e q) ≡ true → Truth s i (formula_at d f) → (ρ i).claims (step_false e q) ≡ true
      false_goes i q h t = by_choice ((settled i).choice (until_false e q)) (λ k w. (settled i).follows (until_false e q) k h (rw is w))
        where
          by_choice : (b : Bool) → ((k : Claim) → GivesNotUntil d (ρ i).phase b e q (Until f p g) k → (ρ i).claims k ≡ true)
              → (ρ i).claims (step_false e q) ≡ true
          by_choice true gives = absurd ((left i).1 (gives _ (inl refl)) t)
          by_choice false gives = gives _ (inl refl)

      false_ends : (i q : ℕ) → (ρ i).claims (until_false e q) ≡ true → Final (program_at d p) q → Truth s i (formula_at d g) → ⊥
      false_ends i q h final = (right i).1 ((settled i).follows (until_false e q) _ h (rw is (inr (final, refl))))

      false_handed : (i q r : ℕ) → (ρ i).claims (step_false e q) ≡ true → Leads (program_at d p) q (s i).action r
          → (ρ (suc i)).claims (until_false e r) ≡ true
      false_handed i q r h leads = (run.goes i).expands.holds _ (given (fails h (rw (is, ← agrees.same_action i) leads)))

      -- a true Until holds if its label is gone m steps later
      until_holds : (m i q l : ℕ) → ((r : ℕ) → (ρ (i + m)).claims (until_true e r l) ≡ true → ⊥) → (ρ i).claims (until_true e q l) ≡ true
          → UntilFrom s i (formula_at d f) (program_at d p) q (formula_at d g)
      until_holds zero i q l clear h = absurd (clear q (rw add-zero h))
      until_holds (suc m) i q l clear h = elim (true_goes i q l h) [
        | inl t ↦ (0, t.0, rw add-zero t.1, λ k b. absurd (not-suc-le-zero b))
        | inr t ↦
            let to = true_handed i q l t.1 in
            let u = until_holds m (suc i) to.0 l (rw (shift i m) clear) to.2 in (
              suc u.0,
              (to.0, to.1, u.1),
              rw (shift i u.0) at u.2,
              elim [ zero ↦ λ b. rw add-zero t.0 | suc k ↦ λ b. rw (shift i k) at (u.3 k (omega arith)) ],
            )
      ]

      until_fails : (m i q : ℕ) → (ρ i).claims (until_false e q) ≡ true → Accepts (program_at d p) q (actions s i m)
          → Truth s (i + m) (formula_at d g) → ((k : ℕ) → k < m → Truth s (i + k) (formula_at d f)) → ⊥
      until_fails zero i q h a tg tf = false_ends i q h a (rw add-zero at tg)
      until_fails (suc m) i q h a tg tf =
          until_fails m (suc i) a.0 (false_handed i q a.0 (false_goes i q h (rw add-zero at (tf 0 (omega arith)))) a.1) a.2
          (rw (shift i m) tg) (λ k b. rw (shift i k) (tf (suc k) (omega arith)))

    -- a form is right if the earlier ones are
    of_form : AcceptsItsWords → (f : Form) (e : ℕ) → form_at d e ≡ f → Refers d e f → ((k : ℕ) → k < e → Right k)
        → (i : ℕ)
        → ((ρ i).claims (claim_as T (ρ i).phase e f) ≡ true → Truth s i (built d.progs (formulas d.progs [] d.forms) f))
        × ((ρ i).claims (claim_as F (ρ i).phase e f) ≡ true → Truth s i (built d.progs (formulas d.progs [] d.forms) f) → ⊥)
    of_form words True e is h below i = (λ c. tt, λ c t. (settled i).no_clash.false_true e c is)
    of_form words (Prop p) e is h below i = (λ c. agrees.shows i e p c is, λ c t. true≢false (sym t ∙ agrees.hides i e p c is))
    of_form words (Not f) e is h below i =
        (λ c t. (below f h i).1 ((form_gives i e T (Not f) is c).1 _ refl) t, λ c t. t ((below f h i).0 ((form_gives i e F (Not f) is c).1 _ refl)))
    of_form words (And f g) e is h below i = (
      λ c. let gives = (form_gives i e T (And f g) is c).1 in
          ((below f h.0 i).0 (gives _ (inl refl)), (below g h.1 i).0 (gives _ (inr refl))),
      λ c t. elim (chosen i f g F _ ((form_gives i e F (And f g) is c).1 _ refl)) [
        | inl k ↦ (below f h.0 i).1 k t.0
        | inr k ↦ (below g h.1 i).1 k t.1
      ],
    )
    of_form words (Or f g) e is h below i = (
      λ c. elim (chosen i f g T _ ((form_gives i e T (Or f g) is c).1 _ refl)) [
        | inl k ↦ inl ((below f h.0 i).0 k)
        | inr k ↦ inr ((below g h.1 i).0 k)
      ],
      λ c t. let gives = (form_gives i e F (Or f g) is c).1 in
          elim t [ inl u ↦ (below f h.0 i).1 (gives _ (inl refl)) u | inr u ↦ (below g h.1 i).1 (gives _ (inr refl)) u ],
    )
    of_form words (Next a f) e is h below i = (
      λ c. let same = (settled i).no_clash.other_action e a f c is in
          (agrees.same_action i ∙ sym same, (below f h.1 (suc i)).0 (next_says i e a f T is c same)),
      λ c t. (below f h.1 (suc i)).1 (next_says i e a f F is c (sym t.0 ∙ agrees.same_action i)) t.1,
    )
    of_form words (Until f p g) e is h below i = (
      λ c. let end = due (1 - (ρ i).phase) i (omega arith) in
          let u = until_holds e f p g is (below f h.0) (below g h.2) end.0 i 0 (1 - (ρ i).phase) (end.1 e) c in
          (u.0, (words (program_at d p) (actions s i u.0)).0 u.1, u.2, u.3),
      λ c t. until_fails e f p g is (below f h.0) (below g h.2) t.0 i 0 c
          ((words (program_at d p) (actions s i t.0)).1 t.1) t.2 t.3,
    )

    right : AcceptsItsWords → WellFormed d → (n e : ℕ) → e < n → e < length d.forms → Right e
    right words good zero e h b i = absurd (not-suc-le-zero h)
    right words good (suc n) e h b i =
        rw (formula_is d good e b) (of_form words (form_at d e) e refl (good.refers e b) (λ k c. right words good n k (omega arith) (omega arith)) i)

-- what agrees with an accepting run meets the goal
pub sound : AcceptsItsWords → Sound
sound words d good ρ run s agrees =
    (right d ρ run s agrees words good (suc d.goal) d.goal (omega arith) good.aimed 0).0
    (rw run.starts.even (run.starts.expands.holds _ (given refl)))
