-- Rounds over the steps of a lasso come to the states that reach a final one.
use Rattle.std.proofs.Common.{◌≡◌, ℕ, zero, suc, ◌+◌, ◌-◌, ◌<◌, ◌≤◌, ◌↔◌, List, length, get_or, set, sym, ap, ◌∙◌, subst, inl, inr, ⊎_elim, arith}
use Rattle.std.proofs.lemmas.List.{get_or-set_same, get_or-set_other}
use Rattle.std.proofs.lemmas.Bool.{cases_lt, cases_eq}
use Rattle.program.specs.Masks.{Bit}
use Rattle.program.proofs.Bits.{bit_none}
use Rattle.program.specs.declared.automaton.Automaton.{Automaton}
use Rattle.lasso.specs.Rounds.{next_place, EntersAt, Reaches, ends, goes, Rounded}
use Rattle.lasso.specs.declared.step.Step.{Step}
use Rattle.lasso.proofs.Places.{next_inner, next_last, next_inside}
use Rattle.lasso.proofs.Subsets.{subset_le}

-- from the last step back
back : (n : ℕ) (P : ℕ → Type 0) → ((i : ℕ) → i + 1 ≡ n → P i) → ((i : ℕ) → i + 1 < n → P (i + 1) → P i) → (i : ℕ) → i < n → P i
back n P last inner i h = go (n - suc i) i (omega arith)
  where
    go : (j i : ℕ) → i + suc j ≡ n → P i
    go zero i e = last i (omega arith)
    go (suc j) i e = inner i (omega arith) (go j (i + 1) (omega arith))

module _ (a : Automaton) (steps : List Step) (stem : ℕ) (truths : List ℕ) (f g : ℕ) where
  abbrev EntersHere : ℕ → ℕ → ℕ → Type 0
  EntersHere i next q = EntersAt a steps truths f g i next q

  abbrev ReachesHere : ℕ → ℕ → Type 0
  ReachesHere i q = Reaches a steps stem truths f g i q

  abbrev after : ℕ → ℕ
  after i = next_place (length steps) stem i

  enters_more : (i x y q : ℕ) → ((n : ℕ) → Bit x n → Bit y n) → EntersHere i x q → EntersHere i y q
  enters_more i x y q h (inl t) = inl t
  enters_more i x y q h (inr (t, (n, l, b))) = inr (t, (n, l, h n b))

  enters_reach : (i x q : ℕ) → ((n : ℕ) → Bit x n → ReachesHere (after i) n) → EntersHere i x q → ReachesHere i q
  enters_reach i x q h (inl (t, b)) = ends t b
  enters_reach i x q h (inr (t, (n, l, b))) = goes t l (h n b)

  -- each state reaches a final one, and is entered from the states of the step after
  pub record Growing (xs : List ℕ) : Type 0 where
    pub sound : (i q : ℕ) → i < length steps → Bit (get_or xs i 0) q → ReachesHere i q
    pub entered : (i q : ℕ) → i < length steps → Bit (get_or xs i 0) q → EntersHere i (get_or xs (after i) 0) q

  pub growing_none : (xs : List ℕ) → ((i : ℕ) → i < length steps → get_or xs i 0 ≡ 0) → Growing xs
  growing_none xs h = record {
    sound = λ i q l b. absurd (bit_none q (rw (h i l) at b));
    entered = λ i q l b. absurd (bit_none q (rw (h i l) at b));
  }

  module _ (short : stem < length steps) where
    module _ (xs ys : List ℕ) (old : Growing xs) (r : Rounded a steps stem truths f g xs 0 ys) where
      pub grows : (i : ℕ) → i < length steps → (q : ℕ) → Bit (get_or xs i 0) q → Bit (get_or ys i 0) q
      grows =
          back (length steps) (λ i. (q : ℕ) → Bit (get_or xs i 0) q → Bit (get_or ys i 0) q)
          (λ i e q b.
          let t = subst (λ (j : ℕ). EntersHere i (get_or xs j 0) q) (next_last (length steps) stem short i e) (old.entered i q (omega arith) b) in
          (r.last i q (omega arith) e).1 t)
          (λ i h more q b.
          let t = subst (λ (j : ℕ). EntersHere i (get_or xs j 0) q) (next_inner (length steps) stem short i h) (old.entered i q (omega arith) b) in
          (r.inner i q (omega arith) h).1 (enters_more i (get_or xs (i + 1) 0) (get_or ys (i + 1) 0) q more t))

      stays_sound : (i : ℕ) → i < length steps → (q : ℕ) → Bit (get_or ys i 0) q → ReachesHere i q
      stays_sound =
          back (length steps) (λ i. (q : ℕ) → Bit (get_or ys i 0) q → ReachesHere i q)
          (λ i e q b.
          enters_reach i (get_or xs stem 0) q
          (λ n t. subst (λ (j : ℕ). ReachesHere j n) (sym (next_last (length steps) stem short i e)) (old.sound stem n short t))
          ((r.last i q (omega arith) e).0 b))
          (λ i h more q b.
          enters_reach i (get_or ys (i + 1) 0) q
          (λ n t. subst (λ (j : ℕ). ReachesHere j n) (sym (next_inner (length steps) stem short i h)) (more n t))
          ((r.inner i q (omega arith) h).0 b))

      stays_entered : (i q : ℕ) → i < length steps → Bit (get_or ys i 0) q → EntersHere i (get_or ys (after i) 0) q
      stays_entered i q l b =
          ⊎_elim
          (λ h. subst (λ (j : ℕ). EntersHere i (get_or ys j 0) q) (sym (next_inner (length steps) stem short i h)) ((r.inner i q (omega arith) h).0 b))
          (λ h.
          let e : i + 1 ≡ length steps = omega arith in
          subst (λ (j : ℕ). EntersHere i (get_or ys j 0) q) (sym (next_last (length steps) stem short i e))
          (enters_more i (get_or xs stem 0) (get_or ys stem 0) q (grows stem short) ((r.last i q (omega arith) e).0 b)))
          (cases_lt (i + 1) (length steps))

      pub growing_more : Growing ys
      growing_more = record { sound = λ i q l b. stays_sound i l q b; entered = stays_entered }

      -- where the loop's first step has other states than before, its word is larger
      pub larger : (get_or ys stem 0 ≡ get_or xs stem 0 → ⊥) → get_or xs stem 0 < get_or ys stem 0
      larger ne =
          let l = subset_le (get_or xs stem 0) (get_or ys stem 0) (grows stem short) in
          ⊎_elim (λ e. absurd (ne (sym e))) (λ e. omega arith) (cases_eq (get_or xs stem 0) (get_or ys stem 0))

      -- where it has the same, all states are found
      module _ (same : get_or ys stem 0 ≡ get_or xs stem 0) where
        closed : (i q : ℕ) → i < length steps → EntersHere i (get_or ys (after i) 0) q → Bit (get_or ys i 0) q
        closed i q l t =
            ⊎_elim
            (λ h. (r.inner i q (omega arith) h).1 (subst (λ (j : ℕ). EntersHere i (get_or ys j 0) q) (next_inner (length steps) stem short i h) t))
            (λ h.
            let e : i + 1 ≡ length steps = omega arith in
            let u = subst (λ (j : ℕ). EntersHere i (get_or ys j 0) q) (next_last (length steps) stem short i e) t in
            (r.last i q (omega arith) e).1 (subst (λ (x : ℕ). EntersHere i x q) same u))
            (cases_lt (i + 1) (length steps))

        pub settled : {i q : ℕ} → ReachesHere i q → i < length steps → Bit (get_or ys i 0) q
        settled {i} {q} (ends t b) l = closed i q l (inl (t, b))
        settled {i} {q} (goes {n = n} t s x) l = closed i q l (inr (t, (n, s, settled x (next_inside (length steps) stem short i))))

    -- one step more of a round
    pub rounded_more : (xs ys : List ℕ) (i v : ℕ) → length ys ≡ length steps → i < length steps → Rounded a steps stem truths f g xs (suc i) ys → v < 65536
        → ((q : ℕ) → Bit v q ↔ EntersHere i (get_or ys (after i) 0) q) → Rounded a steps stem truths f g xs i (set ys i v)
    rounded_more xs ys i v len l r b is = record {
      kept = λ k h. other k (omega arith) ∙ r.kept k (omega arith);
      small = split (λ k x. k < length steps → x < 65536) (λ m. b) r.small;
      inner = λ k q h m.
          subst (λ (x : ℕ). Bit (get_or (set ys i v) k 0) q ↔ EntersHere k x q) (sym (other (k + 1) (omega arith)))
          (split (λ k x. k + 1 < length steps → Bit x q ↔ EntersHere k (get_or ys (k + 1) 0) q) inner_here (λ k. r.inner k q) k h m);
      last = λ k q. split (λ k x. k + 1 ≡ length steps → Bit x q ↔ EntersHere k (get_or xs stem 0) q) last_here (λ k. r.last k q) k;
    }
      where
        other : (k : ℕ) → (k ≡ i → ⊥) → get_or (set ys i v) k 0 ≡ get_or ys k 0
        other k ne = get_or-set_other ys i k v 0 ne

        split : (P : ℕ → ℕ → Type 0) → P i v → ((k : ℕ) → suc i ≤ k → P k (get_or ys k 0)) → (k : ℕ) → i ≤ k → P k (get_or (set ys i v) k 0)
        split P here up k h =
            ⊎_elim
            (λ e. subst (λ (j : ℕ). P j (get_or (set ys i v) j 0)) (sym e) (subst (P i) (sym (get_or-set_same ys i v 0 (omega arith))) here))
            (λ ne. subst (P k) (sym (other k ne)) (up k (omega arith))) (cases_eq k i)

        inner_here : {q : ℕ} → i + 1 < length steps → Bit v q ↔ EntersHere i (get_or ys (i + 1) 0) q
        inner_here {q} m = subst (λ (j : ℕ). Bit v q ↔ EntersHere i (get_or ys j 0) q) (next_inner (length steps) stem short i m) (is q)

        last_here : {q : ℕ} → i + 1 ≡ length steps → Bit v q ↔ EntersHere i (get_or xs stem 0) q
        last_here {q} m =
            subst (λ (x : ℕ). Bit v q ↔ EntersHere i x q) (ap (λ (j : ℕ). get_or ys j 0) (next_last (length steps) stem short i m) ∙ r.kept stem (omega arith)) (is q)
