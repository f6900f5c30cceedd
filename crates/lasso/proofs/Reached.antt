-- The states that reach a final one are those from which the rest of the until is true.
use Rattle.std.proofs.Common.{ℕ, zero, suc, ◌<◌, ◌↔◌, List, length, Decides, sym, ap, subst, arith}
use Rattle.program.specs.Words.{Program}
use Rattle.program.specs.Automata.{Accepts, Leads}
use Rattle.program.specs.Tables.{AutomatonOf}
use Rattle.program.specs.declared.automaton.Automaton.{Automaton}
use Rattle.program.proofs.States.{leads_from}
use Rattle.document.specs.Formulas.{Formula, until}
use Rattle.lasso.specs.Lassos.{step_in}
use Rattle.lasso.specs.Readings.{Reading, Truth}
use Rattle.lasso.specs.Rounds.{next_place, tells, LeadsBy, Reaches, ends, goes}
use Rattle.lasso.specs.Sessions.{reading}
use Rattle.lasso.specs.Untils.{UntilFrom}
use Rattle.lasso.specs.declared.step.Step.{Step}
use Rattle.lasso.proofs.Alike.{alike_sym, carry_until}
use Rattle.lasso.proofs.Places.{reading_here, alike_next, next_inside}
use Rattle.lasso.proofs.Rests.{Rest, rest_ends, rest_step, until_ends, until_goes, until_from_start}

module _ (a : Automaton) (steps : List Step) (stem : ℕ) (truths : List ℕ) (f g : ℕ) (short : stem < length steps)
    (low : (i : ℕ) → i < length steps → (step_in steps i).action < 16)
    (p : Program) (of : AutomatonOf p a.states a.next a.finals)
    (F G : Formula)
    (is_f : (i : ℕ) → i < length steps → Decides (tells truths i f) (Truth (reading steps stem) i F))
    (is-g : (i : ℕ) → i < length steps → Decides (tells truths i g) (Truth (reading steps stem) i G)) where
  abbrev s : Reading
  s = reading steps stem

  leads_same : (i q n : ℕ) → i < length steps → LeadsBy a q (step_in steps i).action n ↔ Leads p q (s i).action n
  leads_same i q n l =
      let e = ap (λ x. x.action) (reading_here steps stem short i l) in
      let t = of.leads q (step_in steps i).action n (low i l) in (
        λ h. subst (λ (c : ℕ). Leads p q c n) (sym e) (t.0 h.2),
        λ h.
            let h' = subst (λ (c : ℕ). Leads p q c n) e h in
            let b = leads_from p q (step_in steps i).action n h' in
            (omega (arith, of.count), low i l, t.1 h'),
      )

  reaches_so : {i q : ℕ} → Reaches a steps stem truths f g i q → i < length steps → UntilFrom s i F p q G
  reaches_so {i} {q} (ends t b) l = until_ends s F p G q i ((of.ends q).0 b) ((is-g i l).0 t)
  reaches_so {i} {q} (goes {n = n} t h x) l =
      let (m, w, y, z) = reaches_so x (next_inside (length steps) stem short i) in
      let v = alike_sym s s (suc i) (next_place (length steps) stem i) (alike_next steps stem short i l) in
      let u = carry_until (Accepts p n) F G s s (next_place (length steps) stem i) (suc i) v m (w, y, z) in
      until_goes s F p G q i n ((is_f i l).0 t) ((leads_same i q n l).0 h) (m, u.0, u.1, u.2)

  rest_reaches : (m i q : ℕ) → i < length steps → Rest s F p G m i q → Reaches a steps stem truths f g i q
  rest_reaches zero i q l h = let t = rest_ends s F p G i q h in ends ((is-g i l).1 t.1) ((of.ends q).1 t.0)
  rest_reaches (suc m) i q l h =
      let (r, here, lead, x) = rest_step s F p G m i q h in
      let y = carry_until (Accepts p r) F G s s (suc i) (next_place (length steps) stem i) (alike_next steps stem short i l) m x in
      goes ((is_f i l).1 here) ((leads_same i q r l).1 lead) (rest_reaches m (next_place (length steps) stem i) r (next_inside (length steps) stem short i) y)

  -- from state 0 it is the until itself
  pub reaches_until : (i : ℕ) → i < length steps → Reaches a steps stem truths f g i 0 ↔ Truth s i (until F p G)
  reaches_until i l =
      let u = until_from_start s F p G i in
      (λ h. u.0 (reaches_so h l), λ h. let (m, w, x, y) = u.1 h in rest_reaches m i 0 l (w, x, y))
