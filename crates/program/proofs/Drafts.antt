-- The draft of a program from those of its parts.
use Rattle.std.proofs.Common.{◌≡◌, ℕ, ◌+◌, ◌-◌, ◌%◌, ◌<◌, ◌≤◌, ◌⊎◌, ◌↔◌, [], ◌∷◌, ◌++◌, length, get_or, sym, refl, ap, ◌∙◌, subst, inl, inr, ⊎_elim, arith}
use mathlib.Core.Logic.{⊎_map}
use Rattle.std.proofs.lemmas.List.{length-append, get_or_append_left, get_or-append_right}
use Rattle.std.proofs.lemmas.Bool.{cases_lt}
use Rattle.program.specs.Automata.{names, First, Follow}
use Rattle.program.specs.Masks.{Bit, Marks}
use Rattle.program.specs.Reading.{PartOf, Entered, Joined}
use Rattle.program.specs.Words.{Program, act, either, seq, star}
use Rattle.program.specs.declared.row.Draft.{Draft}
use Rattle.program.specs.declared.row.Part.{Part}
use Rattle.program.proofs.Glushkov.{last_in}

module _ (p q : Program) (a b c : Draft) (f : Entered p a b) (g : Entered q b c) where
  -- where the names of the second part begin
  pub next_name : b.names + 1 ≡ a.names + 1 + length (names p)
  next_name = omega (arith, f.count)

  two_count : c.names ≡ a.names + length (names p ++ names q)
  two_count = omega (arith, f.count, g.count, length-append (names p) (names q))

  two_kept : (k : ℕ) → k ≤ a.names → get_or c.actions k 0 ≡ get_or a.actions k 0
  two_kept k h = g.kept k (omega (arith, f.count)) ∙ f.kept k h

  two_acts : (k : ℕ) → k < length (names p ++ names q) → a.names + k < 15 → get_or c.actions (a.names + k + 1) 0 ≡ get_or (names p ++ names q) k 0 % 256
  two_acts k h l =
      let long = length-append (names p) (names q) in
      ⊎_elim
      (λ low. g.kept (a.names + k + 1) (omega (arith, f.count)) ∙ f.acts k low l ∙ ap (λ v. v % 256) (sym (get_or_append_left (names p) (names q) 0 k low)))
      (λ high.
      let j = k - length (names p) in
      let e : a.names + k + 1 ≡ b.names + j + 1 = omega (arith, f.count) in
      ap (λ v. get_or c.actions v 0) e ∙ g.acts j (omega arith) (omega (arith, f.count)) ∙ ap (λ v. v % 256)
      (sym (get_or-append_right (names p) (names q) (length (names p)) k 0 refl high)))
      (cases_lt k (length (names p)))

  two_goes : (m : ℕ) → m < 16
      → Marks (get_or c.follow m 0) (λ n. Bit (get_or a.follow m 0) n ⊎ (Follow p (a.names + 1) m n ⊎ Follow q (a.names + 1 + length (names p)) m n))
  two_goes m h n l =
      let x = f.goes_on m h n l in
      let y = subst (λ i. Bit (get_or c.follow m 0) n ↔ (Bit (get_or b.follow m 0) n ⊎ Follow q i m n)) next_name (g.goes_on m h n l) in (
        λ t. ⊎_elim (λ u. ⊎_map (λ v. v) inl (x.0 u)) (λ u. inr (inr u)) (y.0 t),
        ⊎_elim (λ t. y.1 (inl (x.1 (inl t)))) (⊎_elim (λ t. y.1 (inl (x.1 (inr t)))) (λ t. y.1 (inr t))),
      )

  pub either_entered : Entered (either p q) a c
  either_entered = record { count = two_count; kept = two_kept; acts = two_acts; goes_on = two_goes }

  pub seq_entered : (d : Draft) (l r : Part) → PartOf p (a.names + 1) l → PartOf q (b.names + 1) r → Joined l.last r.first c d → Entered (seq p q) a d
  seq_entered d l r u v j =
      record {
        count = j.count ∙ two_count;
        kept = λ k h. ap (λ x. get_or x k 0) j.acts ∙ two_kept k h;
        acts = λ k h s. ap (λ x. get_or x (a.names + k + 1) 0) j.acts ∙ two_acts k h s;
        goes_on = goes;
      }
    where
      i : ℕ
      i = a.names + 1

      goes : (m : ℕ) → m < 16 → Marks (get_or d.follow m 0) (λ n. Bit (get_or a.follow m 0) n ⊎ Follow (seq p q) (a.names + 1) m n)
      goes m h n s =
          let x = two_goes m h n s in
          let y = j.goes_on m h n s in
          let e = u.ends m h in
          let w = subst (λ o. Bit r.first n ↔ First q o n) next_name (v.begins n s) in (
            λ t. ⊎_elim (λ z. ⊎_map (λ o. o) (⊎_map (λ o. o) inl) (x.0 z)) (λ z. inr (inr (inr (e.0 z.1, w.0 z.2)))) (y.0 t),
            ⊎_elim (λ t. y.1 (inl (x.1 (inl t))))
                (⊎_elim (λ t. y.1 (inl (x.1 (inr (inl t)))))
                (⊎_elim (λ t. y.1 (inl (x.1 (inr (inr t)))))
                (λ t. let b = last_in p (a.names + 1) m t.0 in y.1 (inr (omega arith, e.1 t.0, w.1 t.1))))),
          )

-- an action whose number was cut to a byte
pub act_entered : (n m : ℕ) (a b : Draft) → m ≡ n % 256 → Entered (act m) a b → Entered (act n) a b
act_entered n m a b e f =
    record {
      count = f.count;
      kept = f.kept;
      acts = λ k h l.
          let z : k ≡ 0 = omega arith in
          let same : get_or (m ∷ []) k 0 % 256 ≡ get_or (n ∷ []) k 0 % 256 = rw z (omega arith) in
          f.acts k h l ∙ same;
      goes_on = f.goes_on;
    }

pub star_entered : (p : Program) (a b c : Draft) (l : Part) → Entered p a b → PartOf p (a.names + 1) l → Joined l.last l.first b c → Entered (star p) a c
star_entered p a b c l f u j =
    record {
      count = j.count ∙ f.count;
      kept = λ k h. ap (λ x. get_or x k 0) j.acts ∙ f.kept k h;
      acts = λ k h s. ap (λ x. get_or x (a.names + k + 1) 0) j.acts ∙ f.acts k h s;
      goes_on = λ m h n s.
          let x = f.goes_on m h n s in
          let y = j.goes_on m h n s in
          let e = u.ends m h in
          let w = u.begins n s in (
            λ t. ⊎_elim (λ z. ⊎_map (λ o. o) inl (x.0 z)) (λ z. inr (inr (e.0 z.1, w.0 z.2))) (y.0 t),
            ⊎_elim (λ t. y.1 (inl (x.1 (inl t))))
                (⊎_elim (λ t. y.1 (inl (x.1 (inr t))))
                (λ t. let b = last_in p (a.names + 1) m t.0 in y.1 (inr (omega arith, e.1 t.0, w.1 t.1)))),
          );
    }

-- a star of a star adds nothing
pub entered_again : (p : Program) (a c : Draft) → Entered (star p) a c → Entered (star (star p)) a c
entered_again p a c f =
    record {
      count = f.count;
      kept = f.kept;
      acts = f.acts;
      goes_on = λ m h n s.
          let x = f.goes_on m h n s in
          (λ t. ⊎_map (λ o. o) inl (x.0 t), ⊎_elim (λ t. x.1 (inl t)) (⊎_elim (λ t. x.1 (inr t)) (λ t. x.1 (inr (inr t)))));
    }
