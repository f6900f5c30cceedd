-- What the checker went through, some program begins with.
use Rattle.std.proofs.Common.{◌≡◌, ℕ, zero, suc, ◌+◌, ◌-◌, ◌<◌, Bool, true, false, cond, eqb, leb, ◌⊎◌, List, [], ◌∷◌, ◌++◌, length, get_or, Some, None, Option, sym, refl, ap, ◌∙◌, subst, inl, inr, ⊎_elim, add-one, arith}
use Rattle.std.proofs.lemmas.List.{append_assoc, append-nil, length_push, get_or_append_left, get_or_push}
use Rattle.std.proofs.lemmas.Bool.{leb-false, eqb-true, eqb-false, cases_order, both_ways}
use Rattle.std.proofs.lemmas.Bool.Decides.{nat_tests}
use Rattle.program.specs.Names.{letter, naming, Named}
use Rattle.program.specs.Steps.{stand, is_due, stepped, longer}
use Rattle.program.specs.Text.{Tree, Kind, factor, sum, Spells, named, group, star, lone, semi, single, plus, WellFormed, Begun}
use Rattle.program.specs.declared.check.Place.{Place}
use Rattle.program.specs.declared.check.Place.TheVariants.{Due, Name, Behind}
use Rattle.program.specs.declared.check.Prefix.{Prefix}
use Rattle.program.proofs.Goes.{Goes}

abbrev Part : Kind → ℕ → List ℕ → Type 0
Part k d bs = (t : Tree) × Spells k d bs t

-- with as many closing parentheses as are open, the bytes are a program
abbrev pub Closes : ℕ → List ℕ → Type 0
Closes zero x = WellFormed x
Closes (suc d) x = (v : List ℕ) × (f : List ℕ) × (x ++ 41 ∷ [] ≡ v ++ f) × ((s : List ℕ) → Part sum d s → Closes d (v ++ s)) × Part factor d f

-- a sum is due
abbrev pub DueAt : ℕ → List ℕ → Type 0
DueAt d v = (s : List ℕ) → Part sum d s → Closes d (v ++ s)

-- a factor was read where a sum was due
abbrev pub Done : ℕ → List ℕ → Type 0
Done d u = (v : List ℕ) × (f : List ℕ) × (u ≡ v ++ f) × DueAt d v × Part factor d f

-- what is known of the bytes where the checker stands
abbrev pub Known : List ℕ → Place → ℕ → Type 0
Known u Due d = DueAt d u
Known u (Name n) d = (w : Done d u) × Named w.1 × (length w.1 ≡ n)
Known u Behind d = Done d u

as_sum : (d : ℕ) (f : List ℕ) → Part factor d f → Part sum d f
as_sum d f p = (p.0, single (lone p.1))

then_sum : {d : ℕ} {f : List ℕ} {s : List ℕ} {t r : Tree} → Spells factor d f t → Spells sum d s r → Part sum d (f ++ 59 ∷ s)
then_sum h (single q) = (_, single (semi h q))
then_sum {d} {f} h (plus {ls = ls} {rs = rs} q r) = subst (Part sum d) (append_assoc f (59 ∷ ls) (43 ∷ rs)) (_, plus (semi h q) r)

-- u is v and f, and then c and s follow
joined : (u v f s : List ℕ) (c : ℕ) → u ≡ v ++ f → v ++ (f ++ c ∷ s) ≡ (u ++ c ∷ []) ++ s
joined u v f s c e = rw e (simp append_assoc)

after_plus : (d : ℕ) (u : List ℕ) → Done d u → DueAt d (u ++ 43 ∷ [])
after_plus d u w s p =
    let f = w.4 in
    subst (Closes d) (joined u w.0 w.1 s 43 w.2) (w.3 (w.1 ++ 43 ∷ s) (_, plus (lone f.1) p.1))

after_semi : (d : ℕ) (u : List ℕ) → Done d u → DueAt d (u ++ 59 ∷ [])
after_semi d u w s p =
    subst (Closes d) (joined u w.0 w.1 s 59 w.2) (w.3 (w.1 ++ 59 ∷ s) (then_sum w.4.1 p.1))

after_open : (d : ℕ) (v : List ℕ) → d < 8 → DueAt d v → DueAt (suc d) (v ++ 40 ∷ [])
after_open d v h due s p =
    (v, 40 ∷ (s ++ 41 ∷ []), simp append_assoc, due, (_, group h p.1))

after_shut : (d : ℕ) (u : List ℕ) → Done (suc d) u → Done d (u ++ 41 ∷ [])
after_shut d u w = subst (λ x. Done d (x ++ 41 ∷ [])) (sym w.2) (w.3 w.1 (as_sum (suc d) w.1 w.4))

after_star : (d : ℕ) (u : List ℕ) → Done d u → Done d (u ++ 42 ∷ [])
after_star d u w =
    (w.0, w.1 ++ 42 ∷ [], rw w.2 (append_assoc w.0 w.1 (42 ∷ [])), w.3, (_, star w.4.1))

one_letter : (c : ℕ) → letter c ≡ true → Named (c ∷ [])
one_letter c h =
    let n : naming c ≡ true = grind (arith, nat_tests) in
    record {
      some = omega arith;
      short = omega arith;
      begins = h;
      rest = λ k l. let z : k ≡ 0 = omega arith in subst (λ v. naming (get_or (c ∷ []) v 0) ≡ true) (sym z) n;
    }

longer_name : (f : List ℕ) (c : ℕ) → naming c ≡ true → length f < 16 → Named f → Named (f ++ c ∷ [])
longer_name f c h l n =
    let long = length_push f c in
    record {
      some = omega arith;
      short = omega arith;
      begins = ap letter (get_or_append_left f (c ∷ []) 0 0 n.some) ∙ n.begins;
      rest = λ k less.
          ⊎_elim
          (λ e. ap naming (get_or_push f c 0 k (sym e)) ∙ h)
          (⊎_elim (λ low. ap naming (get_or_append_left f (c ∷ []) 0 k low) ∙ n.rest k low) (λ high. absurd (omega arith)))
          (cases_order k (length f));
    }

after_letter : (d c : ℕ) (u : List ℕ) → letter c ≡ true → DueAt d u → Known (u ++ c ∷ []) (Name 1) d
after_letter d c u h due = let n = one_letter c h in ((u, c ∷ [], refl, due, (_, named n)), n, refl)

after_naming : (d n c : ℕ) (u : List ℕ) → naming c ≡ true → n < 16 → Known u (Name n) d → Known (u ++ c ∷ []) (Name (n + 1)) d
after_naming d n c u h few k =
    let w = k.0 in
    let f = w.1 in
    let m = longer_name f c h (omega (arith, k.2)) k.1 in
    ((w.0, f ++ c ∷ [], rw w.2 (append_assoc w.0 f (c ∷ [])), w.3, (_, named m)), m, length_push f c ∙ ap (λ v. v + 1) k.2)

-- a factor was read where none is due
done : (u : List ℕ) (p : Place) (d : ℕ) → is_due p ≡ false → Known u p d → Done d u
done u Due d e k = absurd (both_ways true e refl)
done u (Name n) d e k = k.0
done u Behind d e k = k

pick : {A : Type 0} (b : Bool) {x y z : A} → cond b x y ≡ z → ((b ≡ true) × (x ≡ z)) ⊎ ((b ≡ false) × (y ≡ z))
pick true h = inl (refl, h)
pick false h = inr (refl, h)

abbrev KnownAt : List ℕ → Prefix → Type 0
KnownAt u m = Known u m.place m.depth

-- the step led to s
to : (u : List ℕ) (s m : Prefix) → Some s ≡ Some m → KnownAt u s → KnownAt u m
to u s m e k = let f : s ≡ m = cc in subst (KnownAt u) f k

never : {A : Type 0} {m : Prefix} → None ≡ Some m → A
never e = let z : ◌≡◌ {A = ℕ} 0 1 = cc in absurd (omega arith)

-- one step where a factor is due, and one elsewhere, where `more` is what comes of one more byte of a name
known_due : (u : List ℕ) (d c : ℕ) (m : Prefix) → DueAt d u → stepped (stand d Due) c ≡ Some m → KnownAt (u ++ c ∷ []) m
known_due u d c m k h =
    ⊎_elim (λ x. never x.1)
    (λ x. ⊎_elim (λ x. never x.1)
    (λ x. ⊎_elim (λ x. never x.1)
    (λ x. ⊎_elim
    (λ x. let e = eqb-true c 40 x.0 in ⊎_elim (λ y. never y.1)
    (λ y. to (u ++ c ∷ []) (stand (d + 1) Due) m y.1 (rw (e, add-one) (after_open d u (leb-false 8 d y.0) k))) (pick (leb 8 d) x.1))
    (λ x. ⊎_elim (λ x. never x.1)
    (λ x. ⊎_elim (λ x. to (u ++ c ∷ []) (stand d (Name 1)) m x.1 (after_letter d c u x.0 k))
    (λ x. ⊎_elim (λ x. never x.1) (λ x. never x.1) (pick (naming c) x.1))
    (pick (letter c) x.1))
    (pick (eqb c 41) x.1))
    (pick (eqb c 40) x.1))
    (pick (eqb c 42) x.1))
    (pick (eqb c 59) x.1))
    (pick (eqb c 43) h)

abbrev Elsewhere : ℕ → Option Prefix → ℕ → Option Prefix
Elsewhere d more c =
    cond (eqb c 43) (Some (stand d Due))
    (cond (eqb c 59) (Some (stand d Due))
    (cond (eqb c 42) (Some (stand d Behind))
    (cond (eqb c 40) None
    (cond (eqb c 41) (cond (eqb d 0) None (Some (stand (d - 1) Behind)))
    (cond (letter c) more (cond (naming c) more None))))))

known_done : (u : List ℕ) (d c : ℕ) (m : Prefix) (more : Option Prefix) → Done d u → (naming c ≡ true → more ≡ Some m → KnownAt (u ++ c ∷ []) m)
    → Elsewhere d more c ≡ Some m → KnownAt (u ++ c ∷ []) m
known_done u d c m more w name_on h =
    ⊎_elim (λ x. let e = eqb-true c 43 x.0 in to (u ++ c ∷ []) (stand d Due) m x.1 (rw e (after_plus d u w)))
    (λ x. ⊎_elim (λ x. let e = eqb-true c 59 x.0 in to (u ++ c ∷ []) (stand d Due) m x.1 (rw e (after_semi d u w)))
    (λ x. ⊎_elim (λ x. let e = eqb-true c 42 x.0 in to (u ++ c ∷ []) (stand d Behind) m x.1 (rw e (after_star d u w)))
    (λ x. ⊎_elim (λ x. never x.1)
    (λ x. ⊎_elim
    (λ x. ⊎_elim (λ y. never y.1) (λ y. closing d (eqb-false d 0 y.0) (eqb-true c 41 x.0) w y.1) (pick (eqb d 0) x.1))
    (λ x. ⊎_elim (λ x. name_on (named_byte c x.0) x.1)
    (λ x. ⊎_elim (λ x. name_on x.0 x.1) (λ x. never x.1) (pick (naming c) x.1))
    (pick (letter c) x.1))
    (pick (eqb c 41) x.1))
    (pick (eqb c 40) x.1))
    (pick (eqb c 42) x.1))
    (pick (eqb c 59) x.1))
    (pick (eqb c 43) h)
  where
    named_byte : (c : ℕ) → letter c ≡ true → naming c ≡ true
    named_byte c h = grind (arith, nat_tests)

    closing : (d : ℕ) → (d ≡ 0 → ⊥) → c ≡ 41 → Done d u → Some (stand (d - 1) Behind) ≡ Some m → KnownAt (u ++ c ∷ []) m
    closing zero some e w y = absurd (some refl)
    closing (suc d) some e w y =
        let f : suc d - 1 ≡ d = omega arith in
        to (u ++ c ∷ []) (stand (suc d - 1) Behind) m y (rw (e, f) (after_shut d u w))

known_step : (p : Place) (u : List ℕ) (d c : ℕ) (m : Prefix) → Known u p d → stepped (stand d p) c ≡ Some m → KnownAt (u ++ c ∷ []) m
known_step Due u d c m k h = known_due u d c m k h
known_step (Name n) u d c m k h =
    known_done u d c m (longer d (Name n)) k.0
    (λ b e. ⊎_elim (λ z. never z.1) (λ z. to (u ++ c ∷ []) (stand d (Name (n + 1))) m z.1 (after_naming d n c u b (leb-false 16 n z.0) k)) (pick (leb 16 n) e)) h
known_step Behind u d c m k h = known_done u d c m None k (λ b e. never e) h

pub known : (bs u : List ℕ) (s m : Prefix) → KnownAt u s → Goes s bs m → KnownAt (u ++ bs) m
known [] u s m k e = rw append-nil (subst (KnownAt u) e k)
known (c ∷ bs) u s m k g =
    subst (λ v. KnownAt v m) (append_assoc u (c ∷ []) bs)
    (known bs (u ++ c ∷ []) g.0 m (known_step s.place u s.depth c g.0 k g.1) g.2)

-- before the first byte a sum is due
pub at_start : Known [] Due 0
at_start s p = p

done_ends : (d : ℕ) (u : List ℕ) → Done d u → Closes d u
done_ends d u w = subst (Closes d) (sym w.2) (w.3 w.1 (as_sum d w.1 w.4))

pub whole_text : (u : List ℕ) (p : Place) → is_due p ≡ false → Known u p 0 → WellFormed u
whole_text u p e k = done_ends 0 u (done u p 0 e k)

completes : (d : ℕ) (u : List ℕ) → Done d u → Begun u
completes zero u w = ([], rw append-nil (done_ends 0 u w))
completes (suc d) u w =
    let t = completes d (u ++ 41 ∷ []) (done_ends (suc d) u w) in
    (41 ∷ t.0, rw append_assoc at t.1)

pub begun : (p : Place) (u : List ℕ) (d : ℕ) → Known u p d → Begun u
begun Due u d k =
    let t = completes d (u ++ 97 ∷ []) (after_letter d 97 u refl k).0 in
    (97 ∷ t.0, rw append_assoc at t.1)
begun (Name n) u d k = completes d u k.0
begun Behind u d k = completes d u k
