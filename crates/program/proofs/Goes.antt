-- The checker goes through every program, so where it stops no program goes on.
use Rattle.std.proofs.Common.{◌≡◌, ℕ, suc, ◌+◌, ◌-◌, ◌<◌, ◌≤◌, true, false, cond, eqb, leb, List, [], ◌∷◌, ◌++◌, length, get_or, Some, None, sym, refl, ap, ◌∙◌, subst, add-one, arith}
use Rattle.std.proofs.lemmas.Bool.{lt-leb, ne_eqb}
use Rattle.std.proofs.lemmas.Bool.Decides.{nat_tests}
use Rattle.program.specs.Names.{letter, naming, Named}
use Rattle.program.specs.Steps.{stand, start, is_due, stepped, longer, lettered}
use Rattle.program.specs.Text.{Tree, Kind, Spells, named, group, star, lone, semi, single, plus, WellFormed}
use Rattle.program.specs.declared.check.Place.{Place}
use Rattle.program.specs.declared.check.Place.TheVariants.{Due, Name, Behind}
use Rattle.program.specs.declared.check.Prefix.{Prefix}

-- after these bytes the checker stands there
abbrev pub Goes : Prefix → List ℕ → Prefix → Type 0
Goes s [] u = s ≡ u
Goes s (c ∷ bs) u = (m : Prefix) × (stepped s c ≡ Some m) × Goes m bs u

pub goes_on : (xs ys : List ℕ) (s m u : Prefix) → Goes s xs m → Goes m ys u → Goes s (xs ++ ys) u
goes_on [] ys s m u e g = subst (λ v. Goes v ys u) (sym e) g
goes_on (c ∷ xs) ys s m u h g = (h.0, h.1, goes_on xs ys h.0 m u h.2 g)

goes_parts : (xs ys : List ℕ) (s u : Prefix) → Goes s (xs ++ ys) u → (m : Prefix) × Goes s xs m × Goes m ys u
goes_parts [] ys s u h = (s, refl, h)
goes_parts (c ∷ xs) ys s u h = let t = goes_parts xs ys h.0 u h.2 in (t.0, (h.0, h.1, t.1), t.2)

goes_same : (xs : List ℕ) (s m u : Prefix) → Goes s xs m → Goes s xs u → m ≡ u
goes_same [] s m u h k = sym h ∙ k
goes_same (c ∷ xs) s m u h k =
    let a = h.1 in
    let b = k.1 in
    let e : h.0 ≡ k.0 = cc in
    goes_same xs k.0 m u (subst (λ v. Goes v xs m) e h.2) k.2

-- the steps at each class of bytes
at_letter : (s : Prefix) (c : ℕ) → letter c ≡ true → stepped s c ≡ lettered s
at_letter s c h =
    let e1 : eqb c 43 ≡ false = grind (arith, nat_tests) in
    let e2 : eqb c 59 ≡ false = grind (arith, nat_tests) in
    let e3 : eqb c 42 ≡ false = grind (arith, nat_tests) in
    let e4 : eqb c 40 ≡ false = grind (arith, nat_tests) in
    let e5 : eqb c 41 ≡ false = grind (arith, nat_tests) in
    rw (e1, e2, e3, e4, e5, h)

at_naming : (d n c : ℕ) → naming c ≡ true → stepped (stand d (Name n)) c ≡ longer d (Name n)
at_naming d n c h =
    let e1 : eqb c 43 ≡ false = grind (arith, nat_tests) in
    let e2 : eqb c 59 ≡ false = grind (arith, nat_tests) in
    let e3 : eqb c 42 ≡ false = grind (arith, nat_tests) in
    let e4 : eqb c 40 ≡ false = grind (arith, nat_tests) in
    let e5 : eqb c 41 ≡ false = grind (arith, nat_tests) in
    simp (e1, e2, e3, e4, e5) (either_way (letter c))
  where
    either_way : (b : _) → cond b (longer d (Name n)) (cond (naming c) (longer d (Name n)) None) ≡ longer d (Name n)
    either_way true = refl
    either_way false = simp h

lengthens : (d n : ℕ) → n < 16 → longer d (Name n) ≡ Some (stand d (Name (n + 1)))
lengthens d n k = let f : leb 16 n ≡ false = grind (arith, nat_tests) in rw f

-- through the rest of a name
name_rest : (cs : List ℕ) (d n : ℕ) → n + length cs ≤ 16 → ((k : ℕ) → k < length cs → naming (get_or cs k 0) ≡ true)
    → (m : ℕ) × Goes (stand d (Name n)) cs (stand d (Name m))
name_rest [] d n k all = (n, refl)
name_rest (c ∷ cs) d n k all =
    let t = name_rest cs d (n + 1) (omega arith) (λ j l. all (suc j) (omega arith)) in
    (t.0, (stand d (Name (n + 1)), at_naming d n c (all 0 (omega arith)) ∙ lengthens d n (omega arith), t.1))

through_name : (bs : List ℕ) (d : ℕ) → Named bs → (m : ℕ) × Goes (stand d Due) bs (stand d (Name m))
through_name [] d h = absurd (omega (arith, h.some))
through_name (c ∷ cs) d h =
    let t = name_rest cs d 1 (omega (arith, h.short)) (λ k l. h.rest (suc k) (omega arith)) in
    (t.0, (stand d (Name 1), at_letter (stand d Due) c h.begins, t.1))

opens : (d : ℕ) → d < 8 → stepped (stand d Due) 40 ≡ Some (stand (suc d) Due)
opens d h = let e : leb 8 d ≡ false = lt-leb 8 d h in rw (e, add-one)

-- the steps where no factor is due
module _ (d : ℕ) (p : Place) (e : is_due p ≡ false) where
  shuts : stepped (stand (suc d) p) 41 ≡ Some (stand d Behind)
  shuts =
      let f : eqb (suc d) 0 ≡ false = ne_eqb (suc d) 0 (λ z. omega arith) in
      let g : suc d - 1 ≡ d = omega arith in
      rw (e, f, g)

  stars : stepped (stand d p) 42 ≡ Some (stand d Behind)
  stars = rw e

  semis : stepped (stand d p) 59 ≡ Some (stand d Due)
  semis = rw e

  pluses : stepped (stand d p) 43 ≡ Some (stand d Due)
  pluses = rw e

-- the checker goes through the bytes, from where a factor is due to where none is
abbrev pub Through : ℕ → List ℕ → Type 0
Through d bs = (p : Place) × (is_due p ≡ false) × Goes (stand d Due) bs (stand d p)

through_two : (d c : ℕ) (ls rs : List ℕ) → ((p : Place) → is_due p ≡ false → stepped (stand d p) c ≡ Some (stand d Due)) → Through d ls → Through d rs → Through d (ls ++ c ∷ rs)
through_two d c ls rs step t u =
    (u.0, u.1, goes_on ls (c ∷ rs) (stand d Due) (stand d t.0) (stand d u.0) t.2 (stand d Due, step t.0 t.1, u.2))

pub through : {k : Kind} {d : ℕ} {bs : List ℕ} {t : Tree} → Spells k d bs t → Through d bs
through {k} {d} {bs} (named h) = let t = through_name bs d h in (Name t.0, refl, t.1)
through (group {d} {bs} h r) =
    let t = through r in
    (Behind, refl, (stand (suc d) Due, opens d h, goes_on bs (41 ∷ []) (stand (suc d) Due) (stand (suc d) t.0) (stand d Behind) t.2 (stand d Behind, shuts d t.0 t.1, refl)))
through (star {d} {bs} r) =
    let t = through r in
    (Behind, refl, goes_on bs (42 ∷ []) (stand d Due) (stand d t.0) (stand d Behind) t.2 (stand d Behind, stars d t.0 t.1, refl))
through (lone r) = through r
through (semi {d} {ls} {rs} r q) = through_two d 59 ls rs (semis d) (through r) (through q)
through (single r) = through r
through (plus {d} {ls} {rs} r q) = through_two d 43 ls rs (pluses d) (through r) (through q)

-- no program begins with what the checker went through and a byte that it refuses
pub refused : (bs more : List ℕ) (c : ℕ) (s : Prefix) → Goes start bs s → stepped s c ≡ None → WellFormed (bs ++ c ∷ more) → ⊥
refused bs more c s g none w =
    let t = through w.1 in
    let h = goes_parts bs (c ∷ more) start (stand 0 t.0) t.2 in
    let e = goes_same bs start h.0 s h.1 g in
    let some = h.2.1 in
    let z : ◌≡◌ {A = ℕ} 0 1 = cc in
    omega arith

-- at the end of a program the checker stands outside of parentheses, and no factor is due
pub at_end : (bs : List ℕ) (s : Prefix) → Goes start bs s → WellFormed bs → (is_due s.place ≡ false) × (s.depth ≡ 0)
at_end bs s g w =
    let t = through w.1 in
    let e = goes_same bs start s (stand 0 t.0) g t.2 in
    (ap (λ v. is_due v.place) e ∙ t.1, ap (λ v. v.depth) e)
