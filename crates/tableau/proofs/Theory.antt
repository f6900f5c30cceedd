-- What the walk reaches is an expansion, and each expansion is led to.
use Rattle.std.proofs.Common.{◌≡◌, ℕ, ◌+◌, ◌<◌, ◌≤◌, Bool, true, false, cond, eqb, ◌⊎◌, List, [], length, get_or, sym, refl, ap, ◌∙◌, subst, inl, inr, arith}
use Rattle.std.proofs.lemmas.Bool.{cases_Bool, eq-eqb, ne_eqb, both_ways, cases_lt}
use Rattle.tableau.specs.Claims.{has, Same}
use Rattle.tableau.specs.Calculus.{Calculus, ListsGiven, Fine}
use Rattle.tableau.specs.Walk.{grown, Fresh}
use Rattle.tableau.specs.Expansions.{NumberClosure, from_start, from_claim, NumberExpansion, Reaches, ends, turns, Reached, Done, Leads, Stuck}
use Rattle.tableau.proofs.Lists.{has_at, at_has, grown_old, grown_new, grown_cases, get_d_grown, fresh_none, fresh_grown, earlier}

-- a closure whose start lies in another lies in that
pub closure_in : {m : Calculus} {s t : List ℕ} {f : ℕ → Bool} {x : ℕ} → ((y : ℕ) → has s y ≡ true → NumberClosure m t f y) → NumberClosure m s f x → NumberClosure m t f x
closure_in h (from_start e) = h _ e
closure_in h (from_claim p e) = from_claim (closure_in h p) e

-- a set that has the start, and what its claims give, has the closure
pub closure_least : {m : Calculus} {s : List ℕ} {f : ℕ → Bool} {x : ℕ} (N : ℕ → Bool) → ((y : ℕ) → has s y ≡ true → N y ≡ true) → ((y z : ℕ) → N y ≡ true → m.gives y (f y) z → N z ≡ true) → NumberClosure m s f x → N x ≡ true
closure_least N h k (from_start e) = h _ e
closure_least N h k (from_claim p e) = k _ _ (closure_least N h k p) e

pub fine_like : (m : Calculus) (N P : ℕ → Bool) → Same N P → Fine m P → Fine m N
fine_like m N P s f a b x y = f a b (sym (s a) ∙ x) (sym (s b) ∙ y)

-- the decisions of a walk, as a choice that goes on from the choice d
record Followed (m : Calculus) (d : ℕ → Bool) (i : ℕ) (t u : List ℕ) : Type 0 where
  choice : ℕ → Bool
  agrees : (j : ℕ) → j < i → choice (get_or t j 0) ≡ d (get_or t j 0)
  done : Done m choice (length u) u
  grows : (x : ℕ) → has t x ≡ true → has u x ≡ true
  within : (x : ℕ) → has u x ≡ true → NumberClosure m t choice x

abbrev put : (ℕ → Bool) → ℕ → Bool → ℕ → Bool
put d c b x = cond (eqb x c) b (d x)

put_same : (d : ℕ → Bool) (c : ℕ) (b : Bool) (x : ℕ) → x ≡ c → put d c b x ≡ b
put_same d c b x e = ap (λ v. cond v b (d x)) (eq-eqb x c e)

put_other : (d : ℕ → Bool) (c : ℕ) (b : Bool) (x : ℕ) → (x ≡ c → ⊥) → put d c b x ≡ d x
put_other d c b x e = ap (λ v. cond v b (d x)) (ne_eqb x c e)

-- one claim more is done
done_more : (m : Calculus) (f : ℕ → Bool) (b : Bool) (xs : List ℕ) (i : ℕ) (t : List ℕ) → ListsGiven m (get_or t i 0) b xs → i < length t → f (get_or t i 0) ≡ b → Done m f i t → Done m f (i + 1) (grown t xs)
done_more m f b xs i t given lt is old j h x e =
    let s : get_or (grown t xs) j 0 ≡ get_or t j 0 = get_d_grown t xs j (omega arith) in
    let e' : m.gives (get_or t j 0) (f (get_or t j 0)) x = subst (λ v. m.gives v (f v) x) s e in
    elim (cases_lt j i) [
      | inl l ↦ grown_old t xs x (old j l x e')
      | inr l ↦
          let same : j ≡ i = omega arith in
          let e'' : m.gives (get_or t i 0) (f (get_or t i 0)) x = subst (λ v. m.gives (get_or t v 0) (f (get_or t v 0)) x) same e' in
          grown_new t xs x ((given x).1 (subst (λ v. m.gives (get_or t i 0) v x) is e''))
    ]

-- what one turn adds is in the closure
turn_in : (m : Calculus) (f : ℕ → Bool) (b : Bool) (xs : List ℕ) (i : ℕ) (t : List ℕ) → ListsGiven m (get_or t i 0) b xs → i < length t → f (get_or t i 0) ≡ b → (y : ℕ) → has (grown t xs) y ≡ true → NumberClosure m t f y
turn_in m f b xs i t given lt is y h = elim (grown_cases t xs y h) [
  | inl e ↦ from_start e
  | inr e ↦ from_claim (from_start (has_at t i lt)) (subst (λ v. m.gives (get_or t i 0) v y) (sym is) ((given y).0 e))
]

follow_turn : (m : Calculus) (d : ℕ → Bool) (b : Bool) (xs : List ℕ) (i : ℕ) (t u : List ℕ) → ListsGiven m (get_or t i 0) b xs → i < length t → Fresh t
    → Followed m (put d (get_or t i 0) b) (i + 1) (grown t xs) u → Followed m d i t u
follow_turn m d b xs i t u given lt fresh f =
    let is : f.choice (get_or t i 0) ≡ b = subst (λ v. f.choice v ≡ put d (get_or t i 0) b v) (get_d_grown t xs i lt) (f.agrees i (omega arith)) ∙ put_same d (get_or t i 0) b (get_or t i 0) refl in
    record {
      choice = f.choice;
      agrees = λ j l. subst (λ v. f.choice v ≡ put d (get_or t i 0) b v) (get_d_grown t xs j (omega arith)) (f.agrees j (omega arith)) ∙ put_other d (get_or t i 0) b (get_or t j 0) (earlier t i j fresh lt l);
      done = f.done;
      grows = λ x e. f.grows x (grown_old t xs x e);
      within = λ x e. closure_in (turn_in m f.choice b xs i t given lt is) (f.within x e);
    }

done_put : (m : Calculus) (d : ℕ → Bool) (b : Bool) (i : ℕ) (t : List ℕ) → i < length t → Fresh t → Done m d i t → Done m (put d (get_or t i 0) b) i t
done_put m d b i t lt fresh old j l x e =
    old j l x (subst (λ v. m.gives (get_or t j 0) v x) (put_other d (get_or t i 0) b (get_or t j 0) (earlier t i j fresh lt l)) e)

followed : (m : Calculus) {i : ℕ} {t u : List ℕ} → Reaches m i t u → (d : ℕ → Bool) → Done m d i t → Fresh t → Followed m d i t u
followed m (ends h) d done fresh = record { choice = d; agrees = λ j l. refl; done = λ j l. done j (omega arith); grows = λ x e. e; within = λ x e. from_start e }
followed m {i} {t} {u} (turns b xs given lt r) d done fresh =
    follow_turn m d b xs i t u given lt fresh
    (followed m r (put d (get_or t i 0) b) (done_more m (put d (get_or t i 0) b) b xs i t given lt (put_same d (get_or t i 0) b (get_or t i 0) refl) (done_put m d b i t lt fresh done)) (fresh_grown t xs fresh))

-- soundness: what is reached from the start is an expansion
pub reached_expands : (m : Calculus) (start : List ℕ) (N : ℕ → Bool) → Reached m 0 (grown [] start) N → NumberExpansion m start N
reached_expands m start N r =
    let u = r.0 in
    let f = followed m r.1 (λ _. true) (λ j l. absurd (omega arith)) (fresh_grown [] start fresh_none) in
    let give : (y z : ℕ) → has u y ≡ true → m.gives y (f.choice y) z → has u z ≡ true = λ y z h e.
    let p = at_has u y h in f.done p.0 p.1 z (subst (λ v. m.gives v (f.choice v) z) (sym p.2) e) in
    record {
      choice = f.choice;
      within = λ c e. closure_in (λ y h. elim (grown_cases [] start y h) [ inl e ↦ absurd (both_ways false refl e) | inr e ↦ from_start e ]) (f.within c (sym (r.3 c) ∙ e));
      whole = λ c p. r.3 c ∙ closure_least (has u) (λ y h. f.grows y (grown_new [] start y h)) give p;
      fine = fine_like m N (has u) r.3 r.2;
    }

-- an expansion is one of each list of the same claims
pub expands_like : (m : Calculus) (s t : List ℕ) (N : ℕ → Bool) → ((c : ℕ) → has s c ≡ true → has t c ≡ true) → ((c : ℕ) → has t c ≡ true → has s c ≡ true) → NumberExpansion m s N → NumberExpansion m t N
expands_like m s t N to from e = record {
  choice = e.choice;
  within = λ c h. closure_in (λ y p. from_start (to y p)) (e.within c h);
  whole = λ c p. e.whole c (closure_in (λ y h. from_start (from y h)) p);
  fine = e.fine;
}

-- at the first claim of the trail any expansion is led to
pub leads_like : (m : Calculus) (s t : List ℕ) (N : ℕ → Bool) → ((c : ℕ) → has s c ≡ true → has t c ≡ true) → ((c : ℕ) → has t c ≡ true → has s c ≡ true) → NumberExpansion m s N → Leads m 0 t N
leads_like m s t N to from e = (expands_like m s t N to from e, λ j l. absurd (omega arith))

-- completeness: each expansion of the start is led to from there
pub expands_leads : (m : Calculus) (start : List ℕ) (N : ℕ → Bool) → NumberExpansion m start N → Leads m 0 (grown [] start) N
expands_leads m start N e =
    leads_like m start (grown [] start) N (λ y p. grown_new [] start y p)
    (λ y h. elim (grown_cases [] start y h) [ inl q ↦ absurd (both_ways false refl q) | inr q ↦ q ]) e

leads_turn : (m : Calculus) (i : ℕ) (t xs : List ℕ) (b : Bool) (N : ℕ → Bool) (l : Leads m i t N) → i < length t → ListsGiven m (get_or t i 0) b xs → l.0.choice (get_or t i 0) ≡ b → Leads m (i + 1) (grown t xs) N
leads_turn m i t xs b N l lt given is =
    let e = l.0 in (
      record {
        choice = e.choice;
        within = λ c h. closure_in (λ y p. from_start (grown_old t xs y p)) (e.within c h);
        whole = λ c p. e.whole c (closure_in (turn_in m e.choice b xs i t given lt is) p);
        fine = e.fine;
      },
      done_more m e.choice b xs i t given lt is l.1,
    )

-- one of the two alternatives leads on
pub leads_either : (m : Calculus) (i : ℕ) (t xs ys : List ℕ) (N : ℕ → Bool) → i < length t → ListsGiven m (get_or t i 0) true xs → ListsGiven m (get_or t i 0) false ys
    → Leads m i t N → Leads m (i + 1) (grown t xs) N ⊎ Leads m (i + 1) (grown t ys) N
leads_either m i t xs ys N lt first second l = elim (cases_Bool (l.0.choice (get_or t i 0))) [
  | inl e ↦ inl (leads_turn m i t xs true N l lt first e)
  | inr e ↦ inr (leads_turn m i t ys false N l lt second e)
]

-- at the end of the trail there is nothing else
pub leads_end : (m : Calculus) (i : ℕ) (t : List ℕ) (N : ℕ → Bool) → length t ≤ i → Leads m i t N → Same (has t) N
leads_end m i t N h l c = elim (cases_Bool (N c)) [
  | inl e ↦ closure_least (has t) (λ y p. p) (λ y z p q. let r = at_has t y p in l.1 r.0 (omega arith) z (subst (λ v. m.gives v (l.0.choice v) z) (sym r.2) q)) (l.0.within c e) ∙ sym e
  | inr e ↦ elim (cases_Bool (has t c)) [
    | inl q ↦ absurd (both_ways (N c) e (l.0.whole c (from_start q)))
    | inr q ↦ q ∙ sym e
  ]
]

pub leads_stuck : (m : Calculus) (i : ℕ) (t : List ℕ) (N : ℕ → Bool) → Stuck m t → Leads m i t N → ⊥
leads_stuck m i t N s l = s N l.0.fine (λ c h. l.0.whole c (from_start h))

pub reached_turn : (m : Calculus) (i : ℕ) (t xs : List ℕ) (b : Bool) (N : ℕ → Bool) → i < length t → ListsGiven m (get_or t i 0) b xs → Reached m (i + 1) (grown t xs) N → Reached m i t N
reached_turn m i t xs b N lt given r = (r.0, turns b xs given lt r.1, r.2, r.3)
