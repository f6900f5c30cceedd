-- A text spells at most one tree, and a tree means at most one program.
use Rattle.std.proofs.Common.{◌≡◌, ℕ, zero, suc, ◌<◌, true, ◌⊎◌, List, [], ◌∷◌, ◌++◌, length, get_or, replicate, sym, refl, ap, ◌∙◌, subst, inr, ⊎_elim, arith}
use Rattle.std.proofs.lemmas.List.{append_assoc}
use Rattle.std.proofs.lemmas.Bool.{both_ways, cases_order}
use Rattle.program.specs.Names.{letter, naming, Named, Number}
use Rattle.program.specs.Programs.{Means, OneProgram}
use Rattle.program.specs.Reading.{Atom, word, inner, Unnamed, Ends}
use Rattle.program.specs.Text.{Tree, leaf, choice, chain, repeat, Kind, factor, sequence, sum, Spells, named, group, star, lone, semi, single, plus}
use Rattle.program.specs.Words.{Program, act, either, seq}
use Rattle.program.specs.Words as words
use Rattle.program.specs.declared.name.Name.{Name}
use Rattle.program.proofs.Ends.{ends_sum, ends_sequence, not_plus, not_semi}
use Rattle.program.proofs.Factors.{trees, unstarred}
use Rattle.program.proofs.Places.{unnamed}

tail_same : {a b : ℕ} {xs ys : List ℕ} → a ∷ xs ≡ b ∷ ys → xs ≡ ys
tail_same e = cc

head_same : {a b : ℕ} {xs ys : List ℕ} → a ∷ xs ≡ b ∷ ys → a ≡ b
head_same e = cc

no_star : (rest more : List ℕ) → Ends factor rest → rest ≡ 42 ∷ more → ⊥
no_star rest more h e =
    let z : (◌≡◌ {A = ℕ} 42 41) ⊎ (◌≡◌ {A = ℕ} 42 43) ⊎ (◌≡◌ {A = ℕ} 42 59) = subst (Ends factor) e h in
    ⊎_elim (λ x. omega arith) (⊎_elim (λ x. omega arith) (λ x. omega arith)) z

stars_same : (j k : ℕ) (xs ys : List ℕ) → Ends factor xs → Ends factor ys → replicate j 42 ++ xs ≡ replicate k 42 ++ ys → (j ≡ k) × (xs ≡ ys)
stars_same zero zero xs ys f g e = (refl, e)
stars_same zero (suc k) xs ys f g e = absurd (no_star xs _ f e)
stars_same (suc j) zero xs ys f g e = absurd (no_star ys _ g (sym e))
stars_same (suc j) (suc k) xs ys f g e = let t = stars_same j k xs ys f g (tail_same e) in (ap suc t.0, t.1)

named_at : (c : ℕ) (rest more : List ℕ) → Unnamed rest → naming c ≡ true → rest ≡ c ∷ more → ⊥
named_at c rest more h n e = both_ways (naming c) (subst Unnamed e h) n

words_same : (xs ys us vs : List ℕ) → ((k : ℕ) → k < length xs → naming (get_or xs k 0) ≡ true) → ((k : ℕ) → k < length ys → naming (get_or ys k 0) ≡ true)
    → Unnamed us → Unnamed vs → xs ++ us ≡ ys ++ vs → (xs ≡ ys) × (us ≡ vs)
words_same [] [] us vs f g a b e = (refl, e)
words_same [] (y ∷ ys) us vs f g a b e = absurd (named_at y us (ys ++ vs) a (g 0 (omega arith)) e)
words_same (x ∷ xs) [] us vs f g a b e = absurd (named_at x vs (xs ++ us) b (f 0 (omega arith)) (sym e))
words_same (x ∷ xs) (y ∷ ys) us vs f g a b e =
    let t = words_same xs ys us vs (λ k h. f (suc k) (omega arith)) (λ k h. g (suc k) (omega arith)) a b (tail_same e) in
    let h = head_same e in
    (ap (λ v. v ∷ xs) h ∙ ap (λ v. y ∷ v) t.0, t.1)

no_open : (bs us vs : List ℕ) → Named bs → bs ++ us ≡ 40 ∷ vs → ⊥
no_open [] us vs n e = omega (arith, n.some)
no_open (c ∷ bs) us vs n e = both_ways (letter 40) refl (subst (λ v. letter v ≡ true) (head_same e) n.begins)

trees_in : (j : ℕ) (t : Tree) → trees j (repeat t) ≡ trees (suc j) t
trees_in zero t = refl
trees_in (suc j) t = ap repeat (trees_in j t)

-- what is known of another reading of the same bytes
abbrev Claim : Kind → List ℕ → Tree → Type 0
Claim factor bs t =
    (j : ℕ) (us : List ℕ) → Ends factor us → (d : ℕ) (cs : List ℕ) (k : ℕ) (s : Tree) (vs : List ℕ) → Atom d cs s → Ends factor vs
    → bs ++ (replicate j 42 ++ us) ≡ cs ++ (replicate k 42 ++ vs) → (trees j t ≡ trees k s) × (us ≡ vs)
Claim sequence bs t =
    (us : List ℕ) → Ends sequence us → (d : ℕ) (cs : List ℕ) (s : Tree) (vs : List ℕ) → Spells sequence d cs s → Ends sequence vs → bs ++ us ≡ cs ++ vs → (t ≡ s) × (us ≡ vs)
Claim sum bs t =
    (us : List ℕ) → Ends sum us → (d : ℕ) (cs : List ℕ) (s : Tree) (vs : List ℕ) → Spells sum d cs s → Ends sum vs → bs ++ us ≡ cs ++ vs → (t ≡ s) × (us ≡ vs)

with_stars : (j k : ℕ) (s t : Tree) (xs ys : List ℕ) → Ends factor xs → Ends factor ys → s ≡ t → replicate j 42 ++ xs ≡ replicate k 42 ++ ys → (trees j s ≡ trees k t) × (xs ≡ ys)
with_stars j k s t xs ys f g e h = let x = stars_same j k xs ys f g h in (ap (trees j) e ∙ ap (λ v. trees v t) x.0, x.1)

factors_same : (bs : List ℕ) (t : Tree) → Claim factor bs t → (us : List ℕ) → Ends factor us → (d : ℕ) (cs : List ℕ) (s : Tree) (vs : List ℕ) → Spells factor d cs s → Ends factor vs
    → bs ++ us ≡ cs ++ vs → (t ≡ s) × (us ≡ vs)
factors_same bs t claim us f d cs s vs q g e =
    let u = unstarred q in
    let x = claim 0 us f d u.base u.count u.tree vs u.atom g (e ∙ ap (λ v. v ++ vs) u.bytes ∙ append_assoc u.base (replicate u.count 42) vs) in
    (x.0 ∙ sym u.is, x.1)

named_claim : (bs : List ℕ) → Named bs → Claim factor bs (leaf bs)
named_claim bs n j us f d cs k s vs (word m) g e =
    let w = words_same bs cs (replicate j 42 ++ us) (replicate k 42 ++ vs) n.rest m.rest (unnamed j us f) (unnamed k vs g) e in
    with_stars j k (leaf bs) (leaf cs) us vs f g (ap leaf w.0) w.1
named_claim bs n j us f d cs k s vs (inner q) g e = absurd (no_open bs (replicate j 42 ++ us) _ n e)

group_claim : (bs : List ℕ) (t : Tree) → Claim sum bs t → Claim factor (40 ∷ (bs ++ 41 ∷ [])) t
group_claim bs t claim j us f d cs k s vs (word m) g e = absurd (no_open cs (replicate k 42 ++ vs) _ m (sym e))
group_claim bs t claim j us f d cs k s vs (inner {bs = xs} q) g e =
    let a = append_assoc bs (41 ∷ []) (replicate j 42 ++ us) in
    let b = append_assoc xs (41 ∷ []) (replicate k 42 ++ vs) in
    let x = claim (41 ∷ (replicate j 42 ++ us)) refl (suc d) xs s (41 ∷ (replicate k 42 ++ vs)) q refl (sym a ∙ tail_same e ∙ b) in
    with_stars j k t s us vs f g x.0 (tail_same x.1)

star_claim : (bs : List ℕ) (t : Tree) → Claim factor bs t → Claim factor (bs ++ 42 ∷ []) (repeat t)
star_claim bs t claim j us f d cs k s vs a g e =
    let x = claim (suc j) us f d cs k s vs a g (sym (append_assoc bs (42 ∷ []) (replicate j 42 ++ us)) ∙ e) in
    (trees_in j t ∙ x.0, x.1)

lone_claim : (bs : List ℕ) (t : Tree) → Claim factor bs t → Claim sequence bs t
lone_claim bs t claim us f d cs s vs (lone q) g e = factors_same bs t claim us (ends_sequence us f) d cs s vs q (ends_sequence vs g) e
lone_claim bs t claim us f d cs s vs (semi {ls = ls} {rs = rs} {s = l} q r) g e =
    let x = factors_same bs t claim us (ends_sequence us f) d ls l (59 ∷ (rs ++ vs)) q (inr (inr refl)) (e ∙ append_assoc ls (59 ∷ rs) vs) in
    absurd (not_semi us _ f x.1)

semi_claim : (ls rs : List ℕ) (l r : Tree) → Claim factor ls l → Claim sequence rs r → Claim sequence (ls ++ 59 ∷ rs) (chain l r)
semi_claim ls rs l r left right us f d cs s vs (lone q) g e =
    let x = factors_same ls l left (59 ∷ (rs ++ us)) (inr (inr refl)) d cs s vs q (ends_sequence vs g) (sym (append_assoc ls (59 ∷ rs) us) ∙ e) in
    absurd (not_semi vs _ g (sym x.1))
semi_claim ls rs l r left right us f d cs s vs (semi {ls = ms} {rs = ns} {s = m} {t = n} q o) g e =
    let x = factors_same ls l left (59 ∷ (rs ++ us)) (inr (inr refl)) d ms m (59 ∷ (ns ++ vs)) q (inr (inr refl)) (sym (append_assoc ls (59 ∷ rs) us) ∙ e ∙ append_assoc ms (59 ∷ ns) vs) in
    let y = right us f d ns n vs o g (tail_same x.1) in
    (ap (λ v. chain v r) x.0 ∙ ap (chain m) y.0, y.1)

single_claim : (bs : List ℕ) (t : Tree) → Claim sequence bs t → Claim sum bs t
single_claim bs t claim us f d cs s vs (single q) g e = claim us (ends_sum us f) d cs s vs q (ends_sum vs g) e
single_claim bs t claim us f d cs s vs (plus {ls = ls} {rs = rs} {s = l} q r) g e =
    let x = claim us (ends_sum us f) d ls l (43 ∷ (rs ++ vs)) q (inr refl) (e ∙ append_assoc ls (43 ∷ rs) vs) in
    absurd (not_plus us _ f x.1)

plus_claim : (ls rs : List ℕ) (l r : Tree) → Claim sequence ls l → Claim sum rs r → Claim sum (ls ++ 43 ∷ rs) (choice l r)
plus_claim ls rs l r left right us f d cs s vs (single q) g e =
    let x = left (43 ∷ (rs ++ us)) (inr refl) d cs s vs q (ends_sum vs g) (sym (append_assoc ls (43 ∷ rs) us) ∙ e) in
    absurd (not_plus vs _ g (sym x.1))
plus_claim ls rs l r left right us f d cs s vs (plus {ls = ms} {rs = ns} {s = m} {t = n} q o) g e =
    let x = left (43 ∷ (rs ++ us)) (inr refl) d ms m (43 ∷ (ns ++ vs)) q (inr refl) (sym (append_assoc ls (43 ∷ rs) us) ∙ e ∙ append_assoc ms (43 ∷ ns) vs) in
    let y = right us f d ns n vs o g (tail_same x.1) in
    (ap (λ v. choice v r) x.0 ∙ ap (choice m) y.0, y.1)

claims : {k : Kind} {d : ℕ} {bs : List ℕ} {t : Tree} → Spells k d bs t → Claim k bs t
claims {k} {d} {bs} (named n) = named_claim bs n
claims (group {bs = bs} {t = t} h q) = group_claim bs t (claims q)
claims (star {bs = bs} {t = t} q) = star_claim bs t (claims q)
claims (lone {bs = bs} {t = t} q) = lone_claim bs t (claims q)
claims (semi {ls = ls} {rs = rs} {s = l} {t = r} q o) = semi_claim ls rs l r (claims q) (claims o)
claims (single {bs = bs} {t = t} q) = single_claim bs t (claims q)
claims (plus {ls = ls} {rs = rs} {s = l} {t = r} q o) = plus_claim ls rs l r (claims q) (claims o)

pub one_tree : (text : List ℕ) (s t : Tree) → Spells sum 0 text s → Spells sum 0 text t → s ≡ t
one_tree text s t q r = (claims q [] tt 0 text t [] r tt refl).0

-- a name has one number
one_number : (acts : List Name) (bs : List ℕ) (a b : ℕ) → Number acts bs a → Number acts bs b → a ≡ b
one_number acts bs a b f g =
    ⊎_elim (λ e. e) (⊎_elim (λ l. absurd (g.2 a l f.1)) (λ l. absurd (f.2 b l g.1))) (cases_order a b)

one_meaning : (acts : List Name) (t : Tree) (p q : Program) → Means acts t p → Means acts t q → p ≡ q
one_meaning acts (leaf bs) p q f g = f.2 ∙ ap act (one_number acts bs f.0 g.0 f.1 g.1) ∙ sym g.2
one_meaning acts (choice s t) p q f g =
    f.4 ∙ ap (λ v. either v f.1) (one_meaning acts s f.0 g.0 f.2 g.2) ∙ ap (either g.0) (one_meaning acts t f.1 g.1 f.3 g.3) ∙ sym g.4
one_meaning acts (chain s t) p q f g =
    f.4 ∙ ap (λ v. seq v f.1) (one_meaning acts s f.0 g.0 f.2 g.2) ∙ ap (seq g.0) (one_meaning acts t f.1 g.1 f.3 g.3) ∙ sym g.4
one_meaning acts (repeat t) p q f g = f.2 ∙ ap words.star (one_meaning acts t f.0 g.0 f.1 g.1) ∙ sym g.2

pub one_program : OneProgram
one_program text acts p q f g =
    let e = one_tree text f.0 g.0 f.1 g.1 in
    one_meaning acts g.0 p q (subst (λ t. Means acts t p) e f.2) g.2
