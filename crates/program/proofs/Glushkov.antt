-- An automaton accepts exactly the words of its program.
use Rattle.std.proofs.Common.{◌≡◌, ℕ, zero, suc, ◌+◌, ◌-◌, ◌<◌, ◌≤◌, Bool, true, false, cond, ◌⊎◌, ◌↔◌, List, [], ◌∷◌, ◌++◌, length, get_or, sym, refl, ap, ◌∙◌, inl, inr, ⊎_elim, arith, length-append, get_or-append-add}
use mathlib.Core.Logic.{⊎_map}
use lib.ListN.{get_or-append}
use Rattle.program.specs.Words.{Program, Program.act, Program.either, Program.seq, Program.star, Power, Words}
use Rattle.program.specs.Automata.{names, nullable, First, Last, Follow, Accepts}
use Rattle.program.specs.Laws.{AcceptsItsWords}

-- S the steps between places, E the places where to end, L the letter of each place: a word read
-- onward from a place
abbrev pub Run : (ℕ → ℕ → Type 0) → (ℕ → Type 0) → (ℕ → ℕ) → ℕ → List ℕ → Type 0
Run S E L m [] = E m
Run S E L m (c ∷ w) = (n : ℕ) × S m n × (L n ≡ c) × Run S E L n w

abbrev pub Runs : Program → ℕ → (ℕ → ℕ) → ℕ → List ℕ → Type 0
Runs p i = Run (Follow p i) (Last p i)

-- the words that p's names, counted from i on, spell
abbrev pub Reads : Program → ℕ → (ℕ → ℕ) → List ℕ → Type 0
Reads p i L [] = nullable p ≡ true
Reads p i L (c ∷ w) = (n : ℕ) × First p i n × (L n ≡ c) × Runs p i L n w

-- a word split in two
abbrev pub Split : (List ℕ → Type 0) → (List ℕ → Type 0) → List ℕ → Type 0
Split P Q w = (u : List ℕ) × (v : List ℕ) × P u × Q v × (w ≡ u ++ v)

split_map : {P P' Q Q' : List ℕ → Type 0} → ((u : List ℕ) → P u → P' u) → ((v : List ℕ) → Q v → Q' v)
    → (w : List ℕ) → Split P Q w → Split P' Q' w
split_map f g w x = (x.0, x.1, f x.0 x.2, g x.1 x.3, x.4)

split_cons : {P P' Q : List ℕ → Type 0} (c : ℕ) → ((u : List ℕ) → P u → P' (c ∷ u))
    → (w : List ℕ) → Split P Q w → Split P' Q (c ∷ w)
split_cons c f w x = (c ∷ x.0, x.1, f x.0 x.2, x.3, ap (λ y. c ∷ y) x.4)

-- runs carry over to other steps and ends that serve where the run goes
run_map : {S S' : ℕ → ℕ → Type 0} {E E' : ℕ → Type 0} (L : ℕ → ℕ) (I : ℕ → Type 0)
    → ((m n : ℕ) → I m → S m n → I n × S' m n) → ((m : ℕ) → I m → E m → E' m)
    → (w : List ℕ) (m : ℕ) → I m → Run S E L m w → Run S' E' L m w
run_map L I f g [] m a e = g m a e
run_map L I f g (c ∷ w) m a r =
    let s = f m r.0 a r.1 in (r.0, s.1, r.2, run_map L I f g w r.0 s.0 r.3)

run_into : {S S' : ℕ → ℕ → Type 0} {E E' : ℕ → Type 0} (L : ℕ → ℕ)
    → ((m n : ℕ) → S m n → S' m n) → ((m : ℕ) → E m → E' m)
    → (w : List ℕ) (m : ℕ) → Run S E L m w → Run S' E' L m w
run_into L f g w m = run_map L (λ m. Unit {0}) (λ m n a s. (tt, f m n s)) (λ m a. g m) w m tt

-- a run, and what goes on from its ends
run_on : {S S' : ℕ → ℕ → Type 0} {E : ℕ → Type 0} (E' : ℕ → Type 0) (L : ℕ → ℕ) (v : List ℕ)
    → ((m n : ℕ) → S m n → S' m n) → ((m : ℕ) → E m → Run S' E' L m v)
    → (u : List ℕ) (m : ℕ) → Run S E L m u → Run S' E' L m (u ++ v)
run_on E' L v f g [] m e = g m e
run_on E' L v f g (c ∷ u) m r = (r.0, f m r.0 r.1, r.2, run_on E' L v f g u r.0 r.3)

-- where names of p stand
abbrev pub In : Program → ℕ → ℕ → Type 0
In p i n = (i ≤ n) × (n < i + length (names p))

abbrev pub after : Program → ℕ → ℕ
after p i = i + length (names p)

in_left : (p r : Program) (i n : ℕ) → In p i n → In (seq p r) i n
in_left p r i n h = omega (arith, length-append (names p) (names r))

in_right : (p r : Program) (i n : ℕ) → In r (after p i) n → In (seq p r) i n
in_right p r i n h = omega (arith, length-append (names p) (names r))

apart : (p r : Program) (i n : ℕ) → In p i n → In r (after p i) n → ⊥
apart p r i n h k = omega arith

pub first_in : (p : Program) (i n : ℕ) → First p i n → In p i n
first_in (act a) i n h = omega arith
first_in (either p r) i n (inl h) = in_left p r i n (first_in p i n h)
first_in (either p r) i n (inr h) = in_right p r i n (first_in r (after p i) n h)
first_in (seq p r) i n (inl h) = in_left p r i n (first_in p i n h)
first_in (seq p r) i n (inr h) = in_right p r i n (first_in r (after p i) n h.1)
first_in (star p) i n h = first_in p i n h

pub last_in : (p : Program) (i n : ℕ) → Last p i n → In p i n
last_in (act a) i n h = omega arith
last_in (either p r) i n (inl h) = in_left p r i n (last_in p i n h)
last_in (either p r) i n (inr h) = in_right p r i n (last_in r (after p i) n h)
last_in (seq p r) i n (inl h) = in_right p r i n (last_in r (after p i) n h)
last_in (seq p r) i n (inr h) = in_left p r i n (last_in p i n h.1)
last_in (star p) i n h = last_in p i n h

pub follow_in : (p : Program) (i m n : ℕ) → Follow p i m n → In p i m × In p i n
follow_in (act a) i m n h = absurd h
follow_in (either p r) i m n (inl h) =
    let t = follow_in p i m n h in (in_left p r i m t.0, in_left p r i n t.1)
follow_in (either p r) i m n (inr h) =
    let t = follow_in r (after p i) m n h in (in_right p r i m t.0, in_right p r i n t.1)
follow_in (seq p r) i m n (inl h) =
    let t = follow_in p i m n h in (in_left p r i m t.0, in_left p r i n t.1)
follow_in (seq p r) i m n (inr (inl h)) =
    let t = follow_in r (after p i) m n h in (in_right p r i m t.0, in_right p r i n t.1)
follow_in (seq p r) i m n (inr (inr h)) =
    (in_left p r i m (last_in p i m h.0), in_right p r i n (first_in r (after p i) n h.1))
follow_in (star p) i m n (inl h) = follow_in p i m n h
follow_in (star p) i m n (inr h) = (last_in p i m h.0, first_in p i n h.1)

or_true : (a b : Bool) → (cond a true b ≡ true) ↔ ((a ≡ true) ⊎ (b ≡ true))
or_true true b = (λ h. inl refl, λ h. refl)
or_true false b = (λ h. inr h, ⊎_elim (λ h. let z : b ≡ true = cc in z) (λ h. h))

and_true : (a b : Bool) → (cond a b false ≡ true) ↔ ((a ≡ true) × (b ≡ true))
and_true true b = (λ h. (refl, h), λ h. h.1)
and_true false b = (λ h. (h, let z : b ≡ true = cc in z), λ h. h.0)

module _ (p r : Program) (i : ℕ) (L : ℕ → ℕ) where
  either_left : (w : List ℕ) (m : ℕ) → In p i m → Runs (either p r) i L m w → Runs p i L m w
  either_left = run_map L (In p i)
      (λ m n a. ⊎_elim (λ s. ((follow_in p i m n s).1, s))
      (λ s. absurd (apart p r i m a (follow_in r (after p i) m n s).0)))
      (λ m a. ⊎_elim (λ e. e) (λ e. absurd (apart p r i m a (last_in r (after p i) m e))))

  either_right : (w : List ℕ) (m : ℕ) → In r (after p i) m → Runs (either p r) i L m w → Runs r (after p i) L m w
  either_right = run_map L (In r (after p i))
      (λ m n a. ⊎_elim (λ s. absurd (apart p r i m (follow_in p i m n s).0 a))
      (λ s. ((follow_in r (after p i) m n s).1, s)))
      (λ m a. ⊎_elim (λ e. absurd (apart p r i m (last_in p i m e) a)) (λ e. e))

  pub reads_either : (w : List ℕ) → Reads (either p r) i L w ↔ (Reads p i L w ⊎ Reads r (after p i) L w)
  reads_either [] = or_true (nullable p) (nullable r)
  reads_either (c ∷ w) = (
    λ t. ⊎_elim
        (λ f. inl (t.0, f, t.2, either_left w t.0 (first_in p i t.0 f) t.3))
        (λ f. inr (t.0, f, t.2, either_right w t.0 (first_in r (after p i) t.0 f) t.3))
        t.1,
    ⊎_elim
        (λ t. (t.0, inl t.1, t.2, run_into L (λ m n. inl) (λ m. inl) w t.0 t.3))
        (λ t. (t.0, inr t.1, t.2, run_into L (λ m n. inr) (λ m. inr) w t.0 t.3)),
  )

  seq_right : (w : List ℕ) (m : ℕ) → In r (after p i) m → Runs (seq p r) i L m w → Runs r (after p i) L m w
  seq_right = run_map L (In r (after p i))
      (λ m n a. ⊎_elim (λ s. absurd (apart p r i m (follow_in p i m n s).0 a))
      (⊎_elim (λ s. ((follow_in r (after p i) m n s).1, s)) (λ s. absurd (apart p r i m (last_in p i m s.0) a))))
      (λ m a. ⊎_elim (λ e. e) (λ e. absurd (apart p r i m (last_in p i m e.1) a)))

  right_reads : (c : ℕ) (w : List ℕ) (n : ℕ) → First r (after p i) n → L n ≡ c → Runs (seq p r) i L n w
      → Reads r (after p i) L (c ∷ w)
  right_reads c w n f l t = (n, f, l, seq_right w n (first_in r (after p i) n f) t)

  -- a run of seq p r that begins in p crosses over to r once
  crosses : (w : List ℕ) (m : ℕ) → In p i m → Runs (seq p r) i L m w → Split (Runs p i L m) (Reads r (after p i) L) w
  crosses [] m a t = ⊎_elim
      (λ e. absurd (apart p r i m a (last_in r (after p i) m e)))
      (λ e. ([], [], e.1, e.0, refl))
      t
  crosses (c ∷ w) m a t = ⊎_elim
      (λ s. split_cons c (λ u x. (t.0, s, t.2, x)) w (crosses w t.0 (follow_in p i m t.0 s).1 t.3))
      (⊎_elim (λ s. absurd (apart p r i m a (follow_in r (after p i) m t.0 s).0))
      (λ s. ([], c ∷ w, s.0, right_reads c w t.0 s.1 t.2 t.3, refl)))
      t.1

  crossed : (v : List ℕ) → Reads r (after p i) L v → (m : ℕ) → Last p i m → Runs (seq p r) i L m v
  crossed [] q m e = inr (q, e)
  crossed (c ∷ v) q m e =
      (q.0, inr (inr (e, q.1)), q.2, run_into L (λ m n s. inr (inl s)) (λ m. inl) v q.0 q.3)

  joined : (u v : List ℕ) → Reads p i L u → Reads r (after p i) L v → Reads (seq p r) i L (u ++ v)
  joined [] [] a b = (and_true (nullable p) (nullable r)).1 (a, b)
  joined [] (c ∷ v) a b =
      (b.0, inr (a, b.1), b.2, run_into L (λ m n s. inr (inl s)) (λ m. inl) v b.0 b.3)
  joined (c ∷ u) v a b =
      (a.0, inl a.1, a.2, run_on (Last (seq p r) i) L v (λ m n. inl) (crossed v b) u a.0 a.3)

  pub reads_seq : (w : List ℕ) → Reads (seq p r) i L w ↔ Split (Reads p i L) (Reads r (after p i) L) w
  reads_seq w = (parts w, λ x. rw x.4 (joined x.0 x.1 x.2 x.3))
    where
      parts : (w : List ℕ) → Reads (seq p r) i L w → Split (Reads p i L) (Reads r (after p i) L) w
      parts [] h = let t = (and_true (nullable p) (nullable r)).0 h in ([], [], t.0, t.1, refl)
      parts (c ∷ w) t = ⊎_elim
          (λ f. split_cons c (λ u x. (t.0, f, t.2, x)) w (crosses w t.0 (first_in p i t.0 f) t.3))
          (λ f. ([], c ∷ w, f.0, right_reads c w t.0 f.1 t.2 t.3, refl))
          t.1

module _ (p : Program) (i : ℕ) (L : ℕ → ℕ) where
  abbrev pub Rounds : List ℕ → Type 0
  Rounds w = (k : ℕ) × Power (Reads p i L) k w

  -- one round more, of which the first letter is read
  round : (c : ℕ) (w : List ℕ) (n : ℕ) → First p i n → L n ≡ c → Split (Runs p i L n) Rounds w → Rounds (c ∷ w)
  round c w n f l x = (suc x.3.0, (c ∷ x.0, x.1, (n, f, l, x.2), x.3.1, ap (λ y. c ∷ y) x.4))

  -- a run of star p splits where it goes from a last name to a first one
  turns : (w : List ℕ) (m : ℕ) → Runs (star p) i L m w → Split (Runs p i L m) Rounds w
  turns [] m e = ([], [], e, (0, refl), refl)
  turns (c ∷ w) m t =
      let x = turns w t.0 t.3 in
      ⊎_elim (λ s. split_cons c (λ u y. (t.0, s, t.2, y)) w x)
      (λ s. ([], c ∷ w, s.0, round c w t.0 s.1 t.2 x, refl))
      t.1

  turned : (v : List ℕ) → Reads (star p) i L v → (m : ℕ) → Last p i m → Runs (star p) i L m v
  turned [] h m e = e
  turned (c ∷ v) t m e = (t.0, inr (e, t.1), t.2, t.3)

  again : (u v : List ℕ) → Reads p i L u → Reads (star p) i L v → Reads (star p) i L (u ++ v)
  again [] v a b = b
  again (c ∷ u) v a b = (a.0, a.1, a.2, run_on (Last p i) L v (λ m n. inl) (turned v b) u a.0 a.3)

  pub reads_star : (w : List ℕ) → Reads (star p) i L w ↔ Rounds w
  reads_star w = (parts w, λ x. whole x.0 w x.1)
    where
      parts : (w : List ℕ) → Reads (star p) i L w → Rounds w
      parts [] h = (0, refl)
      parts (c ∷ w) t = round c w t.0 t.1 t.2 (turns w t.0 t.3)

      whole : (k : ℕ) (w : List ℕ) → Power (Reads p i L) k w → Reads (star p) i L w
      whole zero w e = rw e refl
      whole (suc k) w x = rw x.4 (again x.0 x.1 x.2 (whole k x.1 x.3))

power_map : {P P' : List ℕ → Type 0} → ((u : List ℕ) → P u → P' u)
    → (k : ℕ) (w : List ℕ) → Power P k w → Power P' k w
power_map f zero w e = e
power_map f (suc k) w x = split_map f (power_map f k) w x

-- L has the letters of p's names, counted from i on
abbrev pub Letters : Program → ℕ → (ℕ → ℕ) → Type 0
Letters p i L = (k : ℕ) → k < length (names p) → L (i + k) ≡ get_or (names p) k 0

letters_left : (p r : Program) (i : ℕ) (L : ℕ → ℕ) → Letters (seq p r) i L → Letters p i L
letters_left p r i L h k b =
    h k (omega (arith, length-append (names p) (names r))) ∙ get_or-append (names p) (names r) 0 k b

letters_right : (p r : Program) (i : ℕ) (L : ℕ → ℕ) → Letters (seq p r) i L → Letters r (after p i) L
letters_right p r i L h k b =
    ap L (let e : i + length (names p) + k ≡ i + (length (names p) + k) = omega arith in e)
    ∙ h (length (names p) + k) (omega (arith, length-append (names p) (names r)))
    ∙ get_or-append-add (names p) (names r) k 0

reads_act : (a i : ℕ) (L : ℕ → ℕ) → L i ≡ a → (w : List ℕ) → Reads (act a) i L w ↔ (w ≡ a ∷ [])
reads_act a i L l [] = (λ h. cc, λ h. cc)
reads_act a i L l (c ∷ []) = (
  λ t. let e = ap L t.1 in ap (λ x. x ∷ []) (sym t.2 ∙ e ∙ l),
  λ h. (i, refl, (let e : L i ≡ c = cc in e), refl),
)
reads_act a i L l (c ∷ d ∷ w) = (λ t. absurd t.3.1, λ h. absurd (let z : ◌≡◌ {A = ℕ} 0 1 = cc in omega arith))

pub reads_words : (p : Program) (i : ℕ) (L : ℕ → ℕ) → Letters p i L → (w : List ℕ) → Reads p i L w ↔ Words p w
reads_words (act a) i L l w = reads_act a i L (let e : i ≡ i + 0 = omega arith in ap L e ∙ l 0 (omega arith)) w
reads_words (either p r) i L l w =
    let a = reads_words p i L (letters_left p r i L l) w in
    let b = reads_words r (after p i) L (letters_right p r i L l) w in
    let e = reads_either p r i L w in
    (λ h. ⊎_map a.0 b.0 (e.0 h), λ h. e.1 (⊎_map a.1 b.1 h))
reads_words (seq p r) i L l w =
    let a = reads_words p i L (letters_left p r i L l) in
    let b = reads_words r (after p i) L (letters_right p r i L l) in
    let e = reads_seq p r i L w in
    (λ h. split_map (λ u. (a u).0) (λ v. (b v).0) w (e.0 h), λ h. e.1 (split_map (λ u. (a u).1) (λ v. (b v).1) w h))
reads_words (star p) i L l w =
    let a = reads_words p i L l in
    let e = reads_star p i L w in (
      λ h. let x = e.0 h in (x.0, power_map (λ u. (a u).0) x.0 w x.1),
      λ x. e.1 (x.0, power_map (λ u. (a u).1) x.0 w x.1),
    )

-- the letter of each state but the first
abbrev pub letter : Program → ℕ → ℕ
letter p n = get_or (names p) (n - 1) 0

letters : (p : Program) → Letters p 1 (letter p)
letters p k b = let e : 1 + k - 1 ≡ k = omega arith in ap (λ j. get_or (names p) j 0) e

accepts_runs : (p : Program) (w : List ℕ) (q : ℕ) → 1 ≤ q → Accepts p q w ↔ Runs p 1 (letter p) q w
accepts_runs p [] zero h = absurd (omega arith)
accepts_runs p [] (suc q) h = (λ e. e, λ e. e)
accepts_runs p (c ∷ w) zero h = absurd (omega arith)
accepts_runs p (c ∷ w) (suc q) h = (
  λ t. (t.0, t.1.0, t.1.1, (accepts_runs p w t.0 (follow_in p 1 (suc q) t.0 t.1.0).1.0).0 t.2),
  λ t. (t.0, (t.1, t.2), (accepts_runs p w t.0 (follow_in p 1 (suc q) t.0 t.1).1.0).1 t.3),
)

accepts_reads : (p : Program) (w : List ℕ) → Accepts p 0 w ↔ Reads p 1 (letter p) w
accepts_reads p [] = (λ e. e, λ e. e)
accepts_reads p (c ∷ w) = (
  λ t. (t.0, t.1.0, t.1.1, (accepts_runs p w t.0 (first_in p 1 t.0 t.1.0).0).0 t.2),
  λ t. (t.0, (t.1, t.2), (accepts_runs p w t.0 (first_in p 1 t.0 t.1).0).1 t.3),
)

pub accepts_its_words : AcceptsItsWords
accepts_its_words p w =
    let a = accepts_reads p w in
    let b = reads_words p 1 (letter p) (letters p) w in
    (λ h. b.0 (a.0 h), λ h. a.1 (b.1 h))
