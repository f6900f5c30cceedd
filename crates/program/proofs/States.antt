-- The states of an automaton: where they lie, and that what is said of them is decided.
use Rattle.std.proofs.Common.{◌≡◌, ℕ, zero, suc, ◌-◌, ◌<◌, ◌≤◌, true, ◌⊎◌, List, [], ◌∷◌, length, get_or, refl, subst, inl, inr, arith}
use mathlib.Core.Logic.Dec
use mathlib.Core.Bool.{Bool-discrete}
use native.Mathlib.Decide.{ℕ_discrete}
use Rattle.program.specs.Words.{Program, Program.act, Program.either, Program.seq, Program.star, Words}
use Rattle.program.specs.Automata.{names, nullable, First, Last, Follow, Leads, Final, Accepts}
use Rattle.program.specs.Laws.{NullableIsEmpty, AcceptsByParts}
use Rattle.program.proofs.Glushkov.{after, first_in, last_in, follow_in, accepts_its_words}

-- where a step leads, and which states are final
pub leads_to : (p : Program) (q c n : ℕ) → Leads p q c n → (1 ≤ n) × (n ≤ length (names p))
leads_to p zero c n h = let t = first_in p 1 n h.0 in omega arith
leads_to p (suc q) c n h = let t = (follow_in p 1 (suc q) n h.0).1 in omega arith

pub leads_from : (p : Program) (q c n : ℕ) → Leads p q c n → q ≤ length (names p)
leads_from p zero c n h = omega arith
leads_from p (suc q) c n h = let t = (follow_in p 1 (suc q) n h.0).0 in omega arith

pub leads_letter : (p : Program) (q c n : ℕ) → Leads p q c n → get_or (names p) (n - 1) 0 ≡ c
leads_letter p zero c n h = h.1
leads_letter p (suc q) c n h = h.1

pub final_state : (p : Program) (q : ℕ) → Final p q → q ≤ length (names p)
final_state p zero h = omega arith
final_state p (suc q) h = let t = last_in p 1 (suc q) h in omega arith

pub nullable_is_empty : NullableIsEmpty
nullable_is_empty p = accepts_its_words p []

pub accepts_by_parts : AcceptsByParts
accepts_by_parts p q [] w = (λ a. (q, refl, a), λ t. rw t.1 t.2)
accepts_by_parts p q (c ∷ u) w = (
  λ a. let t = (accepts_by_parts p a.0 u w).0 a.2 in (t.0, (a.0, a.1, t.1), t.2),
  λ t. let l = t.1 in (l.0, l.1, (accepts_by_parts p l.0 u w).1 (t.0, l.2, t.2)),
)

-- decisions
pub dec_or : {A B : Type 0} → Dec A → Dec B → Dec (A ⊎ B)
dec_or (yes a) d = yes (inl a)
dec_or (no h) (yes b) = yes (inr b)
dec_or (no h) (no k) = no (elim [ inl a ↦ h a | inr b ↦ k b ])

-- some number below a bound
pub dec_below : (P : ℕ → Type 0) → ((n : ℕ) → Dec (P n)) → (b : ℕ) → Dec ((n : ℕ) × (n < b) × P n)
dec_below P d zero = no (λ t. omega arith)
dec_below P d (suc b) = go (d b) (dec_below P d b)
  where
    go : Dec (P b) → Dec ((n : ℕ) × (n < b) × P n) → Dec ((n : ℕ) × (n < suc b) × P n)
    go (yes x) r = yes (b, omega arith, x)
    go (no h) (yes t) = yes (t.0, omega arith, t.2)
    go (no h) (no k) = no (λ t. other t (ℕ_discrete t.0 b))
      where
        other : (t : (n : ℕ) × (n < suc b) × P n) → Dec (t.0 ≡ b) → ⊥
        other t (yes e) = h (subst P e t.2)
        other t (no f) = k (t.0, omega arith, t.2)

pub dec_first : (p : Program) (i n : ℕ) → Dec (First p i n)
dec_first (act a) i n = ℕ_discrete n i
dec_first (either p r) i n = dec_or (dec_first p i n) (dec_first r (after p i) n)
dec_first (seq p r) i n =
    dec_or (dec_first p i n) (Dec.and (Bool-discrete (nullable p) true) (dec_first r (after p i) n))
dec_first (star p) i n = dec_first p i n

pub dec_last : (p : Program) (i n : ℕ) → Dec (Last p i n)
dec_last (act a) i n = ℕ_discrete n i
dec_last (either p r) i n = dec_or (dec_last p i n) (dec_last r (after p i) n)
dec_last (seq p r) i n =
    dec_or (dec_last r (after p i) n) (Dec.and (Bool-discrete (nullable r) true) (dec_last p i n))
dec_last (star p) i n = dec_last p i n

pub dec_follow : (p : Program) (i m n : ℕ) → Dec (Follow p i m n)
dec_follow (act a) i m n = no (λ h. h)
dec_follow (either p r) i m n = dec_or (dec_follow p i m n) (dec_follow r (after p i) m n)
dec_follow (seq p r) i m n =
    dec_or (dec_follow p i m n)
    (dec_or (dec_follow r (after p i) m n) (Dec.and (dec_last p i m) (dec_first r (after p i) n)))
dec_follow (star p) i m n = dec_or (dec_follow p i m n) (Dec.and (dec_last p i m) (dec_first p i n))

pub dec_leads : (p : Program) (q c n : ℕ) → Dec (Leads p q c n)
dec_leads p zero c n = Dec.and (dec_first p 1 n) (ℕ_discrete (get_or (names p) (n - 1) 0) c)
dec_leads p (suc q) c n = Dec.and (dec_follow p 1 (suc q) n) (ℕ_discrete (get_or (names p) (n - 1) 0) c)

pub dec_final : (p : Program) (q : ℕ) → Dec (Final p q)
dec_final p zero = Bool-discrete (nullable p) true
dec_final p (suc q) = dec_last p 1 (suc q)

pub dec_accepts : (p : Program) (q : ℕ) (w : List ℕ) → Dec (Accepts p q w)
dec_accepts p q [] = dec_final p q
dec_accepts p q (c ∷ w) =
    Dec.of_iff (
      λ t. (t.0, t.2.0, t.2.1),
      λ t. (t.0, (let b = leads_to p q c t.0 t.1 in omega arith), (t.1, t.2)),
    )
    (dec_below (λ n. Leads p q c n × Accepts p n w) (λ n. Dec.and (dec_leads p q c n) (dec_accepts p n w))
    (suc (length (names p))))

pub dec_words : (p : Program) (w : List ℕ) → Dec (Words p w)
dec_words p w = Dec.of_iff (accepts_its_words p w) (dec_accepts p 0 w)
