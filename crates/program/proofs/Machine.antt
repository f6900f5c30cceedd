-- The table that is made of a program's row is the program's automaton.
use Rattle.std.proofs.Common.{◌≡◌, ℕ, zero, suc, ◌+◌, ◌-◌, ◌^◌, ◌<◌, ◌≤◌, true, false, ◌⊎◌, ◌↔◌, List, [], ◌∷◌, length, get_or, sym, refl, ap, ◌∙◌, subst, inl, inr, ⊎_elim, arith}
use lib.Bits.{bit_and, bit_or, mask_lt}
use Rattle.std.specs.List.{AllByRecursion}
use Rattle.std.proofs.lemmas.Nat.{pow_below}
use Rattle.std.proofs.lemmas.List.{get_or_past}
use Rattle.std.proofs.lemmas.Bool.{cases_lt, both_ways}
use Rattle.program.specs.Words.{Program}
use Rattle.program.specs.Automata.{names, First, Follow, Leads, Final, Accepts}
use Rattle.program.specs.Masks.{Bit, Marks, cell}
use Rattle.program.specs.Rows.{RowOf}
use Rattle.program.specs.Tables.{AutomatonOf, Accepted, AcceptsWordsOf}
use Rattle.program.specs.declared.row.Row.{Row}
use Rattle.program.proofs.Bits.{bit_of_or, bit_of_and, bit_below, bit_none, bit_past}
use Rattle.program.proofs.Glushkov.{first_in, last_in, follow_in, accepts_its_words}
use Rattle.program.proofs.States.{leads_from}

-- the names of each action, as a list of masks
abbrev pub NamedBy : List ℕ → List ℕ → Type 0
NamedBy named actions = (a n : ℕ) → a < 16 → n < 16 → Bit (get_or named a 0) n ↔ ((1 ≤ n) × (get_or actions n 0 ≡ a))

-- the masks of a table, where f gives what may follow each state
abbrev pub Stepped : List (List ℕ) → (ℕ → ℕ) → List ℕ → ℕ → Type 0
Stepped next f named states = (i k : ℕ) → i < 16 → k < 16 → cell next i k ≡ bit_and (bit_and (f i) (get_or named k 0)) (2 ^ states - 1)

-- where each state may go on
abbrev pub after_state : Row → ℕ → ℕ
after_state row zero = row.first
after_state row (suc q) = get_or row.follow (suc q) 0

module _ (p : Program) (row : Row) (is : RowOf p row) (states : ℕ) (st : states ≡ length (names p) + 1) where
  letter_at : (n : ℕ) → 1 ≤ n → n ≤ length (names p) → get_or row.actions n 0 ≡ get_or (names p) (n - 1) 0
  letter_at n l h = let e : n ≡ n - 1 + 1 = omega arith in ap (λ k. get_or row.actions k 0) e ∙ is.acts (n - 1) (omega arith)

  module _ (next : List (List ℕ)) (named : List ℕ) (long : length next ≡ 16) (by : NamedBy named row.actions) (stepped : Stepped next (after_state row) named states) where
    -- one mask, of a state that the names with P follow
    marked : (P : ℕ → Type 0) → ((n : ℕ) → P n → (1 ≤ n) × (n < 1 + length (names p))) → (m c n : ℕ) → Marks m P → c < 16
        → Bit (bit_and (bit_and m (get_or named c 0)) (2 ^ states - 1)) n ↔ (P n × (get_or (names p) (n - 1) 0 ≡ c))
    marked P in_p m c n marks h =
        let few = is.few in
        let low = bit_below (bit_and m (get_or named c 0)) states n in
        let both = bit_of_and m (get_or named c 0) n in (
          λ b.
              let x = low.0 b in
              let y = both.0 x.0 in
              let lt : n < 16 = omega (arith, x.1) in
              let z = (by c n h lt).0 y.1 in
              ((marks n lt).0 y.0, sym (letter_at n z.0 (omega (arith, x.1))) ∙ z.1),
          λ t.
              let b = in_p n t.0 in
              let lt : n < 16 = omega arith in
              low.1 (both.1 ((marks n lt).1 t.0, (by c n h lt).1 (b.0, letter_at n b.0 (omega arith) ∙ t.1)), omega arith),
        )

    leads_at : (q c n : ℕ) → q < 16 → c < 16 → Bit (cell next q c) n ↔ Leads p q c n
    leads_at zero c n h k = rw (stepped 0 c h k) (marked (First p 1) (first_in p 1) row.first c n is.begins k)
    leads_at (suc q) c n h k =
        rw (stepped (suc q) c h k) (marked (Follow p 1 (suc q)) (λ m t. (follow_in p 1 (suc q) m t).1) (get_or row.follow (suc q) 0) c n (is.goes_on (suc q) h) k)

    pub leads_all : (q c n : ℕ) → c < 16 → Bit (cell next q c) n ↔ Leads p q c n
    leads_all q c n k =
        ⊎_elim (λ h. leads_at q c n h k)
        (λ g.
        let e = ap (λ l. get_or l c 0) (get_or_past next q [] (omega arith)) in
        (λ b. absurd (bit_none n (subst (λ m. Bit m n) e b)), λ t. absurd (let f = leads_from p q c n t in omega (arith, is.few))))
        (cases_lt q 16)

  -- the final states: the last names, and state 0 where the program is nullable
  pub ends_all : (start : ℕ) → ((start ≡ 1) × (row.nullable ≡ true)) ⊎ ((start ≡ 0) × (row.nullable ≡ false))
      → (q : ℕ) → Bit (bit_and (bit_or row.last start) (2 ^ states - 1)) q ↔ Final p q
  ends_all start how q =
      let low = bit_below (bit_or row.last start) states q in
      let split = bit_of_or row.last start q in
      let few = is.few in
      (λ b. let x = low.0 b in to q (omega (arith, x.1)) (split.0 x.0), λ t. let f = from q t in low.1 (split.1 f.0, f.1))
    where
      above : (q : ℕ) → Bit start (suc q) → ⊥
      above q b = let lt = pow_below 0 (suc q) (omega arith) in ⊎_elim (λ e. bit_past start (suc q) (omega (arith, e.0)) b) (λ e. bit_past start (suc q) (omega (arith, e.0)) b) how

      to : (q : ℕ) → q < 16 → Bit row.last q ⊎ Bit start q → Final p q
      to zero h (inl b) = absurd (let t = last_in p 1 0 ((is.ends 0 h).0 b) in omega arith)
      to zero h (inr b) = ⊎_elim (λ e. sym is.empty ∙ e.1) (λ e. absurd (bit_none 0 (subst (λ m. Bit m 0) e.0 b))) how
      to (suc q) h (inl b) = (is.ends (suc q) h).0 b
      to (suc q) h (inr b) = absurd (above q b)

      from : (q : ℕ) → Final p q → (Bit row.last q ⊎ Bit start q) × (q < states)
      from zero t =
          (inr (⊎_elim (λ e. subst (λ m. Bit m 0) (sym e.0) refl) (λ e. absurd (both_ways row.nullable e.1 (is.empty ∙ t))) how), omega arith)
      from (suc q) t =
          let l = last_in p 1 (suc q) t in
          let lt : suc q < 16 = omega (arith, is.few) in
          (inl ((is.ends (suc q) lt).1 t), omega arith)

-- what the table is made by
pub record Made (row : Row) (states : ℕ) (next : List (List ℕ)) (named : List ℕ) (all start : ℕ) : Type 0 where
  pub count : row.names < 16 → states ≡ row.names + 1
  pub mask : all ≡ 2 ^ states - 1
  pub long : length next ≡ 16
  pub by : NamedBy named row.actions
  pub zeroth : (k : ℕ) → k < 16 → cell next 0 k ≡ bit_and (bit_and row.first (get_or named k 0)) all
  pub others : (i k : ℕ) → 0 < i → i < 16 → k < 16 → cell next i k ≡ bit_and (bit_and (get_or row.follow i 0) (get_or named k 0)) all
  pub starts : ((start ≡ 1) × (row.nullable ≡ true)) ⊎ ((start ≡ 0) × (row.nullable ≡ false))

module _ {row : Row} {states : ℕ} {next : List (List ℕ)} {named : List ℕ} {all start : ℕ} (m : Made row states next named all start) where
  steps : Stepped next (after_state row) named states
  steps zero k h l = m.zeroth k l ∙ ap (bit_and (bit_and row.first (get_or named k 0))) m.mask
  steps (suc i) k h l = m.others (suc i) k (omega arith) h l ∙ ap (bit_and (bit_and (get_or row.follow (suc i) 0) (get_or named k 0))) m.mask

  pub steps_low : (i k : ℕ) → i < 16 → k < 16 → cell next i k < 2 ^ states
  steps_low i k h l = subst (λ v. v < 2 ^ states) (sym (steps i k h l)) (mask_lt (bit_and (after_state row i) (get_or named k 0)) states)

  pub ends_low : bit_and (bit_or row.last start) all < 2 ^ states
  ends_low = subst (λ v. bit_and (bit_or row.last start) v < 2 ^ states) (sym m.mask) (mask_lt (bit_or row.last start) states)

  pub automaton_of : (p : Program) → RowOf p row → AutomatonOf p states next (bit_and (bit_or row.last start) all)
  automaton_of p is =
      let st : states ≡ length (names p) + 1 = omega (arith, m.count (omega (arith, is.count, is.few)), is.count) in
      record {
        count = st;
        leads = leads_all p row is states st next named m.long m.by steps;
        ends = rw m.mask (ends_all p row is states st start m.starts);
      }

-- the table of an automaton accepts exactly its program's words
module _ (p : Program) (states : ℕ) (next : List (List ℕ)) (finals : ℕ) (is : AutomatonOf p states next finals) where
  accepted : (w : List ℕ) → AllByRecursion (λ c. c < 16) w → (q : ℕ) → Accepted next finals q w ↔ Accepts p q w
  accepted [] h q = is.ends q
  accepted (c ∷ w) h q = (
    λ a. (a.0, (is.leads q c a.0 h.0).0 a.1, (accepted w h.1 a.0).0 a.2),
    λ a. (a.0, (is.leads q c a.0 h.0).1 a.1, (accepted w h.1 a.0).1 a.2),
  )

  pub accepts_words_of : AcceptsWordsOf p next finals
  accepts_words_of w h =
      let a = accepted w h 0 in
      let b = accepts_its_words p w in
      (λ x. b.0 (a.0 x), λ x. a.1 (b.1 x))
