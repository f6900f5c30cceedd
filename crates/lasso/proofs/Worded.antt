-- The words of a line are found again in it.
use Rattle.std.proofs.Common.{◌≡◌, ℕ, ◌<◌, ◌≤◌, Bool, true, false, cond, List, [], ◌∷◌, get_or, codes, sym, refl, ap, ◌∙◌, subst, arith}
use Rattle.std.specs.List.{AllByRecursion}
use Rattle.std.proofs.ByRecursion.{All-from_get_or, All-append, All-weaker}
use Rattle.std.proofs.lemmas.Bool.{both_ways}
use Rattle.program.specs.Names.{naming, Named}
use Rattle.document.specs.Texts.{pieces, fields}
use Rattle.lasso.specs.LassoTexts.{Words, worded, decimal, each_after, joined}
use Rattle.lasso.specs.LassoLines.{Shaped}
use Rattle.lasso.proofs.Decimals.{Digit, decimal_spells, decimal_same}
use Rattle.lasso.proofs.Splits.{Lacks, pieces_next, piece_whole, pieces_back}

-- no tab, line feed, comma or dash stands in a name
pub named_lacks : (b : ℕ) → naming b ≡ false → (n : List ℕ) → Named n → Lacks b n
named_lacks b f n h = All-from_get_or (λ x. x ≡ b → ⊥) n 0 (λ k l e. both_ways (naming (get_or n k 0)) (ap naming e ∙ f) (h.rest k l))

decimal_lacks : (b n : ℕ) → b < 48 → n ≤ 4095 → Lacks b (decimal n)
decimal_lacks b n h l = All-weaker Digit (λ x. x ≡ b → ⊥) (λ x d e. omega (arith, d.0)) (decimal n) (decimal_spells n l).0.digits

commas_lack : (b : ℕ) (ns : List (List ℕ)) → (44 ≡ b → ⊥) → AllByRecursion (Lacks b) ns → Lacks b (each_after 44 ns)
commas_lack b [] c h = tt
commas_lack b (n ∷ ns) c h = (c, All-append (λ x. x ≡ b → ⊥) n (each_after 44 ns) h.0 (commas_lack b ns c h.1))

joined_lacks : (b : ℕ) (ns : List (List ℕ)) → (44 ≡ b → ⊥) → (45 ≡ b → ⊥) → AllByRecursion (Lacks b) ns → Lacks b (joined ns)
joined_lacks b [] c d h = (d, tt)
joined_lacks b (n ∷ ns) c d h = All-append (λ x. x ≡ b → ⊥) n (each_after 44 ns) h.0 (commas_lack b ns c h.1)

abbrev pub kind_word : Bool → List ℕ
kind_word b = cond b (codes "stem") (codes "loop")

kind_lacks : (b : ℕ) → b < 48 → (k : Bool) → Lacks b (kind_word k)
kind_lacks b h true = (λ e. omega arith, (λ e. omega arith, (λ e. omega arith, (λ e. omega arith, tt))))
kind_lacks b h false = (λ e. omega arith, (λ e. omega arith, (λ e. omega arith, (λ e. omega arith, tt))))

abbrev pub words_fields : Words → List (List ℕ)
words_fields w = kind_word w.in_stem ∷ w.action ∷ decimal w.state ∷ joined w.marks ∷ []

module _ {props : List (List ℕ)} {w : Words} (s : Shaped props w) where
  marks_lack : (b : ℕ) → naming b ≡ false → (44 ≡ b → ⊥) → (45 ≡ b → ⊥) → Lacks b (joined w.marks)
  marks_lack b f c d = joined_lacks b w.marks c d (All-weaker Named (Lacks b) (named_lacks b f) w.marks s.marks)

  pub worded_fields : fields (worded w) ≡ words_fields w
  worded_fields =
      pieces_next 9 (kind_word w.in_stem) _ (kind_lacks 9 (omega arith) w.in_stem)
      ∙ ap {B = List (List ℕ)} (λ l. kind_word w.in_stem ∷ l)
      (pieces_next 9 w.action _ (named_lacks 9 refl w.action s.action)
      ∙ ap {B = List (List ℕ)} (λ l. w.action ∷ l)
      (pieces_next 9 (decimal w.state) (joined w.marks) (decimal_lacks 9 w.state (omega arith) s.state)
      ∙ ap {B = List (List ℕ)} (λ l. decimal w.state ∷ l) (piece_whole 9 (joined w.marks) (marks_lack 9 refl (λ e. omega arith) (λ e. omega arith)))))

  -- no line feed stands in the line
  pub worded_lacks : Lacks 10 (worded w)
  worded_lacks =
      let P : ℕ → Type 0 = λ x. x ≡ 10 → ⊥ in
      All-append P (kind_word w.in_stem) _ (kind_lacks 10 (omega arith) w.in_stem) (
        λ e. omega arith,
        All-append P w.action _ (named_lacks 10 refl w.action s.action) (
          λ e. omega arith,
          All-append P (decimal w.state) _ (decimal_lacks 10 w.state (omega arith) s.state) (
            λ e. omega arith,
            marks_lack 10 refl (λ e. omega arith) (λ e. omega arith),
          ),
        ),
      )

kind_same : (a b : Bool) → kind_word a ≡ kind_word b → a ≡ b
kind_same true true e = refl
kind_same false false e = refl
kind_same true false e = let z : ◌≡◌ {A = ℕ} 115 108 = ap (λ (l : List ℕ). get_or l 0 0) e in absurd (omega arith)
kind_same false true e = let z : ◌≡◌ {A = ℕ} 108 115 = ap (λ (l : List ℕ). get_or l 0 0) e in absurd (omega arith)

-- the pieces of names that are joined
pub joined_pieces : (n : List ℕ) (ns : List (List ℕ)) → AllByRecursion Named (n ∷ ns) → pieces 44 (joined (n ∷ ns)) ≡ n ∷ ns
joined_pieces n ns h = pieces_back 44 n ns (named_lacks 44 refl n h.0) (All-weaker Named (Lacks 44) (named_lacks 44 refl) ns h.1)

-- a dash is no name
pub no_dash : Named (45 ∷ []) → ⊥
no_dash h = both_ways (naming 45) refl (h.rest 0 (omega arith))

dash_alone : (n : List ℕ) (ns : List (List ℕ)) → AllByRecursion Named (n ∷ ns) → joined (n ∷ ns) ≡ 45 ∷ [] → ⊥
dash_alone n ns h e =
    let p : n ∷ ns ≡ (45 ∷ []) ∷ [] = sym (joined_pieces n ns h) ∙ ap (pieces 44) e in
    no_dash (subst Named (ap (λ (l : List (List ℕ)). get_or l 0 []) p) h.0)

pub joined_same : (ns ms : List (List ℕ)) → AllByRecursion Named ns → AllByRecursion Named ms → joined ns ≡ joined ms → ns ≡ ms
joined_same [] [] h l e = refl
joined_same [] (m ∷ ms) h l e = absurd (dash_alone m ms l (sym e))
joined_same (n ∷ ns) [] h l e = absurd (dash_alone n ns h e)
joined_same (n ∷ ns) (m ∷ ms) h l e = sym (joined_pieces n ns h) ∙ ap (pieces 44) e ∙ joined_pieces m ms l

-- a line has no two readings
pub worded_same : {props : List (List ℕ)} (w v : Words) → Shaped props w → Shaped props v → worded w ≡ worded v → w ≡ v
worded_same w v s t e =
    let f : words_fields w ≡ words_fields v = sym (worded_fields s) ∙ ap fields e ∙ worded_fields t in
    let k = kind_same w.in_stem v.in_stem (ap (λ (l : List (List ℕ)). get_or l 0 []) f) in
    let a : w.action ≡ v.action = ap (λ (l : List (List ℕ)). get_or l 1 []) f in
    let n = decimal_same w.state v.state s.state t.state (ap (λ (l : List (List ℕ)). get_or l 2 []) f) in
    let m = joined_same w.marks v.marks s.marks t.marks (ap (λ (l : List (List ℕ)). get_or l 3 []) f) in
    λ i. record { in_stem = k i; action = a i; state = n i; marks = m i }
