-- Bytes written one after another.
use Rattle.std.proofs.Common.{◌≡◌, ℕ, ◌+◌, ◌<◌, ◌≤◌, List, [], ◌∷◌, ◌++◌, length, get_or, take, drop, set, sym, refl, ap, ◌∙◌, subst, append_assoc, arith}
use Rattle.std.proofs.lemmas.List.{take_more, length-append, length_push, set_at}
use Rattle.lasso.specs.Written.{written, Wrote}
use Rattle.lasso.specs.declared.print.Writer.{Writer}

-- one word after another
pub written_append : (xs : List ℕ) (at : ℕ) (v w : List ℕ) (n : ℕ) → n ≡ at + length v → written xs at (v ++ w) ≡ written (written xs at v) n w
written_append xs at [] w n is = ap (λ (k : ℕ). written xs k w) (omega arith)
written_append xs at (b ∷ v) w n is = written_append (set xs at b) (at + 1) v w n (omega arith)

-- into a part that has room
written_part : (p ys : List ℕ) (at : ℕ) (w : List ℕ) → length p ≡ at → length w ≤ length ys → written (p ++ ys) at w ≡ p ++ (w ++ drop (length w) ys)
written_part p ys at [] is h = refl
written_part p [] at (b ∷ w) is h = absurd (omega arith)
written_part p (y ∷ ys) at (b ∷ w) is h =
    ap (λ (l : List ℕ). written l (at + 1) w) (set_at p y ys b at is ∙ sym (append_assoc p (b ∷ []) ys))
    ∙ written_part (p ++ b ∷ []) ys (at + 1) w (length_push p b ∙ ap (λ (n : ℕ). n + 1) is) (omega arith)
    ∙ append_assoc p (b ∷ []) (w ++ drop (length w) ys)

-- a text that has room for all of it
pub written_first : (xs w : List ℕ) → length w ≤ length xs → written xs 0 w ≡ w ++ drop (length w) xs
written_first xs w h = written_part [] xs 0 w refl h

-- one word after another
pub wrote_then : {a b c : Writer} {v w : List ℕ} → Wrote a b v → Wrote b c w → Wrote a c (v ++ w)
wrote_then {a} {b} {c} {v} {w} x y = record {
  same = y.same ∙ x.same;
  next = omega (arith, x.next, y.next, length-append v w);
  text = y.text ∙ ap (λ (l : List ℕ). written l b.at w) x.text ∙ sym (written_append a.text.now a.at v w b.at x.next);
}

-- the same word under another name
pub wrote_as : {a b : Writer} {v : List ℕ} (w : List ℕ) → Wrote a b v → v ≡ w → Wrote a b w
wrote_as {a} {b} w x e = subst (Wrote a b) e x

-- by a writer that is the same
pub wrote_by : {a b c : Writer} {w : List ℕ} → c ≡ b → Wrote a b w → Wrote a c w
wrote_by {a} {b} {c} {w} e x = subst (λ s. Wrote a s w) (sym e) x

-- one byte more of a word
pub wrote_more : {a b c : Writer} (w : List ℕ) (k : ℕ) → k < length w → Wrote a b (take k w) → (v : ℕ) → v ≡ get_or w k 0 → Wrote b c (v ∷ []) → Wrote a c (take (k + 1) w)
wrote_more w k h x v e y = wrote_as (take (k + 1) w) (wrote_then x y) (ap (λ (b : ℕ). take k w ++ b ∷ []) e ∙ sym (take_more w k 0 h))
