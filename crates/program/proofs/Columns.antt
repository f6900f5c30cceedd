-- Where the checker stops is the column of the fault.
use Rattle.std.proofs.Common.{◌≡◌, ℕ, ◌+◌, ◌<◌, ◌≤◌, true, false, not, eqb, List, [], ◌∷◌, ◌++◌, length, get_or, take, drop, Some, None, sym, refl, ap, ◌∙◌, subst, arith}
use Rattle.std.proofs.lemmas.List.{append_assoc, take-append-drop, take-take, take_all, take_more}
use Rattle.std.proofs.lemmas.Bool.{eqb-true, and_parts, not-true}
use Rattle.program.specs.Steps.{start, is_due, whole, stepped}
use Rattle.program.specs.Text.{WellFormed, Begun, FaultAt}
use Rattle.program.specs.declared.check.Prefix.{Prefix}
use Rattle.program.proofs.Goes.{Goes, goes_on, refused, at_end}
use Rattle.program.proofs.Prefixes.{Known, known, at_start, whole_text, begun}

pub begun_shorter : (text : List ℕ) (at k : ℕ) → k ≤ at → Begun (take at text) → Begun (take k text)
begun_shorter text at k h b =
    let e : take k text ++ drop k (take at text) ≡ take at text = subst (λ v. v ++ drop k (take at text) ≡ take at text) (take-take k at text h) (take-append-drop k (take at text)) in
    (drop k (take at text) ++ b.0, subst WellFormed (ap (λ v. v ++ b.0) (sym e) ∙ append_assoc (take k text) (drop k (take at text)) b.0) b.1)

pub goes_more : (text : List ℕ) (at : ℕ) (s m : Prefix) → at < length text → Goes start (take at text) s → stepped s (get_or text at 0) ≡ Some m → Goes start (take (at + 1) text) m
goes_more text at s m h g e =
    subst (λ v. Goes start v m) (sym (take_more text at 0 h)) (goes_on (take at text) (get_or text at 0 ∷ []) start s m g (m, e, refl))

goes_begun : (bs : List ℕ) (s : Prefix) → Goes start bs s → Begun bs
goes_begun bs s g = begun s.place bs s.depth (known bs [] start s at_start g)

pub ends_whole : (text : List ℕ) (at : ℕ) (s : Prefix) → length text ≤ at → Goes start (take at text) s → whole s ≡ true → WellFormed text
ends_whole text at s h g w =
    let k : Known text s.place s.depth = known text [] start s at_start (subst (λ v. Goes start v s) (take_all at text h) g) in
    let p = and_parts (not (is_due s.place)) (eqb s.depth 0) w in
    whole_text text s.place (not-true (is_due s.place) p.0) (subst (Known text s.place) (eqb-true s.depth 0 p.1) k)

pub ends_early : (text : List ℕ) (at : ℕ) (s : Prefix) → at ≤ length text → length text ≤ at → Goes start (take at text) s → whole s ≡ false → FaultAt text (at + 1)
ends_early text at s l h g w =
    record {
      within = omega arith;
      before = λ k less. begun_shorter text at k (omega arith) (goes_begun (take at text) s g);
      here = λ past b. omega arith;
      unwell = λ wf.
          let e = at_end text s (subst (λ v. Goes start v s) (take_all at text h) g) wf in
          let a = e.0 in
          let b = e.1 in
          let t : whole s ≡ true = rw (a, b) refl in
          let z : ◌≡◌ {A = ℕ} 0 1 = cc in
          omega arith;
    }

pub ends_refused : (text : List ℕ) (at : ℕ) (s : Prefix) → at < length text → Goes start (take at text) s → stepped s (get_or text at 0) ≡ None → FaultAt text (at + 1)
ends_refused text at s h g e =
    let no : Begun (take (at + 1) text) → ⊥ =
    λ b. refused (take at text) b.0 (get_or text at 0) s g e
    (subst WellFormed (ap (λ v. v ++ b.0) (take_more text at 0 h) ∙ append_assoc (take at text) (get_or text at 0 ∷ []) b.0) b.1) in
    record {
      within = omega arith;
      before = λ k less. begun_shorter text at k (omega arith) (goes_begun (take at text) s g);
      here = λ _. no;
      unwell = λ wf. no (drop (at + 1) text, subst WellFormed (sym (take-append-drop (at + 1) text)) wf);
    }
