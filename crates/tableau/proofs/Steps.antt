-- What one turn of the loop and one call of the walk keep of the trail.
use Rattle.std.proofs.Common.{◌≡◌, ℕ, ◌+◌, ◌<◌, ◌≤◌, true, false, cond, ◌||◌, eqb, ltb, List, [], ◌∷◌, ◌++◌, length, get_or, take, set, sym, refl, ap, ◌∙◌, subst, arith}
use Rattle.std.proofs.lemmas.Bool.{lt-ltb, cond-false, cond-true}
use Rattle.std.proofs.lemmas.List.{take_more, take_more_set, take-take, length_push, take-set-le}
use Rattle.tableau.specs.Claims.{member, has}
use Rattle.tableau.specs.Walk.{grown, on, Stands}
use Rattle.tableau.specs.declared.claims.ClaimSet.{ClaimSet}
use Rattle.tableau.specs.declared.trail.Trail.{Trail}
use Rattle.tableau.proofs.Lists.{has_push, grown_push, fresh_none, fresh_push, room_push, room_none}

-- a new claim finds a place
pub place : (ws t : List ℕ) (len x : ℕ) → Stands ws t len → x < 256 → member ws x ≡ false → len < 256
place ws t len x s lt n =
    let r = room_push t x 256 (sym (s.same x) ∙ n) in
    let one : cond {A = ℕ} (ltb x 256) 1 0 ≡ 1 = ap (λ b. cond b 1 0) (lt-ltb x 256 lt) in
    omega (arith, s.counted)

pub stands_push : (ws vs t : List ℕ) (len x : ℕ) → Stands ws t len → x < 256 → member ws x ≡ false
    → ((y : ℕ) → member vs y ≡ (member ws y || eqb x y)) → Stands vs (t ++ x ∷ []) (len + 1)
stands_push ws vs t len x s lt n w =
    let new : has t x ≡ false = sym (s.same x) ∙ n in
    let r = room_push t x 256 new in
    let one : cond {A = ℕ} (ltb x 256) 1 0 ≡ 1 = ap (λ b. cond b 1 0) (lt-ltb x 256 lt) in
    record {
      long = length_push t x ∙ ap (λ v. v + 1) s.long;
      counted = omega (arith, s.counted);
      fresh = fresh_push t x s.fresh new;
      same = λ y. w y ∙ ap (λ v. v || eqb x y) (s.same y) ∙ sym (has_push t x y);
    }

pub stands_like : (ws t u : List ℕ) (n p : ℕ) → u ≡ t → p ≡ n → Stands ws t n → Stands ws u p
stands_like ws t u n p e f s = subst (λ v. Stands ws v p) (sym e) (subst (λ v. Stands ws t v) (sym f) s)

-- the loop of `add`: the first i claims were added to what the trail held, and there are the set and the trail now
pub record Held (first : Trail) (xs : List ℕ) (i : ℕ) (s : ClaimSet) (trail : Trail) : Type 0 where
  pub stands : Stands s.words (on trail) trail.len
  pub grew : on trail ≡ grown (on first) (take i xs)
  pub kept : take first.len trail.claims ≡ on first
  pub more : first.len ≤ trail.len

pub held_old : (first : Trail) (xs : List ℕ) (i : ℕ) (s : ClaimSet) (trail : Trail) → i < length xs → member s.words (get_or xs i 0) ≡ true → Held first xs i s trail → Held first xs (i + 1) s trail
held_old first xs i s trail lt old h =
    let t = grown (on first) (take i xs) in
    let x = get_or xs i 0 in
    let there : has t x ≡ true = subst (λ v. has v x ≡ true) h.grew (sym (h.stands.same x) ∙ old) in
    record {
      stands = h.stands;
      grew = h.grew ∙ sym (cond-true (has t x) t (t ++ x ∷ []) there) ∙ sym (grown_push (on first) (take i xs) x) ∙ ap (grown (on first)) (sym (take_more xs i 0 lt));
      kept = h.kept;
      more = h.more;
    }

-- what the trail holds after a push
pub pushed : (trail last : Trail) (x : ℕ) → length trail.claims ≡ 256 → trail.len < 256 → last.len ≡ trail.len + 1 → last.claims ≡ set trail.claims trail.len x → on last ≡ on trail ++ x ∷ []
pushed trail last x whole fits len claims = ap (λ n. take n last.claims) len ∙ ap (take (trail.len + 1)) claims ∙ take_more_set trail.claims trail.len x (omega arith)

pub held_new : (first : Trail) (xs : List ℕ) (i : ℕ) (s v : ClaimSet) (trail last : Trail) → i < length xs → get_or xs i 0 < 256
    → member s.words (get_or xs i 0) ≡ false
    → ((y : ℕ) → member v.words y ≡ (member s.words y || eqb (get_or xs i 0) y))
    → length trail.claims ≡ 256 → last.len ≡ trail.len + 1 → last.claims ≡ set trail.claims trail.len (get_or xs i 0)
    → Held first xs i s trail → Held first xs (i + 1) v last
held_new first xs i s v trail last lt small new w whole len claims h =
    let t = grown (on first) (take i xs) in
    let x = get_or xs i 0 in
    let fits = place s.words (on trail) trail.len x h.stands small new in
    let there : has t x ≡ false = subst (λ v. has v x ≡ false) h.grew (sym (h.stands.same x) ∙ new) in
    let now_on : on last ≡ on trail ++ x ∷ [] = pushed trail last x whole fits len claims in
    record {
      stands = stands_like v.words (on trail ++ x ∷ []) (on last) (trail.len + 1) last.len now_on len (stands_push s.words v.words (on trail) trail.len x h.stands small new w);
      grew = now_on ∙ ap (λ l. l ++ x ∷ []) h.grew ∙ sym (cond-false (has t x) t (t ++ x ∷ []) there) ∙ sym (grown_push (on first) (take i xs) x) ∙ ap (grown (on first)) (sym (take_more xs i 0 lt));
      kept = ap (take first.len) claims ∙ take-set-le first.len trail.claims trail.len x h.more ∙ h.kept;
      more = omega (arith, h.more);
    }

-- the guard puts back what the calls under it left
pub back : (first added last end : Trail) → end.len ≡ first.len → end.claims ≡ last.claims → last.len ≡ added.len → on last ≡ on added → take first.len added.claims ≡ on first → first.len ≤ added.len → on end ≡ on first
back first added last end a b c d e h =
    ap (λ n. take n end.claims) a ∙ ap (take first.len) b
    ∙ sym (take-take first.len last.len last.claims (omega arith)) ∙ ap (take first.len) d ∙ take-take first.len added.len added.claims h ∙ e

pub back_none : (first added end : Trail) → end.len ≡ first.len → end.claims ≡ added.claims → take first.len added.claims ≡ on first → on end ≡ on first
back_none first added end a b e = ap (λ n. take n end.claims) a ∙ ap (take first.len) b ∙ e

pub stands_none : (ws : List ℕ) → ((x : ℕ) → member ws x ≡ false) → Stands ws [] 0
stands_none ws h = record { long = refl; counted = let r = room_none 256 in omega arith; fresh = fresh_none; same = h }
