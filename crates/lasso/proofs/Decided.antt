-- Truth on a lasso is decided.
use Rattle.std.proofs.Common.{ℕ, suc, ◌+◌, ◌<◌, true, length, get_or, sym, ap, arith}
use mathlib.Core.Bool.{Bool-discrete}
use mathlib.Core.Logic.Dec
use native.Mathlib.Decide.{map_dec, ℕ_discrete}
use Rattle.program.specs.Words.{Program}
use Rattle.program.specs.Automata.{Accepts, names}
use Rattle.program.proofs.States.{dec_or, dec_accepts, leads_to}
use Rattle.document.specs.Formulas.{Formula, truth, prop, not, and, or, next, until}
use Rattle.lasso.specs.Readings.{Reading, actions, Truth, Lasso, place, read, blank_moment}
use Rattle.lasso.specs.TruthLaws.{TruthDecided}
use Rattle.lasso.specs.Untils.{UntilFrom}
use Rattle.lasso.proofs.Alike.{Alike, alike_sym, same_steps, carry_until}
use Rattle.lasso.proofs.Finite.{dec_all, dec_reach}
use Rattle.lasso.proofs.Places.{place_inside, place_on}
use Rattle.lasso.proofs.Rests.{Rest, rest_more, rest_step, until_from_start}

pub dec_rest : (s : Reading) (f : Formula) (p : Program) (g : Formula) → ((i : ℕ) → Dec (Truth s i f)) → ((i : ℕ) → Dec (Truth s i g))
    → (m i q : ℕ) → Dec (Rest s f p g m i q)
dec_rest s f p g dec-f dec-g m i q =
    map_dec (λ h. (h.0, h.1.0, h.1.1)) (λ h. (h.0, (h.1, h.2)))
    (Dec.and (dec_accepts p q (actions s i m)) (Dec.and (dec-g (i + m)) (dec_all (λ k. dec-f (i + k)) m)))

-- reading on from a step is reading on from its place
pub alike_place : (l : Lasso) (i : ℕ) → Alike (read blank_moment l) i (read blank_moment l) (place l i)
alike_place l i =
    same_steps (read blank_moment l) i (read blank_moment l) (place l i)
    (λ k. ap (λ (x : ℕ). get_or l.steps x blank_moment) (sym (place_on (length l.steps) l.stem l.short i k)))

pub until_decided : (l : Lasso) (p : Program) (f g : Formula)
    → ((i : ℕ) → Dec (Truth (read blank_moment l) i f)) → ((i : ℕ) → Dec (Truth (read blank_moment l) i g))
    → (q i : ℕ) → Dec (UntilFrom (read blank_moment l) i f p q g)
until_decided l p f g dec-f dec-g q i =
    map_dec (λ h. (h.0, h.1.0, h.1.1, h.1.2)) (λ h. (h.0, (h.1, h.2, h.3)))
    (dec_reach (Rest s f p g) (dec_rest s f p g dec-f dec-g) (length l.steps) (1 + length (names p) + q) kind peel i q (omega arith))
  where
    s : Reading
    s = read blank_moment l

    kind : (i : ℕ) → (j : ℕ) × (j < length l.steps) × ((m q : ℕ) → Rest s f p g m i q → Rest s f p g m j q) × ((m q : ℕ) → Rest s f p g m j q → Rest s f p g m i q)
    kind i =
        let a = alike_place l i in (
          place l i,
          place_inside (length l.steps) l.stem l.short i,
          λ m q. carry_until (Accepts p q) f g s s i (place l i) a m,
          λ m q. carry_until (Accepts p q) f g s s (place l i) i (alike_sym s s i (place l i) a) m,
        )

    peel : (m i r : ℕ) → Rest s f p g (suc m) i r
        → (t : ℕ) × (t < 1 + length (names p) + q) × Rest s f p g m (suc i) t × ((k : ℕ) → Rest s f p g k (suc i) t → Rest s f p g (suc k) i r)
    peel m i r h =
        let (t, here, lead, w) = rest_step s f p g m i r h in
        (t, omega (arith, (leads_to p r (s i).action t lead).1), w, λ k. rest_more s f p g k i r t here lead)

pub truth_decided : TruthDecided
truth_decided l i truth = yes tt
truth_decided l i (prop p) = Bool-discrete ((read blank_moment l i).marks p) true
truth_decided l i (not f) = Dec.not (truth_decided l i f)
truth_decided l i (and f g) = Dec.and (truth_decided l i f) (truth_decided l i g)
truth_decided l i (or f g) = dec_or (truth_decided l i f) (truth_decided l i g)
truth_decided l i (next a f) = Dec.and (ℕ_discrete (read blank_moment l i).action a) (truth_decided l (suc i) f)
truth_decided l i (until f p g) =
    Dec.of_iff (until_from_start (read blank_moment l) f p g i) (until_decided l p f g (λ j. truth_decided l j f) (λ j. truth_decided l j g) 0 i)
