-- Where the automaton of an until leads, and how many states it has.
use Rattle.std.proofs.Common.{◌≡◌, ℕ, zero, suc, ◌<◌, ◌≤◌, true, false, length, refl, arith}
use Rattle.std.proofs.lemmas.Bool.{both_ways}
use Rattle.program.specs.Words.{Program}
use Rattle.program.specs.Automata.{names, Leads}
use Rattle.program.proofs.Glushkov.{first_in, follow_in}
use Rattle.document.specs.Documents.{Document, WellFormed, Refers, form_at}
use Rattle.document.specs.declared.form.Form.{Form}
use Rattle.document.specs.declared.form.Form.TheVariants.{True, Prop, Not, And, Or, Next, Until}
use Rattle.tableau.specs.Graphs.{program_of}
use Rattle.tableau.specs.Numbers.{is_until, states, StateOf}

-- a target is a state
pub leads_in : (p : Program) (q c n : ℕ) → Leads p q c n → n < suc (length (names p))
leads_in p zero c n h = omega (arith, (first_in p 1 n h.0).1)
leads_in p (suc q) c n h = omega (arith, (follow_in p 1 (suc q) n h.0).1.1)

pub target_state : (d : Document) (e q c n : ℕ) → StateOf d e q → Leads (program_of d (form_at d e)) q c n → StateOf d e n
target_state d e q c n s h = record { there = s.there; fated = s.fated; known = leads_in (program_of d (form_at d e)) q c n h }

-- an until has at most sixteen states
pub few_states : (d : Document) (e : ℕ) → WellFormed d → e < length d.forms → is_until (form_at d e) ≡ true → states d e ≤ 16
few_states d e good lt u = go (form_at d e) u (good.refers e lt)
  where
    go : (f : Form) → is_until f ≡ true → Refers d e f → suc (length (names (program_of d f))) ≤ 16
    go True u r = absurd (both_ways false refl u)
    go (Prop p) u r = absurd (both_ways false refl u)
    go (Not f) u r = absurd (both_ways false refl u)
    go (And f g) u r = absurd (both_ways false refl u)
    go (Or f g) u r = absurd (both_ways false refl u)
    go (Next a f) u r = absurd (both_ways false refl u)
    go (Until f p g) u r = omega (arith, good.short_progs p r.1)
