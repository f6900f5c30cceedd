-- How a line's fault is handed on, and names that are new or known.
use Rattle.std.proofs.Common.{◌≡◌, ℕ, List, IsErrAnd, Err, Result, sym, ap, ◌∙◌, subst, MatchResult}
use Rattle.std.proofs.lemmas.Result.{err_from_is_err_and}
use Rattle.program.specs.Spellings.{Missing}
use Rattle.document.specs.Faults.{line_fault_code, line_fault_column}
use Rattle.document.specs.Lines.{Declarations}
use Rattle.document.specs.Declaring.{KnownName, FaultyByFirst}
use Rattle.document.specs.declared.fault.LineFault.{LineFault}

-- the exit of a `?`, where the fault is known
pub refused : {X : Type 0} (P : X → Type 0) (d : Declarations) (bytes : List ℕ) (r : Result X LineFault) (f g : LineFault)
    → IsErrAnd r (λ y. y ≡ f) → f ≡ g → FaultyByFirst d bytes (line_fault_code g) (line_fault_column g) → MatchResult r P (λ y. FaultyByFirst d bytes (line_fault_code y) (line_fault_column y))
refused P d bytes r f g e is h =
    let p = err_from_is_err_and r e in
    subst (λ v. MatchResult v P (λ y. FaultyByFirst d bytes (line_fault_code y) (line_fault_column y))) (sym (p.1 ∙ ap Err (p.2 ∙ is))) h

-- what is said of names and bytes holds of those that they are
pub at_both : (P : List (List ℕ) → List ℕ → Type 0) {ns ms : List (List ℕ)} {a b : List ℕ} → ns ≡ ms → a ≡ b → P ns a → P ms b
at_both P {ns = ns} {b = b} e f h = subst (λ v. P v b) e (subst (P ns) f h)

-- a name is not both new and known
pub not_both : (names : List (List ℕ)) (n : List ℕ) → Missing names n → KnownName names n → ⊥
not_both names n m k = m k.0 k.1.0 k.1.1
