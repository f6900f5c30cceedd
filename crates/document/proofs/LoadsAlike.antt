-- A text has the same outcome by the places of names as by their first places.
use Rattle.std.proofs.Common.{ℕ, List}
use Rattle.document.specs.Lines.{Declarations, goal_line}
use Rattle.document.specs.Outcomes.{Outcome, HasOneOutcome}
use Rattle.document.specs.Outcomes as place
use Rattle.document.specs.Coming as first
use Rattle.document.specs.LoadsAlike.{LoadsAlike}
use Rattle.document.proofs.Deciding.{one_outcome}
use Rattle.document.proofs.LinesAlike.{AllApart, nothing_apart, more_apart, adds_to, adds_from, fine_to, fine_from, faulty_to, faulty_from, goal_to, goal_from}

comes_to : {d : Declarations} {n : ℕ} {ls : List (List ℕ)} {o : Outcome} → AllApart d → place.Comes d n ls o → first.ComesByFirst d n ls o
comes_to a place.no_goal = first.no_goal
comes_to a place.unended = first.unended
comes_to {d} a (place.faulty f) = first.faulty (faulty_to d a f)
comes_to {d} a (place.declares {e = e} x r f s c) =
    let fine = fine_to d x a f in
    let adds = adds_to d x e a s in
    first.declares x r fine adds (comes_to (more_apart d e x a fine.well_named.0 adds) c)
comes_to {d} a (place.aims {goal = goal} f r g i) = first.aims f r (fine_to d (goal_line f) a g) (goal_to d f goal a i)
comes_to {d} a (place.line_after f r g ne) = first.line_after f r (fine_to d (goal_line f) a g) ne

comes_from : {d : Declarations} {n : ℕ} {ls : List (List ℕ)} {o : Outcome} → AllApart d → first.ComesByFirst d n ls o → place.Comes d n ls o
comes_from a first.no_goal = place.no_goal
comes_from a first.unended = place.unended
comes_from {d} a (first.faulty f) = place.faulty (faulty_from d a f)
comes_from {d} a (first.declares {e = e} x r f s c) =
    place.declares x r (fine_from d x a f) (adds_from d x e s) (comes_from (more_apart d e x a f.well_named.0 s) c)
comes_from {d} a (first.aims {goal = goal} f r g i) = place.aims f r (fine_from d (goal_line f) a g) (goal_from d f goal i)
comes_from {d} a (first.line_after f r g ne) = place.line_after f r (fine_from d (goal_line f) a g) ne

loads_to : (text : List ℕ) (o : Outcome) → place.Loads text o → first.LoadsByFirst text o
loads_to text o (place.too_long h) = first.too_long h
loads_to text o (place.read h c) = first.read h (comes_to nothing_apart c)

loads_from : (text : List ℕ) (o : Outcome) → first.LoadsByFirst text o → place.Loads text o
loads_from text o (first.too_long h) = place.too_long h
loads_from text o (first.read h c) = place.read h (comes_from nothing_apart c)

pub loads_alike : LoadsAlike
loads_alike text o = (loads_to text o, loads_from text o)

pub one_outcome_by_place : HasOneOutcome
one_outcome_by_place text =
    let s = one_outcome text in (s.0, loads_from text s.0 s.1, λ q h. s.2 q (loads_to text q h))
