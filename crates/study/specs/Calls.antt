-- What each call does, as a relation of what was handed over, the study before and after, and the answer.
use Rattle.std.specs.Prelude.{◌≡◌, ℕ, zero, suc, ◌+◌, ◌*◌, ◌<◌, ◌≤◌, Bool, true, false, ◌⊎◌, List, [], ◌∷◌, length, Some, None, Option}
use Rattle.document.specs.Documents.{Document}
use Rattle.document.specs.Lines.{Declarations, document_of}
use Rattle.document.specs.Outcomes as outcomes
use Rattle.document.specs.Outcomes.{Loads}
use Rattle.lasso.specs.Readings.{Moment, Lasso, LassoOf, Meets}
use Rattle.system.specs.TransitionGraph.{TransitionGraph, Lawful}
use Rattle.tableau.specs.Graphs.{FirstNode, Lists, Tables, Opens}
use Rattle.study.specs.Sessions.{Session}

-- the places of the two tables, counted up to their limits
pub record Places : Type 0 where
  pub nodes : ℕ
  pub edges : ℕ
  pub few_nodes : nodes ≤ 4096
  pub few_edges : edges ≤ 65536

-- a study as a caller knows it: blank, or a document with the units worked since loading and the tables in use
pub data Study : Type 0 where
  blank : Study
  loaded : Document → ℕ → Tables → Study

abbrev pub empty : Tables
empty = record { nodes = []; edges = [] }

pub data Report : Type 0 where
  complete full more : Report

pub record Growth : Type 0 where
  pub units : ℕ
  pub report : Report

-- a refusal by its code, or an answer
pub data Answer (A : Type 0) : Type 0 where
  refused : ℕ → Answer A
  gave : A → Answer A

-- unit number k, counted from 0: the first enters the first nodes, each other opens a node
abbrev pub UnitOf : Document → ℕ → Tables → Tables → Type 0
UnitOf d zero t u = (t ≡ empty) × Lists u.nodes (FirstNode d) × (u.edges ≡ [])
UnitOf d (suc k) t u = Opens d k t u

-- units k, k + 1, .., one after another
pub data Units (d : Document) : ℕ → ℕ → Tables → Tables → Type 0 where
  none : {k : ℕ} {t : Tables} → Units d k 0 t t
  one_more : {k n : ℕ} {t u v : Tables} → Units d k n t u → UnitOf d (k + n) u v → Units d k (suc n) t v

abbrev pub Fits : Places → Tables → Type 0
Fits p t = (length t.nodes ≤ p.nodes) × (length t.edges ≤ p.edges)

-- no unit is left after k
abbrev pub NoneLeft : ℕ → Tables → Type 0
NoneLeft k t = k ≡ suc (length t.nodes)

abbrev pub Reports : Places → Document → ℕ → Tables → ℕ → Growth → Type 0
Reports p d k u b g = elim g.report [
  | complete ↦ NoneLeft k u
  | full ↦ (NoneLeft k u → ⊥) × (g.units < b) × ((v : Tables) → UnitOf d k u v → Fits p v → ⊥)
  | more ↦ (NoneLeft k u → ⊥) × (g.units ≡ b)
]

pub record Grows (p : Places) (d : Document) (k : ℕ) (t : Tables) (b : ℕ) (g : Growth) (u : Tables) : Type 0 where
  pub worked : Units d k g.units t u
  pub within : g.units ≤ b
  pub fits : Fits p u
  pub reports : Reports p d (k + g.units) u b g

abbrev pub DoesGrow : Places → Study → ℕ → Answer Growth → Study → Type 0
DoesGrow p blank b r s = (r ≡ refused 7) × (s ≡ blank)
DoesGrow p (loaded d k t) b r s = (g : Growth) × (u : Tables) × (r ≡ gave g) × (s ≡ loaded d (k + g.units) u) × Grows p d k t b g u

abbrev pub Decides : (Lasso → Type 0) → ℕ → Answer (Option Lasso) → Type 0
Decides P pairs (refused c) = ⊥
Decides P pairs (gave (Some l)) = P l × (length l.steps ≤ 2 * pairs)
Decides P pairs (gave None) = (l : Lasso) → P l → ⊥

-- decide, with w work places and v step places
abbrev pub DoesDecide : Study → ℕ → ℕ → Answer (Option Lasso) → Type 0
DoesDecide blank w v r = r ≡ refused 7
DoesDecide (loaded d k t) w v r =
    ((NoneLeft k t → ⊥) × (r ≡ refused 8))
    ⊎ (NoneLeft k t × ((w < 4 * length t.nodes) ⊎ (v < 2 * length t.nodes)) × (r ≡ refused 9))
    ⊎ (NoneLeft k t × (4 * length t.nodes ≤ w) × (2 * length t.nodes ≤ v)
    × Decides (λ l. LassoOf d l × Meets d l) (length t.nodes) r)

-- examine, of a system
abbrev pub DoesExamine : Study → TransitionGraph → ℕ → ℕ → Answer (Option Lasso) → Type 0
DoesExamine blank g w v r = r ≡ refused 7
DoesExamine (loaded d k t) g w v r =
    ((NoneLeft k t → ⊥) × (r ≡ refused 8))
    ⊎ (NoneLeft k t × (g.count ≡ 0) × (r ≡ refused 11))
    ⊎ (NoneLeft k t × (0 < g.count) × (65536 < length t.nodes * g.count) × (r ≡ refused 10))
    ⊎ (NoneLeft k t × (0 < g.count) × (length t.nodes * g.count ≤ 65536)
    × ((w < 4 * (length t.nodes * g.count)) ⊎ (v < 2 * (length t.nodes * g.count))) × (r ≡ refused 9))
    ⊎ (NoneLeft k t × (0 < g.count) × (length t.nodes * g.count ≤ 65536)
    × (4 * (length t.nodes * g.count) ≤ w) × (2 * (length t.nodes * g.count) ≤ v)
    × Decides (λ l. LassoOf d l × Meets d l × Session d g l) (length t.nodes * g.count) r)

abbrev pub YesExactly : Type 0 → Answer Bool → Type 0
YesExactly P (refused c) = ⊥
YesExactly P (gave true) = P
YesExactly P (gave false) = P → ⊥

-- a list of steps and a stem, as a caller hands them over; it need not be a lasso
pub record Handed : Type 0 where
  pub steps : List Moment
  pub stem : ℕ

abbrev pub Served : Document → Handed → Type 0
Served d h = (short : h.stem < length h.steps) × (length h.steps ≤ 131072) × LassoOf d (record { steps = h.steps; stem = h.stem; short = short })

abbrev pub DoesJudge : Study → Handed → ℕ → Answer Bool → Type 0
DoesJudge blank h w r = r ≡ refused 7
DoesJudge (loaded d k t) h w r =
    ((Served d h → ⊥) × (r ≡ refused 12))
    ⊎ (Served d h × (w < 4 * length h.steps) × (r ≡ refused 9))
    ⊎ ((y : Served d h) × (4 * length h.steps ≤ w)
    × YesExactly (Meets d (record { steps = h.steps; stem = h.stem; short = y.0 })) r)

abbrev pub DoesAudit : Study → TransitionGraph → Handed → ℕ → Answer Bool → Type 0
DoesAudit blank g h w r = r ≡ refused 7
DoesAudit (loaded d k t) g h w r =
    ((Served d h → ⊥) × (r ≡ refused 12))
    ⊎ (Served d h × (g.count ≡ 0) × (r ≡ refused 11))
    ⊎ (Served d h × (0 < g.count) × (w < 4 * length h.steps) × (r ≡ refused 9))
    ⊎ ((y : Served d h) × (0 < g.count) × (4 * length h.steps ≤ w)
    × YesExactly (Meets d (record { steps = h.steps; stem = h.stem; short = y.0 }) × Session d g (record { steps = h.steps; stem = h.stem; short = y.0 })) r)

-- a call with what it was handed and what it answered
pub data Event : Type 0 where
  load : List ℕ → Answer Document → Event
  grow : ℕ → Answer Growth → Event
  decide : ℕ → ℕ → Answer (Option Lasso) → Event
  examine : (g : TransitionGraph) → Lawful g → ℕ → ℕ → Answer (Option Lasso) → Event
  judge : Handed → ℕ → Answer Bool → Event
  audit : (g : TransitionGraph) → Lawful g → Handed → ℕ → Answer Bool → Event
  wipe : Event

abbrev pub after_load : Answer Document → Study
after_load (refused c) = blank
after_load (gave d) = loaded d 0 empty

-- load answers what comes of the text
abbrev pub DoesLoad : List ℕ → Answer Document → Type 0
DoesLoad text (refused c) = (line : ℕ) × (column : ℕ) × Loads text (outcomes.refused c line column)
DoesLoad text (gave d) = (e : Declarations) × (goal : ℕ) × Loads text (outcomes.taken e goal) × (d ≡ document_of e goal)

abbrev pub Does : Places → Study → Event → Study → Type 0
Does p s (load text r) t = DoesLoad text r × (t ≡ after_load r)
Does p s (grow b r) t = DoesGrow p s b r t
Does p s (decide w v r) t = DoesDecide s w v r × (t ≡ s)
Does p s (examine g law w v r) t = DoesExamine s g w v r × (t ≡ s)
Does p s (judge h w r) t = DoesJudge s h w r × (t ≡ s)
Does p s (audit g law h w r) t = DoesAudit s g h w r × (t ≡ s)
Does p s wipe t = t ≡ blank

-- a list of calls, the newest first, on an unused study, and the study that they leave
pub data History (p : Places) : List Event → Study → Type 0 where
  unused : History p [] blank
  called : {es : List Event} {s t : Study} (e : Event) → History p es s → Does p s e t → History p (e ∷ es) t
