-- The promise over every list of calls on an unused study.
use Rattle.std.specs.Prelude.{◌≡◌, ℕ, suc, ◌+◌, ◌*◌, ◌<◌, ◌≤◌, min, Bool, true, false, ◌⊎◌, List, [], ◌∷◌, length, Some, None, Option, slice_index_or}
use Rattle.document.specs.Documents.{Document}
use Rattle.lasso.specs.Readings.{Lasso, LassoOf, Meets}
use Rattle.system.specs.TransitionGraph.{TransitionGraph}
use Rattle.tableau.specs.Graphs.{Node, Tables, Lists, InGraph, Successor}
use Rattle.study.specs.Sessions.{Session}
use Rattle.study.specs.Calls.{Places, Study, Study.loaded, Event, Event.load, Event.grow, Event.decide, Event.examine, Event.judge, Event.audit, Event.wipe, Answer, Answer.refused, Answer.gave, Growth, Report.complete, Handed, Units, empty, History, Does}

-- the goal that a list of calls, newest first, leaves loaded
abbrev pub goal_after : List Event → Option Document
goal_after [] = None
goal_after (load x (gave d) ∷ es) = Some d
goal_after (load x (refused c) ∷ es) = None
goal_after (wipe ∷ es) = None
goal_after (grow b r ∷ es) = goal_after es
goal_after (decide w v r ∷ es) = goal_after es
goal_after (examine g law w v r ∷ es) = goal_after es
goal_after (judge h w r ∷ es) = goal_after es
goal_after (audit g law h w r ∷ es) = goal_after es

abbrev pub reported : Answer Growth → ℕ
reported (refused c) = 0
reported (gave g) = g.units

abbrev pub spent : ℕ → Answer Growth → ℕ
spent b (refused c) = 0
spent b (gave g) = b

-- what the grow calls since loading sum to
abbrev pub since : (ℕ → Answer Growth → ℕ) → List Event → ℕ
since f [] = 0
since f (load x r ∷ es) = 0
since f (wipe ∷ es) = 0
since f (grow b r ∷ es) = since f es + f b r
since f (decide w v r ∷ es) = since f es
since f (examine g law w v r ∷ es) = since f es
since f (judge h w r ∷ es) = since f es
since f (audit g law h w r ∷ es) = since f es

abbrev pub units_since : List Event → ℕ
units_since = since (λ b r. reported r)

abbrev pub budgets_since : List Event → ℕ
budgets_since = since spent

-- a lasso that decide wrote, or examine from this system, while the goal stays loaded
abbrev pub Wrote : List Event → Lasso → Type 0
Wrote [] l = ⊥
Wrote (load x r ∷ es) l = ⊥
Wrote (wipe ∷ es) l = ⊥
Wrote (grow b r ∷ es) l = Wrote es l
Wrote (decide w v r ∷ es) l = (r ≡ gave (Some l)) ⊎ Wrote es l
Wrote (examine g law w v r ∷ es) l = Wrote es l
Wrote (judge h w r ∷ es) l = Wrote es l
Wrote (audit g law h w r ∷ es) l = Wrote es l

abbrev pub WroteFrom : TransitionGraph → List Event → Lasso → Type 0
WroteFrom g [] l = ⊥
WroteFrom g (load x r ∷ es) l = ⊥
WroteFrom g (wipe ∷ es) l = ⊥
WroteFrom g (grow b r ∷ es) l = WroteFrom g es l
WroteFrom g (decide w v r ∷ es) l = WroteFrom g es l
WroteFrom g (examine h law w v r ∷ es) l = ((h ≡ g) × (r ≡ gave (Some l))) ⊎ WroteFrom g es l
WroteFrom g (judge h w r ∷ es) l = WroteFrom g es l
WroteFrom g (audit h law k w r ∷ es) l = WroteFrom g es l

-- found exactly when some lasso of any length is good
abbrev pub FoundExactly : Answer (Option Lasso) → (Lasso → Type 0) → Type 0
FoundExactly (refused c) P = Unit {0}
FoundExactly (gave (Some l)) P = P l
FoundExactly (gave None) P = (l : Lasso) → P l → ⊥

abbrev pub YesTo : Answer Bool → Type 0 → Type 0
YesTo (refused c) P = Unit {0}
YesTo (gave true) P = P
YesTo (gave false) P = P → ⊥

abbrev pub lasso_of : (h : Handed) → h.stem < length h.steps → Lasso
lasso_of h short = record { steps = h.steps; stem = h.stem; short = short }

abbrev pub handed : Lasso → Handed
handed l = record { steps = l.steps; stem = l.stem }

-- what the newest call of a history keeps, with the goal d loaded by the calls before it
abbrev pub Keeps : Document → List Event → Event → Type 0
Keeps d es (load x r) = Unit {0}
Keeps d es wipe = Unit {0}
Keeps d es (grow b r) = Unit {0}
Keeps d es (decide w v r) = FoundExactly r (λ l. LassoOf d l × Meets d l)
Keeps d es (examine g law w v r) = FoundExactly r (λ l. LassoOf d l × Meets d l × Session d g l)
Keeps d es (judge h w r) =
    ((short : h.stem < length h.steps) → YesTo r (LassoOf d (lasso_of h short) × Meets d (lasso_of h short)))
    × ((l : Lasso) → Wrote es l → h ≡ handed l → (r ≡ gave true) ⊎ ((w < 4 * length l.steps) × (r ≡ refused 9)))
Keeps d es (audit g law h w r) =
    ((short : h.stem < length h.steps) → YesTo r (LassoOf d (lasso_of h short) × Meets d (lasso_of h short) × Session d g (lasso_of h short)))
    × ((l : Lasso) → WroteFrom g es l → h ≡ handed l → (r ≡ gave true) ⊎ ((w < 4 * length l.steps) × (r ≡ refused 9)))

-- the nodes and edges of a goal's graph, each once
pub record GraphOf (d : Document) (t : Tables) : Type 0 where
  pub all_nodes : Lists t.nodes (InGraph d)
  pub all_edges : Lists t.edges (λ e. (z : Node) → (e.0 < length t.nodes) × (e.1 < length t.nodes) × Successor d (slice_index_or t.nodes e.0 z) (slice_index_or t.nodes e.1 z))

-- the sums of growing
pub record Sums (p : Places) (d : Document) (es : List Event) (s : Study) : Type 0 where
  pub fitting : (t : Tables) → GraphOf d t → length t.nodes ≤ p.nodes → length t.edges ≤ p.edges
      → units_since es ≡ min (suc (length t.nodes)) (budgets_since es)
  pub tables_hold : (u : Tables) × (s ≡ loaded d (units_since es) u) × Units d 0 (units_since es) empty u

abbrev pub CompleteExactly : Document → List Event → Event → Type 0
CompleteExactly d es (grow b (gave g)) = (t : Tables) → GraphOf d t
    → (g.report ≡ complete → units_since (grow b (gave g) ∷ es) ≡ suc (length t.nodes))
    × (units_since (grow b (gave g) ∷ es) ≡ suc (length t.nodes) → g.report ≡ complete)
CompleteExactly d es (grow b (refused c)) = Unit {0}
CompleteExactly d es (load x r) = Unit {0}
CompleteExactly d es (decide w v r) = Unit {0}
CompleteExactly d es (examine g law w v r) = Unit {0}
CompleteExactly d es (judge h w r) = Unit {0}
CompleteExactly d es (audit g law h w r) = Unit {0}
CompleteExactly d es wipe = Unit {0}

-- the promise: for every list of calls on an unused study
pub record Promise (p : Places) : Type 0 where
  pub verdicts : (es : List Event) (s t : Study) (e : Event) (d : Document) → History p es s → Does p s e t → goal_after es ≡ Some d → Keeps d es e
  pub sums : (es : List Event) (s : Study) (d : Document) → History p es s → goal_after es ≡ Some d → Sums p d es s
  pub complete_when : (es : List Event) (s t : Study) (e : Event) (d : Document) → History p es s → Does p s e t → goal_after es ≡ Some d → CompleteExactly d es e
