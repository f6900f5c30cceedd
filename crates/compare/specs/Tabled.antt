-- The system that tables list, and what is answered to a question to it.
use Rattle.std.specs.Prelude.{◌≡◌, ℕ, ◌-◌, ◌^◌, ◌≤◌, vec_len, Bool, List, Result, Decides, IfOk}
use Rattle.document.specs.Documents.{Document, WellFormed}
use Rattle.document.specs.Represents.{Represents}
use Rattle.lasso.specs.Sessions.{MeetsSteps}
use Rattle.lasso.specs.declared.step.Step.{Step}
use Rattle.search.specs.Lasso.{NoLasso}
use Rattle.study.specs.Goals.{pairs}
use Rattle.study.specs.Served.{Loaded}
use Rattle.study.specs.Sessions.{SessionSteps}
use Rattle.study.specs.Standing.{stands}
use Rattle.study.specs.declared.refusal.Refusal.{Refusal}
use Rattle.study.specs.declared.study.Study.{Study}
use Rattle.system.specs.TransitionGraph.{TransitionGraph}
use Rattle.system.specs.Listed.{listed}
use Rattle.system.specs.Joint.{joint}
use Rattle.compare.specs.declared.answer.How.TheVariants as how
use Rattle.compare.specs.declared.answer.Settled.{Settled}
use Rattle.compare.specs.declared.fault.Fault.{Fault}
use Rattle.compare.specs.declared.tables.Table.{Table}
use Rattle.compare.specs.declared.tables.Tables.{Tables}
use Rattle.compare.specs.declared.tables.Tables.TheVariants.{One, Two, LeftFirst, RightFirst}

-- the graph that one table lists
abbrev pub table_graph : Table → TransitionGraph
table_graph t = listed t.rows.items t.records.items t.actions

-- the graph of all tables, put together as they are
abbrev pub tables_graph : Tables → TransitionGraph
tables_graph (One a) = table_graph a
tables_graph (Two a b) = joint (table_graph a) (table_graph b)
tables_graph (LeftFirst a b c) = joint (joint (table_graph a) (table_graph b)) (table_graph c)
tables_graph (RightFirst a b c) = joint (table_graph a) (joint (table_graph b) (table_graph c))

-- no more records and rows than a file may ask for
abbrev pub Limited : Table → Type 0
Limited t = (vec_len t.records ≤ 4194304) × (vec_len t.rows ≤ 4194304)

abbrev pub AllLimited : Tables → Type 0
AllLimited (One a) = Limited a
AllLimited (Two a b) = Limited a × Limited b
AllLimited (LeftFirst a b c) = Limited a × Limited b × Limited c
AllLimited (RightFirst a b c) = Limited a × Limited b × Limited c

-- yes exactly where the lasso meets the goal and is a session of the system
abbrev pub AuditSays : Study → List Step → ℕ → TransitionGraph → Result Bool Refusal → Type 0
AuditSays study steps stem g r =
    IfOk r
    (λ b. Loaded study.document
    (λ held. (d : Document) → Represents held d → WellFormed d
    → Decides b (MeetsSteps d steps stem × SessionSteps g (2 ^ held.declared.props.count - 1) steps stem)))

-- the places in use as the study has them, and none only where no path of the pairs is a lasso
abbrev pub ExamineSays : Study → TransitionGraph → Result Settled Fault → Type 0
ExamineSays study g r =
    IfOk r
    (λ s. (s.used ≡ study.grown.used) × (s.how ≡ how.None → Loaded study.document (λ d. NoLasso (pairs (stands study d) g))))
