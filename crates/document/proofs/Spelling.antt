-- A text is taken as a document exactly if it spells it.
use Rattle.std.proofs.Common.{◌≡◌, ℕ, suc, ◌<◌, List, [], ◌∷◌, ◌++◌, length, sym, refl, ap, ◌∙◌, subst, arith}
use Rattle.program.specs.Spellings.{NumberIn}
use Rattle.document.specs.Documents.{Document, WellFormed}
use Rattle.document.specs.Lines.{Declarations, nothing, document_of, Line, goal_line, ReadsAs}
use Rattle.document.specs.Declaring.{FineByFirst, AddsByFirst}
use Rattle.document.specs.Outcomes.{Outcome, taken}
use Rattle.document.specs.Coming.{ComesByFirst, declares, aims, LoadsByFirst, read}
use Rattle.document.specs.Spelled.{ReadLines, Declare, SpellsDocument, AcceptedExactly, OneDocument}
use Rattle.document.proofs.Documented.{refers_so}
use Rattle.document.proofs.Growing.{Sound, sound_nothing, sound_adds, Limits, limits_nothing, limits_adds, back}
use Rattle.document.proofs.OneOutcome.{no_two}

-- what the pieces say that are taken after these declarations
record Says (d : Declarations) (ps : List (List ℕ)) (e : Declarations) (goal : ℕ) : Type 0 where
  pub lines : List Line
  pub aim : List ℕ
  pub bytes : List (List ℕ)
  pub ended : ps ≡ bytes ++ [] ∷ []
  pub reads : ReadLines bytes (lines ++ goal_line aim ∷ [])
  pub declares : Declare d lines e
  pub aims : NumberIn e.form_names aim goal
  pub sound : Sound e
  pub limits : Limits e
  pub active : 0 < length e.acts

says : {d e : Declarations} {n goal : ℕ} {ps : List (List ℕ)} → Sound d → Limits d → ComesByFirst d n ps (taken e goal) → Says d ps e goal
says {d} s h (declares {e = m} {l = l} x r fine a c) =
    let t = says (sound_adds d m x s a) (limits_adds d m x s h fine a) c in
    record {
      lines = x ∷ t.lines;
      aim = t.aim;
      bytes = l ∷ t.bytes;
      ended = ap (λ v. l ∷ v) t.ended;
      reads = (r, t.reads);
      declares = (m, fine.well_named, a, t.declares);
      aims = t.aims;
      sound = t.sound;
      limits = t.limits;
      active = t.active;
    }
says s h (aims {l = l} f r fine i) =
    record { lines = []; aim = f; bytes = l ∷ []; ended = refl; reads = (r, tt); declares = refl; aims = i; sound = s; limits = h; active = fine.in_place }

well : (e : Declarations) (goal : ℕ) (aim : List ℕ) → Sound e → Limits e → 0 < length e.acts → NumberIn e.form_names aim goal → WellFormed (document_of e goal)
well e goal aim s h active i =
    record {
      active = active;
      few_acts = h.few_acts;
      few_props = h.few_props;
      few_progs = h.few_progs;
      few_forms = h.few_forms;
      short_progs = h.short;
      light = h.light;
      refers = λ k l. refers_so (document_of e goal) k _ (s.refers k l);
      aimed = omega (arith, i.0, s.same_forms);
    }

spelled_by : (text : List ℕ) (d : Document) (e : Declarations) (goal : ℕ) → LoadsByFirst text (taken e goal) → d ≡ document_of e goal → SpellsDocument text d
spelled_by text d e goal (read short c) is =
    let t = says sound_nothing limits_nothing c in
    let at : d.goal ≡ goal = ap (λ v. v.goal) is in
    record {
      lines = t.lines;
      aim = t.aim;
      declared = e;
      bytes = t.bytes;
      short = short;
      ended = t.ended;
      reads = t.reads;
      declares = t.declares;
      aims = subst (NumberIn e.form_names t.aim) (sym at) t.aims;
      is = is ∙ ap (document_of e) (sym at);
      well_formed = subst WellFormed (sym is) (well e goal t.aim t.sound t.limits t.active t.aims);
    }

-- the last line
ends : (d : Declarations) (bs : List (List ℕ)) (aim : List ℕ) (goal n : ℕ) → 0 < length d.acts → NumberIn d.form_names aim goal
    → ReadLines bs (goal_line aim ∷ []) → ComesByFirst d n (bs ++ [] ∷ []) (taken d goal)
ends d [] aim goal n active i r = absurd r
ends d (b ∷ []) aim goal n active i r = aims aim r.0 (record { spelled = λ c m. m; well_named = (tt, (goal, i)); within = tt; in_place = active }) i
ends d (b ∷ c ∷ bs) aim goal n active i r = absurd r.1

-- one line more in front
in_front : (d m : Declarations) (b : List ℕ) (bs : List (List ℕ)) (x : Line) (n : ℕ) (o : Outcome) → ReadsAs b x → FineByFirst d x → AddsByFirst d x m → ComesByFirst m (suc n) (bs ++ [] ∷ []) o
    → ComesByFirst d n (b ∷ (bs ++ [] ∷ [])) o
in_front d m b [] x n o r fine a c = declares x r fine a c
in_front d m b (l ∷ bs) x n o r fine a c = declares x r fine a c

comes : (xs : List Line) (d e : Declarations) (bs : List (List ℕ)) (aim : List ℕ) (goal : ℕ) → Sound d → Limits e → 0 < length e.acts → NumberIn e.form_names aim goal
    → ReadLines bs (xs ++ goal_line aim ∷ []) → Declare d xs e → Limits d × ((n : ℕ) → ComesByFirst d n (bs ++ [] ∷ []) (taken e goal))
comes [] d e bs aim goal s h active i r same = (
  subst Limits (sym same) h,
  λ n. subst (λ v. ComesByFirst d n (bs ++ [] ∷ []) (taken v goal)) same
      (ends d bs aim goal n (subst (λ v. 0 < length v.acts) (sym same) active) (subst (λ v. NumberIn v.form_names aim goal) (sym same) i) r),
)
comes (x ∷ xs) d e [] aim goal s h active i r t = absurd r
comes (x ∷ xs) d e (b ∷ bs) aim goal s h active i r t =
    let m = t.0 in
    let rest = comes xs m e bs aim goal (sound_adds d m x s t.2) h active i r.1 t.3 in
    let k = back d m x s t.1 t.2 rest.0 in
    (k.1, λ n. in_front d m b bs x n (taken e goal) r.0 k.0 t.2 (rest.1 (suc n)))

taken_as : (text : List ℕ) (d : Document) → SpellsDocument text d → (e : Declarations) × (goal : ℕ) × LoadsByFirst text (taken e goal) × (d ≡ document_of e goal)
taken_as text d t =
    let e = t.declared in
    let w : WellFormed (document_of e d.goal) = subst WellFormed t.is t.well_formed in
    let h : Limits e = record { few_acts = w.few_acts; few_props = w.few_props; few_progs = w.few_progs; few_forms = w.few_forms; short = w.short_progs; light = w.light } in
    let c = comes t.lines nothing e t.bytes t.aim d.goal sound_nothing h w.active t.aims t.reads t.declares in
    (e, d.goal, read t.short (subst (λ v. ComesByFirst nothing 1 v (taken e d.goal)) (sym t.ended) (c.1 1)), t.is)

pub accepted_exactly : AcceptedExactly
accepted_exactly text d = (λ t. spelled_by text d t.0 t.1 t.2 t.3, taken_as text d)

same_taken : {d e : Declarations} {g k : ℕ} → taken d g ≡ taken e k → document_of d g ≡ document_of e k
same_taken {d} {e} {g} {k} p = let a : d ≡ e = cc in let b : g ≡ k = cc in ap (λ v. document_of v g) a ∙ ap (document_of e) b

pub one_document : OneDocument
one_document text c d f g =
    let a = taken_as text c f in
    let b = taken_as text d g in
    a.3 ∙ same_taken (no_two text (taken a.0 a.1) (taken b.0 b.1) a.2 b.2) ∙ sym b.3
