-- The operands of a form are bounded, as a test and as facts.
use Rattle.std.proofs.Common.{◌≡◌, ℕ, true, ◌&&◌, ltb, refl}
use Rattle.std.proofs.lemmas.Bool.{ltb-true, lt-ltb, and_parts, and_from}
use Rattle.document.specs.Forms.{Earlier, earlier}
use Rattle.document.specs.declared.form.Form.{Form}
use Rattle.document.specs.declared.form.Form.TheVariants.{True, Prop, Not, And, Or, Next, Until}

pub earlier_so : (props acts progs e : ℕ) (f : Form) → earlier props acts progs e f ≡ true → Earlier props acts progs e f
earlier_so props acts progs e True h = tt
earlier_so props acts progs e (Prop p) h = ltb-true p props h
earlier_so props acts progs e (Not f) h = ltb-true f e h
earlier_so props acts progs e (And f g) h = let p = and_parts (ltb f e) (ltb g e) h in (ltb-true f e p.0, ltb-true g e p.1)
earlier_so props acts progs e (Or f g) h = let p = and_parts (ltb f e) (ltb g e) h in (ltb-true f e p.0, ltb-true g e p.1)
earlier_so props acts progs e (Next a f) h = let p = and_parts (ltb a acts) (ltb f e) h in (ltb-true a acts p.0, ltb-true f e p.1)
earlier_so props acts progs e (Until f p g) h =
    let a = and_parts (ltb f e) (ltb p progs && ltb g e) h in
    let b = and_parts (ltb p progs) (ltb g e) a.1 in
    (ltb-true f e a.0, ltb-true p progs b.0, ltb-true g e b.1)

pub so_earlier : (props acts progs e : ℕ) (f : Form) → Earlier props acts progs e f → earlier props acts progs e f ≡ true
so_earlier props acts progs e True h = refl
so_earlier props acts progs e (Prop p) h = lt-ltb p props h
so_earlier props acts progs e (Not f) h = lt-ltb f e h
so_earlier props acts progs e (And f g) h = and_from (ltb f e) (ltb g e) (lt-ltb f e h.0) (lt-ltb g e h.1)
so_earlier props acts progs e (Or f g) h = and_from (ltb f e) (ltb g e) (lt-ltb f e h.0) (lt-ltb g e h.1)
so_earlier props acts progs e (Next a f) h = and_from (ltb a acts) (ltb f e) (lt-ltb a acts h.0) (lt-ltb f e h.1)
so_earlier props acts progs e (Until f p g) h =
    and_from (ltb f e) (ltb p progs && ltb g e) (lt-ltb f e h.0) (and_from (ltb p progs) (ltb g e) (lt-ltb p progs h.1) (lt-ltb g e h.2))
