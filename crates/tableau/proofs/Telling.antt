-- Masks of what a set of claims tells, form by form.
use Rattle.std.proofs.Common.{◌≡◌, ℕ, zero, suc, ◌+◌, ◌*◌, ◌%◌, ◌^◌, ◌<◌, Bool, ◌↔◌, sym, refl, ap, ◌∙◌, subst, inl, inr, mod-eq_of_lt, one-mul, arith}
use lib.Bits.{bit_and, bit_or}
use lib.Pow.{pow-lt}
use Rattle.std.proofs.lemmas.Bool.{cases_order}
use Rattle.program.specs.Masks.{Bit}
use Rattle.program.proofs.Bits.{bit_of_or, bit_of_and, bit_one}
use Rattle.document.specs.Documents.{Document, form_at}
use Rattle.document.specs.declared.form.Form.{Form}
use Rattle.document.specs.declared.form.Form.TheVariants.{Next, Prop}
use Rattle.tableau.specs.Claims.{member}
use Rattle.tableau.specs.Graphs.{Sign, Sign.T, Claim, form}
use Rattle.tableau.specs.Numbers.{Shows, ClaimOf, number_of}
use Rattle.tableau.specs.Successions.{Claims}
use Rattle.tableau.specs.declared.told.Told.{Told}
use Rattle.tableau.proofs.Clashing.{same_prop}

-- what a set tells of a claim, by another name for the set
pub of_told : {d : Document} {t u : Told} (k : Claim) {r : Bool} → t ≡ u → (Shows t.declared.now d → ClaimOf d k → r ≡ member t.set.words (number_of d k))
    → Shows u.declared.now d → ClaimOf d k → r ≡ member u.set.words (number_of d k)
of_told {d} k {r} is read = subst (λ (v : Told). Shows v.declared.now d → ClaimOf d k → r ≡ member v.set.words (number_of d k)) is read

-- a bit as the code shifts it
shifted : (k : ℕ) → k < 16 → 1 * 2 ^ k % 65536 ≡ 2 ^ k
shifted k h = let l : 2 ^ k < 2 ^ 16 = pow-lt h in ap (λ n. n % 65536) (one-mul (2 ^ k)) ∙ mod-eq_of_lt l

-- the action clashes with no claim T next of the first e forms
abbrev pub AllowedBelow : Document → (ℕ → Bool) → ℕ → ℕ → Type 0
AllowedBelow d N e a = (h : ℕ) → h < e → (b f : ℕ) → Claims d N (form T h) → form_at d h ≡ Next b f → b ≡ a

same_next : (f : Form) (a b g h : ℕ) → f ≡ Next a g → f ≡ Next b h → a ≡ b
same_next f a b g h p q = cc

-- the next form bars no action
pub allow_same : (d : Document) (N : ℕ → Bool) (e a m n : ℕ) → n ≡ m → Bit m a ↔ AllowedBelow d N e a → ((b f : ℕ) → Claims d N (form T e) → form_at d e ≡ Next b f → ⊥) → Bit n a ↔ AllowedBelow d N (e + 1) a
allow_same d N e a m n same now none = (
  λ bit h l b f k is. elim (cases_order h e) [
    | inl q ↦ absurd (none b f (subst (λ v. Claims d N (form T v)) q k) (subst (λ v. form_at d v ≡ Next b f) q is))
    | inr (inl q) ↦ now.0 (subst (λ v. Bit v a) same bit) h q b f k is
    | inr (inr q) ↦ absurd (omega arith)
  ],
  λ all. subst (λ v. Bit v a) (sym same) (now.1 (λ h l. all h (omega arith))),
)

-- the next form bars all actions but one
pub allow_one : (d : Document) (N : ℕ → Bool) (e a m n b f : ℕ) → n ≡ bit_and m (1 * 2 ^ b % 65536) → b < 16 → form_at d e ≡ Next b f → Claims d N (form T e) → Bit m a ↔ AllowedBelow d N e a → Bit n a ↔ AllowedBelow d N (e + 1) a
allow_one d N e a m n b f same low next claimed now =
    let both = bit_of_and m (2 ^ b) a in
    let is : n ≡ bit_and m (2 ^ b) = same ∙ ap (bit_and m) (shifted b low) in (
      λ bit h l c g k at. let parts = both.0 (subst (λ v. Bit v a) is bit) in
          elim (cases_order h e) [
            | inl q ↦ same_next (form_at d e) c b g f (subst (λ v. form_at d v ≡ Next c g) q at) next ∙ sym ((bit_one b a).0 parts.1)
            | inr (inl q) ↦ now.0 parts.0 h q c g k at
            | inr (inr q) ↦ absurd (omega arith)
          ],
      λ all. subst (λ v. Bit v a) (sym is) (both.1 (now.1 (λ h l. all h (omega arith)), (bit_one b a).1 (sym (all e (omega arith) b f claimed next)))),
    )

-- the first e forms claim the proposition with this sign
abbrev pub ToldBelow : Document → (ℕ → Bool) → Sign → ℕ → ℕ → Type 0
ToldBelow d N s e p = (h : ℕ) × (h < e) × Claims d N (form s h) × (form_at d h ≡ Prop p)

pub tell_same : (d : Document) (N : ℕ → Bool) (s : Sign) (e p m n : ℕ) → n ≡ m → Bit m p ↔ ToldBelow d N s e p → (Claims d N (form s e) → form_at d e ≡ Prop p → ⊥) → Bit n p ↔ ToldBelow d N s (e + 1) p
tell_same d N s e p m n same now none = (
  λ bit. let t = now.0 (subst (λ v. Bit v p) same bit) in let l = t.1 in (t.0, omega arith, t.2, t.3),
  λ t. elim (cases_order t.0 e) [
    | inl q ↦ absurd (none (subst (λ v. Claims d N (form s v)) q t.2) (subst (λ v. form_at d v ≡ Prop p) q t.3))
    | inr (inl q) ↦ subst (λ v. Bit v p) (sym same) (now.1 (t.0, q, t.2, t.3))
    | inr (inr q) ↦ absurd (let l = t.1 in omega arith)
  ],
)

pub tell_one : (d : Document) (N : ℕ → Bool) (s : Sign) (e p m n b : ℕ) → n ≡ bit_or m (1 * 2 ^ b % 65536) → b < 16 → form_at d e ≡ Prop b → Claims d N (form s e) → Bit m p ↔ ToldBelow d N s e p → Bit n p ↔ ToldBelow d N s (e + 1) p
tell_one d N s e p m n b same low at claimed now =
    let either = bit_of_or m (2 ^ b) p in
    let is : n ≡ bit_or m (2 ^ b) = same ∙ ap (bit_or m) (shifted b low) in (
      λ bit. elim (either.0 (subst (λ v. Bit v p) is bit)) [
        | inl h ↦ let t = now.0 h in let l = t.1 in (t.0, omega arith, t.2, t.3)
        | inr h ↦ (e, omega arith, claimed, at ∙ ap Prop (sym ((bit_one b p).0 h)))
      ],
      λ t. subst (λ v. Bit v p) (sym is) (either.1 (elim (cases_order t.0 e) [
        | inl q ↦ inr ((bit_one b p).1 (same_prop (form_at d e) p b (subst (λ v. form_at d v ≡ Prop p) q t.3) at))
        | inr (inl q) ↦ inl (now.1 (t.0, q, t.2, t.3))
        | inr (inr q) ↦ absurd (let l = t.1 in omega arith)
      ])),
    )

-- sixteen ones
pub all_ones : (a : ℕ) → a < 16 → Bit 65535 a
all_ones zero h = refl
all_ones (suc zero) h = refl
all_ones (suc (suc zero)) h = refl
all_ones (suc (suc (suc zero))) h = refl
all_ones (suc (suc (suc (suc zero)))) h = refl
all_ones (suc (suc (suc (suc (suc zero))))) h = refl
all_ones (suc (suc (suc (suc (suc (suc zero)))))) h = refl
all_ones (suc (suc (suc (suc (suc (suc (suc zero))))))) h = refl
all_ones (suc (suc (suc (suc (suc (suc (suc (suc zero)))))))) h = refl
all_ones (suc (suc (suc (suc (suc (suc (suc (suc (suc zero))))))))) h = refl
all_ones (suc (suc (suc (suc (suc (suc (suc (suc (suc (suc zero)))))))))) h = refl
all_ones (suc (suc (suc (suc (suc (suc (suc (suc (suc (suc (suc zero))))))))))) h = refl
all_ones (suc (suc (suc (suc (suc (suc (suc (suc (suc (suc (suc (suc zero)))))))))))) h = refl
all_ones (suc (suc (suc (suc (suc (suc (suc (suc (suc (suc (suc (suc (suc zero))))))))))))) h = refl
all_ones (suc (suc (suc (suc (suc (suc (suc (suc (suc (suc (suc (suc (suc (suc zero)))))))))))))) h = refl
all_ones (suc (suc (suc (suc (suc (suc (suc (suc (suc (suc (suc (suc (suc (suc (suc zero))))))))))))))) h = refl
all_ones (suc (suc (suc (suc (suc (suc (suc (suc (suc (suc (suc (suc (suc (suc (suc (suc a)))))))))))))))) h = absurd (omega arith)
