-- What a value that may be missing says.
use Rattle.std.proofs.Common.{◌≡◌, ◌⊎◌, Option, Some, None, Result, Ok, Err, MatchResult, refl, inl, inr}
use Rattle.std.specs.Option.{option_map, ok_or}
use Rattle.std.proofs.lemmas.Option.{same_Some}

pub some_or_none : {A : Type 0} (o : Option A) → ((x : A) × (o ≡ Some x)) ⊎ (o ≡ None)
some_or_none None = inr refl
some_or_none (Some x) = inl (x, refl)

pub mapped : {A B : Type 0} (f : A → B) (o : Option A) (y : B) → option_map f o ≡ Some y → (x : A) × (o ≡ Some x) × (f x ≡ y)
mapped f None y e = absurd (cc)
mapped f (Some x) y e = (x, refl, same_Some _ _ e)

pub unmapped : {A B : Type 0} (f : A → B) (o : Option A) → option_map f o ≡ None → o ≡ None
unmapped f None e = refl
unmapped f (Some x) e = absurd (cc)

-- where `ok_or` gives an error there was nothing
pub nothing : {A E : Type 0} (o : Option A) (e f : E) → Err f ≡ ok_or o e → (o ≡ None) × (f ≡ e)
nothing None e f h = (refl, cc)
nothing (Some x) e f h = absurd (cc)

-- one of two cases, where the other does not hold
pub must_err : {A E : Type 0} (P : A → Type 0) (Q : E → Type 0) (r : Result A E) → MatchResult r P Q → ((x : A) → P x → ⊥) → (e : E) × (r ≡ Err e) × Q e
must_err P Q (Ok x) h no' = absurd (no' x h)
must_err P Q (Err e) h no' = (e, refl, h)

pub must_ok : {A E : Type 0} (P : A → Type 0) (Q : E → Type 0) (r : Result A E) → MatchResult r P Q → ((e : E) → Q e → ⊥) → (x : A) × (r ≡ Ok x) × P x
must_ok P Q (Ok x) h no' = (x, refl, h)
must_ok P Q (Err e) h no' = absurd (no' e h)
