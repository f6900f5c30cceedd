-- A factor is an atom and its stars.
use Rattle.std.proofs.Common.{◌≡◌, ℕ, zero, suc, List, [], ◌∷◌, ◌++◌, replicate, sym, refl, ap, ◌∙◌, add-one}
use Rattle.std.proofs.lemmas.List.{append_assoc, append-nil, replicate_more}
use Rattle.program.specs.Reading.{Atom, word, inner}
use Rattle.program.specs.Text.{Tree, leaf, repeat, factor, Spells, named, group, star as starred}
use Rattle.program.specs.Words.{Program, star}

-- a part with so many stars
abbrev pub trees : ℕ → Tree → Tree
trees zero t = t
trees (suc k) t = repeat (trees k t)

abbrev pub stars : ℕ → Program → Program
stars zero p = p
stars (suc k) p = star (stars k p)

pub record Unstarred (d : ℕ) (bs : List ℕ) (t : Tree) : Type 0 where
  pub base : List ℕ
  pub count : ℕ
  pub tree : Tree
  pub atom : Atom d base tree
  pub bytes : bs ≡ base ++ replicate count 42
  pub is : t ≡ trees count tree

pub unstarred : {d : ℕ} {bs : List ℕ} {t : Tree} → Spells factor d bs t → Unstarred d bs t
unstarred {d} {bs} (named h) = record { base = bs; count = 0; tree = leaf bs; atom = word h; bytes = sym (append-nil bs); is = refl }
unstarred {d} {bs} {t} (group h r) = record { base = bs; count = 0; tree = t; atom = inner r; bytes = sym (append-nil bs); is = refl }
unstarred (starred r) =
    let u = unstarred r in
    record {
      base = u.base;
      count = suc u.count;
      tree = u.tree;
      atom = u.atom;
      bytes = ap (λ v. v ++ 42 ∷ []) u.bytes ∙ append_assoc u.base (replicate u.count 42) (42 ∷ []) ∙ ap (λ v. u.base ++ v)
          (replicate_more u.count 42 ∙ ap (λ v. replicate v 42) (add-one u.count));
      is = ap repeat u.is;
    }
