use Rattle.std.proofs.Common.{◌≡◌, ◌+◌, ◌%◌, [], ◌∷◌, get_or, set, sym, refl, ap, ◌∙◌, subst, inl, ⊎_elim, arith}
use Rattle.std.proofs.lemmas.Nat.{one_shl}
use Rattle.std.proofs.lemmas.List.{get_or-set_same, get_or-set_other}
use Rattle.program.specs.Masks.{Bit}
use Rattle.program.proofs.Bits.{bit_one}
use Rattle.program.proofs.row.Draft.add.Goals as goal

pub returns : goal.returns
returns c =
    let n = c.args.self.now.names in
    let acts = c.args.self.now.actions in
    let shl = one_shl (n + 1) 16 (omega arith) in
    record {
      count = refl;
      entered = record {
        count = refl;
        kept = λ k h. get_or-set_other acts (n + 1) k c.args.action 0 (λ e. omega arith);
        acts = λ k h l.
            let z : k ≡ 0 = omega arith in
            let e : n + k + 1 ≡ n + 1 = omega arith in
            ap (λ v. get_or (set acts (n + 1) c.args.action) v 0) e ∙ get_or-set_same acts (n + 1) c.args.action 0 (omega arith) ∙
            (let same : c.args.action ≡ get_or (c.args.action ∷ []) k 0 % 256 = rw z (omega arith) in same);
        goes_on = λ m h i l. (λ b. inl b, ⊎_elim (λ b. b) (λ b. absurd b));
      };
      bit = λ i h.
          let o = bit_one (n + 1) i in
          (λ b. o.0 (subst (λ v. Bit v i) shl b), λ e. subst (λ v. Bit v i) (sym shl) (o.1 e));
    }
