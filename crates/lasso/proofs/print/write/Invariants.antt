use Rattle.std.proofs.Common.{◌≡◌, ◌*◌, ◌≤◌, take}
use Rattle.lasso.specs.DeclaredNames.{acts_of, props_of}
use Rattle.lasso.specs.Lassos.{IsLasso}
use Rattle.lasso.specs.LassoTexts.{worded_lines}
use Rattle.lasso.specs.Written.{Wrote}
use Rattle.lasso.proofs.print.write.Given as goal

abbrev pub invariant-loop-i : goal.invariant-loop-i
invariant-loop-i l = record {
  few : l.out.at ≤ 302 * l.i;
  same : l.out.text.ghost_name ≡ l.initial.out.text.ghost_name;
  wrote : IsLasso l.document.declared.acts.count l.document.declared.props.count l.steps l.stem
      → Wrote l.initial.out l.out (worded_lines (acts_of l.document.declared) (props_of l.document.declared) l.stem 0 (take l.i l.steps));
}
