use Rattle.std.proofs.Common.{◌≡◌, eqb, arith, rules}
use Rattle.std.specs.List.{count_by}
use Rattle.std.proofs.iter.runs.Made.{chains}
use Rattle.document.proofs.Pieces.{length_pieces}
use Rattle.document.proofs.fields.field_count.Goals as goal

pub returns : goal.returns
returns c =
    let count : c.count.result ≡ count_by (λ b. eqb b 9) c.args.line.now = search (rules, chains) in
    let long = length_pieces 9 c.args.line.now in
    omega arith
