use Rattle.std.proofs.Common.{◌≡◌, ◌<◌, ◌≤◌, [], ◌∷◌, ◌++◌, map, refl, ap, ◌∙◌, subst}
use Rattle.program.specs.Names.{spelled}
use Rattle.program.specs.Spellings.{Missing, SpellsRowIn, RefusedIn}
use Rattle.document.specs.Kept.{names_of}
use Rattle.document.specs.Declaring.{KnownName}
use Rattle.document.specs.Told.{Declares}
use Rattle.document.specs.declared.fault.LineFault.TheVariants.{Program, Naming, Limit}
use Rattle.document.proofs.Lined.{prog_unheaded, prog_known, prog_refused, prog_full, prog_done}
use Rattle.document.proofs.Refused.{refused, at_both}
use Rattle.document.proofs.lines.prog_line.Goals as goal

pub returns-in_err-name : goal.returns-in_err-name
returns-in_err-name c = λ w d h.
    let f = c.in_err-name.field-0.0 in
    refused (Declares d c.args.line.now) d c.args.line.now c.from_residual.result f f c.from_residual.ensures.1 refl
    (prog_unheaded c.args.declared c.args.line.now w f c.in_err-name.ensures d)

pub returns-in_err-unused : goal.returns-in_err-unused
returns-in_err-unused c = λ w d h.
    let s = c.args.declared in
    let bytes = c.args.line.now in
    let head = c.in_ok-name.ensures in
    refused (Declares d bytes) d bytes c.from_residual-in_err-unused.result c.in_err-unused.field-0.0 Naming
    c.from_residual-in_err-unused.ensures.1 c.in_err-unused.ensures.0
    (prog_known s bytes w head.0.0 head.0.1 head.0.2
    (at_both KnownName (ap names_of c.progs.ensures.is) (c.as_bytes.ensures.is ∙ head.1) c.in_err-unused.ensures.1)
    d h)

pub returns-in_err-row : goal.returns-in_err-row
returns-in_err-row c = λ w d h.
    let s = c.args.declared in
    let bytes = c.args.line.now in
    let head = c.in_ok-name.ensures in
    let f = c.in_err-row.field-0.0 in
    let acts : map spelled c.listed.result.now ≡ names_of s.acts = ap (map spelled) c.listed.ensures.is ∙ ap names_of c.acts.ensures.is in
    refused (Declares d bytes) d bytes c.from_residual-in_err-row.result (Program f) (Program f) c.from_residual-in_err-row.ensures.1 refl
    (prog_refused s bytes w head.0.0 head.0.1 head.0.2 f
    (at_both Missing (ap names_of c.progs.ensures.is) (c.as_bytes.ensures.is ∙ head.1) c.in_ok-unused.ensures)
    (at_both (λ ns t. RefusedIn t ns f) acts c.field.ensures c.in_err-row.ensures.spells)
    c.in_err-row.ensures.one_in d h)

pub returns-in_err-room : goal.returns-in_err-room
returns-in_err-room c = λ w d h.
    let s = c.args.declared in
    let bytes = c.args.line.now in
    let head = c.in_ok-name.ensures in
    let row = c.in_ok-row.row in
    let acts : map spelled c.listed.result.now ≡ names_of s.acts = ap (map spelled) c.listed.ensures.is ∙ ap names_of c.acts.ensures.is in
    refused (Declares d bytes) d bytes c.from_residual-in_err-room.result c.in_err-room.field-0.0 Limit c.from_residual-in_err-room.ensures.1
    c.in_err-room.ensures.0
    (prog_full s bytes w head.0.0 head.0.1 head.0.2 row
    (at_both (λ ns t. SpellsRowIn t ns row) acts c.field.ensures c.in_ok-row.ensures.spells)
    (at_both Missing (ap names_of c.progs.ensures.is) (c.as_bytes.ensures.is ∙ head.1) c.in_ok-unused.ensures)
    (subst (λ v. 16 ≤ v.count) c.progs-2.ensures.is c.in_err-room.ensures.1) d h)

pub returns : goal.returns
returns c = λ w d h.
    let s = c.args.declared in
    let head = c.in_ok-name.ensures in
    let row = c.in_ok-row.row in
    let acts : map spelled c.listed.result.now ≡ names_of s.acts = ap (map spelled) c.listed.ensures.is ∙ ap names_of c.acts.ensures.is in
    let few : s.progs.count < 16 = subst (λ v. v.count < 16) c.progs-2.ensures.is c.in_ok-room.ensures in
    prog_done s c.args.line.now w head.0.0 head.0.1 head.0.2 c.with_prog.result row
    (at_both Missing (ap names_of c.progs.ensures.is) (c.as_bytes.ensures.is ∙ head.1) c.in_ok-unused.ensures)
    few
    (at_both (λ ns t. SpellsRowIn t ns row) acts c.field.ensures c.in_ok-row.ensures.spells)
    c.in_ok-row.ensures.one_in c.with_prog.ensures.count
    (c.with_prog.ensures.progs ∙ ap (λ n. names_of s.progs ++ n ∷ []) head.1) c.with_prog.ensures.row c.with_prog.ensures.rest d h
