use Rattle.std.proofs.Common.{List, map, subst, Bor}
use Rattle.std.proofs.lemmas.Result.{err_from_is_err_and}
use Rattle.sql_eval.specs.declared.row.Row.{Row}
use Rattle.sql_eval.specs.declared.effect.ReadEffect.{ReadEffect}
use Rattle.sql_eval.specs.Views.{Entry, entry_of}
use Rattle.sql_eval.specs.Walks.{Coded, GivesAs, behind, walked}
use Rattle.sql_eval.specs.Reads.{alone, kept, shown}
use Rattle.sql_eval.proofs.Reading.{entries, read_stops, read_shows}
use Rattle.sql_eval.proofs.Walking.{code_on}
use Rattle.sql_eval.proofs.read.read_rows.Goals as goal

pub returns-in_err-kept : goal.returns-in_err-kept
returns-in_err-kept c =
    let now = λ (r : Bor Row). r.now in
    let read = c.args.read.now in
    let p = err_from_is_err_and c.from_residual.result c.from_residual.ensures.1 in
    rw (p.1, p.2) (code_on (λ (es : List Entry). es) (λ (e : ReadEffect). e) c.in_err-kept.field-0.0
    (walked (λ (r : Bor Row). kept alone read.filter (entry_of c.args.key r.now)) c.args.rows.now)
    (behind (walked (kept alone read.filter) (entries now c.args.key c.args.rows.now)) (shown alone read)) (c.in_err-kept.ensures c.args.key)
    (λ code is. read_stops now c.args.key c.args.rows.now read code is))

pub returns : goal.returns
returns c =
    subst (λ (o : Coded ReadEffect). GivesAs (λ (e : ReadEffect). e) c.shown.result o)
    (read_shows (λ (r : Bor Row). r.now) c.args.key c.args.rows.now c.args.read.now (map (λ (r : Bor Row). entry_of c.args.key r.now) c.in_ok-kept.kept.items)
    (c.in_ok-kept.ensures c.args.key)) c.shown.ensures
