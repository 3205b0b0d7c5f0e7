use Rattle.std.specs.Prelude.{Bool as Truth, Option, Ok}
use Rattle.std.proofs.lemmas.Result.{err_from_is_err_and}
use Rattle.sql_eval.specs.declared.effect.Change.{Change}
use Rattle.sql_eval.specs.Views.{cell_at, entry_of}
use Rattle.sql_eval.specs.Reads.{alone, is_kept}
use Rattle.sql_eval.specs.Stored.{removal_of}
use Rattle.sql_eval.proofs.Changing.{removal_stops, removal_none, removal_is}
use Rattle.sql_eval.proofs.Walking.{code_on, value_code_on}
use Rattle.sql_eval.proofs.change.removal_of.Goals as goal

pub returns-in_err-stays : goal.returns-in_err-stays
returns-in_err-stays c =
    let remove = c.args.remove.now in
    let e = entry_of c.args.key c.args.row.now in
    let p = err_from_is_err_and c.from_residual.result c.from_residual.ensures.1 in
    rw (p.1, p.2) (code_on (λ (b : Truth). b) (λ (o : Option Change). o) c.in_err-stays.field-0.0 (is_kept alone remove.filter c.args.row.now)
    (removal_of alone remove e) c.in_err-stays.ensures (λ code is. removal_stops remove e code is))

pub returns-then-not-stays : goal.returns-then-not-stays
returns-then-not-stays c =
    removal_none c.args.remove.now (entry_of c.args.key c.args.row.now) c.in_ok-stays.stays c.in_ok-stays.ensures c.if-not-stays.true

pub returns-in_err-key : goal.returns-in_err-key
returns-in_err-key c =
    let p = err_from_is_err_and c.from_residual-in_err-key.result c.from_residual-in_err-key.ensures.1 in
    rw (p.1, p.2) (value_code_on (λ (o : Option Change). o) c.in_err-key.field-0.0 (Ok (cell_at c.args.key c.args.row.now))
    (removal_of alone c.args.remove.now (entry_of c.args.key c.args.row.now)) c.in_err-key.ensures (λ code is. absurd (cc)))

pub returns : goal.returns
returns c =
    removal_is c.args.remove.now (entry_of c.args.key c.args.row.now) c.in_ok-stays.stays c.in_ok-key.key c.in_ok-stays.ensures c.if-not-stays.false c.in_ok-key.ensures
