use Rattle.std.proofs.Common.{◌≡◌, List, map, subst, Bor}
use Rattle.std.specs.Prelude.{Ok}
use Rattle.std.proofs.lemmas.Result.{err_from_is_err_and}
use Rattle.pg_values.specs.declared.value.Value.{Value}
use Rattle.typed_sql.specs.declared.typed.TypedExpr.{TypedExpr}
use Rattle.sql_eval.specs.declared.row.Row.{Row}
use Rattle.sql_eval.specs.declared.effect.ReadEffect.{ReadEffect}
use Rattle.sql_eval.specs.Walks.{Coded, GivesAs, all_of}
use Rattle.sql_eval.specs.Reads.{alone, keys_wanted, listed, result_row}
use Rattle.sql_eval.proofs.Reading.{entries, listed_stops, listed_is}
use Rattle.sql_eval.proofs.Walking.{code_on}
use Rattle.sql_eval.proofs.read.listed.Goals as goal

pub returns-in_err-given : goal.returns-in_err-given
returns-in_err-given c =
    let now = λ (r : Bor Row). r.now in
    let read = c.args.read.now in
    let p = err_from_is_err_and c.from_residual.result c.from_residual.ensures.1 in
    rw (p.1, p.2) (code_on (λ (rs : List Row). rs) (λ (e : ReadEffect). e) c.in_err-given.field-0.0
    (all_of (map (λ (r : Bor Row). result_row alone c.as_slice.result.now r.now) c.args.rows.now)) (listed alone read (entries now c.args.key c.args.rows.now)) c.in_err-given.ensures
    (λ code is. listed_stops now c.args.key c.args.rows.now read code (rw c.as_slice.ensures at is)))

pub returns-in_err-keys : goal.returns-in_err-keys
returns-in_err-keys c =
    let now = λ (r : Bor Row). r.now in
    let read = c.args.read.now in
    let p = err_from_is_err_and c.from_residual-in_err-keys.result c.from_residual-in_err-keys.ensures.1 in
    rw (p.1, p.2) (code_on (λ (ks : List Value). ks) (λ (e : ReadEffect). e) c.in_err-keys.field-0.0
    (Ok (keys_wanted read.for_update (entries now c.args.key c.args.rows.now))) (listed alone read (entries now c.args.key c.args.rows.now)) c.in_err-keys.ensures
    (λ code is. absurd (cc)))

pub returns : goal.returns
returns c =
    listed_is (λ (r : Bor Row). r.now) c.args.key c.args.rows.now c.args.read.now c.in_ok-given.given c.in_ok-keys.keys
    (subst (λ (list : List TypedExpr). all_of (map (λ (r : Bor Row). result_row alone list r.now) c.args.rows.now) ≡ Ok c.in_ok-given.given) c.as_slice.ensures c.in_ok-given.ensures)
    c.in_ok-keys.ensures
