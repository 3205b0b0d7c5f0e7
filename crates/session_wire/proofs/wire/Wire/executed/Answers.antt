use Rattle.std.proofs.Common.{ℤ, List, sym, subst, w32}
use Rattle.std.proofs.lemmas.Int.{to_z-of_z}
use Rattle.session_orders.specs.declared.outcome.Outcome.{Outcome}
use Rattle.session_orders.specs.declared.outcome.Outcome.TheVariants.{Rows}
use Rattle.sql_eval.specs.declared.row.Row.{Row}
use Rattle.session_wire.specs.Answers.{SaysExecute}
use Rattle.session_wire.specs.Shown.{shown}
use Rattle.session_wire.proofs.wire.Wire.executed.Goals as goal

pub returns-in_ok-first_rows-in-Rows-clause-says : goal.returns-in_ok-first_rows-in-Rows-clause-says
returns-in_ok-first_rows-in-Rows-clause-says c =
    subst (λ (o : Outcome). SaysExecute c.args.portal c.args.limit o (shown c.args.self.now) (shown c.first_rows.new.self)) (sym c.in-Rows.is)
    (subst (λ (rows : List Row). SaysExecute c.args.portal c.args.limit (Rows rows c.in-Rows.tag) (shown c.args.self.now) (shown c.first_rows.new.self)) c.as_slice.ensures
    (subst (λ (limit : ℤ). SaysExecute c.args.portal limit (Rows c.as_slice.result.now c.in-Rows.tag) (shown c.args.self.now) (shown c.first_rows.new.self)) (to_z-of_z w32 c.args.limit c.ranges.limit)
    (c.in_ok-first_rows-in-Rows.ensures.says c.in-Rows.tag)))

pub returns-in_ok-put_error-in-Error-clause-says : goal.returns-in_ok-put_error-in-Error-clause-says
returns-in_ok-put_error-in-Error-clause-says c = rw c.in-Error.is (rw c.of_backend.ensures at c.in_ok-put_error-in-Error.ensures.ok)
