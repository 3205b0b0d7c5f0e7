use Rattle.std.proofs.Common.{◌≡◌, length, drop, map, take, ◌∙◌}
use Rattle.std.proofs.lemmas.Result.{on_ok_weaker}
use Rattle.session_core.specs.Statements.{primary_tables}
use Rattle.pool_run.proofs.Shelves.{rows_ran, tables_ran, backends_ran}
use Rattle.pool_run.proofs.backends.run_over.Goals as goal

pub returns-clause-rows : goal.returns-clause-rows
returns-clause-rows g c =
    let ys = c.run_statement.new.shelf in
    let tables = primary_tables (map g.B.Backend.meaning (take c.args.count c.args.shelf.now)) in
    let len : length ys ≡ c.args.count = c.run_statement.ensures.len ∙ c.requires.backends.so_many in
    on_ok_weaker c.run_statement.result (λ ready. rows_ran g.B.Backend.meaning ys (drop c.args.count c.args.shelf.now) c.args.count tables _ len c.requires.backends.some ready) c.run_statement.ensures.ready

pub returns-clause-tables : goal.returns-clause-tables
returns-clause-tables g c =
    let ys = c.run_statement.new.shelf in
    let tables = primary_tables (map g.B.Backend.meaning (take c.args.count c.args.shelf.now)) in
    let len : length ys ≡ c.args.count = c.run_statement.ensures.len ∙ c.requires.backends.so_many in
    on_ok_weaker c.run_statement.result (λ ready. tables_ran g.B.Backend.meaning ys (drop c.args.count c.args.shelf.now) c.args.count tables _ len c.requires.backends.some ready) c.run_statement.ensures.ready

pub returns-clause-ready : goal.returns-clause-ready
returns-clause-ready g c =
    let ys = c.run_statement.new.shelf in
    let e = c.run_statement.ensures in
    let tables = primary_tables (map g.B.Backend.meaning (take c.args.count c.args.shelf.now)) in
    let len : length ys ≡ c.args.count = e.len ∙ c.requires.backends.so_many in
    on_ok_weaker c.run_statement.result (λ ready. backends_ran g.B.Backend.meaning g.B.Backend.is_honest g.B.Backend.is_prompt g.B.Backend.is_steady ys (drop c.args.count c.args.shelf.now) c.args.count tables _ len c.requires.backends.some c.requires.backends.few ready e.honest e.prompt e.steady) e.ready
