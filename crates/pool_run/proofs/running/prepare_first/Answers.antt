use Rattle.std.proofs.Common.{◌≡◌, ◌++◌, length, drop, sym, ◌∙◌, subst}
use Rattle.std.proofs.lemmas.Result.{on_ok_weaker}
use Rattle.pool_run.specs.Shelf.{ArePrepared}
use Rattle.pool_run.proofs.Shelves.{firsts_append, firsts_fresh, firsts_length, firsts_left}
use Rattle.pool_run.proofs.running.prepare_first.Goals as goal

pub prepare_each-requires-clause-fresh : goal.prepare_each-requires-clause-fresh
prepare_each-requires-clause-fresh g c = firsts_fresh g.B.Backend.meaning g.B.Backend.is_honest g.B.Backend.is_prompt g.B.Backend.is_steady c.args.shelf.now c.args.count c.requires.fresh

pub returns-clause-each : goal.returns-clause-each
returns-clause-each g c =
    let ys = c.prepare_each.new.boxes in
    let zs = drop c.args.count c.args.shelf.now in
    let len : length ys ≡ c.args.count = c.prepare_each.ensures.len ∙ firsts_length c.args.shelf.now c.args.count c.requires.few in
    on_ok_weaker c.prepare_each.result (λ each. subst (λ l. ArePrepared g.B.Backend.meaning g.B.Backend.is_honest g.B.Backend.is_prompt g.B.Backend.is_steady c.args.catalogue.now l) (sym (firsts_append ys zs c.args.count len)) each) c.prepare_each.ensures.each

pub returns-clause-rest : goal.returns-clause-rest
returns-clause-rest g c =
    firsts_left c.prepare_each.new.boxes (drop c.args.count c.args.shelf.now) c.args.count (c.prepare_each.ensures.len ∙ firsts_length c.args.shelf.now c.args.count c.requires.few)
