use Rattle.std.proofs.Common.{ap, ◌∙◌}
use Rattle.schema.specs.declared.catalogue.TableDef.{TableDef}
use Rattle.named_list.specs.Names.{found_from}
use Rattle.catalogue.proofs.TableLemmas.{table_is_found, table_is_few}
use Rattle.catalogue.proofs.tables.find_table.Goals as goal

pub returns-in-Some-clause-found : goal.returns-in-Some-clause-found
returns-in-Some-clause-found c =
    c.in-Some.ensures.found ∙ ap (λ n. found_from (λ (t : TableDef). t.name) 0 n c.args.tables.now) c.as_str.ensures
    ∙ table_is_found 0 c.args.name.now c.args.tables.now

pub returns-in-Some-clause-few : goal.returns-in-Some-clause-few
returns-in-Some-clause-few c = table_is_few c.args.tables.now c.in-Some.number c.in-Some.table.now c.requires.1 c.in-Some.ensures.table

pub returns-in-None-clause-found : goal.returns-in-None-clause-found
returns-in-None-clause-found c =
    c.in-None.ensures.found ∙ ap (λ n. found_from (λ (t : TableDef). t.name) 0 n c.args.tables.now) c.as_str.ensures
    ∙ table_is_found 0 c.args.name.now c.args.tables.now
