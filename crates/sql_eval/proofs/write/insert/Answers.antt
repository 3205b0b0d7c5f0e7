use Rattle.std.proofs.Common.{◌≡◌, ℕ, List, ap, ◌∙◌, subst}
use Rattle.std.specs.Prelude.{ℤ, Option, Some}
use Rattle.std.proofs.lemmas.Int.{to_z-of_z}
use Rattle.schema.specs.declared.catalogue.TableDef.{TableDef}
use Rattle.sql_eval.specs.declared.effect.Change.{Change}
use Rattle.sql_eval.specs.Reads.{alone}
use Rattle.sql_eval.specs.Walks.{GivesAs, made}
use Rattle.sql_eval.specs.Inserts.{insert_draws, insert_in}
use Rattle.sql_eval.specs.Effects.{Writes, IsWrite}
use Rattle.sql_eval.proofs.write.insert.Goals as goal

pub returns : goal.returns
returns g c =
    let view = g.V.TableView.rows c.args.view.now in
    let insert = c.args.insert.now in
    let next = c.args.next in
    let table = Some c.table_of-table.result.now in
    let same = to_z-of_z _ next c.ranges.next in
    let draws : c.inserted-draws.result.0 ≡ insert_draws table next insert = c.inserted-draws.ensures.draws ∙ ap (λ (m : ℤ). insert_draws table m insert) same in
    subst (λ (t : Option TableDef). IsWrite c.written.result (record { draws = insert_draws t next insert; given = made Writes (insert_in alone view t next insert) }))
    c.table_of-table.ensures
    (subst (λ (n : ℕ). IsWrite c.written.result (record { draws = n; given = made Writes (insert_in alone view table next insert) })) draws
    (c.written.ensures (insert_in alone view table next insert)
    (subst (λ (m : ℤ). GivesAs (λ (cs : List Change). cs) c.inserted-draws.result.1 (insert_in alone view table m insert)) same c.inserted-draws.ensures.given)))
