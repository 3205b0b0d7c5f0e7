use Rattle.std.proofs.Common.{sym, subst}
use Rattle.std.specs.Prelude.{ℤ}
use Rattle.std.proofs.lemmas.Int.{to_z-of_z}
use Rattle.catalogue.specs.declared.checked.CheckedBody.TheVariants as body
use Rattle.catalogue.specs.declared.checked.CheckedBody.{CheckedBody}
use Rattle.sql_eval.specs.Reads.{alone}
use Rattle.sql_eval.specs.Effects.{effect_of, IsWrite}
use Rattle.sql_eval.proofs.write.eval_write.Goals as goal

pub returns-in-Insert : goal.returns-in-Insert
returns-in-Insert g c =
    subst (λ (b : CheckedBody). IsWrite c.insert.result (effect_of alone c.args.catalogue.now b (g.V.TableView.rows c.args.view.now) c.args.next_serial)) (sym c.in-Insert.is)
    (subst (λ (m : ℤ). IsWrite c.insert.result (effect_of alone c.args.catalogue.now (body.Insert c.in-Insert.body) (g.V.TableView.rows c.args.view.now) m))
    (to_z-of_z _ c.args.next_serial c.ranges.next_serial) c.insert.ensures)

pub returns-in-Change : goal.returns-in-Change
returns-in-Change g c =
    subst (λ (b : CheckedBody). IsWrite c.change.result (effect_of alone c.args.catalogue.now b (g.V.TableView.rows c.args.view.now) c.args.next_serial)) (sym c.in-Change.is) c.change.ensures

pub returns-in-Remove : goal.returns-in-Remove
returns-in-Remove g c =
    subst (λ (b : CheckedBody). IsWrite c.remove.result (effect_of alone c.args.catalogue.now b (g.V.TableView.rows c.args.view.now) c.args.next_serial)) (sym c.in-Remove.is) c.remove.ensures
