use Rattle.std.proofs.Common.{ℕ, ℤ, w64, List, subst}
use Rattle.std.specs.Prelude.{IfOk}
use Rattle.std.proofs.lemmas.Int.{to_z-of_z}
use Rattle.sql_tree.specs.declared.statement.Statement.{Statement}
use Rattle.sql_reader.specs.Text.{IsTextOf}
use Rattle.play.specs.Asked.{Asks}
use Rattle.play.specs.Told.{asked_of}
use Rattle.play.proofs.Said.{read_said, unread_said}
use Rattle.play.proofs.asked.text_asks.Goals as goal

pub returns-in-Ok : goal.returns-in-Ok
returns-in-Ok c =
    let Asked : ℤ → List Statement → Type 0 = λ m all. IfOk c.statements_ask.result (λ asked. (text : List ℕ) → IsTextOf text all → Asks c.args.catalogue.now m text (asked_of asked)) in
    let asks = subst (Asked c.args.moment) c.as_slice.ensures (subst (λ (m : ℤ). Asked m c.as_slice.result.now) (to_z-of_z w64 c.args.moment c.ranges.moment) c.statements_ask.ensures) in
    read_said c.args.catalogue.now c.args.moment c.args.text.now c.in-Ok.statements c.statements_ask.result c.in-Ok.ensures.found asks

pub returns-in-Err : goal.returns-in-Err
returns-in-Err c =
    unread_said c.args.catalogue.now c.args.moment c.args.text.now c.in-Err.fault c.unread.result c.in-Err.ensures.named c.in-Err.ensures.without_from c.in-Err.ensures.too_many c.unread.ensures
