use Rattle.std.proofs.Common.{ℕ, ℤ, w64, List, [], ◌∷◌, sym, subst}
use Rattle.std.specs.Prelude.{IfOk}
use Rattle.std.proofs.lemmas.Int.{to_z-of_z}
use Rattle.sql_tree.specs.declared.statement.Statement.{Statement}
use Rattle.sql_reader.specs.Text.{IsTextOf}
use Rattle.play.specs.Asked.{Asks}
use Rattle.play.specs.Told.{asked_of}
use Rattle.play.proofs.Said.{one_item, several_said}
use Rattle.play.proofs.asked.statements_ask.Goals as goal

pub returns-in-len1 : goal.returns-in-len1
returns-in-len1 c =
    let Asked : ℤ → List Statement → Type 0 = λ m all. IfOk c.statement_asks.result (λ asked. (text : List ℕ) → IsTextOf text all → Asks c.args.catalogue.now m text (asked_of asked)) in
    subst (Asked c.args.moment) (sym (one_item c.args.statements.now c.statement-item.result c.in-len1.len_at_least c.in-len1.len_below c.statement-item.is))
    (subst (λ (m : ℤ). Asked m (c.statement-item.result ∷ [])) (to_z-of_z w64 c.args.moment c.ranges.moment) c.statement_asks.ensures)

pub returns-in_default : goal.returns-in_default
returns-in_default c = several_said c.args.catalogue.now c.args.moment c.args.statements.now c.left.result c.in_default.len_at_least c.left.ensures
