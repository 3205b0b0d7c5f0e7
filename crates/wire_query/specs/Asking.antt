-- What a statement of a Query asks for.
use Rattle.std.specs.Prelude.{◌≡◌, ℕ, List, [], ◌∷◌, Bool, true, false, ◌&&◌, not, None, nat_eq, codes}
use Rattle.schema.specs.declared.catalogue.TableDef.{TableDef}
use Rattle.sql_tree.specs.declared.statement.Statement.{Statement}
use Rattle.sql_tree.specs.declared.statement.Statement.TheVariants as statement
use Rattle.catalogue.specs.declared.checked.Checked.{Checked}
use Rattle.catalogue.specs.declared.checked.ColumnDesc.{ColumnDesc}
use Rattle.pg_messages.specs.declared.server.ServerMessage.TheVariants.{RowDescription}
use Rattle.wire_reply.specs.Rows.{IsMessage, fields_from}
use Rattle.session_orders.specs.declared.order.OrderBody.{OrderBody}
use Rattle.session_orders.specs.declared.order.OrderBody.TheVariants as orders
use Rattle.wire_reply.specs.declared.saying.Saying.TheVariants.{Aborted, InTransaction}
use Rattle.wire_session.specs.declared.refusal.Refusal.{Refusal}
use Rattle.wire_session.specs.Refusals.{Says, IsNotTaken}
use Rattle.wire_query.specs.declared.asking.Asked.{Asked}
use Rattle.wire_query.specs.declared.asking.Asked.TheVariants.{Order, Refused}
use Rattle.wire_query.specs.declared.checking.Verdict.TheVariants as verdict
use Rattle.wire_query.specs.Verdicts.{Judges, WhyWrong}

-- an order that gives no rows with a description
abbrev pub IsOrder : OrderBody → Asked → Type 0
IsOrder body (Order given description) = (given ≡ body) × (description ≡ [])
IsOrder body (Refused r) = ⊥

abbrev pub IsRefused : (Refusal → Type 0) → Asked → Type 0
IsRefused P (Order body description) = ⊥
IsRefused P (Refused r) = P r

-- in a failed block nothing is taken but its end
abbrev pub IsBarred : Asked → Type 0
IsBarred asked = IsRefused (Says Aborted (codes "25P02") []) asked

-- a block neither begins nor ends in a transaction that no block began
abbrev pub AsksControl : Bool → OrderBody → Asked → Type 0
AsksControl true body asked = IsRefused (IsNotTaken (codes "transaction control in an implicit transaction")) asked
AsksControl false body asked = IsOrder body asked

-- the RowDescription of columns as texts; of none, nothing
abbrev pub Describes : List ColumnDesc → List ℕ → Type 0
Describes [] bytes = bytes ≡ []
Describes (column ∷ columns) bytes = IsMessage (RowDescription (fields_from [] 0 (column ∷ columns))) bytes

-- the order of that statement
abbrev pub IsStatement : Checked → Asked → Type 0
IsStatement checked (Order body description) = (body ≡ orders.Statement checked) × Describes checked.columns description
IsStatement checked (Refused r) = ⊥

-- a statement that the tables take, or its first fault
abbrev pub AsksWork : List TableDef → Statement → Asked → Type 0
AsksWork tables s (Order body description) =
    (checked : Checked) × (body ≡ orders.Statement checked) × Describes checked.columns description × Judges tables s None (verdict.Taken checked)
AsksWork tables s (Refused r) = WhyWrong tables s None r

-- nothing is under way: no block, and no transaction that none began
abbrev pub is_apart : ℕ → Bool → Bool
is_apart status implicit = nat_eq status 73 && not implicit

-- a backend is brought back outside of blocks and transactions alone
abbrev pub AsksRecovery : Bool → ℕ → Asked → Type 0
AsksRecovery true b asked = IsOrder (orders.Recover b) asked
AsksRecovery false b asked = IsRefused (Says InTransaction (codes "25001") []) asked

abbrev pub is_failed : ℕ → Bool
is_failed status = nat_eq status 69

abbrev pub Unless : Bool → Asked → Type 0 → Type 0
Unless true asked P = IsBarred asked
Unless false asked P = P

-- what a statement asks for, with that status: in a failed block, or not; in a transaction that no block began, or not
abbrev pub Asks : List TableDef → ℕ → Bool → Statement → Asked → Type 0
Asks tables status implicit statement.Commit asked = AsksControl implicit orders.Commit asked
Asks tables status implicit statement.Rollback asked = AsksControl implicit orders.Rollback asked
Asks tables status implicit statement.Begin asked = Unless (is_failed status) asked (AsksControl implicit orders.Begin asked)
Asks tables status implicit statement.ShowNodes asked = Unless (is_failed status) asked (IsOrder orders.ShowNodes asked)
Asks tables status implicit (statement.Recover b) asked = Unless (is_failed status) asked (AsksRecovery (is_apart status implicit) b asked)
Asks tables status implicit (statement.Select select) asked = Unless (is_failed status) asked (AsksWork tables (statement.Select select) asked)
Asks tables status implicit (statement.Insert insert) asked = Unless (is_failed status) asked (AsksWork tables (statement.Insert insert) asked)
Asks tables status implicit (statement.Update update) asked = Unless (is_failed status) asked (AsksWork tables (statement.Update update) asked)
Asks tables status implicit (statement.Delete delete) asked = Unless (is_failed status) asked (AsksWork tables (statement.Delete delete) asked)
