-- How a journal spells orders, and the requests to backends.
use Rattle.std.specs.Prelude.{ℕ, List, ◌∷◌, ◌++◌, codes}
use Rattle.std.specs.Fmt.{decimal, signed_decimal}
use Rattle.schema.specs.declared.catalogue.TableDef.{TableDef}
use Rattle.catalogue.specs.declared.checked.Checked.{Checked}
use Rattle.sql_print.specs.Printed.{statement_text}
use Rattle.checked_print.specs.Statements.{spelled_statement, table_name}
use Rattle.session_orders.specs.declared.order.Order.{Order}
use Rattle.session_orders.specs.declared.order.OrderBody.{OrderBody}
use Rattle.session_orders.specs.declared.order.OrderBody.TheVariants as orders
use Rattle.backend_trait.specs.declared.request.Request.{Request}
use Rattle.backend_trait.specs.declared.request.Request.TheVariants as requests
use Rattle.pgproto.specs.Rendering.{in_quotes, shown}

-- a statement: its one text of SQL, in quotes
abbrev pub spelled_run : List TableDef → Checked → List ℕ
spelled_run tables checked = codes "run " ++ in_quotes (statement_text (spelled_statement tables checked))

-- what is ordered
abbrev pub spelled_body : List TableDef → OrderBody → List ℕ
spelled_body tables (orders.Statement checked) = spelled_run tables checked
spelled_body tables orders.Begin = codes "begin"
spelled_body tables orders.Commit = codes "commit"
spelled_body tables orders.Rollback = codes "rollback"
spelled_body tables orders.Settle = codes "settle"
spelled_body tables orders.ShowNodes = codes "show-nodes"
spelled_body tables (orders.Recover b) = codes "recover " ++ decimal b
spelled_body tables (orders.Refuse code name) = codes "refuse " ++ (shown code.bytes ++ (32 ∷ in_quotes name))
spelled_body tables orders.Leave = codes "leave"

-- an order: its moment in microseconds, and what is ordered
abbrev pub spelled_order : List TableDef → Order → List ℕ
spelled_order tables order = signed_decimal order.moment ++ (32 ∷ spelled_body tables order.body)

-- a request; a table is told by its name, in quotes
abbrev pub spelled_request : List TableDef → Request → List ℕ
spelled_request tables requests.TakeSnapshot = codes "take-snapshot"
spelled_request tables (requests.Run checked) = spelled_run tables checked
spelled_request tables (requests.Lock table) = codes "lock " ++ in_quotes (table_name tables table)
spelled_request tables requests.Commit = codes "commit"
spelled_request tables requests.Rollback = codes "rollback"
spelled_request tables (requests.ReadSerial table) = codes "read-serial " ++ in_quotes (table_name tables table)
spelled_request tables (requests.SetSerial table next) =
    codes "set-serial " ++ (in_quotes (table_name tables table) ++ (32 ∷ signed_decimal next))
