-- What is told of an outcome, and the room that is made for it.
use Rattle.std.specs.Prelude.{◌≡◌, ◌≤◌, ◌+◌, ℕ, Bool, true, false, List, [], ◌++◌, Option, Some, None, vec_len, vec_capacity, IsTrue}
use Rattle.pool_base.specs.declared.code.Code.{Code}
use Rattle.session_orders.specs.declared.order.Order.{Order}
use Rattle.session_orders.specs.declared.order.OrderBody.{OrderBody}
use Rattle.session_orders.specs.declared.order.OrderBody.TheVariants as orders
use Rattle.session_orders.specs.declared.outcome.Tag.{Tag}
use Rattle.wire_reply.specs.declared.report.Severity.TheVariants.{Error, Warning}
use Rattle.wire_reply.specs.Codes.{of_backend}
use Rattle.wire_reply.specs.Replies.{report_bytes, text_with, complete_bytes}
use Rattle.wire_reply.specs.Tags.{tag_text}
use Rattle.session_wire.specs.declared.output.Output.{Output}
use Rattle.session_wire.specs.declared.wire.WireStep.{WireStep}
use Rattle.session_wire.specs.declared.wire.WireStep.TheVariants as steps

-- an error with that code that a backend or the session gave
abbrev pub error_bytes : List ℕ → List ℕ
error_bytes code = report_bytes Error code (text_with (of_backend code) [])

-- a warning, if there is one
abbrev pub warned : Option Code → List ℕ
warned None = []
warned (Some code) = report_bytes Warning code.bytes (text_with (of_backend code.bytes) [])

-- the end of a statement, behind its warning
abbrev pub done_bytes : Tag → Option Code → List ℕ
done_bytes tag warning = warned warning ++ complete_bytes (tag_text tag)

-- the reply that waited for Settle, or the error of Settle in its place
abbrev pub said_bytes : Option Code → List ℕ → List ℕ
said_bytes None held = held
said_bytes (Some code) held = error_bytes code.bytes

-- behind some output and what is held, bytes are put: those of the reply to the last statement of a text wait for Settle
abbrev pub Puts : Bool → List ℕ → List ℕ → List ℕ → List ℕ → List ℕ → Type 0
Puts true bytes output held output' held' = (held' ≡ held ++ bytes) × (output' ≡ output)
Puts false bytes output held output' held' = (output' ≡ output ++ bytes) × (held' ≡ held)

abbrev pub Grows : Bool → List ℕ → Output → Output → Type 0
Grows holds bytes old new = Puts holds bytes old.bytes.items old.held.items new.bytes.items new.held.items

-- there is room for an outcome without rows: for the reply of a statement that ends a block, for a Settle
pub record HasRoom (o : Output) : Type 0 where
  pub bytes : vec_len o.bytes + vec_len o.held + 1200 ≤ vec_capacity o.bytes
  pub held : vec_len o.held + 1200 ≤ vec_capacity o.held

-- orders whose outcome may be the end of a transaction
abbrev pub ends : OrderBody → Bool
ends orders.Settle = true
ends orders.Commit = true
ends orders.Rollback = true
ends _ = false

-- of such an order there is room for its outcome
abbrev pub RoomFor : Option OrderBody → Output → Type 0
RoomFor body o = (b : OrderBody) → body ≡ Some b → IsTrue (ends b) → HasRoom o

abbrev pub RoomBehind : Option WireStep → Output → Type 0
RoomBehind step o = (order : Order) → step ≡ Some (steps.Order order) → IsTrue (ends order.body) → HasRoom o
