-- What Execute leads to.
use Rattle.std.specs.Prelude.{◌≡◌, ℕ, ℤ, Bool, true, false, List, [], Option, Some, None, codes}
use Rattle.std.specs.Option.{option_map}
use Rattle.catalogue.specs.declared.checked.Checked.{Checked}
use Rattle.pg_messages.specs.declared.server.ServerMessage.TheVariants as message
use Rattle.session_orders.specs.declared.order.OrderBody.{OrderBody}
use Rattle.session_orders.specs.declared.order.OrderBody.TheVariants as orders
use Rattle.wire_reply.specs.Rows.{IsMessage}
use Rattle.wire_reply.specs.declared.saying.Saying.TheVariants.{Aborted, CannotRun, NoPortal}
use Rattle.wire_session.specs.declared.portals.Portal.{Portal}
use Rattle.wire_session.specs.declared.portals.PortalState.{PortalState}
use Rattle.wire_session.specs.declared.portals.PortalState.TheVariants as state
use Rattle.wire_session.specs.declared.refusal.Refusal.{Refusal}
use Rattle.wire_session.specs.declared.session.Control.{Control}
use Rattle.wire_session.specs.declared.session.Control.TheVariants as control
use Rattle.wire_session.specs.declared.session.Session.{Session}
use Rattle.wire_session.specs.Giving.{gives, in_state}
use Rattle.wire_session.specs.Kept.{portal_of}
use Rattle.wire_session.specs.Refusals.{Says, IsNotTaken}
use Rattle.wire_session.specs.Standing.{PortalStands}
use Rattle.wire_extended.specs.Giving.{given_bytes}
use Rattle.wire_extended.specs.declared.executing.Executed.{Executed}
use Rattle.wire_extended.specs.declared.executing.Executed.TheVariants.{Bytes, Order, Refused}

abbrev pub IsDenied : (Refusal → Type 0) → Executed → Type 0
IsDenied P (Bytes bytes) = ⊥
IsDenied P (Order body) = ⊥
IsDenied P (Refused r) = P r

abbrev pub IsOrdered : (OrderBody → Type 0) → Executed → Type 0
IsOrdered P (Bytes bytes) = ⊥
IsOrdered P (Order body) = P body
IsOrdered P (Refused r) = ⊥

abbrev pub IsGiven : (List ℕ → Type 0) → Executed → Type 0
IsGiven P (Bytes bytes) = P bytes
IsGiven P (Order body) = ⊥
IsGiven P (Refused r) = ⊥

abbrev pub control_order : Control → OrderBody
control_order control.Begin = orders.Begin
control_order control.Commit = orders.Commit
control_order control.Rollback = orders.Rollback

-- a block neither begins nor ends in a transaction that no block began
abbrev pub RunsControl : Bool → Control → Executed → Type 0
RunsControl true c executed = IsDenied (IsNotTaken (codes "transaction control in an implicit transaction")) executed
RunsControl false c executed = IsOrdered (λ body. body ≡ control_order c) executed

-- of a portal that stands so: an empty text is answered, its control or its statement is ordered, its next rows are given, and what has
-- run without rows cannot run
abbrev pub Runs : Bool → ℤ → PortalState → Executed → Type 0
Runs implicit limit state.Empty executed = IsGiven (IsMessage message.Empty) executed
Runs implicit limit (state.Control c) executed = RunsControl implicit c executed
Runs implicit limit (state.Bound checked) executed = IsOrdered (λ body. body ≡ orders.Statement checked) executed
Runs implicit limit (state.Rows rows given) executed = IsGiven (λ bytes. bytes ≡ given_bytes limit (gives limit rows given)) executed
Runs implicit limit state.Ran executed = IsDenied (Says CannotRun (codes "55000") []) executed

-- in a failed block nothing runs but what may run there
abbrev pub RunsUnless : Bool → Bool → Executed → Type 0 → Type 0
RunsUnless true false executed P = IsDenied (Says Aborted (codes "25P02") []) executed
RunsUnless true true executed P = P
RunsUnless false ends executed P = P

-- of the portal of a name, in a failed block or not, in a transaction that no block began or not, with a limit of rows
abbrev pub TellsExecute : Bool → Bool → ℤ → Option Portal → Executed → Type 0
TellsExecute failed implicit limit None executed = IsDenied (Says NoPortal (codes "34000") []) executed
TellsExecute failed implicit limit (Some portal) executed = RunsUnless failed portal.ends_block executed (Runs implicit limit portal.state executed)

-- the portal of a name has run, if there is one; all else stays
abbrev pub HasRun : List ℕ → Session → Session → Type 0
HasRun name old new =
    PortalStands name (option_map (in_state state.Ran) (portal_of name old.portals)) old.portals new.portals × (new ≡ record old { portals = new.portals })

-- what is told of an Execute leaves a session so: where an order is given its portal has run
abbrev pub Leaves : Executed → List ℕ → Session → Session → Type 0
Leaves (Order body) name old new = HasRun name old new
Leaves (Bytes bytes) name old new = new ≡ old
Leaves (Refused r) name old new = new ≡ old

-- before it runs: what is told, or nothing where its statement is to be ordered
abbrev pub Looks : Bool → Bool → ℤ → Portal → Option Executed → Type 0
Looks failed implicit limit portal (Some executed) = RunsUnless failed portal.ends_block executed (Runs implicit limit portal.state executed)
Looks failed implicit limit portal None = (failed ≡ true → portal.ends_block ≡ true) × (checked : Checked) × (portal.state ≡ state.Bound checked)
