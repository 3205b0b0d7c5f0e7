-- What becomes of a wire at a message of a client that was let in.
use Rattle.std.specs.Prelude.{◌++◌, ℕ, Bool, true, false, List, [], Some}
use Rattle.session_orders.specs.declared.order.OrderBody.{OrderBody}
use Rattle.session_orders.specs.declared.order.OrderBody.TheVariants as orders
use Rattle.wire_session.specs.declared.session.Session.{Session}
use Rattle.wire_session.specs.declared.refusal.Refusal.{Refusal}
use Rattle.session_wire.specs.declared.due.Due.TheVariants as due
use Rattle.session_wire.specs.Shown.{View}

abbrev pub with_skipping : Bool → Session → Session
with_skipping skipping s = record s { skipping = skipping }

-- a Sync: messages are taken again, and a Settle is to be ordered
abbrev pub resumed : View → View
resumed v = record v { session = with_skipping false v.session; settles = true }

-- a Query is refused: what is left of its text is dropped, and a Settle is to be ordered
abbrev pub refusing : Refusal → Bool → View → View
refusing r last v = record v { left = []; settles = true; due = Some (due.Refused r.code r.saying last) }

abbrev pub refuse : Refusal → OrderBody
refuse r = orders.Refuse r.code r.name

-- an extended message is refused
abbrev pub declining : Refusal → View → View
declining r v = record v { due = Some (due.Declined r.code r.saying) }

-- these bytes are told
abbrev pub told : List ℕ → View → View
told bytes v = record v { output = v.output ++ bytes }

abbrev pub with_session : Session → View → View
with_session s v = record v { session = s }
