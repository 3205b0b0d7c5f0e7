-- What is done at each message of a client that was let in.
use Rattle.std.specs.Prelude.{◌≡◌, ◌≢◌, ℕ, ℤ, Bool, true, false, List, Option, Some, None, codes}
use Rattle.schema.specs.declared.catalogue.TableDef.{TableDef}
use Rattle.pg_messages.specs.declared.client.ClientMessage.{ClientMessage}
use Rattle.pg_messages.specs.declared.client.ClientMessage.TheVariants as said
use Rattle.pg_messages.specs.declared.server.ServerMessage.TheVariants.{CloseComplete}
use Rattle.session_orders.specs.declared.order.OrderBody.{OrderBody}
use Rattle.wire_reply.specs.Rows.{IsMessage}
use Rattle.std.specs.Option.{option_map}
use Rattle.wire_session.specs.declared.portals.Portals.{Portals}
use Rattle.wire_session.specs.declared.refusal.Refusal.{Refusal}
use Rattle.wire_session.specs.declared.session.Session.{Session}
use Rattle.wire_session.specs.Giving.{advanced}
use Rattle.wire_session.specs.Kept.{portal_of, prepared}
use Rattle.wire_session.specs.Refusals.{IsNotTaken}
use Rattle.wire_session.specs.Standing.{PortalStands}
use Rattle.wire_extended.specs.declared.binding.Binding.{Binding}
use Rattle.wire_extended.specs.declared.executing.Executed.{Executed}
use Rattle.wire_extended.specs.declared.executing.Executed.TheVariants as executed
use Rattle.wire_extended.specs.declared.replied.Replied.{Replied}
use Rattle.wire_extended.specs.declared.replied.Replied.TheVariants as replied
use Rattle.wire_extended.specs.Binding.{LeavesBind, TellsBind}
use Rattle.wire_extended.specs.Describing.{TellsPortal, TellsStatement}
use Rattle.wire_extended.specs.Executing.{Leaves, TellsExecute}
use Rattle.wire_extended.specs.Keeping.{Drops}
use Rattle.wire_extended.specs.Parsing.{LeavesParse, TellsParse}
use Rattle.session_wire.specs.declared.due.Due.TheVariants as due
use Rattle.session_wire.specs.Asking.{has_failed}
use Rattle.session_wire.specs.Hears.{declining, refuse, resumed, told, with_session}
use Rattle.session_wire.specs.Queries.{IsDropped, QueriesText}
use Rattle.session_wire.specs.Shown.{View}
use Rattle.session_wire.specs.Starts.{leaving}

-- nothing is done
abbrev pub Passes : Option OrderBody → View → View → Type 0
Passes body old new = (body ≡ None) × (new ≡ old)

-- a reply is told, or the message refused
abbrev pub Replies : Replied → Option OrderBody → View → View → Type 0
Replies (replied.Bytes bytes) body old new = (body ≡ None) × (new ≡ told bytes old)
Replies (replied.Refused r) body old new = (body ≡ Some (refuse r)) × (new ≡ declining r old)

-- a text is prepared under a name, or refused: its reply, and what it leaves under names
pub record Parses (tables : List TableDef) (name text kinds : List ℕ) (body : Option OrderBody) (old new : View) : Type 0 where
  pub session : Session
  pub reply : Replied
  pub tells : TellsParse tables kinds (has_failed old) text name old.session.statements reply
  pub leaves : LeavesParse tables kinds (has_failed old) text name old.session session reply
  pub replies : Replies reply body (with_session session old) new

-- a Bind: its reply, and what it leaves under names
pub record BindsPortal (b : Binding) (body : Option OrderBody) (old new : View) : Type 0 where
  pub session : Session
  pub reply : Replied
  pub tells : TellsBind old.session b reply
  pub leaves : LeavesBind old.session b session reply
  pub replies : Replies reply body (with_session session old) new

-- of a portal, or else of a statement
abbrev pub TellsDescribe : Bool → Bool → List ℕ → Session → Replied → Type 0
TellsDescribe true failed name session reply = TellsPortal failed (portal_of name session.portals) reply
TellsDescribe false failed name session reply = TellsStatement failed (prepared name session.statements) reply

pub record Describes (portal : Bool) (name : List ℕ) (body : Option OrderBody) (old new : View) : Type 0 where
  pub reply : Replied
  pub tells : TellsDescribe portal (has_failed old) name old.session reply
  pub replies : Replies reply body old new

-- a name is dropped, if it is there
pub record Closes (portal : Bool) (name : List ℕ) (body : Option OrderBody) (old new : View) : Type 0 where
  pub session : Session
  pub drops : Drops portal name old.session session
  pub bytes : List ℕ
  pub is_reply : IsMessage CloseComplete bytes
  pub done : (body ≡ None) × (new ≡ told bytes (with_session session old))

-- what an Execute is told leads to: bytes are told, and the portal's place stands behind the rows that were given; an order is given, and
-- its outcome awaited; the message is refused
abbrev pub LeadsTo : Executed → List ℕ → ℤ → Option OrderBody → View → View → Type 0
LeadsTo (executed.Bytes bytes) portal limit body old new =
    (portals : Portals) × PortalStands portal (option_map (advanced limit) (portal_of portal old.session.portals)) old.session.portals portals
    × (body ≡ None) × (new ≡ told bytes (with_session (record old.session { portals = portals }) old))
LeadsTo (executed.Order given) portal limit body old new = (body ≡ Some given) × (new ≡ record old { due = Some (due.Execute portal limit) })
LeadsTo (executed.Refused r) portal limit body old new = (body ≡ Some (refuse r)) × (new ≡ declining r old)

pub record Executes (portal : List ℕ) (limit : ℤ) (body : Option OrderBody) (old new : View) : Type 0 where
  pub what : Executed
  pub tells : TellsExecute (has_failed old) old.session.implicit limit (portal_of portal old.session.portals) what
  pub session : Session
  pub leaves : Leaves what portal old.session session
  pub leads : LeadsTo what portal limit body (with_session session old) new

-- what is named is refused as a Query is
pub record RefusesNamed (name : List ℕ) (body : Option OrderBody) (old new : View) : Type 0 where
  pub refusal : Refusal
  pub is_refusal : IsNotTaken name refusal
  pub dropped : IsDropped refusal body old new

-- a function call and a password are refused; parts of a COPY are passed over
pub data HeedsOther (tag : ℕ) (body : Option OrderBody) (old new : View) : Type 0 where
  call : tag ≡ 70 → RefusesNamed (codes "message F") body old new → HeedsOther tag body old new
  password : tag ≡ 112 → RefusesNamed (codes "message p") body old new → HeedsOther tag body old new
  passed : tag ≢ 70 → tag ≢ 112 → Passes body old new → HeedsOther tag body old new

-- at a message that is not dropped
abbrev pub Heeds : List TableDef → ClientMessage → Option OrderBody → View → View → Type 0
Heeds tables (said.Query text) body old new = QueriesText text body old new
Heeds tables (said.Parse name text kinds) body old new = Parses tables name text kinds body old new
Heeds tables (said.Bind portal name formats values results) body old new =
    BindsPortal (record { portal = portal; name = name; formats = formats; values = values; results = results }) body old new
Heeds tables (said.Describe portal name) body old new = Describes portal name body old new
Heeds tables (said.Execute portal limit) body old new = Executes portal limit body old new
Heeds tables (said.Close portal name) body old new = Closes portal name body old new
Heeds tables (said.Other tag) body old new = HeedsOther tag body old new
Heeds tables said.Flush body old new = Passes body old new
Heeds tables said.Sync body old new = Passes body old new
Heeds tables said.Terminate body old new = Passes body old new

-- up to the next Sync behind an error all messages are dropped
abbrev pub Unless : Bool → Option OrderBody → View → View → Type 0 → Type 0
Unless true body old new P = Passes body old new
Unless false body old new P = P

abbrev pub Heard : List TableDef → ClientMessage → Option OrderBody → View → View → Type 0
Heard tables m body old new = Unless old.session.skipping body old new (Heeds tables m body old new)

-- at each message
abbrev pub Hears : List TableDef → ClientMessage → Option OrderBody → View → View → Type 0
Hears tables said.Terminate body old new = (body ≡ None) × (new ≡ leaving false old)
Hears tables said.Sync body old new = (body ≡ None) × (new ≡ resumed old)
Hears tables said.Flush body old new = Passes body old new
Hears tables (said.Query text) body old new = Heard tables (said.Query text) body old new
Hears tables (said.Parse name text kinds) body old new = Heard tables (said.Parse name text kinds) body old new
Hears tables (said.Bind portal name formats values results) body old new = Heard tables (said.Bind portal name formats values results) body old new
Hears tables (said.Describe portal name) body old new = Heard tables (said.Describe portal name) body old new
Hears tables (said.Execute portal limit) body old new = Heard tables (said.Execute portal limit) body old new
Hears tables (said.Close portal name) body old new = Heard tables (said.Close portal name) body old new
Hears tables (said.Other tag) body old new = Heard tables (said.Other tag) body old new
