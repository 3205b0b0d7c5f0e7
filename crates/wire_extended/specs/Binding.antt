-- What Bind makes of a prepared statement and values.
use Rattle.std.specs.Prelude.{◌≡◌, ◌≢◌, ◌≤◌, ◌⊎◌, ◌+◌, ℕ, Bool, true, false, List, [], ◌∷◌, Option, Some, None, length, get_or, All, codes, nat_eq}
use Rattle.pg_values.specs.declared.col_type.ColType.{ColType}
use Rattle.pg_values.specs.declared.col_type.ColType.TheVariants as kind
use Rattle.pg_values.specs.declared.value.Value.{Value}
use Rattle.pg_values.specs.declared.value.Value.TheVariants.{Null}
use Rattle.pg_values.specs.Answers.{ReadsText, ReadsBinary, RefusesText, RefusesBinary}
use Rattle.catalogue.specs.declared.checked.ColumnDesc.{ColumnDesc}
use Rattle.checked_sql.specs.Binding.{bound_statement}
use Rattle.pg_messages.specs.declared.server.ServerMessage.TheVariants.{BindComplete}
use Rattle.wire_reply.specs.Rows.{IsMessage, description, format_at}
use Rattle.wire_reply.specs.declared.saying.Saying.TheVariants.{Aborted, InvalidFormat, NoStatement, ProtocolViolation}
use Rattle.wire_session.specs.declared.refusal.Refusal.{Refusal}
use Rattle.wire_session.specs.declared.session.Control.TheVariants as control
use Rattle.wire_session.specs.declared.session.Session.{Session}
use Rattle.wire_session.specs.declared.portals.Portal.{Portal}
use Rattle.wire_session.specs.declared.portals.Portals.{Portals}
use Rattle.wire_session.specs.declared.portals.PortalState.{PortalState}
use Rattle.wire_session.specs.declared.portals.PortalState.TheVariants as state
use Rattle.wire_session.specs.declared.statements.Prepared.{Prepared}
use Rattle.wire_session.specs.declared.statements.Prepared.TheVariants.{Empty, Control, Checked}
use Rattle.wire_session.specs.Kept.{prepared}
use Rattle.wire_session.specs.Refusals.{Says}
use Rattle.wire_session.specs.Standing.{PortalStands}
use Rattle.wire_extended.specs.Naming.{TellsNewPortal}
use Rattle.wire_extended.specs.declared.binding.Binding.{Binding}
use Rattle.wire_extended.specs.declared.binding.Bound.{Bound}
use Rattle.wire_extended.specs.declared.binding.Bound.TheVariants as bound
use Rattle.wire_extended.specs.declared.binding.Made.{Made}
use Rattle.wire_extended.specs.declared.binding.Made.TheVariants as made
use Rattle.wire_extended.specs.declared.replied.Replied.{Replied}
use Rattle.wire_extended.specs.declared.replied.Replied.TheVariants as replied
use Rattle.wire_extended.specs.declared.values.Read.{Read}
use Rattle.wire_extended.specs.declared.values.Read.TheVariants.{Values, Refused}

-- whether a statement may run in a failed block: it is none, or ends the block
abbrev pub ends_block : Prepared → Bool
ends_block Empty = true
ends_block (Control control.Begin) = false
ends_block (Control control.Commit) = true
ends_block (Control control.Rollback) = true
ends_block (Checked checked) = false

-- the types of its parameters
abbrev pub kinds_of : Prepared → List ColType
kinds_of Empty = []
kinds_of (Control control) = []
kinds_of (Checked checked) = checked.kinds

-- the columns of its rows
abbrev pub columns_of : Prepared → List ColumnDesc
columns_of Empty = []
columns_of (Control control) = []
columns_of (Checked checked) = checked.columns

-- formats beside so many values: none, one for all, or one for each
abbrev pub MayStand : List ℕ → ℕ → Type 0
MayStand formats count = (length formats ≤ 1) ⊎ (length formats ≡ count)

-- as many values as the statement has parameters, and formats beside them and beside its columns
abbrev pub CountsFit : Prepared → Binding → Type 0
CountsFit what b = ((length b.values ≡ length (kinds_of what)) × MayStand b.formats (length b.values)) × MayStand b.results (length (columns_of what))

-- text or binary
abbrev pub IsFormat : ℕ → Type 0
IsFormat format = format ≤ 1

abbrev pub FormatsFit : Binding → Type 0
FormatsFit b = All IsFormat b.formats × All IsFormat b.results

-- why the form of a Bind is refused, if it is
abbrev pub TellsForm : Prepared → Binding → Option Refusal → Type 0
TellsForm what b None = CountsFit what b × FormatsFit b
TellsForm what b (Some r) =
    (¬ (CountsFit what b) × Says ProtocolViolation (codes "08P01") [] r) ⊎ (CountsFit what b × ¬ (FormatsFit b) × Says InvalidFormat (codes "22023") [] r)

-- a value of a type that is given in a format; none is null
abbrev pub IsRead : ColType → ℕ → Option (List ℕ) → Value → Type 0
IsRead kind format None value = value ≡ Null
IsRead kind format (Some bytes) value = (format ≡ 1 → ReadsBinary kind bytes value) × (format ≢ 1 → ReadsText kind bytes value)

-- the values of these types that are given, from that number on
abbrev pub AreRead : List ColType → List ℕ → ℕ → List (Option (List ℕ)) → List Value → Type 0
AreRead kinds formats at [] [] = Unit {0}
AreRead kinds formats at [] (value ∷ values) = ⊥
AreRead kinds formats at (bytes ∷ given) [] = ⊥
AreRead kinds formats at (bytes ∷ given) (value ∷ values) =
    IsRead (get_or kinds at kind.Text) (format_at formats at) bytes value × AreRead kinds formats (at + 1) given values

-- a value that is not read is refused with this code
abbrev pub IsUnread : ColType → ℕ → Option (List ℕ) → List ℕ → Type 0
IsUnread kind format None code = ⊥
IsUnread kind format (Some bytes) code = (format ≡ 1 → RefusesBinary kind bytes code) × (format ≢ 1 → RefusesText kind bytes code)

-- the first value that is not read, from that number on, is refused with this code
abbrev pub AreUnread : List ColType → List ℕ → ℕ → List (Option (List ℕ)) → List ℕ → Type 0
AreUnread kinds formats at [] code = ⊥
AreUnread kinds formats at (bytes ∷ given) code =
    IsUnread (get_or kinds at kind.Text) (format_at formats at) bytes code
    ⊎ ((value : Value) × IsRead (get_or kinds at kind.Text) (format_at formats at) bytes value × AreUnread kinds formats (at + 1) given code)

-- the values, or the code of the first that is none
abbrev pub TellsRead : List ColType → List ℕ → List (Option (List ℕ)) → Read → Type 0
TellsRead kinds formats given (Values values) = AreRead kinds formats 0 given values
TellsRead kinds formats given (Refused code) = AreUnread kinds formats 0 given code.bytes

-- where a portal stands of a statement with these values
abbrev pub state_with : List Value → Prepared → PortalState
state_with values Empty = state.Empty
state_with values (Control c) = state.Control c
state_with values (Checked checked) = state.Bound (bound_statement values checked)

-- the values of a Bind are read, its portal's name may be given, and its portal stands so
pub record IsPut (what : Prepared) (portals : Portals) (b : Binding) (state : PortalState) : Type 0 where
  pub values : List Value
  pub are_read : AreRead (kinds_of what) b.formats 0 b.values values
  pub free : TellsNewPortal b.portal portals None
  pub stands : state ≡ state_with values what

-- why it is not put: the code of the first value that is not read; where all are, that of the portal's name
pub data WhyUnput (what : Prepared) (portals : Portals) (b : Binding) (r : Refusal) : Type 0 where
  unread : AreUnread (kinds_of what) b.formats 0 b.values r.code.bytes → r.name ≡ [] → WhyUnput what portals b r
  taken : (values : List Value) → AreRead (kinds_of what) b.formats 0 b.values values → TellsNewPortal b.portal portals (Some r) → WhyUnput what portals b r

abbrev pub TellsPut : Prepared → Portals → Binding → Made → Type 0
TellsPut what portals b (made.State state) = IsPut what portals b state
TellsPut what portals b (made.Refused r) = WhyUnput what portals b r

-- a portal of a statement is made, in a failed block or not
pub record IsMade (failed : Bool) (what : Prepared) (portals : Portals) (b : Binding) (state : PortalState) : Type 0 where
  pub may : failed ≡ true → ends_block what ≡ true
  pub form : TellsForm what b None
  pub is_put : IsPut what portals b state

-- why it is not, in the order of the rules: the block has failed; its form; a value or its name
pub data WhyUnmade (failed : Bool) (what : Prepared) (portals : Portals) (b : Binding) (r : Refusal) : Type 0 where
  barred : failed ≡ true → ends_block what ≡ false → Says Aborted (codes "25P02") [] r → WhyUnmade failed what portals b r
  formed : (failed ≡ true → ends_block what ≡ true) → TellsForm what b (Some r) → WhyUnmade failed what portals b r
  unput : (failed ≡ true → ends_block what ≡ true) → TellsForm what b None → WhyUnput what portals b r → WhyUnmade failed what portals b r

abbrev pub TellsMade : Bool → Prepared → Portals → Binding → Made → Type 0
TellsMade failed what portals b (made.State state) = IsMade failed what portals b state
TellsMade failed what portals b (made.Refused r) = WhyUnmade failed what portals b r

-- the portal that is put: with what a Describe of it is told, and in the formats that were asked for
pub record IsBound (failed : Bool) (what : Prepared) (portals : Portals) (b : Binding) (portal : Portal) : Type 0 where
  pub name : portal.name ≡ b.portal
  pub columns : IsMessage (description b.results (columns_of what)) portal.description
  pub formats : portal.formats ≡ b.results
  pub ends : portal.ends_block ≡ ends_block what
  pub is_made : IsMade failed what portals b portal.state

-- of the statement that a name stands for, in a session
abbrev pub Binds : Session → Binding → Option Prepared → Portal → Type 0
Binds session b None portal = ⊥
Binds session b (Some what) portal = IsBound (nat_eq session.status 69) what session.portals b portal

-- why none is put: there is no such statement, or no portal of it is made
abbrev pub WhyUnbound : Session → Binding → Option Prepared → Refusal → Type 0
WhyUnbound session b None r = Says NoStatement (codes "26000") [] r
WhyUnbound session b (Some what) r = WhyUnmade (nat_eq session.status 69) what session.portals b r

abbrev pub TellsBound : Session → Binding → Bound → Type 0
TellsBound session b (bound.State state description ends) = Binds session b (prepared b.name session.statements)
    (record { name = b.portal; description = description; formats = b.results; ends_block = ends; state = state })
TellsBound session b (bound.Refused r) = WhyUnbound session b (prepared b.name session.statements) r

-- what is answered to a Bind: a portal of its statement is made, or why none is
abbrev pub TellsBind : Session → Binding → Replied → Type 0
TellsBind session b (replied.Bytes bytes) = IsMessage BindComplete bytes × (portal : Portal) × Binds session b (prepared b.name session.statements) portal
TellsBind session b (replied.Refused r) = WhyUnbound session b (prepared b.name session.statements) r

-- what a Bind leaves: that portal stands under its name, and all else stays; where it is refused nothing changes
abbrev pub LeavesBind : Session → Binding → Session → Replied → Type 0
LeavesBind old b new (replied.Bytes bytes) = (portal : Portal) × Binds old b (prepared b.name old.statements) portal
    × PortalStands b.portal (Some portal) old.portals new.portals × (new ≡ record old { portals = new.portals })
LeavesBind old b new (replied.Refused r) = new ≡ old
