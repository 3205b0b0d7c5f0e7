-- What a wire does before its client is let in, and where its bytes are no message.
use Rattle.std.specs.Prelude.{◌≡◌, ℕ, Bool, true, false, List, [], ◌∷◌, ◌++◌, Option, Some, None, drop, codes}
use Rattle.pg_messages.specs.declared.read.Read.{Read}
use Rattle.pg_messages.specs.declared.read.Read.TheVariants.{Whole, More, Bad, TooLong}
use Rattle.pg_messages.specs.declared.start.StartMessage.{StartMessage}
use Rattle.wire_reply.specs.declared.report.Severity.TheVariants.{Fatal}
use Rattle.wire_reply.specs.declared.saying.Saying.{Saying}
use Rattle.wire_reply.specs.declared.saying.Saying.TheVariants.{ProtocolViolation, NotInProfile, NotUtf8, LimitPassed}
use Rattle.wire_reply.specs.Replies.{report_bytes, text_with}
use Rattle.wire_start.specs.declared.greeting.Greeting.{Greeting}
use Rattle.wire_start.specs.declared.greeting.Greeting.TheVariants.{Declined, LetIn, Refused, Cancelled}
use Rattle.wire_start.specs.declared.greeting.Rejection.{Rejection}
use Rattle.wire_start.specs.declared.greeting.Rejection.TheVariants.{AskedTwice, MinorVersion, Encoding}
use Rattle.wire_start.specs.Greetings.{Greets}
use Rattle.wire_start.specs.Opening.{opening}
use Rattle.session_wire.specs.declared.wire.Stage.TheVariants.{Starting, Open, Leaving, Closed}
use Rattle.session_wire.specs.declared.wire.WireStep.{WireStep}
use Rattle.session_wire.specs.declared.wire.WireStep.TheVariants as steps
use Rattle.session_wire.specs.Shown.{View}

-- its Leave is to be ordered
abbrev pub leaving : Bool → View → View
leaving refused v = record v { stage = Leaving refused }

-- the session ends with an error
abbrev pub failing : List ℕ → Saying → List ℕ → View → View
failing code saying name v = record v { stage = Leaving true; output = v.output ++ report_bytes Fatal code (text_with saying name) }

-- bytes that are no message, and a length above the limit
abbrev pub broken : View → View
broken v = failing (codes "08P01") ProtocolViolation [] v

abbrev pub too_long : View → View
too_long v = failing (codes "54000") LimitPassed [] v

-- less than a message: more input is needed, or, where it has ended, the session ends
abbrev pub Waits : View → View → Option WireStep → Type 0
Waits old new None = (old.ended ≡ true) × (new ≡ leaving false old)
Waits old new (Some steps.NeedInput) = (old.ended ≡ false) × (new ≡ old)
Waits old new (Some _) = ⊥

-- a client that is not let in
abbrev pub rejected : Rejection → View → View
rejected AskedTwice v = broken v
rejected MinorVersion v = failing (codes "0A000") NotInProfile (codes "protocol minor version") v
rejected Encoding v = failing (codes "22023") NotUtf8 [] v

abbrev pub greeted : Greeting → View → View
greeted (Declined ssl gss) v = record v { stage = Starting ssl gss; output = v.output ++ 78 ∷ [] }
greeted (LetIn options) v = record v { stage = Open; options = options; output = v.output ++ opening v.number }
greeted (Refused rejection) v = rejected rejection v
greeted Cancelled v = record v { stage = Closed false }

-- without the bytes of a message
abbrev pub without : ℕ → View → View
without n v = record v { rest = drop n v.rest }

-- a start message leads to this, in a wire to which encryption of these kinds was declined
abbrev pub GreetsAs : Bool → Bool → StartMessage → View → View → Type 0
GreetsAs ssl gss m old new = (greeting : Greeting) × Greets ssl gss m greeting × (new ≡ greeted greeting old)

-- with that front of its bytes, before the client is let in
abbrev pub Starts : Bool → Bool → Read StartMessage → View → View → Option WireStep → Type 0
Starts ssl gss (Whole m n) old new step = (step ≡ None) × (greeting : Greeting) × Greets ssl gss m greeting × (new ≡ without n (greeted greeting old))
Starts ssl gss More old new step = Waits old new step
Starts ssl gss (Bad place) old new step = (step ≡ None) × (new ≡ broken old)
Starts ssl gss (TooLong n) old new step = (step ≡ None) × (new ≡ too_long old)
