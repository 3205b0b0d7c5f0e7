-- What a wire does next, by the rules of the dialogue: one step, and the steps up to one that hands something out.
--
-- 1. While the outcome of an order is awaited, it is needed, and nothing is done.
-- 2. A session that is over is closed, as it was left. One that is to be left is ordered to be left, and is over then.
-- 3. Before a client is let in its start message is taken, and it is greeted.
-- 4. Of a client that was let in the statements of its text are ordered one by one, and then that the text be settled.
-- 5. Else its next message is taken, and leads to an order, a reply or nothing. Less than a message: more input is needed; or, where the
--    input has ended, the session is to be left. Bytes that are no message, or one above the limit: a FATAL error, and it is to be left.
-- What comes next is what the steps lead to, one after another, up to the first that hands out an order, a need or the end.
use Rattle.std.specs.Prelude.{◌≡◌, ℤ, Bool, true, false, List, [], ◌∷◌, Option, Some, None}
use Rattle.schema.specs.declared.catalogue.TableDef.{TableDef}
use Rattle.sql_tree.specs.declared.statement.Statement.{Statement}
use Rattle.pg_messages.specs.declared.read.Read.{Read}
use Rattle.pg_messages.specs.declared.read.Read.TheVariants.{Whole, More, Bad, TooLong}
use Rattle.pg_messages.specs.declared.client.ClientMessage.{ClientMessage}
use Rattle.pg_messages.specs.Fronts.{start_front, client_front}
use Rattle.session_orders.specs.declared.order.OrderBody.{OrderBody}
use Rattle.session_orders.specs.declared.order.OrderBody.TheVariants as orders
use Rattle.session_wire.specs.declared.due.Due.{Due}
use Rattle.session_wire.specs.declared.wire.Stage.{Stage}
use Rattle.session_wire.specs.declared.wire.Stage.TheVariants.{Starting, Open, Leaving, Closed}
use Rattle.session_wire.specs.declared.wire.WireStep.{WireStep}
use Rattle.session_wire.specs.declared.wire.WireStep.TheVariants as steps
use Rattle.session_wire.specs.Asking.{OrdersFirst, settling}
use Rattle.session_wire.specs.Heeds.{Hears}
use Rattle.session_wire.specs.Shown.{View}
use Rattle.session_wire.specs.Starts.{Starts, Waits, broken, too_long, without}

-- an order that is given at a moment
abbrev pub order : ℤ → OrderBody → WireStep
order moment body = steps.Order (record { moment = moment; body = body })

abbrev pub step_of : ℤ → Option OrderBody → Option WireStep
step_of moment None = None
step_of moment (Some body) = Some (order moment body)

-- with that front of its bytes: a message is taken; less than one is waited for; what is none ends the session
abbrev pub Meets : List TableDef → ℤ → Read ClientMessage → View → Option WireStep → View → Type 0
Meets tables moment (Whole m n) old step new =
    (body : Option OrderBody) × (mid : View) × Hears tables m body old mid × (new ≡ without n mid) × (step ≡ step_of moment body)
Meets tables moment More old step new = Waits old new step
Meets tables moment (Bad place) old step new = (step ≡ None) × (new ≡ broken old)
Meets tables moment (TooLong n) old step new = (step ≡ None) × (new ≡ too_long old)

-- of a client that was let in: what was read before is ordered, and then the next message taken
abbrev pub Opens : List TableDef → ℤ → List Statement → Bool → View → Option WireStep → View → Type 0
Opens tables moment (s ∷ more) settles old step new = (body : OrderBody) × OrdersFirst tables body old new × (step ≡ Some (order moment body))
Opens tables moment [] true old step new = (step ≡ Some (order moment orders.Settle)) × (new ≡ settling old)
Opens tables moment [] false old step new = Meets tables moment (client_front old.rest) old step new

abbrev pub GoesAt : List TableDef → ℤ → Stage → View → Option WireStep → View → Type 0
GoesAt tables moment (Starting ssl gss) old step new = Starts ssl gss (start_front old.rest) old new step
GoesAt tables moment Open old step new = Opens tables moment old.left old.settles old step new
GoesAt tables moment (Leaving refused) old step new = (step ≡ Some (order moment orders.Leave)) × (new ≡ record old { stage = Closed refused })
GoesAt tables moment (Closed refused) old step new = (step ≡ Some (steps.Close refused)) × (new ≡ old)

-- while an outcome is awaited nothing is done
abbrev pub GoesWith : List TableDef → ℤ → Option Due → View → Option WireStep → View → Type 0
GoesWith tables moment (Some d) old step new = (step ≡ Some steps.NeedOutcome) × (new ≡ old)
GoesWith tables moment None old step new = GoesAt tables moment old.stage old step new

-- one step: an order, the end, that something is needed, or one message more
abbrev pub Goes : List TableDef → ℤ → View → Option WireStep → View → Type 0
Goes tables moment old step new = GoesWith tables moment old.due old step new

-- the steps that lead to it, one after another
abbrev pub Leads : List TableDef → ℤ → View → List View → WireStep → View → Type 0
Leads tables moment old [] step new = Goes tables moment old (Some step) new
Leads tables moment old (mid ∷ mids) step new = Goes tables moment old None mid × Leads tables moment mid mids step new

abbrev pub IsNext : List TableDef → ℤ → View → WireStep → View → Type 0
IsNext tables moment old step new = (mids : List View) × Leads tables moment old mids step new

-- all but a Leave have an outcome
abbrev pub is_answered : OrderBody → Bool
is_answered (orders.Statement checked) = true
is_answered orders.Begin = true
is_answered orders.Commit = true
is_answered orders.Rollback = true
is_answered orders.Settle = true
is_answered orders.ShowNodes = true
is_answered (orders.Recover b) = true
is_answered (orders.Refuse code name) = true
is_answered orders.Leave = false
