-- A session that rests: it has nothing to do until its client sends something.
use Rattle.std.specs.Coded.{×_prop, Π_prop}
use Rattle.std.proofs.Props.{props}
use Rattle.std.specs.Prelude.{◌≡◌, ◌&&◌, ℕ, Bool, true, false, not, List, [], ◌∷◌}
use Rattle.pg_messages.specs.declared.read.Read.{Read}
use Rattle.pg_messages.specs.declared.read.Read.TheVariants.{Whole, More, Bad, TooLong}
use Rattle.pg_messages.specs.Fronts.{start_front, client_front}
use Rattle.session_machine.specs.Rules.{next_action}
use Rattle.session_engine.specs.declared.ask.Ask.{Ask}
use Rattle.session_engine.specs.declared.ask.Ask.TheVariants as asks
use Rattle.session_engine.specs.Cores.{machine_in}
use Rattle.session_engine.specs.Handing.{asked_of}
use Rattle.session_wire.specs.declared.wire.Stage.{Stage}
use Rattle.session_wire.specs.declared.wire.Stage.TheVariants.{Starting, Open, Leaving, Closed}
use Rattle.session_wire.specs.Shown.{View, shown}
use Rattle.online_recovery.specs.declared.action.RecoveryAction.TheVariants as recoveries
use Rattle.online_recovery.specs.declared.layout.Layout.{Layout}
use Rattle.online_recovery.specs.Rules.{next_action as recovery_action}
use Rattle.recovery_seat.specs.declared.place.Place.{Place}
use Rattle.recovery_seat.specs.Places.{standing_of}

abbrev pub is_more : {T : Type 0} → Read T → Bool
is_more {T} (Whole message length) = false
is_more {T} More = true
is_more {T} (Bad place) = false
is_more {T} (TooLong stated) = false

-- less than a message is left
abbrev pub is_short : Stage → List ℕ → Bool
is_short (Starting ssl gss) rest = is_more (start_front rest)
is_short Open rest = is_more (client_front rest)
is_short (Leaving refused) rest = false
is_short (Closed refused) rest = false

abbrev pub has_none : {T : Type 0} → List T → Bool
has_none {T} [] = true
has_none {T} (one ∷ more) = false

-- nothing of the messages that were taken is still to be ordered
abbrev pub is_idle : Stage → View → Bool
is_idle (Starting ssl gss) v = true
is_idle Open v = has_none v.left && not v.settles
is_idle (Leaving refused) v = true
is_idle (Closed refused) v = true

abbrev pub asks_nothing : Ask → Bool
asks_nothing asks.Rest = true
asks_nothing (asks.Gate call) = false
asks_nothing (asks.Post b) = false
asks_nothing (asks.WaitFor b) = false
asks_nothing (asks.Detach b) = false
asks_nothing asks.Reply = false
asks_nothing asks.End = false

-- less than a message of its client is left, and where no recovery is under way the session is not over, and asks for nothing
abbrev pub IsResting : Place → Type 0
IsResting place =
    (is_short (shown place.seat.wire).stage (shown place.seat.wire).rest ≡ true) × ((is_idle (shown place.seat.wire).stage (shown place.seat.wire) ≡ true)
    × (((shown place.seat.wire).ended ≡ false)
    × ((layout : Layout) → recovery_action (standing_of layout place) ≡ recoveries.Rest
    → (place.seat.over ≡ false) × (asks_nothing (asked_of (next_action (machine_in place.seat.core))) ≡ true))))

-- where a session is known to rest, it does
abbrev pub RestsAsKnown : Bool → Place → Type 0
RestsAsKnown rests place = rests ≡ true → IsResting place

resting_prop : (place : Place) → IsProp (IsResting place)
resting_prop place = ×_prop (Prim.hlevel props) (×_prop (Prim.hlevel props) (×_prop (Prim.hlevel props) (Π_prop (λ layout. Π_prop (λ none. ×_prop (Prim.hlevel props) (Prim.hlevel props))))))

pub known_prop : (rests : Bool) (place : Place) → IsProp (RestsAsKnown rests place)
known_prop rests place = Π_prop (λ known. resting_prop place)
