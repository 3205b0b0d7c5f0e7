-- When a wire waits for more input, and what falls with each step.
use Rattle.std.specs.Prelude.{◌≡◌, ◌+◌, ◌<◌, ℕ, false, List, [], Option, None, length}
use Rattle.pg_messages.specs.declared.read.Read.TheVariants.{More}
use Rattle.pg_messages.specs.Fronts.{start_front, client_front}
use Rattle.session_wire.specs.declared.wire.Stage.{Stage}
use Rattle.session_wire.specs.declared.wire.Stage.TheVariants.{Starting, Open, Leaving, Closed}
use Rattle.session_wire.specs.declared.wire.WireStep.{WireStep}
use Rattle.session_wire.specs.Shown.{View}

-- nothing of the messages that were taken is still to be ordered
pub record IsIdle (v : View) : Type 0 where
  pub left : v.left ≡ []
  pub settles : v.settles ≡ false

-- the bytes that are left are less than a message; of a session that is over or to be left nothing is awaited
abbrev pub IsShort : Stage → List ℕ → Type 0
IsShort (Starting ssl gss) rest = start_front rest ≡ More
IsShort Open rest = client_front rest ≡ More
IsShort (Leaving refused) rest = ⊥
IsShort (Closed refused) rest = ⊥

abbrev pub NothingLeft : Stage → View → Type 0
NothingLeft Open v = IsIdle v
NothingLeft _ v = Unit {0}

-- more input is needed
pub record IsWaiting (v : View) : Type 0 where
  pub short : IsShort v.stage v.rest
  pub idle : NothingLeft v.stage v
  pub goes_on : v.ended ≡ false

abbrev pub open_one : Stage → ℕ
open_one (Starting ssl gss) = 1
open_one Open = 1
open_one (Leaving refused) = 0
open_one (Closed refused) = 0

-- the bytes that were not taken, and one more until the session is left
abbrev pub work : View → ℕ
work v = length v.rest + open_one v.stage

-- a step that takes a message, or lets the session be left, leaves less
abbrev pub Falls : Option WireStep → View → View → Type 0
Falls step old new = step ≡ None → work new < work old
