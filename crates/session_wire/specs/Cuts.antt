-- The bytes of a client as its messages, one after another, and what is left of them.
use Rattle.std.specs.Prelude.{◌≡◌, ◌≤◌, ℕ, Bool, true, false, List, [], ◌∷◌, ◌++◌, length, drop}
use Rattle.pg_messages.specs.declared.read.Read.TheVariants.{Whole}
use Rattle.pg_messages.specs.declared.client.ClientMessage.{ClientMessage}
use Rattle.pg_messages.specs.declared.start.StartMessage.{StartMessage}
use Rattle.pg_messages.specs.Fronts.{start_front, client_front}
use Rattle.session_wire.specs.declared.wire.Stage.{Stage}
use Rattle.session_wire.specs.declared.wire.Stage.TheVariants.{Starting, Open, Leaving, Closed}
use Rattle.session_wire.specs.Shown.{View}

-- a message: before the client is let in, or behind that
pub data Message : Type 0 where
  First : StartMessage → Message
  Later : ClientMessage → Message

-- the bytes are these messages and then the rest; of each whether a session has begun before it and behind it, which
-- behind a first message is left open
abbrev pub AreCut : Bool → List ℕ → List Message → List ℕ → Bool → Type 0
AreCut begun bytes [] rest then = (bytes ≡ rest) × (begun ≡ then)
AreCut false bytes (First m ∷ ms) rest then = (n : ℕ) × (n ≤ length bytes) × (start_front bytes ≡ Whole m n) × (next : Bool) × AreCut next (drop n bytes) ms rest then
AreCut true bytes (First m ∷ ms) rest then = ⊥
AreCut true bytes (Later m ∷ ms) rest then = (n : ℕ) × (n ≤ length bytes) × (client_front bytes ≡ Whole m n) × AreCut true (drop n bytes) ms rest then
AreCut false bytes (Later m ∷ ms) rest then = ⊥

-- a session that is being left takes no message more
abbrev pub Agrees : Stage → Bool → Type 0
Agrees (Starting ssl gss) begun = begun ≡ false
Agrees Open begun = begun ≡ true
Agrees (Leaving refused) begun = Unit {0}
Agrees (Closed refused) begun = Unit {0}

-- of what was fed, the wire has taken these messages, and has the rest
abbrev pub HasTaken : List ℕ → List Message → View → Type 0
HasTaken fed taken v = (begun : Bool) × AreCut false fed taken v.rest begun × Agrees v.stage begun

-- the wire has taken messages, one or more or none, from the front of its bytes
abbrev pub Takes : View → View → Type 0
Takes old new = (fed : List ℕ) (taken : List Message) → HasTaken fed taken old
    → (more : List Message) × HasTaken fed (taken ++ more) new
