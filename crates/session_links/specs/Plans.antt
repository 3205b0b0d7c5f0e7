-- What a maker of links tells, where it does: the links that it is still to make. And what is told of the link to a backend.
use Rattle.std.specs.Prelude.{◌≡◌, ◌≢◌, ◌⊎◌, ℕ, Bool, true, false, List, [], ◌∷◌, Option, Some, None}
use Rattle.pool_base.specs.declared.backend_id.BackendId.{BackendId}
use Rattle.backend_trait.specs.declared.request.Request.{Request}
use Rattle.backend_trait.specs.declared.answer.Answer.{Answer}
use Rattle.backend_trait.specs.Exchanges.{Exchange, IsSpent, Spends}
use Rattle.session_links.specs.declared.slot.Slot.{Slot}
use Rattle.session_links.specs.declared.slot.Slot.TheVariants.{Empty, Idle, Asked, Lost}
use Rattle.session_links.specs.declared.slot.Sent.{Sent}
use Rattle.session_links.specs.declared.slot.Sent.TheVariants as sents
use Rattle.session_links.specs.declared.slot.Found.{Found}
use Rattle.session_links.specs.declared.slot.Found.TheVariants as founds
use Rattle.session_links.specs.Slots.{slot_at}

-- a link to that backend, and the exchanges that it is to give
pub record Plan : Type 0 where
  pub b : BackendId
  pub exchanges : List Exchange

-- a link to the backend is made: the first of those that were still to be made
abbrev pub Makes : BackendId → Option (List Plan) → Option (List Exchange) → Option (List Plan) → Type 0
Makes b None plan new = (plan ≡ None) × (new ≡ None)
Makes b (Some plans) plan new =
    (exchanges : List Exchange) × (rest : List Plan) × (plans ≡ record { b = b; exchanges = exchanges } ∷ rest) × (plan ≡ Some exchanges) × (new ≡ Some rest)

-- the next link that is still to be made, if any is left, is to another backend
abbrev pub MakesNone : BackendId → Option (List Plan) → Type 0
MakesNone b None = Unit {0}
MakesNone b (Some []) = Unit {0}
MakesNone b (Some (next ∷ rest)) = next.b ≢ b

-- what is told of the link to a backend: there is none; there is none, and the next look is told so; or that request is pending at it, and
-- those exchanges are still to be given
pub data Told : Type 0 where
  NoLink : Told
  Gone : Told
  Linked : Option Request → Option (List Exchange) → Told

abbrev pub told_in : {L : Type 0} → (L → Option Request) → (L → Option (List Exchange)) → Slot L → Told
told_in pending plan Empty = NoLink
told_in pending plan (Idle link) = Linked (pending link) (plan link)
told_in pending plan (Asked link) = Linked (pending link) (plan link)
told_in pending plan (Lost loss) = Gone

abbrev pub told_at : {L : Type 0} → (L → Option Request) → (L → Option (List Exchange)) → List (Slot L) → ℕ → Told
told_at pending plan slots b = told_in pending plan (slot_at slots b)

-- a request was put at a link with that plan, or memory was refused
abbrev pub IsPut : Sent → Request → Option (List Exchange) → Told → Type 0
IsPut sents.Accepted request plan new = new ≡ Linked (Some request) plan
IsPut sents.NoMemory request plan new = new ≡ Linked None plan

-- no link was made: none to that backend was to be made, or memory was refused
abbrev pub IsUnmade : BackendId → Sent → Option (List Plan) → Told → Type 0
IsUnmade b sents.Accepted plans new = MakesNone b plans × (new ≡ Gone)
IsUnmade b sents.NoMemory plans new = new ≡ NoLink

-- a link to the backend was made, and the request put there; or none was made
abbrev pub IsPutAnew : BackendId → Request → Sent → Option (List Plan) → Told → Option (List Plan) → Type 0
IsPutAnew b request sent plans new later =
    (IsUnmade b sent plans new × (later ≡ plans)) ⊎ ((plan : Option (List Exchange)) × (Makes b plans plan later × IsPut sent request plan new))

-- the request was put at the link, where there is one with nothing pending, or at one that was made for it
abbrev pub Puts : BackendId → Request → Sent → Told → Option (List Plan) → Told → Option (List Plan) → Type 0
Puts b request sent old plans new later =
    ((old ≡ NoLink) × IsPutAnew b request sent plans new later)
    ⊎ ((plan : Option (List Exchange)) × ((old ≡ Linked None plan) × ((later ≡ plans) × IsPut sent request plan new)))

-- there is no link, or it has no exchange left for what is pending
abbrev pub IsOver : Told → Type 0
IsOver NoLink = Unit {0}
IsOver Gone = Unit {0}
IsOver (Linked pending plan) = IsSpent plan pending

-- an answer is to the request that is pending, and is that of the next exchange, where they are told. A link is lost where it is over, and
-- then there is none
abbrev pub IsHeard : Found → Told → Told → Type 0
IsHeard (founds.Answered answer) old new =
    (request : Request) × (plan : Option (List Exchange)) × (left : Option (List Exchange))
    × (old ≡ Linked (Some request) plan) × Spends plan (Some request) answer left × (new ≡ Linked None left)
IsHeard founds.NotYet old new = new ≡ old
IsHeard (founds.Lost loss) old new = IsOver old × (new ≡ NoLink)
IsHeard founds.NoMemory old new = new ≡ old

-- an answer is awaited there, or the word of a loss
abbrev pub awaits : Told → Bool
awaits NoLink = false
awaits Gone = true
awaits (Linked None plan) = false
awaits (Linked (Some request) plan) = true

-- a link that is waited for no longer
abbrev pub given_up : Told → Told
given_up NoLink = NoLink
given_up Gone = Gone
given_up (Linked None plan) = Linked None plan
given_up (Linked (Some request) plan) = Gone
