-- What is awaited at the links of a session, and what a post and a look leave there.
use Rattle.std.specs.Prelude.{◌≡◌, ℕ, Bool, true, false, ◌&&◌, if◌then◌else◌, List, [], ◌∷◌, get_or, set, Option, Some, None, is_some, is_none}
use Rattle.pool_base.specs.Sets.{has}
use Rattle.backend_trait.specs.declared.request.Request.{Request}
use Rattle.backend_trait.specs.declared.answer.Answer.{Answer}
use Rattle.backend_trait.specs.Acts.{IsOf}
use Rattle.session_links.specs.declared.slot.Slot.{Slot}
use Rattle.session_links.specs.declared.slot.Slot.TheVariants.{Empty, Idle, Asked, Lost}
use Rattle.session_links.specs.declared.slot.Sent.{Sent}
use Rattle.session_links.specs.declared.slot.Sent.TheVariants as sents
use Rattle.session_links.specs.declared.slot.Found.{Found}
use Rattle.session_links.specs.declared.slot.Found.TheVariants as founds

-- the slot of a backend
abbrev pub slot_at : {L : Type 0} → List (Slot L) → ℕ → Slot L
slot_at slots b = get_or slots b Empty

-- an answer is awaited there, or the word of a loss
abbrev pub is_awaited : {L : Type 0} → Slot L → Bool
is_awaited Empty = false
is_awaited (Idle link) = false
is_awaited (Asked link) = true
is_awaited (Lost loss) = true

-- the request that is pending at its link
abbrev pub request_in : {L : Type 0} → (L → Option Request) → Slot L → Option Request
request_in pending Empty = None
request_in pending (Idle link) = pending link
request_in pending (Asked link) = pending link
request_in pending (Lost loss) = None

-- where an answer is awaited a request is pending, and nowhere else
abbrev pub is_sound : {L : Type 0} → (L → Option Request) → Slot L → Bool
is_sound pending Empty = true
is_sound pending (Idle link) = is_none (pending link)
is_sound pending (Asked link) = is_some (pending link)
is_sound pending (Lost loss) = true

abbrev pub are_sound : {L : Type 0} → (L → Option Request) → List (Slot L) → Bool
are_sound pending [] = true
are_sound pending (slot ∷ slots) = is_sound pending slot && are_sound pending slots

-- a request that was taken is awaited; where memory was refused nothing is
abbrev pub IsSent : {L : Type 0} → Sent → Slot L → Type 0
IsSent sents.Accepted slot = is_awaited slot ≡ true
IsSent sents.NoMemory slot = is_awaited slot ≡ false

-- the answer has the form of the request
abbrev pub AnswersTo : Option Request → Answer → Type 0
AnswersTo None answer = ⊥
AnswersTo (Some asked) answer = IsOf asked answer

-- behind an answer or a loss nothing is awaited any more
abbrev pub IsFound : {L : Type 0} → Found → Option Request → Slot L → Type 0
IsFound (founds.Answered answer) pending slot = AnswersTo pending answer × (is_awaited slot ≡ false)
IsFound founds.NotYet pending slot = is_awaited slot ≡ true
IsFound (founds.Lost loss) pending slot = is_awaited slot ≡ false
IsFound founds.NoMemory pending slot = is_awaited slot ≡ true

-- the slots without that of a backend outside a set
abbrev pub kept_at : {L : Type 0} → ℕ → ℕ → List (Slot L) → List (Slot L)
kept_at bits b slots = if has bits b then slots else set slots b Empty
