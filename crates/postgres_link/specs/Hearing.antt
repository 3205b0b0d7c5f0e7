-- What bytes of a server come to, heard message by message: the answer, that more is needed, or that they are none.
use Rattle.std.specs.Prelude.{◌≡◌, ℕ, ◌+◌, ◌-◌, ◌<◌, ◌≤◌, List, [], ◌∷◌, length, drop, Option, Some, None, Bool, true, false}
use Rattle.pg_messages.specs.declared.server.ServerMessage.{ServerMessage}
use Rattle.pg_messages.specs.declared.read.Read.TheVariants as read
use Rattle.pg_messages.specs.Fronts.{server_front}
use Rattle.postgres_link.specs.declared.hearing.Step.{Step}
use Rattle.postgres_link.specs.declared.hearing.Step.TheVariants as step
use Rattle.postgres_link.specs.declared.hearing.Excess.{Excess}
use Rattle.postgres_link.specs.declared.hearing.Excess.TheVariants as excess
use Rattle.postgres_link.specs.declared.hearing.Heard.{Heard}
use Rattle.postgres_link.specs.declared.hearing.Heard.TheVariants as heard

-- where the hearing has come to: it waits in this state, after so many bytes, with so many to be passed over and these left over; it has the reply, with these left over; or it has broken off
pub data Outcome (S R : Type 0) : Type 0 where
  waiting : S → ℕ → ℕ → List ℕ → Outcome S R
  replied : R → List ℕ → Outcome S R
  broken : Outcome S R

-- neither does the message carry the answer on, nor does it end it
abbrev pub IsStrange : {S R : Type 0} → (S → ServerMessage → S → Type 0) → (S → ServerMessage → R → Type 0) → S → ServerMessage → Type 0
IsStrange {S} {R} Goes Ends s m = ((new : S) → Goes s m new → ⊥) × ((r : R) → Ends s m r → ⊥)

-- what a step says of the message
abbrev pub IsStep : {S R : Type 0} → (S → ServerMessage → S → Type 0) → (S → ServerMessage → R → Type 0) → Step R → S → ServerMessage → S → Type 0
IsStep Goes Ends step.Goes s m new = Goes s m new
IsStep Goes Ends (step.Ends r) s m new = Ends s m r
IsStep Goes Ends step.Breaks s m new = IsStrange Goes Ends s m

-- the answer cannot be so large
abbrev pub IsOutOfBounds : {S : Type 0} → (S → Excess → S → Type 0) → S → Excess → Type 0
IsOutOfBounds {S} Exceeds s what = (new : S) → Exceeds s what new → ⊥

-- whether the answer may be so large, and then the state with it
abbrev pub IsExcess : {S : Type 0} → (S → Excess → S → Type 0) → Bool → S → Excess → S → Type 0
IsExcess Exceeds true s what new = Exceeds s what new
IsExcess Exceeds false s what new = IsOutOfBounds Exceeds s what

-- a message of that length stands at the front of the bytes
abbrev pub Fronts : ServerMessage → ℕ → List ℕ → Type 0
Fronts m n bytes = (server_front bytes ≡ read.Whole m n) × (n ≤ length bytes)

-- from this state, after so many bytes of the answer and with so many to be passed over, the bytes come to this; an answer has 268435456 bytes at most, unless the state says that it may have more, and a message that is too long is passed over where the state says so
pub data Hears {S R : Type 0} (Goes : S → ServerMessage → S → Type 0) (Ends : S → ServerMessage → R → Type 0) (Exceeds : S → Excess → S → Type 0) : S → ℕ → ℕ → List ℕ → Outcome S R → Type 0 where
  waits : {s : S} {so_far : ℕ} {bytes : List ℕ} → server_front bytes ≡ read.More → Hears Goes Ends Exceeds s so_far 0 bytes (waiting s so_far 0 bytes)
  wants : {s : S} {so_far left : ℕ} → Hears Goes Ends Exceeds s so_far left [] (waiting s so_far left [])
  passes : {s : S} {so_far left : ℕ} {bytes : List ℕ} (n : ℕ) (o : Outcome S R) → n ≤ left → n ≤ length bytes → Hears Goes Ends Exceeds s so_far (left - n) (drop n bytes) o → Hears Goes Ends Exceeds s so_far left bytes o
  garbled : {s : S} {so_far : ℕ} {bytes : List ℕ} (place : ℕ) → server_front bytes ≡ read.Bad place → Hears Goes Ends Exceeds s so_far 0 bytes broken
  too_long : {s : S} {so_far tag : ℕ} {bytes : List ℕ} (n : ℕ) (new : S) (o : Outcome S R) → server_front (tag ∷ bytes) ≡ read.TooLong n → Exceeds s (excess.Message tag) new → Hears Goes Ends Exceeds new so_far (1 + n) (tag ∷ bytes) o → Hears Goes Ends Exceeds s so_far 0 (tag ∷ bytes) o
  never_so_long : {s : S} {so_far tag : ℕ} {bytes : List ℕ} (n : ℕ) → server_front (tag ∷ bytes) ≡ read.TooLong n → IsOutOfBounds Exceeds s (excess.Message tag) → Hears Goes Ends Exceeds s so_far 0 (tag ∷ bytes) broken
  floods : {s : S} {so_far : ℕ} {bytes : List ℕ} (m : ServerMessage) (n : ℕ) (new : S) (o : Outcome S R) → Fronts m n bytes → 268435456 < so_far + n → Exceeds s excess.Answer new → Hears Goes Ends Exceeds new 0 0 bytes o → Hears Goes Ends Exceeds s so_far 0 bytes o
  never_so_many : {s : S} {so_far : ℕ} {bytes : List ℕ} (m : ServerMessage) (n : ℕ) → Fronts m n bytes → 268435456 < so_far + n → IsOutOfBounds Exceeds s excess.Answer → Hears Goes Ends Exceeds s so_far 0 bytes broken
  breaks : {s : S} {so_far : ℕ} {bytes : List ℕ} (m : ServerMessage) (n : ℕ) → Fronts m n bytes → so_far + n ≤ 268435456 → IsStrange Goes Ends s m → Hears Goes Ends Exceeds s so_far 0 bytes broken
  ends : {s : S} {so_far : ℕ} {bytes : List ℕ} (m : ServerMessage) (n : ℕ) (r : R) → Fronts m n bytes → so_far + n ≤ 268435456 → Ends s m r → Hears Goes Ends Exceeds s so_far 0 bytes (replied r (drop n bytes))
  goes : {s : S} {so_far : ℕ} {bytes : List ℕ} (m : ServerMessage) (n : ℕ) (new : S) (o : Outcome S R) → Fronts m n bytes → so_far + n ≤ 268435456 → Goes s m new → Hears Goes Ends Exceeds new (so_far + n) 0 (drop n bytes) o → Hears Goes Ends Exceeds s so_far 0 bytes o

-- where a hearing stands: the state, the count of the answer's bytes so far, how many are to be passed over, the bytes that have come and were not read
pub record Standing (S : Type 0) : Type 0 where
  pub state : S
  pub so_far : ℕ
  pub left : ℕ
  pub bytes : List ℕ

abbrev pub stands : {S : Type 0} → S → ℕ → ℕ → List ℕ → Standing S
stands s so_far left bytes = record { state = s; so_far = so_far; left = left; bytes = bytes }

abbrev pub HearsTo : {S R : Type 0} → (S → ServerMessage → S → Type 0) → (S → ServerMessage → R → Type 0) → (S → Excess → S → Type 0) → Standing S → Outcome S R → Type 0
HearsTo Goes Ends Exceeds at o = Hears Goes Ends Exceeds at.state at.so_far at.left at.bytes o

-- whatever is heard from the later place was heard from the earlier one
abbrev pub LeadsTo : {S R : Type 0} → (S → ServerMessage → S → Type 0) → (S → ServerMessage → R → Type 0) → (S → Excess → S → Type 0) → Standing S → Standing S → Type 0
LeadsTo {S} {R} Goes Ends Exceeds old new = (o : Outcome S R) → HearsTo Goes Ends Exceeds new o → HearsTo Goes Ends Exceeds old o

-- what was told is what the bytes come to
abbrev pub Tells : {S R : Type 0} → (S → ServerMessage → S → Type 0) → (S → ServerMessage → R → Type 0) → (S → Excess → S → Type 0) → Heard R → Standing S → Standing S → Type 0
Tells Goes Ends Exceeds heard.NotYet old new = HearsTo Goes Ends Exceeds old (waiting new.state new.so_far new.left new.bytes)
Tells Goes Ends Exceeds (heard.Reply r) old new = HearsTo Goes Ends Exceeds old (replied r new.bytes)
Tells Goes Ends Exceeds heard.Broken old new = HearsTo Goes Ends Exceeds old broken

-- after one message, or a part of one that is passed over: it goes on, with fewer bytes, or was told
abbrev pub TellsOne : {S R : Type 0} → (S → ServerMessage → S → Type 0) → (S → ServerMessage → R → Type 0) → (S → Excess → S → Type 0) → Option (Heard R) → Standing S → Standing S → Type 0
TellsOne Goes Ends Exceeds None old new = LeadsTo Goes Ends Exceeds old new × (length new.bytes < length old.bytes)
TellsOne Goes Ends Exceeds (Some told) old new = Tells Goes Ends Exceeds told old new
