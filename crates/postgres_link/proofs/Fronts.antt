-- Messages at the front of bytes, and what a hearing makes of them.
use Rattle.std.proofs.Common.{◌≡◌, refl, get_or, ℕ, suc, ◌≤◌, ◌+◌, ◌-◌, ◌++◌, List, [], ◌∷◌, Option, Some, None, length, drop, ap, arith, sym, ◌∙◌, ◌<◌, length-drop, length-append}
use Rattle.std.proofs.lemmas.List.{length-take-le}
use Rattle.pg_messages.specs.declared.server.ServerMessage.{ServerMessage}
use Rattle.pg_messages.specs.declared.read.Read.TheVariants as read
use Rattle.pg_messages.specs.Fields.{int32}
use Rattle.pg_messages.specs.Frame.{BeginsWith}
use Rattle.pg_messages.specs.Fronts.{server_front}
use Rattle.pg_messages.specs.Server.{IsServerForm, body_of}
use Rattle.postgres_link.specs.declared.hearing.Excess.{Excess}
use Rattle.postgres_link.specs.declared.hearing.Excess.TheVariants as excess
use Rattle.postgres_link.specs.declared.hearing.Heard.{Heard}
use Rattle.postgres_link.specs.declared.hearing.Heard.TheVariants as heard
use Rattle.postgres_link.specs.Hearing.{Fronts, Hears, IsOutOfBounds, Standing, LeadsTo, TellsOne, stands, waiting, broken, waits, wants, garbled, too_long, never_so_long, goes, passes}

-- a message takes one byte at least, and as many as one may have at most
pub message_length : (m : ServerMessage) (n : ℕ) (bytes : List ℕ) → BeginsWith IsServerForm m n bytes → (1 ≤ n) × (n ≤ length bytes) × (n ≤ 1048577)
message_length m n bytes (within, form) =
    let e : n ≡ suc (length (int32 (length (body_of m) + 4) ++ body_of m)) = sym (length-take-le n bytes within) ∙ ap length form.3 in
    let l : length (int32 (length (body_of m) + 4) ++ body_of m) ≡ 4 + length (body_of m) = length-append (int32 (length (body_of m) + 4)) (body_of m) in
    (omega (arith, e), within, omega (arith, e, l, form.2))

-- where nothing is to be passed over, what stands at the front tells what is heard
pub more_here : {S R : Type 0} {Goes : S → ServerMessage → S → Type 0} {Ends : S → ServerMessage → R → Type 0} {Exceeds : S → Excess → S → Type 0} (s : S) (so_far left : ℕ) (bytes : List ℕ) → left ≡ 0 → server_front bytes ≡ read.More → Hears Goes Ends Exceeds s so_far left bytes (waiting s so_far left bytes)
more_here s so_far left bytes none front = rw none (waits front)

pub bad_here : {S R : Type 0} {Goes : S → ServerMessage → S → Type 0} {Ends : S → ServerMessage → R → Type 0} {Exceeds : S → Excess → S → Type 0} (s : S) (so_far left place : ℕ) (bytes : List ℕ) → left ≡ 0 → server_front bytes ≡ read.Bad place → Hears Goes Ends Exceeds s so_far left bytes broken
bad_here s so_far left place bytes none front = rw none (garbled place front)

pub never_here : {S R : Type 0} {Goes : S → ServerMessage → S → Type 0} {Ends : S → ServerMessage → R → Type 0} {Exceeds : S → Excess → S → Type 0} (s : S) (so_far left tag n : ℕ) (bytes rest : List ℕ) → left ≡ 0 → bytes ≡ tag ∷ rest → server_front bytes ≡ read.TooLong n → IsOutOfBounds Exceeds s (excess.Message tag) → Hears Goes Ends Exceeds s so_far left bytes broken
never_here s so_far left tag n bytes rest none first front bounds = rw none (rw first (never_so_long n (rw first at front) bounds))

-- no message that is too long stands at the front of nothing
pub long_has_bytes : (bytes : List ℕ) (n : ℕ) → server_front bytes ≡ read.TooLong n → 1 ≤ length bytes
unfolding server_front
long_has_bytes [] n front = absurd (let e : read.More ≡ read.TooLong n = front in grind arith)
long_has_bytes (tag ∷ rest) n front = omega arith

pub first_is : (bytes : List ℕ) → 1 ≤ length bytes → bytes ≡ get_or bytes 0 0 ∷ drop 1 bytes
first_is [] some = absurd (omega (arith, some))
first_is (byte ∷ rest) some = refl

-- behind the word of a message that is too long, it is passed over
pub long_here : {S R : Type 0} {Goes : S → ServerMessage → S → Type 0} {Ends : S → ServerMessage → R → Type 0} {Exceeds : S → Excess → S → Type 0} (s new : S) (so_far left now tag n : ℕ) (bytes rest : List ℕ) → left ≡ 0 → now ≡ 1 + n → bytes ≡ tag ∷ rest → server_front bytes ≡ read.TooLong n → Exceeds s (excess.Message tag) new
    → LeadsTo Goes Ends Exceeds (stands s so_far left bytes) (stands new so_far now bytes)
long_here s new so_far left now tag n bytes rest none count first front step o h = rw none (rw first (too_long n new o (rw first at front) step (rw first at (rw count at h))))

-- behind a message that carries the answer on, the hearing goes on
pub went_on : {S R : Type 0} {Goes : S → ServerMessage → S → Type 0} {Ends : S → ServerMessage → R → Type 0} {Exceeds : S → Excess → S → Type 0} (s new : S) (m : ServerMessage) (n so_far heard left : ℕ) (bytes rest : List ℕ)
    → Fronts m n bytes → heard ≡ so_far + n → so_far + n ≤ 268435456 → left ≡ 0 → rest ≡ drop n bytes → Goes s m new
    → LeadsTo Goes Ends Exceeds (stands s so_far 0 bytes) (stands new heard left rest)
went_on s new m n so_far heard left bytes rest front count limit none behind step o h =
    goes m n new o front limit step (rw behind at (rw none at (rw count at h)))

-- behind what was passed over, the hearing goes on
pub passed : {S R : Type 0} {Goes : S → ServerMessage → S → Type 0} {Ends : S → ServerMessage → R → Type 0} {Exceeds : S → Excess → S → Type 0} (s : S) (n so_far left now : ℕ) (bytes rest : List ℕ)
    → n ≤ left → n ≤ length bytes → now ≡ left - n → rest ≡ drop n bytes
    → LeadsTo Goes Ends Exceeds (stands s so_far left bytes) (stands s so_far now rest)
passed s n so_far left now bytes rest some within count behind o h = passes n o some within (rw behind at (rw count at h))

-- what waits for bytes of a message that is passed over
pub empty_here : {S R : Type 0} {Goes : S → ServerMessage → S → Type 0} {Ends : S → ServerMessage → R → Type 0} {Exceeds : S → Excess → S → Type 0} (s : S) (so_far left : ℕ) (bytes : List ℕ) → length bytes ≡ 0 → Hears Goes Ends Exceeds s so_far left bytes (waiting s so_far left bytes)
empty_here s so_far left [] none = wants
empty_here s so_far left (byte ∷ bytes) none = absurd (omega (arith, none))

-- what is told from a later place is told from an earlier one
pub told_before : {S R : Type 0} {Goes : S → ServerMessage → S → Type 0} {Ends : S → ServerMessage → R → Type 0} {Exceeds : S → Excess → S → Type 0} (told : Option (Heard R)) (old mid new : Standing S)
    → LeadsTo Goes Ends Exceeds old mid → mid.bytes ≡ old.bytes → TellsOne Goes Ends Exceeds told mid new → TellsOne Goes Ends Exceeds told old new
told_before None old mid new leads same (on, fewer) = ((λ o h. leads o (on o h)), rw same at fewer)
told_before (Some heard.NotYet) old mid new leads same told = leads _ told
told_before (Some (heard.Reply r)) old mid new leads same told = leads _ told
told_before (Some heard.Broken) old mid new leads same told = leads _ told

pub shorter : (n : ℕ) (bytes rest : List ℕ) → rest ≡ drop n bytes → 1 ≤ n → n ≤ length bytes → length rest < length bytes
shorter n bytes rest left some within = let e = ap length left ∙ length-drop n bytes in omega (arith, e)
