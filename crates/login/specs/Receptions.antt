-- What stands in front of a session: what the bytes of a connection lead to, and when it is let in.
use Rattle.std.specs.Prelude.{◌≡◌, ◌≢◌, ◌⊎◌, ℕ, Bool, List, [], ◌∷◌, length, take, codes}
use Rattle.pg_messages.specs.declared.read.Read.{Read}
use Rattle.pg_messages.specs.declared.read.Read.TheVariants as read
use Rattle.pg_messages.specs.declared.start.Pair.{Pair}
use Rattle.pg_messages.specs.declared.start.StartMessage.{StartMessage}
use Rattle.pg_messages.specs.declared.server.ServerMessage.TheVariants.{AuthSasl}
use Rattle.pg_messages.specs.Server.{Fits, spelling}
use Rattle.pg_messages.specs.Fronts.{start_front, login_front}
use Rattle.wire_start.specs.declared.greeting.Greeting.{Greeting}
use Rattle.wire_start.specs.declared.greeting.Greeting.TheVariants as greetings
use Rattle.wire_start.specs.declared.greeting.Rejection.{Rejection}
use Rattle.wire_start.specs.declared.greeting.Rejection.TheVariants.{AskedTwice, MinorVersion, Encoding}
use Rattle.wire_start.specs.Greetings.{Greets}
use Rattle.login.specs.declared.candidate.User.{User}
use Rattle.login.specs.declared.gate.Login.{Login}
use Rattle.login.specs.declared.gate.Login.TheVariants as logins
use Rattle.login.specs.declared.gate.Answer.{Answer}
use Rattle.login.specs.declared.gate.Answer.TheVariants as answers
use Rattle.login.specs.declared.fault.LoginFault.TheVariants as faults
use Rattle.login.specs.declared.candidate.Candidate.{Candidate}
use Rattle.login.specs.declared.refusal.Refusal.{Refusal}
use Rattle.login.specs.declared.refusal.Refusal.TheVariants as refusals
use Rattle.login.specs.declared.reception.Reception.{Reception}
use Rattle.login.specs.declared.reception.Reception.TheVariants.{Greeted, Showing, Over}
use Rattle.login.specs.declared.reception.Reply.{Reply}
use Rattle.login.specs.declared.reception.Reply.TheVariants.{More, Tells, LetsIn, Refuses, Leaves}
use Rattle.login.specs.Gates.{IsTurn}
use Rattle.login.specs.Candidates.{names_in, named, IsCandidate}

-- why a start message is refused
abbrev pub ends_so : Rejection → Refusal
ends_so AskedTwice = refusals.Malformed
ends_so MinorVersion = refusals.MinorVersion
ends_so Encoding = refusals.Encoding

-- the connection ends so
abbrev pub Ends : Reply → Reply → Reception → Type 0
Ends so reply new = (reply ≡ so) × (new ≡ Over)

-- ---- the start message

-- the client is asked for the password of the user of this name
pub record IsAsked (users : List User) (nonce start name : List ℕ) (reply : Reply) (new : Reception) : Type 0 where
  pub candidate : Candidate
  pub is : IsCandidate (named name users) candidate
  pub told : reply ≡ Tells (length start) (spelling AuthSasl)
  pub next : new ≡ Showing (logins.Asked candidate.verifier candidate.is_user nonce) start

-- a start message names one user
abbrev pub Asks : List User → List ℕ → List ℕ → List Pair → Reply → Reception → Type 0
Asks users nonce start options reply new =
    (((name : List ℕ) → names_in options ≢ name ∷ []) × Ends (Refuses refusals.Malformed) reply new)
    ⊎ ((name : List ℕ) × (names_in options ≡ name ∷ []) × IsAsked users nonce start name reply new)

abbrev pub Answers : List User → List ℕ → List ℕ → Greeting → Reply → Reception → Type 0
Answers users nonce start (greetings.Declined ssl gss) reply new = (reply ≡ Tells (length start) (codes "N")) × (new ≡ Greeted ssl gss nonce)
Answers users nonce start (greetings.LetIn options) reply new = Asks users nonce start options reply new
Answers users nonce start (greetings.Refused rejection) reply new = Ends (Refuses (ends_so rejection)) reply new
Answers users nonce start greetings.Cancelled reply new = Ends Leaves reply new

-- what the front of the bytes leads to
abbrev pub Begins : List User → Bool → Bool → List ℕ → List ℕ → Read StartMessage → Reply → Reception → Type 0
Begins users ssl gss nonce inbox (read.Whole message n) reply new =
    (greeting : Greeting) × Greets ssl gss message greeting × Answers users nonce (take n inbox) greeting reply new
Begins users ssl gss nonce inbox read.More reply new = (reply ≡ More) × (new ≡ Greeted ssl gss nonce)
Begins users ssl gss nonce inbox (read.Bad place) reply new = Ends (Refuses refusals.Malformed) reply new
Begins users ssl gss nonce inbox (read.TooLong stated) reply new = Ends (Refuses refusals.TooLong) reply new

-- ---- the password

-- by what is answered to a body: a message that is too long to be told ends the connection
abbrev pub Follows : List ℕ → ℕ → Answer → Login → Reply → Reception → Type 0
Follows start n (answers.Goes told) login reply new =
    (¬ (Fits told) × Ends (Refuses refusals.TooLong) reply new) ⊎ ((reply ≡ Tells n (spelling told)) × (new ≡ Showing login start))
Follows start n (answers.LetIn told) login reply new =
    (¬ (Fits told) × Ends (Refuses refusals.TooLong) reply new) ⊎ Ends (LetsIn n (spelling told) start) reply new
Follows start n (answers.Refused faults.Password) login reply new = Ends (Refuses refusals.Password) reply new
Follows start n (answers.Refused faults.Malformed) login reply new = Ends (Refuses refusals.Malformed) reply new

-- what a body leads to, whose message has n bytes
pub record Shows (login : Login) (start body : List ℕ) (n : ℕ) (reply : Reply) (new : Reception) : Type 0 where
  pub answer : Answer
  pub next : Login
  pub turn : IsTurn login body answer next
  pub tells : Follows start n answer next reply new

abbrev pub Hears : Login → List ℕ → Read (List ℕ) → Reply → Reception → Type 0
Hears login start (read.Whole body n) reply new = Shows login start body n reply new
Hears login start read.More reply new = (reply ≡ More) × (new ≡ Showing login start)
Hears login start (read.Bad place) reply new = Ends (Refuses refusals.Malformed) reply new
Hears login start (read.TooLong stated) reply new = Ends (Refuses refusals.TooLong) reply new

-- ---- both

-- what the bytes that have come lead to, and how far the connection has come with them
abbrev pub IsStep : List User → Reception → List ℕ → Reply → Reception → Type 0
IsStep users (Greeted ssl gss nonce) inbox reply new = Begins users ssl gss nonce inbox (start_front inbox) reply new
IsStep users (Showing login start) inbox reply new = Hears login start (login_front inbox) reply new
IsStep users Over inbox reply new = Ends Leaves reply new
