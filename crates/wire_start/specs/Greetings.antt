-- What a start message leads to.
use Rattle.std.specs.Prelude.{◌≡◌, ◌≢◌, ◌⊎◌, ℕ, List, Bool, true, false, if◌then◌else◌, All, map, codes}
use Rattle.std.specs.Char.{to_ascii_lowercase}
use Rattle.pg_messages.specs.declared.start.Pair.{Pair}
use Rattle.pg_messages.specs.declared.start.StartMessage.{StartMessage}
use Rattle.pg_messages.specs.declared.start.StartMessage.TheVariants.{Start, Ssl, Gss, Cancel}
use Rattle.wire_start.specs.declared.greeting.Greeting.{Greeting}
use Rattle.wire_start.specs.declared.greeting.Greeting.TheVariants.{Declined, LetIn, Refused, Cancelled}
use Rattle.wire_start.specs.declared.greeting.Rejection.TheVariants.{AskedTwice, MinorVersion, Encoding}

-- a name of UTF-8, in any case
abbrev pub IsUtf8Name : List ℕ → Type 0
IsUtf8Name name = (map to_ascii_lowercase name ≡ codes "utf8")
    ⊎ ((map to_ascii_lowercase name ≡ codes "utf-8") ⊎ (map to_ascii_lowercase name ≡ codes "unicode"))

-- an option is passed over, unless it names an encoding: that is UTF-8
abbrev pub IsTaken : Pair → Type 0
IsTaken p = p.name ≡ codes "client_encoding" → IsUtf8Name p.value

-- of a session of a version and with options
pub record Begins (minor : ℕ) (options : List Pair) (greeting : Greeting) : Type 0 where
  pub version : minor ≢ 0 → greeting ≡ Refused MinorVersion
  pub let_in : minor ≡ 0 → All IsTaken options → greeting ≡ LetIn options
  pub encoding : minor ≡ 0 → (All IsTaken options → ⊥) → greeting ≡ Refused Encoding

-- encryption of each kind is declined once; a session begins or is refused; a cancellation ends it
abbrev pub Greets : Bool → Bool → StartMessage → Greeting → Type 0
Greets ssl gss Ssl greeting = greeting ≡ (if ssl then Refused AskedTwice else Declined true gss)
Greets ssl gss Gss greeting = greeting ≡ (if gss then Refused AskedTwice else Declined ssl true)
Greets ssl gss (Cancel process secret) greeting = greeting ≡ Cancelled
Greets ssl gss (Start major minor options) greeting = Begins minor options greeting
