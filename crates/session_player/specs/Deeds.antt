-- What a line of a script does.
use Rattle.std.specs.Prelude.{◌≡◌, ℕ, Bool, true, false, Some}
use Rattle.pgproto.specs.Line.{Line, line_of, place_of, session, lose, cut, moment, hold, go, until}
use Rattle.pgproto.specs.Spelling.{IsOfGrammar, sender}
use Rattle.session_player.specs.declared.deed.Deed.{Deed}
use Rattle.session_player.specs.declared.deed.Deed.TheVariants.{Connect, Lose, Cut, SetMoment, Of}
use Rattle.session_player.specs.declared.deed.Wish.{Wish}
use Rattle.session_player.specs.declared.deed.Wish.TheVariants.{Hold, Go, Until, Send}

-- what a line asks of session s
abbrev pub IsWishOf : Line → ℕ → Wish → Type 0
IsWishOf line s Hold = line ≡ hold s
IsWishOf line s Go = line ≡ go s
IsWishOf line s (Until mark) = line ≡ until s (place_of mark)
IsWishOf line s (Send sent) = (line ≡ line_of sent.now) × (sender line ≡ Some s)

-- what a line does
abbrev pub IsDeedOf : Line → Deed → Type 0
IsDeedOf line (Connect s) = line ≡ session s.number
IsDeedOf line (Lose b) = line ≡ lose b.number
IsDeedOf line (Cut size) = line ≡ cut size
IsDeedOf line (SetMoment text) = line ≡ moment text.now
IsDeedOf line (Of s wish) = IsWishOf line s.number wish

-- what a client is to send is a line of the grammar
abbrev pub CanBeSent : Wish → Type 0
CanBeSent Hold = Unit {0}
CanBeSent Go = Unit {0}
CanBeSent (Until mark) = Unit {0}
CanBeSent (Send sent) = IsOfGrammar (line_of sent.now)

-- behind it rounds are made: the session is not held
abbrev pub goes_on : Wish → Bool
goes_on Hold = false
goes_on Go = true
goes_on (Until mark) = false
goes_on (Send sent) = true
