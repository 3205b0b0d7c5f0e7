-- What the first bytes of a connection are.
use Rattle.std.specs.Prelude.{◌≡◌}
use Rattle.pg_messages.specs.declared.read.Read.{Read}
use Rattle.pg_messages.specs.declared.read.Read.TheVariants as read
use Rattle.pg_messages.specs.declared.start.StartMessage.{StartMessage}
use Rattle.pg_messages.specs.declared.start.StartMessage.TheVariants as start
use Rattle.serve_base.specs.declared.first.First.{First}
use Rattle.serve_base.specs.declared.first.First.TheVariants as first

-- the bytes begin with that, by what is read of them
abbrev pub IsFirst : Read StartMessage → First → Type 0
IsFirst read.More is = is ≡ first.More
IsFirst (read.Bad place) is = is ≡ first.Other
IsFirst (read.TooLong stated) is = is ≡ first.Other
IsFirst (read.Whole start.Ssl length) is = is ≡ first.Asks length
IsFirst (read.Whole start.Gss length) is = is ≡ first.Asks length
IsFirst (read.Whole (start.Cancel process secret) length) is = is ≡ first.Other
IsFirst (read.Whole (start.Start major minor options) length) is = is ≡ first.Starts options
