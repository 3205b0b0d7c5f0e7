-- What a client says while it shows its password: a message p with any body.
use Rattle.std.specs.Prelude.{◌≡◌, ℕ, ◌+◌, ◌≤◌, List, length, Option, Some, Bool, ◌==◌}
use Rattle.pg_messages.specs.Fields.{AreBytes}
use Rattle.pg_messages.specs.Frame.{framed}

-- p
abbrev pub IsLoginType : ℕ → Type 0
IsLoginType tag = tag ≡ 112

abbrev pub is_login_type : ℕ → Bool
is_login_type tag = tag == 112

-- the body is the message
abbrev pub login_in : ℕ → List ℕ → Option (List ℕ)
login_in tag body = Some body

-- what a writer can write: its length may be stated
abbrev pub LoginFits : List ℕ → Type 0
LoginFits body = length body + 4 ≤ 1048576

-- the bytes are the message with that body, all of them
abbrev pub IsLoginForm : List ℕ → List ℕ → Type 0
IsLoginForm body bytes = AreBytes body × LoginFits body × (bytes ≡ framed 112 body)
