-- The bytes that a line of a script sends.
use Rattle.std.specs.Prelude.{ℕ, List, [], ◌++◌, Option, Some, None}
use Rattle.pg_messages.specs.declared.client.ClientMessage.{ClientMessage}
use Rattle.pg_messages.specs.Client.{spelling}
use Rattle.pgproto.specs.Line.{Line, session, lose, cut, moment, hold, go, until, raw, query, parse, describe, bind, execute, close, flush, sync, terminate}
use Rattle.pgproto.specs.Script.{message_of}

-- the bytes of a `raw` line
abbrev pub raw_of : Line → List ℕ
raw_of (session s) = []
raw_of (lose b) = []
raw_of (cut size) = []
raw_of (moment text) = []
raw_of (hold s) = []
raw_of (go s) = []
raw_of (until s place) = []
raw_of (raw s bytes) = bytes
raw_of (query s text) = []
raw_of (parse s name text kinds) = []
raw_of (describe s portal name) = []
raw_of (bind s portal name formats values results) = []
raw_of (execute s portal limit) = []
raw_of (close s portal name) = []
raw_of (flush s) = []
raw_of (sync s) = []
raw_of (terminate s) = []

-- the bytes of a message, where there is one
abbrev pub spelling_of : Option ClientMessage → List ℕ
spelling_of None = []
spelling_of (Some message) = spelling message

-- the bytes that a line sends; no line has both parts
abbrev pub sent_of : Line → List ℕ
sent_of line = raw_of line ++ spelling_of (message_of line)
