-- What a status file says of each backend, and the one text of a status.
use Rattle.std.specs.Prelude.{◌==◌, ◌&&◌, ◌+◌, ◌∷◌, ◌++◌, ℕ, Bool, true, not, List, [], Option, Some, None, codes, nat_lt}
use Rattle.std.specs.Fmt.{decimal}
use Rattle.serve_base.specs.declared.status.Down.{Down}
use Rattle.serve_base.specs.declared.status.Standing.{Standing}

-- no such byte is among them
abbrev pub lacks : ℕ → List ℕ → Bool
lacks b [] = true
lacks b (x ∷ xs) = not (x == b) && lacks b xs

-- no blank (32) ends the moment, and no line feed (10) the line
abbrev pub has_plain_state : Option Down → Bool
has_plain_state None = true
has_plain_state (Some d) = (lacks 32 d.since && lacks 10 d.since) && lacks 10 d.why

-- nor a quote (39) the host, and the port is one: what is said has a text
abbrev pub is_plain : Standing → Bool
is_plain s = nat_lt s.port 65536 && ((lacks 39 s.host && lacks 10 s.host) && has_plain_state s.down)

abbrev pub are_plain : List Standing → Bool
are_plain [] = true
are_plain (s ∷ rest) = is_plain s && are_plain rest

-- `up`, or `down`, since when and why
abbrev pub state_text : Option Down → List ℕ
state_text None = codes "up"
state_text (Some d) = codes "down " ++ (d.since ++ 32 ∷ d.why)

-- the start of the line of the backend with number n
abbrev pub line_start : ℕ → List ℕ
line_start n = codes "backend " ++ (decimal n ++ codes " '")

-- that line, without its line feed
abbrev pub line_text : ℕ → Standing → List ℕ
line_text n s = line_start n ++ (s.host ++ (codes "' " ++ (decimal s.port ++ 32 ∷ state_text s.down)))

-- the last line, of n backends
abbrev pub last_line : ℕ → List ℕ
last_line n = codes "end " ++ decimal n

-- the lines from number n on
abbrev pub lines_from : ℕ → List Standing → List ℕ
lines_from n [] = last_line n ++ 10 ∷ []
lines_from n (s ∷ rest) = line_text n s ++ 10 ∷ lines_from (n + 1) rest

abbrev pub first_line : List ℕ
first_line = codes "pool status 1"

abbrev pub status_text : List Standing → List ℕ
status_text all = first_line ++ 10 ∷ lines_from 0 all
