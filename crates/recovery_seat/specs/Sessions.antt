-- A play in which no recovery is ordered, as one of the sessions alone.
use Rattle.std.specs.Prelude.{List, [], ◌∷◌}
use Rattle.session_seat.specs.Told as told
use Rattle.session_seat.specs.Schedule as seat
use Rattle.recovery_seat.specs.Schedule.{Entry, Of, Recovers, Loses, State}

-- what takes place at sessions and backends
abbrev pub sessions_of : List Entry → List told.Entry
sessions_of [] = []
sessions_of (Of s event ∷ entries) = told.Of s event ∷ sessions_of entries
sessions_of (Recovers s event ∷ entries) = sessions_of entries
sessions_of (Loses b ∷ entries) = told.Loses b ∷ sessions_of entries

-- what is shared, and the machines of all sessions
abbrev pub sessions_in : State → seat.State
sessions_in state = seat.state state.shared state.machines
