-- Where no recovery is ordered a play is one of the sessions alone.
use Rattle.std.proofs.Common.{◌≡◌, ℕ, List, [], ◌∷◌, ◌++◌, refl, ap}
use Rattle.schema.specs.declared.catalogue.TableDef.{TableDef}
use Rattle.session_machine.specs.declared.machine.ReadPolicy.{ReadPolicy}
use Rattle.online_recovery.specs.declared.layout.Layout.{Layout}
use Rattle.session_seat.specs.Shared.{Shared}
use Rattle.session_seat.specs.Told as told
use Rattle.session_seat.specs.Schedule as seat
use Rattle.recovery_seat.specs.Schedule.{Entry, Of, Recovers, Loses, State, first_state, lines, IsSchedule, AreOfSessions}
use Rattle.recovery_seat.specs.Sessions.{sessions_of, sessions_in}

plays_on : (tables : List TableDef) (entries : List Entry) (old last : State) → AreOfSessions entries → IsSchedule tables old entries last
    → seat.IsSchedule tables (sessions_in old) (sessions_of entries) (sessions_in last)
plays_on tables [] old last all play = ap sessions_in play
plays_on tables (Of s event ∷ entries) old last all play =
    (sessions_in play.0, (play.1.moves, play.1.machines), plays_on tables entries play.0 last all.1 play.2)
plays_on tables (Recovers s event ∷ entries) old last all play = absurd all.0
plays_on tables (Loses b ∷ entries) old last all play =
    (sessions_in play.0, (play.1.loss, play.1.machines), plays_on tables entries play.0 last all.1 play.2)

pub is_of_sessions : (tables : List TableDef) (policy : ReadPolicy) (layout : Layout) (shared : Shared) (entries : List Entry) (last : State) → AreOfSessions entries
    → IsSchedule tables (first_state policy layout shared) entries last
    → seat.IsSchedule tables (seat.first_state policy shared) (sessions_of entries) (sessions_in last)
is_of_sessions tables policy layout shared entries last all play = plays_on tables entries (first_state policy layout shared) last all play

pub same_lines : (tables : List TableDef) (entries : List Entry) → AreOfSessions entries → lines tables entries ≡ told.lines tables (sessions_of entries)
same_lines tables [] all = refl
same_lines tables (Of s event ∷ entries) all = ap (λ (t : List ℕ). told.told_of tables s event ++ t) (same_lines tables entries all.1)
same_lines tables (Recovers s event ∷ entries) all = absurd all.0
same_lines tables (Loses b ∷ entries) all = ap (λ (t : List ℕ). told.told_lost b ++ t) (same_lines tables entries all.1)
