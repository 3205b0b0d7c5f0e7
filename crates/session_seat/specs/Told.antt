-- What takes place in a play, and what its journal tells of it.
use Rattle.std.specs.Prelude.{ℕ, List, [], ◌∷◌, ◌++◌, codes}
use Rattle.std.specs.Fmt.{decimal}
use Rattle.pool_base.specs.declared.backend_id.BackendId.{BackendId}
use Rattle.pool_base.specs.declared.session_id.SessionId.{SessionId}
use Rattle.schema.specs.declared.catalogue.TableDef.{TableDef}
use Rattle.session_machine.specs.declared.action.SessionEvent.{SessionEvent}
use Rattle.session_machine.specs.declared.action.SessionEvent.TheVariants as events
use Rattle.journal.specs.Parts.{spelled_place}
use Rattle.journal.specs.Calls.{spelled_call, spelled_gate_answer}
use Rattle.journal.specs.Answers.{spelled_answer, spelled_cause}
use Rattle.journal.specs.Orders.{spelled_order, spelled_request}
use Rattle.journal.specs.Outcomes.{spelled_outcome, spelled_status}
use Rattle.session_seat.specs.declared.book.Journal.{Journal}
use Rattle.session_seat.specs.declared.book.Journal.TheVariants.{Off, On}

-- an event of a session, or the loss of a backend
pub data Entry : Type 0 where
  Of : SessionId → SessionEvent → Entry
  Loses : BackendId → Entry

-- a journal with these bytes behind its own, where it is kept
abbrev pub added : Journal → List ℕ → Journal
added Off bytes = Off
added (On kept) bytes = On (kept ++ bytes)

-- a line, with its end
abbrev pub line : List ℕ → List ℕ
line text = text ++ 10 ∷ []

-- an event of session s: its one line. An answer that is taken has two: the backend acts, and the session takes it
abbrev pub told_of : List TableDef → SessionId → SessionEvent → List ℕ
told_of tables s (events.Ordered order) = line (codes "order " ++ (decimal s.number ++ (32 ∷ spelled_order tables order)))
told_of tables s (events.Called call answer) =
    line (codes "gate " ++ (decimal s.number ++ (32 ∷ (spelled_call call ++ (32 ∷ spelled_gate_answer answer)))))
told_of tables s (events.Posted b request) = line (codes "post " ++ (spelled_place s b ++ (32 ∷ spelled_request tables request)))
told_of tables s (events.Taken b answer) =
    line (codes "act " ++ (spelled_place s b ++ (32 ∷ spelled_answer answer)))
    ++ line (codes "take " ++ (spelled_place s b ++ (32 ∷ spelled_answer answer)))
told_of tables s (events.Faulted b before later) =
    line (codes "fault " ++ (spelled_place s b ++ (32 ∷ (decimal before ++ (32 ∷ decimal later)))))
told_of tables s (events.Detached b cause answer) = line (codes "detach " ++ (spelled_place s b ++ (32 ∷ spelled_cause cause)))
told_of tables s (events.Swapped b) = line (codes "swap " ++ spelled_place s b)
told_of tables s (events.Replied outcome status) =
    line (codes "reply " ++ (decimal s.number ++ (32 ∷ (spelled_status status ++ (32 ∷ spelled_outcome outcome)))))
told_of tables s events.Ended = line (codes "end " ++ decimal s.number)

-- a backend is lost
abbrev pub told_lost : BackendId → List ℕ
told_lost b = line (codes "lost " ++ decimal b.number)

abbrev pub told : List TableDef → Entry → List ℕ
told tables (Of s event) = told_of tables s event
told tables (Loses b) = told_lost b

-- the lines of what takes place, one behind another
abbrev pub lines : List TableDef → List Entry → List ℕ
lines tables [] = []
lines tables (entry ∷ entries) = told tables entry ++ lines tables entries
