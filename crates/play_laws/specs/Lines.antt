-- The line of what takes place in the replicated world, as a journal has it.
use Rattle.std.specs.Prelude.{ℕ, List, [], ◌∷◌, ◌++◌, codes}
use Rattle.std.specs.Fmt.{decimal}
use Rattle.pool_base.specs.declared.session_id.SessionId.{SessionId}
use Rattle.schema.specs.declared.catalogue.TableDef.{TableDef}
use Rattle.session_machine.specs.declared.action.SessionEvent.{SessionEvent}
use Rattle.session_machine.specs.declared.action.SessionEvent.TheVariants as events
use Rattle.one_copy_model.specs.declared.event.Event.{Event}
use Rattle.one_copy_model.specs.declared.event.Event.TheVariants.{Of, Act, Lost}
use Rattle.journal.specs.Parts.{spelled_place}
use Rattle.journal.specs.Calls.{spelled_call, spelled_gate_answer}
use Rattle.journal.specs.Answers.{spelled_answer, spelled_cause}
use Rattle.journal.specs.Orders.{spelled_order, spelled_request}
use Rattle.journal.specs.Outcomes.{spelled_outcome, spelled_status}

-- of an event of a session
abbrev pub line_at : List TableDef → SessionId → SessionEvent → List ℕ
line_at tables s (events.Ordered order) = codes "order " ++ (decimal s.number ++ (32 ∷ spelled_order tables order))
line_at tables s (events.Called call answer) =
    codes "gate " ++ (decimal s.number ++ (32 ∷ (spelled_call call ++ (32 ∷ spelled_gate_answer answer))))
line_at tables s (events.Posted b request) = codes "post " ++ (spelled_place s b ++ (32 ∷ spelled_request tables request))
line_at tables s (events.Taken b answer) = codes "take " ++ (spelled_place s b ++ (32 ∷ spelled_answer answer))
line_at tables s (events.Faulted b before later) =
    codes "fault " ++ (spelled_place s b ++ (32 ∷ (decimal before ++ (32 ∷ decimal later))))
line_at tables s (events.Detached b cause answer) = codes "detach " ++ (spelled_place s b ++ (32 ∷ spelled_cause cause))
line_at tables s (events.Swapped b) = codes "swap " ++ spelled_place s b
line_at tables s (events.Replied outcome status) =
    codes "reply " ++ (decimal s.number ++ (32 ∷ (spelled_status status ++ (32 ∷ spelled_outcome outcome))))
line_at tables s events.Ended = codes "end " ++ decimal s.number

-- the line, with its end
abbrev pub line_of : List TableDef → Event → List ℕ
line_of tables (Of s event) = line_at tables s event ++ 10 ∷ []
line_of tables (Act s b answer) = (codes "act " ++ (spelled_place s b ++ (32 ∷ spelled_answer answer))) ++ 10 ∷ []
line_of tables (Lost b) = (codes "lost " ++ decimal b.number) ++ 10 ∷ []

-- the lines of what takes place, one behind another
abbrev pub lines_of : List TableDef → List Event → List ℕ
lines_of tables [] = []
lines_of tables (event ∷ events) = line_of tables event ++ lines_of tables events
