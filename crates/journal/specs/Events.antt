-- The line of an event in a journal, without its end.
use Rattle.std.specs.Prelude.{ℕ, List, ◌∷◌, ◌++◌, codes}
use Rattle.std.specs.Fmt.{decimal}
use Rattle.schema.specs.declared.catalogue.TableDef.{TableDef}
use Rattle.journal.specs.declared.event.Event.{Event}
use Rattle.journal.specs.declared.event.Event.TheVariants as events
use Rattle.journal.specs.Parts.{spelled_place}
use Rattle.journal.specs.Calls.{spelled_call, spelled_gate_answer}
use Rattle.journal.specs.Answers.{spelled_answer, spelled_cause}
use Rattle.journal.specs.Orders.{spelled_order, spelled_request}
use Rattle.journal.specs.Outcomes.{spelled_outcome, spelled_status}

-- an event: its word, the session, the backend where it has one, and what it speaks of, with one space between two parts
abbrev pub spelled_event : List TableDef → Event → List ℕ
spelled_event tables (events.Order s order) = codes "order " ++ (decimal s.number ++ (32 ∷ spelled_order tables order.now))
spelled_event tables (events.Gate s call answer) =
    codes "gate " ++ (decimal s.number ++ (32 ∷ (spelled_call call ++ (32 ∷ spelled_gate_answer answer))))
spelled_event tables (events.Post s b request) = codes "post " ++ (spelled_place s b ++ (32 ∷ spelled_request tables request.now))
spelled_event tables (events.Act s b answer) = codes "act " ++ (spelled_place s b ++ (32 ∷ spelled_answer answer.now))
spelled_event tables (events.Take s b answer) = codes "take " ++ (spelled_place s b ++ (32 ∷ spelled_answer answer.now))
spelled_event tables (events.Lost b) = codes "lost " ++ decimal b.number
spelled_event tables (events.Fault s b before after) =
    codes "fault " ++ (spelled_place s b ++ (32 ∷ (decimal before ++ (32 ∷ decimal after))))
spelled_event tables (events.Detach s b cause) = codes "detach " ++ (spelled_place s b ++ (32 ∷ spelled_cause cause.now))
spelled_event tables (events.Swap s b) = codes "swap " ++ spelled_place s b
spelled_event tables (events.Reply s status outcome) =
    codes "reply " ++ (decimal s.number ++ (32 ∷ (spelled_status status ++ (32 ∷ spelled_outcome outcome.now))))
spelled_event tables (events.End s) = codes "end " ++ decimal s.number
