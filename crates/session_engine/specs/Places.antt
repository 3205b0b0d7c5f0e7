-- The answers of a chain, by their places.
use Rattle.std.specs.Prelude.{ℕ, List, [], Option, Some, None}
use Rattle.std.specs.List.{slice_get}
use lib.Dec.{lit<}
use Rattle.sql_eval.specs.declared.row.Row.{Row}
use Rattle.backend_trait.specs.declared.answer.Answer.{Answer}
use Rattle.backend_trait.specs.declared.answer.Answer.TheVariants as answers
use Rattle.session_machine.specs.declared.machine.Heard.{Heard}

-- past the end stands an answer of nobody's
abbrev pub nobody : Heard
nobody = record { b = record { number = 0; below_8 = lit< tt }; answer = answers.Began }

abbrev pub or_nobody : Option Heard → Heard
or_nobody None = nobody
or_nobody (Some h) = h

abbrev pub heard_at : List Heard → ℕ → Heard
heard_at heard place = or_nobody (slice_get heard place)

-- the rows of an answer; another answer has none
abbrev pub rows_in : Answer → List Row
rows_in answers.Began = []
rows_in (answers.Rows rows) = rows
rows_in (answers.Count n) = []
rows_in answers.Locked = []
rows_in answers.Done = []
rows_in (answers.Serial n) = []
rows_in (answers.Refused code) = []
