-- The answer that a server's reply is: one row of one text, one null or no row, the tag that was asked for, or a refusal.
use Rattle.std.specs.Prelude.{List, [], ◌∷◌, codes, Option, Some, None}
use Rattle.pg_values.specs.declared.value.Value.{Value}
use Rattle.pg_values.specs.declared.value.Value.TheVariants as value
use Rattle.sql_eval.specs.declared.row.Row.{Row}
use Rattle.postgres_link.specs.declared.asked.Reply.{Reply}
use Rattle.postgres_link.specs.declared.asked.Reply.TheVariants as reply
use Rattle.server_check.specs.declared.answer.Answer.{Answer}
use Rattle.server_check.specs.declared.answer.Answer.TheVariants as answer

abbrev pub cell_answer : Value → Option Answer
cell_answer (value.Text text) = Some (answer.Told text)
cell_answer value.Null = Some answer.Nothing
cell_answer (value.Bool truth) = None
cell_answer (value.Int4 number) = None
cell_answer (value.Int8 number) = None
cell_answer (value.Moment micros) = None

abbrev pub row_answer : List Value → Option Answer
row_answer [] = None
row_answer (cell ∷ []) = cell_answer cell
row_answer (cell ∷ (other ∷ others)) = None

abbrev pub answer_by : List Row → Option Answer
answer_by [] = Some answer.Nothing
answer_by (row ∷ []) = row_answer row.cells
answer_by (row ∷ (other ∷ others)) = None

abbrev pub answer_of : Reply → Option Answer
answer_of (reply.Refused code) = Some (answer.Refused code)
answer_of (reply.Rows rows) = answer_by rows
answer_of reply.Done = Some (answer.Told (codes "done"))
answer_of (reply.Count n) = None
