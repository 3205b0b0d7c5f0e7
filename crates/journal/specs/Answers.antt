-- How a journal spells rows, the answers of backends, and why a backend is detached.
use Rattle.std.specs.Prelude.{ℕ, List, ◌∷◌, ◌++◌, length, true, false, codes}
use Rattle.std.specs.Fmt.{decimal, signed_decimal}
use Rattle.pg_values.specs.declared.value.Value.{Value}
use Rattle.pg_values.specs.declared.value.Value.TheVariants as values
use Rattle.sql_eval.specs.declared.row.Row.{Row}
use Rattle.backend_trait.specs.declared.answer.Answer.{Answer}
use Rattle.backend_trait.specs.declared.answer.Answer.TheVariants as answers
use Rattle.session_machine.specs.declared.action.Cause.{Cause}
use Rattle.session_machine.specs.declared.action.Cause.TheVariants.{Fault, Differs}
use Rattle.pgproto.specs.Rendering.{in_quotes, shown}
use Rattle.pgproto.specs.Spelling.{each_spelled}

-- a value: its type and itself; a moment is its microseconds
abbrev pub spelled_value : Value → List ℕ
spelled_value values.Null = codes "null"
spelled_value (values.Bool true) = codes "bool:t"
spelled_value (values.Bool false) = codes "bool:f"
spelled_value (values.Int4 n) = codes "int4:" ++ signed_decimal n
spelled_value (values.Int8 n) = codes "int8:" ++ signed_decimal n
spelled_value (values.Text text) = codes "text:" ++ in_quotes text
spelled_value (values.Moment micros) = codes "moment:" ++ signed_decimal micros

-- a row: how many values it has, and each
abbrev pub spelled_row : Row → List ℕ
spelled_row row = decimal (length row.cells) ++ each_spelled spelled_value row.cells

-- rows: how many, and each
abbrev pub spelled_rows : List Row → List ℕ
spelled_rows rows = codes "rows " ++ (decimal (length rows) ++ each_spelled spelled_row rows)

-- the answer of a backend
abbrev pub spelled_answer : Answer → List ℕ
spelled_answer answers.Began = codes "began"
spelled_answer (answers.Rows rows) = spelled_rows rows
spelled_answer (answers.Count n) = codes "count " ++ decimal n
spelled_answer answers.Locked = codes "locked"
spelled_answer answers.Done = codes "done"
spelled_answer (answers.Serial next) = codes "serial " ++ signed_decimal next
spelled_answer (answers.Refused code) = codes "refused " ++ shown code.bytes

-- a cause: the counts of its faults before and after, or the kept answer and its own
abbrev pub spelled_cause : Cause → List ℕ
spelled_cause (Fault before after) = codes "fault " ++ (decimal before ++ (32 ∷ decimal after))
spelled_cause (Differs kept own) = codes "differs " ++ (spelled_answer kept ++ (codes " / " ++ spelled_answer own))
