-- What the tables say of a statement.
use Rattle.std.specs.Prelude.{◌≡◌, ℕ, List, Option, Ok, Err, Bool, true, false}
use Rattle.schema.specs.declared.catalogue.TableDef.{TableDef}
use Rattle.sql_tree.specs.declared.statement.Statement.{Statement}
use Rattle.sql_tree.specs.declared.statement.Statement.TheVariants as statement
use Rattle.typed_sql.specs.declared.fault.CheckFault.{CheckFault}
use Rattle.typed_sql.specs.declared.fault.CheckFault.TheVariants as fault
use Rattle.catalogue.specs.declared.checked.Checked.{Checked}
use Rattle.catalogue.specs.Checking.{AnswersCheck}
use Rattle.pool_base.specs.declared.code.Code.{Code}
use Rattle.wire_reply.specs.Codes.{of_check}
use Rattle.wire_session.specs.declared.refusal.Refusal.{Refusal}
use Rattle.wire_query.specs.declared.checking.Verdict.{Verdict}
use Rattle.wire_query.specs.declared.checking.Verdict.TheVariants.{Taken, Refused}

abbrev pub is_update : Statement → Bool
is_update (statement.Update update) = true
is_update _ = false

-- why the tables refuse a statement: by its first fault
pub data WhyWrong (tables : List TableDef) (s : Statement) (kinds : Option (List ℕ)) (r : Refusal) : Type 0 where
  faulty : (code : Code) (name : List ℕ) → AnswersCheck tables s kinds (Err (fault.Refused code name))
      → r ≡ record { saying = of_check code.bytes (is_update s); code = code; name = name } → WhyWrong tables s kinds r

abbrev pub Judges : List TableDef → Statement → Option (List ℕ) → Verdict → Type 0
Judges tables s kinds (Taken checked) = AnswersCheck tables s kinds (Ok checked)
Judges tables s kinds (Refused r) = WhyWrong tables s kinds r

-- a statement without a fault is taken
abbrev pub JudgesTaken : Checked → Verdict → Type 0
JudgesTaken checked (Taken given) = given ≡ checked
JudgesTaken checked (Refused r) = ⊥

-- a fault as a refusal
abbrev pub TellsWrong : Statement → CheckFault → Verdict → Type 0
TellsWrong s (fault.Refused code name) (Refused r) = r ≡ record { saying = of_check code.bytes (is_update s); code = code; name = name }
TellsWrong s (fault.Refused code name) (Taken checked) = ⊥
TellsWrong s fault.NoMemory v = ⊥
