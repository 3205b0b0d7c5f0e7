-- What faults of texts and of statements lead to.
use Rattle.std.proofs.Common.{ℕ, List, Option, Ok, Err, sym, subst}
use Rattle.schema.specs.declared.catalogue.TableDef.{TableDef}
use Rattle.sql_tree.specs.declared.statement.Statement.{Statement}
use Rattle.sql_reader.specs.declared.fault.SqlFault.{SqlFault}
use Rattle.sql_reader.specs.declared.fault.SqlFault.TheVariants.{Syntax, Outside, TooLong, NoMemory}
use Rattle.sql_reader.specs.Text.{IsReadAs}
use Rattle.typed_sql.specs.declared.fault.CheckFault.{CheckFault}
use Rattle.typed_sql.specs.declared.fault.CheckFault.TheVariants as fault
use Rattle.catalogue.specs.declared.checked.Checked.{Checked}
use Rattle.catalogue.specs.Checking.{AnswersCheck}
use Rattle.wire_session.specs.declared.refusal.Refusal.{Refusal}
use Rattle.wire_query.specs.declared.checking.Verdict.{Verdict}
use Rattle.wire_query.specs.declared.checking.Verdict.TheVariants.{Taken, Refused}
use Rattle.wire_query.specs.Texts.{TellsFault}
use Rattle.wire_query.specs.Verdicts.{Judges, JudgesTaken, TellsWrong, faulty}

-- a text that is read has no fault that is told
pub no_fault : (f : SqlFault) (all : List Statement) (r : Refusal) → IsReadAs (Err f) all → TellsFault f r → ⊥
no_fault (Syntax place) all r h t = h
no_fault (Outside name place) all r h t = h
no_fault TooLong all r h t = h
no_fault NoMemory all r h t = t

pub judged_so : (tables : List TableDef) (s : Statement) (kinds : Option (List ℕ)) (checked : Checked) → AnswersCheck tables s kinds (Ok checked)
    → (v : Verdict) → JudgesTaken checked v → Judges tables s kinds v
judged_so tables s kinds checked answer (Taken given) h = subst (λ one. AnswersCheck tables s kinds (Ok one)) (sym h) answer
judged_so tables s kinds checked answer (Refused r) h = absurd h

pub wrong_so : (tables : List TableDef) (s : Statement) (kinds : Option (List ℕ)) (f : CheckFault) → AnswersCheck tables s kinds (Err f)
    → (v : Verdict) → TellsWrong s f v → Judges tables s kinds v
wrong_so tables s kinds (fault.Refused code name) answer (Refused r) h = faulty code name answer h
wrong_so tables s kinds (fault.Refused code name) answer (Taken checked) h = absurd h
wrong_so tables s kinds fault.NoMemory answer v h = absurd h
