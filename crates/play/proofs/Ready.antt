-- What a text asks for can be run.
use Rattle.std.proofs.Common.{◌≡◌, ◌∙◌, ◌≤◌, ◌<◌, ◌^◌, ℕ, ℤ, List, [], ◌∷◌, ◌++◌, length, refl, sym, ap, subst, codes}
use Rattle.std.specs.Prelude.{All, Option, Some, None, Ok, unwrap_or}
use Rattle.std.proofs.lemmas.List.Elements.{All-nil, All-cons}
use Rattle.std.proofs.lemmas.Option.{none-some}
use Rattle.pg_values.specs.Range.{IsMoment}
use Rattle.schema.specs.declared.catalogue.TableDef.{TableDef}
use Rattle.schema.specs.Grammar.{IsWithin}
use Rattle.schema.specs.Allowed.{AreAllowed, AreTables}
use Rattle.sql_tree.specs.declared.statement.Statement.{Statement}
use Rattle.sql_reader.specs.declared.fault.SqlFault.{SqlFault}
use Rattle.sql_reader.specs.declared.fault.SqlFault.TheVariants as fault
use Rattle.sql_reader.specs.Text.{IsTextOf}
use Rattle.catalogue.specs.declared.checked.Checked.{Checked}
use Rattle.catalogue.specs.Checking.{AnswersCheck}
use Rattle.classifier.specs.declared.class.Class.{Class}
use Rattle.classifier.specs.declared.class.Class.TheVariants as class
use Rattle.classifier.specs.Classes.{class_of, lock_of, locked, table_written}
use Rattle.time_rewrite.specs.Rewriting.{at_moment}
use Rattle.statement_laws.proofs.Draws.{lock_stays}
use Rattle.statement_laws.proofs.RunnableLaw.{can_be_run}
use Rattle.sql_profile.specs.Named.{IsNamedBy}
use Rattle.statement_laws.proofs.RefusedLaw.{checked_is_told}
use Rattle.play.specs.Asked.{Asked, Asks, runs, unread, checked_asks, class_asks, IsAsked, no_text, of_text, faulty, empty, several, later, wrong, untimely, right}
use Rattle.play.specs.Answering.{AreNamed, IsReady}
use Rattle.play.proofs.Short.{code_short}
use Rattle.play.proofs.Refusing.{about_short, later_told, outside_short, place_short, reader_short, serial_told, several_told}
use Rattle.play.proofs.Named.{columns_named}

-- tables that a schema can have are not too many, nor too wide
few_columns : (before tables : List TableDef) → AreTables before tables → All (λ t. length t.columns ≤ 32) tables
few_columns before [] are = All-nil (λ (t : TableDef). length t.columns ≤ 32)
few_columns before (table ∷ tables) are = All-cons (λ (t : TableDef). length t.columns ≤ 32) table tables (are.0).few (few_columns (before ++ table ∷ []) tables are.1)

pub within_of : (tables : List TableDef) → AreAllowed tables → IsWithin tables
within_of tables allowed = (allowed.0, few_columns [] tables allowed.1)

unread_ready : (tables : List TableDef) (text : List ℕ) (f : SqlFault) (asked : Asked) → length text < 2 ^ 32 → IsNamedBy text f → unread f ≡ Some asked → IsReady tables asked
unread_ready tables text (fault.Syntax place) asked short named e = subst (IsReady tables) (ap (λ (o : Option Asked). unwrap_or o asked) e) (place_short text place short named)
unread_ready tables text (fault.Outside name place) asked short named e = subst (IsReady tables) (ap (λ (o : Option Asked). unwrap_or o asked) e) (reader_short text name place named)
unread_ready tables text fault.TooLong asked short named e = subst (IsReady tables) (ap (λ (o : Option Asked). unwrap_or o asked) e) (code_short (codes "54000"))
unread_ready tables text fault.NoMemory asked short named e = absurd (none-some asked e)

checked_ready : (tables : List TableDef) (text : List ℕ) (s : Statement) (checked : Checked) (moment : ℤ) → AreAllowed tables → IsTextOf text (s ∷ []) → AnswersCheck tables s None (Ok checked) → IsMoment moment → IsReady tables (checked_asks moment checked)
checked_ready tables text s checked moment allowed reads answers within = go (class_of checked.body) refl
  where
    named : AreNamed checked.columns
    named = columns_named tables text s checked allowed reads answers

    ready_by : lock_of checked.body ≡ None → IsReady tables (runs (at_moment moment checked))
    ready_by lock = (can_be_run tables text s checked moment allowed reads answers within lock, lock_stays moment checked.body ∙ lock, named)

    go : (c : Class) → class_of checked.body ≡ c → IsReady tables (class_asks c moment checked)
    go class.Read e = ready_by (ap (λ (c : Class). locked c (table_written checked.body)) e)
    go class.LockingRead e = ready_by (ap (λ (c : Class). locked c (table_written checked.body)) e)
    go class.Write e = ready_by (ap (λ (c : Class). locked c (table_written checked.body)) e)
    go class.SerialInsert e = outside_short (codes "serial") serial_told

asks_ready : (tables : List TableDef) (moment : ℤ) (text : List ℕ) (asked : Asked) → AreAllowed tables → length text < 2 ^ 32 → Asks tables moment text asked → IsReady tables asked
asks_ready tables moment text asked allowed short (faulty f is e) = unread_ready tables text f asked short is.named e
asks_ready tables moment text asked allowed short (empty reads e) = subst (IsReady tables) (sym e) tt
asks_ready tables moment text asked allowed short (several first second others reads e) = subst (IsReady tables) (sym e) (outside_short (codes "several statements") several_told)
asks_ready tables moment text asked allowed short (later s name reads out e) = subst (IsReady tables) (sym e) (outside_short name (later_told s name out))
asks_ready tables moment text asked allowed short (wrong s code name reads answers e) = subst (IsReady tables) (sym e) (about_short s code.bytes name (checked_is_told tables text s code name reads answers))
asks_ready tables moment text asked allowed short (untimely s checked reads answers never e) = subst (IsReady tables) (sym e) (code_short (codes "22008"))
asks_ready tables moment text asked allowed short (right s checked reads answers within e) = subst (IsReady tables) (sym e) (checked_ready tables text s checked moment allowed reads answers within)

pub ready : (tables : List TableDef) (moment : ℤ) (text : List ℕ) (asked : Asked) → AreAllowed tables → length text < 2 ^ 32 → IsAsked tables moment text asked → IsReady tables asked
ready tables moment text asked allowed short (no_text none e) = subst (IsReady tables) (sym e) (code_short (codes "22021"))
ready tables moment text asked allowed short (of_text utf8 asks) = asks_ready tables moment text asked allowed short asks
