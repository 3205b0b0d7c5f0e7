-- What a reading and a check say of a text that may draw.
use Rattle.std.proofs.Common.{◌≡◌, ◌≤◌, ◌<◌, ◌↔◌, ℕ, Bool, true, false, List, [], ◌∷◌, length, get_or, refl, sym, ◌∙◌, ap, subst, arith, inl, inr}
use Rattle.std.specs.Prelude.{None, Ok, Err, IsTrue, IsUtf8, Result, IfOk}
use Rattle.std.specs.List.{list_all}
use Rattle.std.proofs.lemmas.Bool.{false≢true}
use Rattle.pool_base.specs.declared.code.Code.{Code}
use Rattle.pool_base.specs.declared.no_memory.NoMemory.{NoMemory}
use Rattle.schema.specs.declared.catalogue.TableDef.{TableDef}
use Rattle.sql_tree.specs.declared.statement.Statement.{Statement}
use Rattle.sql_reader.specs.Text.{IsTextOf}
use Rattle.typed_sql.specs.declared.fault.CheckFault.TheVariants.{Refused}
use Rattle.catalogue.specs.declared.checked.Checked.{Checked}
use Rattle.catalogue.specs.Checking.{AnswersCheck}
use Rattle.classifier.specs.declared.class.Class.TheVariants.{SerialInsert}
use Rattle.classifier.specs.Classes.{class_of}
use Rattle.wire_session.specs.declared.refusal.Refusal.{Refusal}
use Rattle.wire_query.specs.declared.reading.Reading.{Reading}
use Rattle.wire_query.specs.declared.reading.Reading.TheVariants as reading
use Rattle.pgproto.specs.Line.{Line}
use Rattle.pool_run.specs.Drawing.{InsertDraws, LineDraws, NoneDraws, StatementsDraw, TakesNone, TextDraws, is_numberless}

-- a checked statement
pub insert_checked : (tables : List TableDef) (s : Statement) (checked : Checked) (b : Bool) → AnswersCheck tables s None (Ok checked) → (IsTrue b ↔ (class_of checked.body ≡ SerialInsert))
    → ((x y : Checked) → AnswersCheck tables s None (Ok x) → AnswersCheck tables s None (Ok y) → x ≡ y) → (IsTrue b ↔ InsertDraws tables s)
insert_checked tables s checked b is so agree = (
  λ yes. record { checked = checked; is = is; draws = so.0 yes },
  λ d. so.1 (subst (λ (x : Checked). class_of x.body ≡ SerialInsert) (agree d.checked checked d.is is) d.draws),
)

-- a statement that is refused
pub insert_refused : (tables : List TableDef) (s : Statement) (code : Code) (name : List ℕ) → AnswersCheck tables s None (Err (Refused code name))
    → ((checked : Checked) → AnswersCheck tables s None (Ok checked) → ⊥) → (IsTrue false ↔ InsertDraws tables s)
insert_refused tables s code name refused never = (λ yes. absurd (false≢true yes), λ d. absurd (never d.checked d.is))

-- the only item of a slice
pub one_item : (xs : List Statement) (x : Statement) → 1 ≤ length xs → length xs < 2 → x ≡ get_or xs 0 x → xs ≡ x ∷ []
one_item [] x some few is = absurd (omega (arith, some))
one_item (y ∷ []) x some few is = ap (λ (s : Statement). s ∷ []) (sym is)
one_item (y ∷ z ∷ xs) x some few is = absurd (omega (arith, few))

-- no statement, or several
pub not_one : (tables : List TableDef) (xs : List Statement) → (length xs ≡ 1 → ⊥) → (IsTrue false ↔ StatementsDraw tables xs)
not_one tables [] other = (λ yes. absurd (false≢true yes), λ d. absurd d)
not_one tables (x ∷ []) other = absurd (other refl)
not_one tables (x ∷ y ∷ xs) other = (λ yes. absurd (false≢true yes), λ d. absurd d)

-- a text that is read as these statements
read_at : (tables : List TableDef) (text : List ℕ) (all : List Statement) (b : Bool) → IsUtf8 text → length text < 4294967295 → IsTextOf text all
    → ((found : List Statement) → IsTextOf text found → all ≡ found) → (IsTrue b ↔ StatementsDraw tables all) → (IsTrue b ↔ TextDraws tables text)
read_at tables text all b utf8 short says only so = (
  λ yes. record { utf8 = utf8; short = short; statements = all; says = says; draw = so.0 yes },
  λ d. so.1 (subst (λ (x : List Statement). StatementsDraw tables x) (sym (only d.statements d.says)) d.draw),
)

-- what read_text says of a text that is read so, and that no other statements are read of it
abbrev pub Only : List ℕ → Reading → Type 0
Only text read = (found : List Statement) → IsUtf8 text → length text < 4294967295 → IsTextOf text found → read ≡ reading.Statements found

same_statements : (all found : List Statement) → reading.Statements all ≡ reading.Statements found → all ≡ found
same_statements all found is = cc

pub text_read : (tables : List TableDef) (text : List ℕ) (all : List Statement) (r : Result Bool NoMemory) → IsUtf8 text → length text < 4294967295 → IsTextOf text all
    → Only text (reading.Statements all) → IfOk r (λ d. IsTrue d ↔ StatementsDraw tables all) → IfOk r (λ d. IsTrue d ↔ TextDraws tables text)
text_read tables text all (Ok b) utf8 short says only so =
    read_at tables text all b utf8 short says (λ found of. same_statements all found (only found utf8 short of)) so
text_read tables text all (Err e) utf8 short says only so = tt

pub text_refused : (tables : List TableDef) (text : List ℕ) (r : Refusal) → Only text (reading.Refused r) → (IsTrue false ↔ TextDraws tables text)
text_refused tables text r only = (
  λ yes. absurd (false≢true yes),
  λ d. absurd (let never : reading.Refused r ≡ reading.Statements d.statements = only d.statements d.utf8 d.short d.says in cc),
)

pub long_text : (tables : List TableDef) (text : List ℕ) → 4294967295 ≤ length text → (IsTrue false ↔ TextDraws tables text)
long_text tables text long = (λ yes. absurd (false≢true yes), λ d. absurd (omega (arith, long, d.short)))

-- one line more
pub none_with : (tables : List TableDef) (line : Line) (lines : List Line) → ¬ (LineDraws tables line) → (NoneDraws tables (line ∷ lines) ↔ NoneDraws tables lines)
none_with tables line lines none = (λ all. all.1, λ more. (none, more))

-- where a table has a serial column
pub takes_by : (tables : List TableDef) (lines : List Line) (r : Result Bool NoMemory) → list_all is_numberless tables ≡ false
    → IfOk r (λ none. IsTrue none ↔ NoneDraws tables lines) → IfOk r (λ none. IsTrue none ↔ TakesNone tables lines)
takes_by tables lines (Ok b) some so = (
  λ yes. inr (so.0 yes),
  λ takes. elim takes as (λ t. IsTrue b) [
    | inl none ↦ absurd (false≢true (sym some ∙ none))
    | inr none ↦ so.1 none
  ],
)
takes_by tables lines (Err e) some so = tt
