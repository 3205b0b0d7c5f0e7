-- What bytes ask for, and what the reader refuses.
use Rattle.std.proofs.Common.{◌≡◌, ◌≤◌, ◌<◌, ℕ, ℤ, List, [], ◌∷◌, length, get_or, ◌⊎◌, inl, inr, sym, ap, subst, arith, codes}
use Rattle.std.specs.Prelude.{Some, None, Result, Ok, Err, IfOk, IsUtf8}
use Rattle.std.proofs.lemmas.Option.{none-some}
use Rattle.pool_base.specs.declared.code.Code.{Code}
use Rattle.pool_base.specs.declared.no_memory.NoMemory.{NoMemory}
use Rattle.pg_values.specs.Range.{IsMoment}
use Rattle.schema.specs.declared.catalogue.TableDef.{TableDef}
use Rattle.sql_tree.specs.declared.statement.Statement.{Statement}
use Rattle.sql_reader.specs.declared.fault.SqlFault.{SqlFault}
use Rattle.sql_reader.specs.declared.fault.SqlFault.TheVariants as fault
use Rattle.sql_reader.specs.Text.{IsTextOf, IsToldAs}
use Rattle.sql_profile.specs.Named.{IsNamedBy, LacksFromAt, HasTooMany}
use Rattle.typed_sql.specs.declared.fault.CheckFault.TheVariants.{Refused}
use Rattle.catalogue.specs.declared.checked.Checked.{Checked}
use Rattle.catalogue.specs.Checking.{AnswersCheck}
use Rattle.play.specs.declared.asked.Asked.{Asked as Given}
use Rattle.play.specs.Codes.{about, text_of_code}
use Rattle.play.specs.Asked.{Asked, refused, Asks, IsAsked, checked_asks, faulty, later, left, left_out, of_text, right, several, unread, untimely, wrong}
use Rattle.play.specs.Told.{asked_of}

-- what is told of a fault, unless memory was refused
told_is : (f e : SqlFault) (asked : Asked) → unread f ≡ Some asked → IsToldAs (Err f) e → f ≡ e
told_is (fault.Syntax place) e asked is told = told
told_is (fault.Outside name place) e asked is told = told
told_is fault.TooLong e asked is told = told
told_is fault.NoMemory e asked is told = absurd (none-some asked is)

pub unread_said : (tables : List TableDef) (moment : ℤ) (text : List ℕ) (f : SqlFault) (r : Result Given NoMemory) → IsNamedBy text f → ((place : ℕ) → LacksFromAt text place → IsToldAs (Err f) (fault.Syntax place))
    → (HasTooMany text → IsToldAs (Err f) fault.TooLong) → IfOk r (λ asked. unread f ≡ Some (asked_of asked)) → IfOk r (λ asked. Asks tables moment text (asked_of asked))
unread_said tables moment text f (Ok asked) named lacks many is =
    faulty f (record {
      named = named;
      without_from = λ place there. told_is f (fault.Syntax place) (asked_of asked) is (lacks place there);
      too_many = λ there. told_is f fault.TooLong (asked_of asked) is (many there);
    }) is
unread_said tables moment text f (Err e) named lacks many is = tt

-- one statement, which is left for later
pub later_said : (tables : List TableDef) (moment : ℤ) (s : Statement) (name : List ℕ) (r : Result Given NoMemory) → left_out s ≡ Some name → IfOk r (λ asked. asked_of asked ≡ left name)
    → IfOk r (λ asked. (text : List ℕ) → IsTextOf text (s ∷ []) → Asks tables moment text (asked_of asked))
later_said tables moment s name (Ok asked) out is = λ text reads. later s name reads out is
later_said tables moment s name (Err e) out is = tt

-- one that the check refuses
pub wrong_said : (tables : List TableDef) (moment : ℤ) (s : Statement) (code : Code) (name message : List ℕ) → AnswersCheck tables s None (Err (Refused code name)) → message ≡ about s code.bytes name
    → (text : List ℕ) → IsTextOf text (s ∷ []) → Asks tables moment text (refused code.bytes message)
wrong_said tables moment s code name message answers is = λ text reads. wrong s code name reads answers (ap (refused code.bytes) is)

-- one that was checked, at the moment
abbrev pub IsAskedAt : ℤ → Checked → Asked → Type 0
IsAskedAt moment checked asked = (¬ (IsMoment moment) × (asked ≡ refused (codes "22008") (text_of_code (codes "22008")))) ⊎ (IsMoment moment × (asked ≡ checked_asks moment checked))

asked_at : (tables : List TableDef) (moment : ℤ) (s : Statement) (checked : Checked) (asked : Asked) → AnswersCheck tables s None (Ok checked) → IsAskedAt moment checked asked → (text : List ℕ) → IsTextOf text (s ∷ []) → Asks tables moment text asked
asked_at tables moment s checked asked answers (inl (never, is)) text reads = untimely s checked reads answers never is
asked_at tables moment s checked asked answers (inr (within, is)) text reads = right s checked reads answers within is

pub checked_said : (tables : List TableDef) (moment : ℤ) (s : Statement) (checked : Checked) (r : Result Given NoMemory) → AnswersCheck tables s None (Ok checked) → IfOk r (λ asked. IsAskedAt moment checked (asked_of asked))
    → IfOk r (λ asked. (text : List ℕ) → IsTextOf text (s ∷ []) → Asks tables moment text (asked_of asked))
checked_said tables moment s checked (Ok asked) answers is = λ text reads. asked_at tables moment s checked (asked_of asked) answers is text reads
checked_said tables moment s checked (Err e) answers is = tt

-- two statements and more
pub several_said : (tables : List TableDef) (moment : ℤ) (all : List Statement) (r : Result Given NoMemory) → 2 ≤ length all → IfOk r (λ asked. asked_of asked ≡ left (codes "several statements"))
    → IfOk r (λ asked. (text : List ℕ) → IsTextOf text all → Asks tables moment text (asked_of asked))
several_said tables moment [] r many is = absurd (omega (arith, many))
several_said tables moment (s ∷ []) r many is = absurd (omega (arith, many))
several_said tables moment (first ∷ second ∷ others) (Ok asked) many is = λ text reads. several first second others reads is
several_said tables moment (first ∷ second ∷ others) (Err e) many is = tt

pub one_item : (xs : List Statement) (x : Statement) → 1 ≤ length xs → length xs < 2 → x ≡ get_or xs 0 x → xs ≡ x ∷ []
one_item [] x some few is = absurd (omega (arith, some))
one_item (y ∷ []) x some few is = ap (λ (s : Statement). s ∷ []) (sym is)
one_item (y ∷ z ∷ xs) x some few is = absurd (omega (arith, few))

-- a text that was read
pub read_said : (tables : List TableDef) (moment : ℤ) (text : List ℕ) (all : List Statement) (r : Result Given NoMemory) → IsTextOf text all → IfOk r (λ asked. (t : List ℕ) → IsTextOf t all → Asks tables moment t (asked_of asked))
    → IfOk r (λ asked. Asks tables moment text (asked_of asked))
read_said tables moment text all (Ok asked) reads asks = asks text reads
read_said tables moment text all (Err e) reads asks = tt

-- bytes that are these characters
pub of_said : (tables : List TableDef) (moment : ℤ) (bytes said : List ℕ) (r : Result Given NoMemory) → said ≡ bytes → IsUtf8 bytes → IfOk r (λ asked. Asks tables moment said (asked_of asked)) → IfOk r (λ asked. IsAsked tables moment bytes (asked_of asked))
of_said tables moment bytes said (Ok asked) same utf8 asks = of_text utf8 (subst (λ (text : List ℕ). Asks tables moment text (asked_of asked)) same asks)
of_said tables moment bytes said (Err e) same utf8 asks = tt

-- one that stays as it is at the moment
pub kept_said : (moment : ℤ) (checked : Checked) (r : Result Given NoMemory) → IsMoment moment → IfOk r (λ asked. asked_of asked ≡ checked_asks moment checked)
    → IfOk r (λ asked. IsAskedAt moment checked (asked_of asked))
kept_said moment checked (Ok asked) within is = inr (within, is)
kept_said moment checked (Err e) within is = tt
