-- What statements give that can be run: an answer of their form.
use Rattle.std.proofs.Common.{◌≡◌, ℕ, ℤ, Bool, true, false, List, length, refl, sym, ◌∙◌, subst}
use Rattle.std.specs.Prelude.{Option, Ok, Err}
use Rattle.schema.specs.declared.catalogue.TableDef.{TableDef}
use Rattle.catalogue.specs.declared.checked.Checked.{Checked}
use Rattle.catalogue.specs.declared.checked.CheckedBody.{CheckedBody}
use Rattle.catalogue.specs.declared.checked.CheckedBody.TheVariants as body
use Rattle.catalogue.specs.declared.checked.ColumnDesc.{ColumnDesc}
use Rattle.sql_eval.specs.Walks.{Coded}
use Rattle.sql_eval.specs.Reads.{alone}
use Rattle.sql_eval.specs.Effects as effects
use Rattle.sql_eval.specs.Effects.{Reads, Writes, given_by}
use Rattle.backend_trait.specs.Typed.{AreAllStored}
use Rattle.backend_trait.specs.declared.answer.Answer.{Answer}
use Rattle.backend_trait.specs.declared.answer.Answer.TheVariants as answers
use Rattle.backend_trait.specs.Keys.{Place}
use Rattle.backend_trait.specs.Rows.{Rows, Changes}
use Rattle.backend_trait.specs.Effect.{Given, Fails, Gives, given_as, number_from, effect_of, table_in}
use Rattle.backend_trait.specs.Runnable.{IsRunnable, is_given, is_of_run}
use Rattle.backend_trait.specs.Store.{Store, WhereLive, is_refusal}
use Rattle.backend_trait.specs.Acts.{MayRun, MayGive, given_of}
use Rattle.outcomes.proofs.Giving.{given_is}
use Rattle.outcomes.proofs.Shaped.{answer_shaped}

-- what is given has an answer of the statement's form, and no refusal
abbrev pub IsFormed : Checked → Given → Type 0
IsFormed statement (Fails code) = Unit {0}
IsFormed statement (Gives answer changes places) = (is_of_run statement answer ≡ true) × (is_refusal answer ≡ false)

not_refused : (table : Option ℕ) (given : Coded effects.Given) (answer : Answer) (changes : Changes) (places : List Place) → given_as table given ≡ Gives answer changes places → is_refusal answer ≡ false
not_refused table (Err code) answer changes places is = absurd (cc)
not_refused table (Ok (Reads read)) answer changes places is =
    let same : answers.Rows read.rows ≡ answer = cc in subst (λ (a : Answer). is_refusal a ≡ false) same refl
not_refused table (Ok (Writes cs)) answer changes places is =
    let same : answers.Count (length cs) ≡ answer = cc in subst (λ (a : Answer). is_refusal a ≡ false) same refl

pub given_formed : (tables : List TableDef) (statement : Checked) (view : Rows) (next : Option ℤ) → IsRunnable tables statement → AreAllStored tables view → IsFormed statement (effect_of tables statement view next).given
given_formed tables statement view next runnable stored = go (effect_of tables statement view next).given refl
  where
    go : (given : Given) → (effect_of tables statement view next).given ≡ given → IsFormed statement given
    go (Fails code) is = tt
    go (Gives answer changes places) is =
        let told = given_by alone tables statement.body view (number_from next) in (
          answer_shaped tables statement view runnable stored next answer changes places is,
          not_refused (table_in statement) told answer changes places (sym (given_is tables statement view next told refl) ∙ is),
        )

-- every other answer is of no statement
not_began : (b : CheckedBody) (columns : List ColumnDesc) → is_given b columns answers.Began ≡ false
not_began (body.Read read) columns = refl
not_began (body.Insert insert) columns = refl
not_began (body.Change change) columns = refl
not_began (body.Remove remove) columns = refl

not_locked : (b : CheckedBody) (columns : List ColumnDesc) → is_given b columns answers.Locked ≡ false
not_locked (body.Read read) columns = refl
not_locked (body.Insert insert) columns = refl
not_locked (body.Change change) columns = refl
not_locked (body.Remove remove) columns = refl

not_done : (b : CheckedBody) (columns : List ColumnDesc) → is_given b columns answers.Done ≡ false
not_done (body.Read read) columns = refl
not_done (body.Insert insert) columns = refl
not_done (body.Change change) columns = refl
not_done (body.Remove remove) columns = refl

not_serial : (b : CheckedBody) (columns : List ColumnDesc) (n : ℤ) → is_given b columns (answers.Serial n) ≡ false
not_serial (body.Read read) columns n = refl
not_serial (body.Insert insert) columns n = refl
not_serial (body.Change change) columns n = refl
not_serial (body.Remove remove) columns n = refl

pub refusal_given : (b : CheckedBody) (columns : List ColumnDesc) (answer : Answer) → is_refusal answer ≡ true → is_given b columns answer ≡ true
refusal_given b columns answers.Began e = absurd (let f : false ≡ true = e in cc)
refusal_given b columns (answers.Rows rows) e = absurd (let f : false ≡ true = e in cc)
refusal_given b columns (answers.Count n) e = absurd (let f : false ≡ true = e in cc)
refusal_given b columns answers.Locked e = absurd (let f : false ≡ true = e in cc)
refusal_given b columns answers.Done e = absurd (let f : false ≡ true = e in cc)
refusal_given b columns (answers.Serial n) e = absurd (let f : false ≡ true = e in cc)
refusal_given (body.Read read) columns (answers.Refused code) e = refl
refusal_given (body.Insert insert) columns (answers.Refused code) e = refl
refusal_given (body.Change change) columns (answers.Refused code) e = refl
refusal_given (body.Remove remove) columns (answers.Refused code) e = refl

clash : {A : Type 0} (b : Bool) → b ≡ false → b ≡ true → A
clash b fails holds = absurd (let f : false ≡ true = sym fails ∙ holds in cc)

-- an answer of the statement's form may be given where the store may give it
pub may_answer_run : (st : Store) (s : ℕ) (crossed : Type 0) (statement : Checked) (answer : Answer) → is_of_run statement answer ≡ true → is_refusal answer ≡ false
    → WhereLive (st.transaction s) (λ t. MayGive st s t answer (given_of st statement t)) → MayRun st s crossed statement answer
may_answer_run st s crossed statement answers.Began form fails may = clash _ (not_began statement.body statement.columns) form
may_answer_run st s crossed statement (answers.Rows rows) form fails may = may
may_answer_run st s crossed statement (answers.Count n) form fails may = may
may_answer_run st s crossed statement answers.Locked form fails may = clash _ (not_locked statement.body statement.columns) form
may_answer_run st s crossed statement answers.Done form fails may = clash _ (not_done statement.body statement.columns) form
may_answer_run st s crossed statement (answers.Serial n) form fails may = clash _ (not_serial statement.body statement.columns n) form
may_answer_run st s crossed statement (answers.Refused code) form fails may = absurd (let f : true ≡ false = fails in cc)
