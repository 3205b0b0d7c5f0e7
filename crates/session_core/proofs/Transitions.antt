-- What an answer makes of a store on which one session alone works.
use Rattle.std.proofs.Common.{◌≡◌, ◌≢◌, ◌⊎◌, ℕ, Bool, true, false, if◌then◌else◌, List, refl, sym, ap, ◌∙◌, subst, inl, inr}
use Rattle.std.specs.Prelude.{ℤ, Option, Some, None, Ok, Err}
use Rattle.pool_base.specs.declared.code.Code.{Code}
use Rattle.schema.specs.declared.catalogue.TableDef.{TableDef}
use Rattle.catalogue.specs.declared.checked.Checked.{Checked}
use Rattle.classifier.specs.Classes.{lock_of}
use Rattle.sql_eval.specs.Walks.{Coded}
use Rattle.sql_eval.specs.Reads.{alone}
use Rattle.sql_eval.specs.Effects as effects
use Rattle.sql_eval.specs.Effects.{Reads, Writes, given_by}
use Rattle.backend_trait.specs.declared.request.Request.{Request}
use Rattle.backend_trait.specs.declared.request.Request.TheVariants as requests
use Rattle.backend_trait.specs.declared.answer.Answer.{Answer}
use Rattle.backend_trait.specs.declared.answer.Answer.TheVariants as answers
use Rattle.backend_trait.specs.Keys.{Place}
use Rattle.backend_trait.specs.Rows.{Rows, Changes, no_changes, laid_over, joined_changes, with_at}
use Rattle.backend_trait.specs.Effect.{Given, Fails, Gives, effect_of, given_as, number_from, table_in}
use Rattle.backend_trait.specs.Alone.{given_on, IsEffect, rows_left}
use Rattle.backend_trait.specs.Runnable.{is_of_run}
use Rattle.backend_trait.specs.Store.{Store, Live, Transaction, Absent, Alive, Dead, Pending, WhereLive, view_of, next_for, begun, given_to, where_live, made_stale, drawn_by, settled, committed_by, posted, acted, answered, is_refusal}
use Rattle.backend_trait.specs.Acts.{MaySnapshot, MayRun, MayGive, MayRefuse, IsPromptAnswer, IsCrossed, IsDone, given_of}
use Rattle.backend_trait.proofs.RowLaws.{laid_over-none, joined_changes-none}
use Rattle.session_core.specs.Standing.{IsAlone, Stands, IsAsked}
use Rattle.session_core.specs.Statements.{IsReady}
use Rattle.session_core.proofs.Asking.{with_at-same, with_at-other, not_crossed}
use Rattle.session_core.proofs.Going.{same_or_other}
use Rattle.backend_trait.proofs.Undrawn.{numbers_apart}

idle_after : (s : ℕ) (st : Store) (request : Request) → IsAlone s st → (o : ℕ) → with_at (posted st s request).pending s None o ≡ None
idle_after s st request alone o = elim (same_or_other o s) [
  | inl same ↦ ap (with_at (posted st s request).pending s None) same ∙ with_at-same (posted st s request).pending s None
  | inr other ↦ with_at-other (posted st s request).pending s None o other ∙ with_at-other st.pending s _ o other ∙ alone.idle o
]

-- the session's own transaction is another, and all else stays
settles : (s : ℕ) (tables : List TableDef) (rows : Rows) (x y : Transaction) (st new : Store) (request : Request) (next : ℕ → Option ℤ) → Stands s tables rows x st → new ≡ record (settled (posted st s request) s y) { next = next }
    → Stands s tables rows y new
settles s tables rows x y st new request next stands is = subst (λ (n : Store). Stands s tables rows y n) (sym is) (record {
  tables_are = stands.tables_are;
  rows_are = stands.rows_are;
  own = with_at-same st.transaction s y;
  alone = record {
    others = λ o other. with_at-other st.transaction s y o other ∙ stands.alone.others o other;
    idle = idle_after s st request stands.alone;
    not_lost = stands.alone.not_lost;
  };
})

pub begins : (s : ℕ) (tables : List TableDef) (rows : Rows) (st new : Store) (answer : Answer) → Stands s tables rows Absent st → IsAsked st s requests.TakeSnapshot answer new → Stands s tables rows (Alive (begun rows)) new
begins s tables rows st new answers.Began stands asked =
    settles s tables rows Absent (Alive (begun rows)) st new requests.TakeSnapshot st.next stands (asked.leaves ∙ ap (λ (r : Rows). settled (posted st s requests.TakeSnapshot) s (Alive (begun r))) stands.rows_are)
begins s tables rows st new (answers.Rows r) stands asked = absurd asked.may
begins s tables rows st new (answers.Count n) stands asked = absurd asked.may
begins s tables rows st new answers.Locked stands asked = absurd asked.may
begins s tables rows st new answers.Done stands asked = absurd asked.may
begins s tables rows st new (answers.Serial n) stands asked = absurd asked.may
begins s tables rows st new (answers.Refused code) stands asked = absurd (asked.promptly asked.may)

-- what the statement gives on the rows of a transaction that begins
given_is : (st : Store) (tables : List TableDef) (c : Checked) (rows : Rows) → st.tables ≡ tables → lock_of c.body ≡ None → given_of st c (begun rows) ≡ given_on tables rows c
given_is st tables c rows is none =
    numbers_apart st.tables c (laid_over no_changes rows) (next_for st.next (table_in c)) none
    ∙ (ap (λ (v : Rows). given_on st.tables v c) (laid_over-none rows) ∙ ap (λ (ts : List TableDef). given_on ts rows c) is)

abbrev pub ran_to : Bool → Given → Rows → Transaction
ran_to true given rows = Dead
ran_to false given rows = Alive (given_to given (begun rows))

gives_effect : (st : Store) (s : ℕ) (t : Live) (answer : Answer) (given : Given) → MayGive st s t answer given → IsEffect given answer
gives_effect st s t answer (Fails code) may = absurd may
gives_effect st s t answer (Gives result changes places) may = may.0

refuses_effect : (crossed : Type 0) → (crossed → ⊥) → (rows : Rows) (table : Option ℕ) (code : Code) (given : Given) → IsPromptAnswer (answers.Refused code) → MayRefuse crossed (begun rows) table code given → IsEffect given (answers.Refused code)
refuses_effect crossed none rows table code (Fails bytes) prompt (inl is) = (code, refl, is)
refuses_effect crossed none rows table code (Fails bytes) prompt (inr out) = absurd (prompt out)
refuses_effect crossed none rows table code (Gives result changes places) prompt (inl stale) = let (p, wanted, is) = stale.1 in absurd (cc)
refuses_effect crossed none rows table code (Gives result changes places) prompt (inr (inl cycle)) = absurd (none cycle.1)
refuses_effect crossed none rows table code (Gives result changes places) prompt (inr (inr out)) = absurd (prompt out)

-- where a run may be answered so, by the session's transaction
abbrev MayRunAt : Store → ℕ → Type 0 → Checked → Transaction → Answer → Type 0
MayRunAt st s crossed c x answers.Began = ⊥
MayRunAt st s crossed c x (answers.Rows r) = WhereLive x (λ t. MayGive st s t (answers.Rows r) (given_of st c t))
MayRunAt st s crossed c x (answers.Count n) = WhereLive x (λ t. MayGive st s t (answers.Count n) (given_of st c t))
MayRunAt st s crossed c x answers.Locked = ⊥
MayRunAt st s crossed c x answers.Done = ⊥
MayRunAt st s crossed c x (answers.Serial n) = ⊥
MayRunAt st s crossed c x (answers.Refused code) = WhereLive x (λ t. MayRefuse crossed t (table_in c) code (given_of st c t))

may_run_at : (st : Store) (s : ℕ) (crossed : Type 0) (c : Checked) (a : Answer) → MayRun st s crossed c a → MayRunAt st s crossed c (st.transaction s) a
may_run_at st s crossed c answers.Began m = m
may_run_at st s crossed c (answers.Rows r) m = m
may_run_at st s crossed c (answers.Count n) m = m
may_run_at st s crossed c answers.Locked m = m
may_run_at st s crossed c answers.Done m = m
may_run_at st s crossed c (answers.Serial n) m = m
may_run_at st s crossed c (answers.Refused code) m = m

module _ (s : ℕ) (tables : List TableDef) (rows : Rows) (st new : Store) (c : Checked) where
  abbrev mid : Store
  mid = posted st s (requests.Run c)

  abbrev Crossed : Type 0
  Crossed = IsCrossed mid s (record { request = requests.Run c; crossed = false })

  module _ (none : lock_of c.body ≡ None) (stands : Stands s tables rows (Alive (begun rows)) st) where
    is_given : given_of mid c (begun rows) ≡ given_on tables rows c
    is_given = given_is mid tables c rows stands.tables_are none

    abbrev later : ℕ → Option ℤ
    later = drawn_by st.tables c st.next

    lives : new ≡ record (settled mid s (where_live (λ t. given_to (given_of mid c t) t) (st.transaction s))) { next = later } → Stands s tables rows (Alive (given_to (given_on tables rows c) (begun rows))) new
    lives leaves = settles s tables rows (Alive (begun rows)) (Alive (given_to (given_on tables rows c) (begun rows))) st new (requests.Run c) later stands
        (leaves ∙ ap (λ (x : Transaction). record (settled mid s (where_live (λ t. given_to (given_of mid c t) t) x)) { next = later }) stands.own
        ∙ ap (λ (g : Given). record (settled mid s (Alive (given_to g (begun rows)))) { next = later }) is_given)

    ran_so : (a : Answer) → MayRunAt mid s Crossed c (Alive (begun rows)) a → IsPromptAnswer a → new ≡ acted mid s (requests.Run c) a
        → IsEffect (given_on tables rows c) a × Stands s tables rows (ran_to (is_refusal a) (given_on tables rows c) rows) new
    ran_so answers.Began m p leaves = absurd m
    ran_so (answers.Rows r) m p leaves = (subst (λ (g : Given). IsEffect g (answers.Rows r)) is_given (gives_effect mid s (begun rows) (answers.Rows r) (given_of mid c (begun rows)) m), lives leaves)
    ran_so (answers.Count n) m p leaves = (subst (λ (g : Given). IsEffect g (answers.Count n)) is_given (gives_effect mid s (begun rows) (answers.Count n) (given_of mid c (begun rows)) m), lives leaves)
    ran_so answers.Locked m p leaves = absurd m
    ran_so answers.Done m p leaves = absurd m
    ran_so (answers.Serial n) m p leaves = absurd m
    ran_so (answers.Refused code) m p leaves = (
      subst (λ (g : Given). IsEffect g (answers.Refused code)) is_given (refuses_effect Crossed (not_crossed s st (requests.Run c) stands.alone) rows (table_in c) code (given_of mid c (begun rows)) p m),
      settles s tables rows (Alive (begun rows)) Dead st new (requests.Run c) later stands leaves,
    )

  -- a statement has its effect, in its form
  pub runs : (answer : Answer) → lock_of c.body ≡ None → Stands s tables rows (Alive (begun rows)) st → IsAsked st s (requests.Run c) answer new
      → IsEffect (given_on tables rows c) answer × (is_of_run c answer ≡ true) × Stands s tables rows (ran_to (is_refusal answer) (given_on tables rows c) rows) new
  runs answer none stands asked =
      let done = ran_so none stands answer (subst (λ (x : Transaction). MayRunAt mid s Crossed c x answer) stands.own (may_run_at mid s Crossed c answer asked.may)) asked.promptly asked.leaves in
      (done.0, asked.form, done.1)

-- a commit lays the changes over the rows
pub commits : (s : ℕ) (tables : List TableDef) (rows : Rows) (t : Live) (st new : Store) (answer : Answer) → Stands s tables rows (Alive t) st → IsAsked st s requests.Commit answer new → Stands s tables (laid_over t.changes rows) Absent new
commits s tables rows t st new answer stands asked =
    let done : answer ≡ answers.Done = subst (λ (x : Transaction). WhereLive x (λ u. IsDone answer)) stands.own asked.may in
    let is : new ≡ committed_by (posted st s requests.Commit) s (Alive t) =
    asked.leaves ∙ ap (acted (posted st s requests.Commit) s requests.Commit) done ∙ ap (committed_by (posted st s requests.Commit) s) stands.own in
    subst (λ (n : Store). Stands s tables (laid_over t.changes rows) Absent n) (sym is) (record {
      tables_are = stands.tables_are;
      rows_are = ap (laid_over t.changes) stands.rows_are;
      own = with_at-same (λ o. where_live (made_stale t.changes) (st.transaction o)) s Absent;
      alone = record {
        others = λ o other. with_at-other (λ o. where_live (made_stale t.changes) (st.transaction o)) s Absent o other ∙ ap (where_live (made_stale t.changes)) (stands.alone.others o other);
        idle = idle_after s st requests.Commit stands.alone;
        not_lost = stands.alone.not_lost;
      };
    })

-- a rollback changes no row
pub rolls_back : (s : ℕ) (tables : List TableDef) (rows : Rows) (x : Transaction) (st new : Store) (answer : Answer) → Stands s tables rows x st → IsAsked st s requests.Rollback answer new → Stands s tables rows Absent new
rolls_back s tables rows x st new answer stands asked =
    settles s tables rows x Absent st new requests.Rollback st.next stands (asked.leaves ∙ ap (acted (posted st s requests.Rollback) s requests.Rollback) asked.may)

-- a session without a transaction leaves the store at rest
pub rests : (s : ℕ) (tables : List TableDef) (rows : Rows) (st : Store) → Stands s tables rows Absent st → IsReady tables rows st
rests s tables rows st stands = record {
  tables_are = stands.tables_are;
  rows_are = stands.rows_are;
  no_transaction = λ o. elim (same_or_other o s) [ inl same ↦ ap st.transaction same ∙ stands.own | inr other ↦ stands.alone.others o other ];
  idle = stands.alone.idle;
  not_lost = stands.alone.not_lost;
}

pub stands_ready : (s : ℕ) (tables : List TableDef) (rows : Rows) (st : Store) → IsReady tables rows st → Stands s tables rows Absent st
stands_ready s tables rows st ready = record {
  tables_are = ready.tables_are;
  rows_are = ready.rows_are;
  own = ready.no_transaction s;
  alone = record { others = λ o other. ready.no_transaction o; idle = ready.idle; not_lost = ready.not_lost };
}

abbrev refusal_in : Given → Bool
refusal_in (Fails code) = true
refusal_in (Gives result changes places) = is_refusal result

result_of : (table : Option ℕ) (given : Coded effects.Given) (result : Answer) (changes : Changes) (places : List Place) → given_as table given ≡ Gives result changes places → is_refusal result ≡ false
result_of table (Err code) result changes places is = absurd (cc)
result_of table (Ok (Reads read)) result changes places is = sym (ap refusal_in is)
result_of table (Ok (Writes written)) result changes places is = sym (ap refusal_in is)

-- a result is no refusal
pub no_refusal : (tables : List TableDef) (rows : Rows) (c : Checked) (result : Answer) (changes : Changes) (places : List Place) → given_on tables rows c ≡ Gives result changes places → is_refusal result ≡ false
unfolding effect_of
no_refusal tables rows c result changes places is = result_of (table_in c) (given_by alone tables c.body rows (number_from None)) result changes places is

-- the rows of what the transaction has changed
pub left_by : (given : Given) (rows : Rows) (result : Answer) (changes : Changes) (places : List Place) → given ≡ Gives result changes places → laid_over (given_to given (begun rows)).changes rows ≡ rows_left given rows
left_by (Fails code) rows result changes places is = absurd (cc)
left_by (Gives r ch w) rows result changes places is = ap (λ (x : Changes). laid_over x rows) (joined_changes-none ch)
