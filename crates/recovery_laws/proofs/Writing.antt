-- What the result of a run changes is in the table that its statement writes.
use Rattle.std.proofs.Common.{◌≡◌, ◌⊎◌, ℕ, ℤ, ◌<◌, ◌≤◌, ◌^◌, Bool, true, false, ◌==◌, List, length, refl, sym, ap, ◌∙◌, subst, inl, inr, arith, eqb-true, lt-ltb}
use Rattle.std.specs.Prelude.{nat_lt, bit_or, is_some, slice_get, Option, Some, None, Ok, Err}
use Rattle.std.specs.FinMap as fin
use Rattle.std.specs.Int.{bit_at}
use Rattle.std.proofs.lemmas.Bool.{and_from, and_right}
use Rattle.std.proofs.lemmas.Nat.Bits.{bit_at_or, bit_at-lt, bit_at-pow_same, bit_at-zero}
use Rattle.std.proofs.lemmas.Option.{slice_get_within}
use Rattle.pool_base.specs.Sets.{has}
use Rattle.schema.specs.declared.catalogue.TableDef.{TableDef}
use Rattle.pg_values.specs.declared.col_type.ColType.{ColType}
use Rattle.catalogue.specs.declared.checked.Checked.{Checked}
use Rattle.catalogue.specs.declared.checked.CheckedBody.{CheckedBody}
use Rattle.catalogue.specs.declared.checked.CheckedBody.TheVariants as body
use Rattle.catalogue.specs.declared.checked.ColumnDesc.{ColumnDesc}
use Rattle.checked_sql.specs.OfCatalogue.{is_empty, of_table, is_insert, is_change, is_remove, is_body, is_of}
use Rattle.classifier.specs.Classes.{table_written, bit_of, tables_mask}
use Rattle.sql_eval.specs.declared.row.Row.{Row}
use Rattle.sql_eval.specs.declared.effect.ReadEffect.{ReadEffect}
use Rattle.sql_eval.specs.Walks.{Coded, made}
use Rattle.sql_eval.specs.Reads.{alone, read_in}
use Rattle.sql_eval.specs.Effects as effects
use Rattle.sql_eval.specs.Effects.{Reads, given_by}
use Rattle.outcomes.proofs.Giving.{given_is}
use Rattle.backend_trait.specs.declared.request.Request.{Request}
use Rattle.backend_trait.specs.declared.request.Request.TheVariants as requests
use Rattle.backend_trait.specs.declared.answer.Answer.{Answer}
use Rattle.backend_trait.specs.declared.answer.Answer.TheVariants as answers
use Rattle.backend_trait.specs.Keys.{Place, place_order}
use Rattle.backend_trait.specs.Rows.{Rows, Changes, no_changes}
use Rattle.backend_trait.specs.Effect.{Given, Fails, Gives, has_place, keys_in, given_as, table_in, number_from, effect_of}
use Rattle.backend_trait.specs.Store.{Live, Transaction, Absent, Alive, Dead, Pending, Store, WhereLive, view_of, next_for, where_live, given_to, acted}
use Rattle.backend_trait.specs.Acts.{MayAnswer, MayRun, MayGive, IsCrossed, given_of, wants_in}
use Rattle.backend_trait.proofs.RowLaws.{change_over, get-joined_changes}
use Rattle.online_recovery.specs.State.{is_touched}
use Rattle.one_copy_model.specs.declared.deed.Deed.TheVariants.{Gets}
use Rattle.one_copy_model.specs.SingleRun.{done_by}
use Rattle.one_copy_model.proofs.Places.{with_at-same}
use Rattle.one_copy_model.proofs.Deeds.{gets_is}
use Rattle.one_copy_model.proofs.Livings.{and_true}
use Rattle.one_copy_laws.proofs.ActsEffects.{changed_wanted}
use Rattle.one_copy_laws.proofs.MarksWanting.{wants_within}
use Rattle.one_copy_laws.proofs.RunsGiving.{IsResultWith, gives_rows, gives_count, given_forms}
use Rattle.recovery_laws.specs.Masks.{IsWithin}
use Rattle.recovery_laws.proofs.Doing.{alive_is, within_dead}
use Rattle.recovery_laws.proofs.Masking.{grown}

-- Tables of a mask.

bit_left : (a b i : ℕ) → bit_at a i ≡ 1 → bit_at (bit_or a b) i ≡ 1
bit_left a b i e = omega (arith, bit_at_or a b i, bit_at-lt b i, e)

bit_right : (a b i : ℕ) → bit_at b i ≡ 1 → bit_at (bit_or a b) i ≡ 1
bit_right a b i e = omega (arith, bit_at_or a b i, bit_at-lt a i, e)

pub touched_left : (a b table : ℕ) → is_touched a table ≡ true → is_touched (bit_or a b) table ≡ true
touched_left a b table e =
    let both = and_true (nat_lt table 64) (has a table) e in
    and_from (nat_lt table 64) (has (bit_or a b) table) both.0 (ap (λ (n : ℕ). n == 1) (bit_left a b table (eqb-true (bit_at a table) 1 both.1)))

pub touched_right : (a b table : ℕ) → is_touched b table ≡ true → is_touched (bit_or a b) table ≡ true
touched_right a b table e =
    let both = and_true (nat_lt table 64) (has b table) e in
    and_from (nat_lt table 64) (has (bit_or a b) table) both.0 (ap (λ (n : ℕ). n == 1) (bit_right a b table (eqb-true (bit_at b table) 1 both.1)))

pub untouched : (table : ℕ) → is_touched 0 table ≡ false
untouched table = and_right (nat_lt table 64) (has 0 table) (ap (λ (n : ℕ). n == 1) (bit_at-zero table))

touched_own : (table : ℕ) → table < 64 → is_touched (2 ^ table) table ≡ true
touched_own table low = and_from (nat_lt table 64) (has (2 ^ table) table) (lt-ltb table 64 low) (ap (λ (n : ℕ). n == 1) (bit_at-pow_same table))

-- The table that a statement writes.

number_same : (a b : ℕ) → Some a ≡ Some b → a ≡ b
number_same a b e = cc

stands_there : {A : Type 0} (test : TableDef → A → Bool) (table : Option TableDef) (x : A) → of_table test table x ≡ true → (is : TableDef) × (table ≡ Some is)
stands_there test None x e = absurd (let z : false ≡ true = e in cc)
stands_there test (Some table) x e = (table, refl)

among_tables : (tables : List TableDef) (own table : ℕ) → ((is : TableDef) × (slice_get tables own ≡ Some is)) → Some own ≡ Some table → table < length tables
among_tables tables own table found same = subst (λ (n : ℕ). n < length tables) (number_same own table same) (slice_get_within tables own found.0 found.1)

body_among : (tables : List TableDef) (kinds : List ColType) (b : CheckedBody) (columns : List ColumnDesc) (table : ℕ) → is_body tables kinds b columns ≡ true
    → table_written b ≡ Some table → table < length tables
body_among tables kinds (body.Read read) columns table is e = absurd (let z : None ≡ Some table = e in cc)
body_among tables kinds (body.Insert insert) columns table is e =
    among_tables tables insert.table table
    (stands_there (is_insert kinds) (slice_get tables insert.table) insert (and_true (is_empty columns) (of_table (is_insert kinds) (slice_get tables insert.table) insert) is).1) e
body_among tables kinds (body.Change change) columns table is e =
    among_tables tables change.table table
    (stands_there (is_change kinds) (slice_get tables change.table) change (and_true (is_empty columns) (of_table (is_change kinds) (slice_get tables change.table) change) is).1) e
body_among tables kinds (body.Remove remove) columns table is e =
    among_tables tables remove.table table
    (stands_there (is_remove kinds) (slice_get tables remove.table) remove (and_true (is_empty columns) (of_table (is_remove kinds) (slice_get tables remove.table) remove) is).1) e

-- it is in the mask of the statement
touched_by : (tables : List TableDef) (checked : Checked) (table : ℕ) → is_of tables checked ≡ true → length tables ≤ 64 → table_written checked.body ≡ Some table
    → is_touched (tables_mask checked.body) table ≡ true
touched_by tables checked table is few e =
    let among = body_among tables checked.kinds checked.body checked.columns table is e in
    ap (λ (n : ℕ). is_touched n table) (ap bit_of e) ∙ touched_own table (let z : table < 64 = omega (arith, among, few) in z)

-- What a statement gives.

-- a read changes nothing
read_none : (table : Option ℕ) (found : Coded ReadEffect) (answer : Answer) (changes : Changes) (places : List Place) (q : Place)
    → given_as table (made Reads found) ≡ Gives answer changes places → is_some (fin.get changes q) ≡ true → ⊥
read_none table (Err code) answer changes places q e some = let z : Fails code ≡ Gives answer changes places = e in cc
read_none table (Ok read) answer changes places q e some =
    let z : Gives (answers.Rows read.rows) no_changes (keys_in table read.keys) ≡ Gives answer changes places = e in
    let none : no_changes ≡ changes = cc in
    let w : false ≡ true = sym (ap is_some (fin.get-empty place_order q)) ∙ ap (λ (c : Changes). is_some (fin.get c q)) none ∙ some in cc

body_writes : (tables : List TableDef) (b : CheckedBody) (view : Rows) (n : ℤ) (table : Option ℕ) (answer : Answer) (changes : Changes) (places : List Place) (q : Place)
    → given_as table (given_by alone tables b view n) ≡ Gives answer changes places → is_some (fin.get changes q) ≡ true → Some q.table ≡ effects.table_in b
    → table_written b ≡ Some q.table
body_writes tables (body.Read read) view n table answer changes places q e some at = absurd (read_none table (read_in alone view read) answer changes places q e some)
body_writes tables (body.Insert insert) view n table answer changes places q e some at = sym at
body_writes tables (body.Change change) view n table answer changes places q e some at = sym at
body_writes tables (body.Remove remove) view n table answer changes places q e some at = sym at

written_at : (tables : List TableDef) (checked : Checked) (view : Rows) (next : Option ℤ) (answer : Answer) (changes : Changes) (places : List Place) (q : Place)
    → (effect_of tables checked view next).given ≡ Gives answer changes places → is_some (fin.get changes q) ≡ true → table_written checked.body ≡ Some q.table
written_at tables checked view next answer changes places q e some =
    body_writes tables checked.body view (number_from next) (table_in checked) answer changes places q
    (sym (given_is tables checked view next (given_by alone tables checked.body view (number_from next)) refl) ∙ e) some
    (wants_within tables checked view next q (ap (λ (g : Given). has_place (wants_in g) q) e ∙ changed_wanted tables checked view next answer changes places q e some))

-- What a transaction has changed behind a result.

over_some : (x y : Option (Option Row)) → is_some (change_over x y) ≡ true → (is_some x ≡ true) ⊎ (is_some y ≡ true)
over_some None y e = inr e
over_some (Some row) y e = inl refl

given_within : (mask : ℕ) (g : Given) (k : Live)
    → ((answer : Answer) (changes : Changes) (places : List Place) → g ≡ Gives answer changes places → (q : Place) → is_some (fin.get changes q) ≡ true → is_touched mask q.table ≡ true)
    → IsWithin mask (Alive k) → IsWithin mask (Alive (given_to g k))
given_within mask (Fails code) k new old u q e some = old u q e some
given_within mask (Gives answer changes places) k new old u q e some =
    let at : is_some (change_over (fin.get changes q) (fin.get k.changes q)) ≡ true =
    ap is_some (sym (get-joined_changes changes k.changes q))
    ∙ ap (λ (c : Changes). is_some (fin.get c q)) (ap (λ (x : Live). x.changes) (alive_is (given_to (Gives answer changes places) k) u e)) ∙ some in
    elim (over_some (fin.get changes q) (fin.get k.changes q) at) [
      | inl fresh ↦ new answer changes places refl q fresh
      | inr before ↦ old k q refl before
    ]

module _ (mask : ℕ) (st : Store) (s : ℕ) (checked : Checked) (is : is_of st.tables checked ≡ true) (few : length st.tables ≤ 64) where
  abbrev more : ℕ
  more = tables_mask checked.body

  abbrev given : Live → Given
  given k = given_of st checked k

  -- rows change nothing
  rows_new : (k : Live) (rows : List Row) → MayGive st s k (answers.Rows rows) (given k)
      → (answer : Answer) (changes : Changes) (places : List Place) → given k ≡ Gives answer changes places → (q : Place) → is_some (fin.get changes q) ≡ true → is_touched mask q.table ≡ true
  rows_new k rows may answer changes places e q some =
      let same : answers.Rows rows ≡ answer = (subst (MayGive st s k (answers.Rows rows)) e may).0 in
      by (given_forms st.tables checked (view_of k) (next_for st.next (table_in checked)) answer changes places e) same
    where
      by : IsResultWith answer changes → answers.Rows rows ≡ answer → is_touched mask q.table ≡ true
      by (gives_rows others f none) same =
          absurd (let z : false ≡ true = sym (ap is_some (fin.get-empty place_order q)) ∙ ap (λ (c : Changes). is_some (fin.get c q)) (sym none) ∙ some in cc)
      by (gives_count n f) same = absurd (let z : answers.Rows rows ≡ answers.Count n = same ∙ f in cc)

  count_new : (k : Live) (answer : Answer) (changes : Changes) (places : List Place) → given k ≡ Gives answer changes places → (q : Place) → is_some (fin.get changes q) ≡ true
      → is_touched (bit_or mask more) q.table ≡ true
  count_new k answer changes places e q some =
      touched_right mask more q.table
      (touched_by st.tables checked q.table is few (written_at st.tables checked (view_of k) (next_for st.next (table_in checked)) answer changes places q e some))

  wider : (x : Transaction) → IsWithin mask x → IsWithin (bit_or mask more) x
  wider x old u q e some = touched_left mask more q.table (old u q e some)

  rows_within : (rows : List Row) (x : Transaction) → WhereLive x (λ k. MayGive st s k (answers.Rows rows) (given k)) → IsWithin mask x
      → IsWithin mask (where_live (λ k. given_to (given k) k) x)
  rows_within rows Absent may old = absurd may
  rows_within rows (Alive k) may old = given_within mask (given k) k (rows_new k rows may) old
  rows_within rows Dead may old = absurd may

  count_within : (x : Transaction) → IsWithin mask x → IsWithin (bit_or mask more) (where_live (λ k. given_to (given k) k) x)
  count_within Absent old = wider Absent old
  count_within (Alive k) old = given_within (bit_or mask more) (given k) k (count_new k) (wider (Alive k) old)
  count_within Dead old = wider Dead old

  -- what a run's answer leaves
  ran_within : (crossed : Type 0) (answer : Answer) → MayRun st s crossed checked answer → IsWithin mask (st.transaction s)
      → IsWithin (grown mask more answer) ((acted st s (requests.Run checked) answer).transaction s)
  ran_within crossed answers.Began may old = absurd may
  ran_within crossed (answers.Rows rows) may old =
      subst (IsWithin mask) (sym (with_at-same st.transaction s (where_live (λ k. given_to (given k) k) (st.transaction s)))) (rows_within rows (st.transaction s) may old)
  ran_within crossed (answers.Count n) may old =
      subst (IsWithin (bit_or mask more)) (sym (with_at-same st.transaction s (where_live (λ k. given_to (given k) k) (st.transaction s)))) (count_within (st.transaction s) old)
  ran_within crossed answers.Locked may old = absurd may
  ran_within crossed answers.Done may old = absurd may
  ran_within crossed (answers.Serial n) may old = absurd may
  ran_within crossed (answers.Refused code) may old = subst (IsWithin mask) (sym (with_at-same st.transaction s Dead)) (within_dead mask)

  may_run : (request : Request) (crossed : Bool) (answer : Answer) → request ≡ requests.Run checked → MayAnswer st s (record { request = request; crossed = crossed }) answer
      → MayRun st s (IsCrossed st s (record { request = requests.Run checked; crossed = crossed })) checked answer
  may_run request crossed answer e may = subst (λ (r : Request). MayAnswer st s (record { request = r; crossed = crossed }) answer) e may

  pub gets_within : (q : Pending) (answer : Answer) → st.pending s ≡ Some q → q.request ≡ requests.Run checked → MayAnswer st s q answer → IsWithin mask (st.transaction s)
      → IsWithin (grown mask more answer) ((done_by st s (Gets answer)).transaction s)
  gets_within q answer waits request may old =
      subst (λ (y : Store). IsWithin (grown mask more answer) (y.transaction s)) (sym (gets_is st s answer q waits ∙ ap (λ (r : Request). acted st s r answer) request))
      (ran_within (IsCrossed st s (record { request = requests.Run checked; crossed = q.crossed })) answer (may_run q.request q.crossed answer request may) old)
