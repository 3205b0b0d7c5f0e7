-- What an answer to a recovery leaves: at its source, and at its target.
use Rattle.std.proofs.Common.{◌≡◌, ◌<◌, ◌≤◌, ℕ, zero, suc, length, Bool, true, false, List, [], ◌∷◌, refl, sym, ap, subst, ◌∙◌, arith, inl, inr}
use Rattle.std.specs.Prelude.{ℤ, is_some, slice_get, Option, Some, None}
use Rattle.std.specs.FinMap as fin
use Rattle.pool_base.specs.Sets.{has}
use Rattle.schema.specs.declared.catalogue.TableDef.{TableDef}
use Rattle.sql_eval.specs.declared.row.Row.{Row}
use Rattle.pg_values.specs.declared.value.Value.{Value}
use Rattle.checked_sql.specs.Sound.{are_fit}
use Rattle.backend_trait.specs.Typed.{IsStored, AreAllStored}
use Rattle.backend_trait.proofs.RowLaws.{laid_over-none}
use Rattle.recovery_laws.proofs.Ending.{commit_answer, commit_rows, commit_next, lock_leaves}
use Rattle.recovery_laws.proofs.Reading.{rows_answered, read_left}
use Rattle.recovery_laws.proofs.Emptying.{delete_leaves}
use Rattle.recovery_laws.proofs.Filled.{next_leaves}
use Rattle.backend_trait.specs.declared.request.Request.{Request}
use Rattle.backend_trait.specs.declared.request.Request.TheVariants as requests
use Rattle.backend_trait.specs.declared.answer.Answer.{Answer}
use Rattle.backend_trait.specs.declared.answer.Answer.TheVariants as answers
use Rattle.backend_trait.specs.Keys.{Place}
use Rattle.backend_trait.specs.Rows.{Rows, with_at}
use Rattle.backend_trait.specs.Store.{Transaction, Alive, Store, view_of, begun, settled, is_refusal, acted}
use Rattle.backend_trait.specs.Acts.{MayAnswer, MaySnapshot}
use Rattle.online_recovery.specs.declared.standing.Quiet.{Quiet}
use Rattle.online_recovery.specs.declared.standing.Quiet.TheVariants.{Open, Copying, Asked, Entered}
use Rattle.online_recovery.specs.declared.standing.Side.TheVariants.{Source, Target}
use Rattle.online_recovery.specs.declared.standing.Task.{Task}
use Rattle.online_recovery.specs.declared.standing.Task.TheVariants.{OpeningSource, OpeningTarget, Reading, Emptying, Filling, Committing, Leaving, OpeningNumbers, ReadingSerial, LockingSerial, SettingSerial, ClosingNumbers}
use Rattle.online_recovery.specs.State.{is_touched, is_copied, side_of}
use Rattle.online_recovery.specs.Copies.{all_rows_in, no_rows_in, row_into, row_in}
use Rattle.online_recovery.specs.Rules.{request_of}
use Rattle.one_copy_model.proofs.Places.{with_at-same, with_at-other, same_or_other}
use Rattle.recovery_laws.specs.Copied.{Grants, Leaves, IsFilled, rows_copied}
use Rattle.recovery_laws.proofs.Copying.{AreStoredIn, view_stored}
use Rattle.recovery_laws.proofs.Scenes.{Scene, Course, RightBy, BegunBy, Begun, Base, Draft, Drafted, Copy, InTurn, Read, Filled, Behind, BehindBy, IsWhole, Counting, Number, AllNumbers, IsPlainThere, AreOf, Before, Went, has_serial}

-- The same facts, with other transactions.

module _ (x : Scene) (c : Course) (source target : Transaction) where
  abbrev again : Scene
  again = record x { source = source; target = target }

  stage_again : (quiet : Quiet) → BegunBy quiet x c → BegunBy quiet again c
  stage_again Open h = tt
  stage_again Copying h = tt
  stage_again Asked h = tt
  stage_again Entered h = record { attached = h.attached; same = h.same; rows = h.rows }

  begun_again : Begun x c → Begun again c
  begun_again h = record { plain = h.plain; apart = h.apart; stage = stage_again c.quiet h.stage }

  right_again : (quiet : Quiet) (rows : Rows) → RightBy quiet x rows → RightBy quiet again rows
  right_again Open rows h = h
  right_again Copying rows h = h
  right_again Asked rows h = h
  right_again Entered rows h = h

  behind_by : (quiet : Quiet) → BehindBy quiet x c → BehindBy quiet again c
  behind_by Open h = h
  behind_by Copying h = h
  behind_by Asked h = h
  behind_by Entered h = record { attached = h.attached; rows = h.rows }

  behind_again : Behind x c → Behind again c
  behind_again h = record { plain = h.plain; apart = h.apart; rows = behind_by c.quiet h.rows }

  whole_again : IsWhole x c → IsWhole again c
  whole_again h = record { plain = h.plain; apart = h.apart; entered = h.entered; settled = record { attached = h.settled.attached; rows = h.settled.rows } }

  abbrev base_again : (b : Base x c) → source ≡ Alive b.live → Base again c
  base_again b is = record { live = b.live; is = is; right = right_again c.quiet (view_of b.live) b.right }

  abbrev draft_again : (d : Draft x) → target ≡ Alive d.live → Draft again
  draft_again d is = record { live = d.live; is = is; base = d.base }

  drafted_again : (from view : Rows) (n : ℕ) → Drafted x c from view n → Drafted again c from view n
  drafted_again from view n d = record { copied = d.copied; left = d.left }

  turn_again : (table : ℕ) → InTurn x c table → InTurn again c table
  turn_again table h = record { chosen = h.chosen; there = h.there }

  abbrev copy_again : (n : ℕ) (h : Copy x c n) → source ≡ Alive h.base.live → target ≡ Alive h.draft.live → Copy again c n
  copy_again n h at_source at_target = record {
    begun = begun_again h.begun;
    base = base_again h.base at_source;
    draft = draft_again h.draft at_target;
    drafted = drafted_again (view_of h.base.live) (view_of h.draft.live) n h.drafted;
  }

  abbrev counting_again : (n : ℕ) (h : Counting x c n) → target ≡ Alive h.draft.live → Counting again c n
  counting_again n h is = record { whole = whole_again h.whole; draft = draft_again h.draft is; sees = h.sees; set = h.set }

  number_again : (table : ℕ) (h : Number x c table) → target ≡ Alive h.counting.draft.live → Number again c table
  number_again table h is = record { counting = counting_again table h.counting is; serial = h.serial }

-- rows that are the single run's
whole_right : (x : Scene) (quiet : Quiet) (rows : Rows) → rows ≡ x.single → RightBy quiet x rows
whole_right x Open rows e = λ q untouched. ap (λ (all : Rows). fin.get all q) e
whole_right x Copying rows e = λ q untouched. ap (λ (all : Rows). fin.get all q) e
whole_right x Asked rows e = λ q untouched. ap (λ (all : Rows). fin.get all q) e
whole_right x Entered rows e = λ q. ap (λ (all : Rows). fin.get all q) e

began : (answer : Answer) → MaySnapshot answer → is_refusal answer ≡ false → answer ≡ answers.Began
began answers.Began may given = refl
began (answers.Rows rows) may given = absurd may
began (answers.Count n) may given = absurd may
began answers.Locked may given = absurd may
began answers.Done may given = absurd may
began (answers.Serial n) may given = absurd may
began (answers.Refused code) may given = absurd (let z : true ≡ false = given in cc)

same_number : (m n : ℤ) → answers.Serial m ≡ answers.Serial n → m ≡ n
same_number m n e = cc

other_side : {A : Type 0} → Target ≡ Source → A
other_side e = absurd (cc)

-- no row stands in a table that there is not
pub there_within : {A : Type 0} (xs : List A) (i : ℕ) → is_some (slice_get xs i) ≡ true → i < length xs
there_within [] i e = absurd (let z : false ≡ true = e in cc)
there_within (x ∷ xs) zero e = (let z : 0 < suc (length xs) = omega arith in z)
there_within (x ∷ xs) (suc i) e = let below = there_within xs i e in (let z : suc i < suc (length xs) = omega (arith, below) in z)

serial_there : (x : Option TableDef) → has_serial x ≡ true → is_some x ≡ true
serial_there None e = e
serial_there (Some table) e = refl

no_cells : (key : Value) (cells : List Value) → are_fit [] cells ≡ true → slice_get cells 0 ≡ Some key → ⊥
no_cells key [] fit own = let z : None ≡ Some key = own in cc
no_cells key (value ∷ values) fit own = let z : false ≡ true = fit in cc

not_stored : (table : Option TableDef) (key : Value) (row : Row) → is_some table ≡ false → IsStored table key row → ⊥
not_stored None key row e h = no_cells key row.cells h.columns h.own
not_stored (Some table) key row e h = let z : true ≡ false = e in cc

pub none_stored : (tables : List TableDef) (rows : Rows) → AreAllStored tables rows → AreOf tables rows
none_stored tables rows stored q off = by (fin.get rows q) refl
  where
    by : (r : Option Row) → fin.get rows q ≡ r → r ≡ None
    by None e = refl
    by (Some row) e = absurd (not_stored (slice_get tables q.table) q.key row off (stored q row e))

-- what an attached source gives
pub record SourceGives (st : Store) (x : Scene) (c : Course) (request : Request) : Type 0 where
  pub rows : request ≡ requests.TakeSnapshot → has x.attached c.source ≡ true → st.rows ≡ x.single
  pub numbers : (table : ℕ) → request ≡ requests.ReadSerial table → has x.attached c.source ≡ true → st.next table ≡ x.numbers table

-- At the source: a store of the scene's tables, with the recovery's transaction in it.

module _ (st : Store) (s : ℕ) (x : Scene) (c : Course) (answer : Answer) (given : is_refusal answer ≡ false) where
  abbrev at_source : Store
  at_source = record st { transaction = with_at st.transaction s x.source }

  abbrev scene : Scene
  scene = record x { tables = st.tables }

  abbrev behind : Request → Scene
  behind request = record x { tables = st.tables; source = (acted at_source s request answer).transaction s }

  abbrev MayGive : Request → Type 0
  MayGive request = MayAnswer at_source s (record { request = request; crossed = false }) answer

  source_opened : Begun scene c → MayGive requests.TakeSnapshot → SourceGives st x c requests.TakeSnapshot → Went (behind requests.TakeSnapshot) c OpeningSource answer
  source_opened h may gives =
      let a : answer ≡ answers.Began = began answer may given in
      let is : (acted at_source s requests.TakeSnapshot answer).transaction s ≡ Alive (begun st.rows) =
      ap (λ (b : Answer). (acted at_source s requests.TakeSnapshot b).transaction s) a ∙ with_at-same at_source.transaction s (Alive (begun st.rows)) in (
        begun_again scene c ((acted at_source s requests.TakeSnapshot answer).transaction s) x.target h,
        λ here. record { live = begun st.rows; is = is; right = whole_right (behind requests.TakeSnapshot) c.quiet (view_of (begun st.rows)) (laid_over-none st.rows ∙ gives.rows refl here) },
      )

  source_read : (table : ℕ) → AreStoredIn st.tables x.source → Copy scene c table × InTurn scene c table → MayGive (requests.Run (all_rows_in st.tables table))
      → Went (behind (requests.Run (all_rows_in st.tables table))) c (Reading table) answer
  source_read table stored h may =
      let request = requests.Run (all_rows_in st.tables table) in
      let live = h.0.base.live in
      let view : AreAllStored st.tables (view_of live) = view_stored st.tables x.source stored live h.0.base.is in
      let g : Grants at_source s live request answer =
      record { crossed = false; live = with_at-same st.transaction s x.source ∙ h.0.base.is; may = may; given = given } in
      let is : (acted at_source s request answer).transaction s ≡ Alive live =
      ap (λ (n : Store). n.transaction s) (read_left at_source s table live answer view g) ∙ with_at-same at_source.transaction s (Alive live) in
      let source = (acted at_source s request answer).transaction s in (
        rows_copied st.tables (view_of live) table,
        rows_answered at_source s table live answer view g,
        record {
          copy = copy_again scene c source x.target table h.0 is h.0.draft.is;
          turn = turn_again scene c source x.target table h.1;
          read = refl;
        },
      )

  source_left : Behind scene c → Went (behind requests.Rollback) c Leaving answer
  source_left h = behind_again scene c ((acted at_source s requests.Rollback answer).transaction s) x.target h

  serial_read : (table : ℕ) → Number scene c table → MayGive (requests.ReadSerial table) → SourceGives st x c (requests.ReadSerial table) → Went (behind (requests.ReadSerial table)) c (ReadingSerial table) answer
  serial_read table h may gives = (
    number_again scene c ((acted at_source s (requests.ReadSerial table) answer).transaction s) x.target table h h.counting.draft.is,
    λ n is. sym (gives.numbers table refl h.counting.whole.settled.attached) ∙ may.1 ∙ ap Some (same_number may.0 n (sym may.2 ∙ is)),
  )

  pub source_acts : (task : Task) → side_of task ≡ Source → AreStoredIn st.tables x.source → Before scene c task → MayGive (request_of st.tables task) → SourceGives st x c (request_of st.tables task)
      → Went (behind (request_of st.tables task)) c task answer
  source_acts OpeningSource side stored h may gives = source_opened h may gives
  source_acts (Reading table) side stored h may gives = source_read table stored h may
  source_acts Leaving side stored h may gives = source_left h
  source_acts (ReadingSerial table) side stored h may gives = serial_read table h may gives
  source_acts OpeningTarget side stored h may gives = other_side side
  source_acts (Emptying table rows) side stored h may gives = other_side side
  source_acts (Filling table rows left) side stored h may gives = other_side side
  source_acts Committing side stored h may gives = other_side side
  source_acts OpeningNumbers side stored h may gives = other_side side
  source_acts (LockingSerial table n) side stored h may gives = other_side side
  source_acts (SettingSerial table n) side stored h may gives = other_side side
  source_acts ClosingNumbers side stored h may gives = other_side side

-- At the target.

module _ (st : Store) (s : ℕ) (x : Scene) (c : Course) (answer : Answer) (given : is_refusal answer ≡ false) where
  abbrev at_target : Store
  at_target = record st { transaction = with_at st.transaction s x.target }

  abbrev there : Scene
  there = record x { tables = st.tables; rows = st.rows; next = st.next }

  abbrev left_by : Store → Scene
  left_by new = record x { tables = st.tables; rows = new.rows; next = new.next; target = new.transaction s }

  abbrev leaves : Request → Scene
  leaves request = left_by (acted at_target s request answer)

  abbrev MayTake : Request → Type 0
  MayTake request = MayAnswer at_target s (record { request = request; crossed = false }) answer

  -- a transaction begins
  abbrev draft_begun : Draft (left_by (settled at_target s (Alive (begun st.rows))))
  draft_begun = record { live = begun st.rows; is = with_at-same at_target.transaction s (Alive (begun st.rows)); base = refl }

  target_opened : Begun there c × Base there c → MayTake requests.TakeSnapshot → Went (leaves requests.TakeSnapshot) c OpeningTarget answer
  target_opened h may =
      let x2 = with_at at_target.transaction s (Alive (begun st.rows)) s in
      subst (λ (a : Answer). Copy (left_by (acted at_target s requests.TakeSnapshot a)) c 0) (sym (began answer may given))
      (record {
        begun = begun_again there c x.source x2 h.0;
        base = base_again there c x.source x2 h.1 h.1.is;
        draft = draft_begun;
        drafted = record {
          copied = λ q below. absurd (let z : ⊥ = omega (arith, below) in z);
          left = λ q never. ap (λ (rows : Rows). fin.get rows q) (laid_over-none st.rows);
        };
      })

  numbers_opened : IsWhole there c → MayTake requests.TakeSnapshot → Went (leaves requests.TakeSnapshot) c OpeningNumbers answer
  numbers_opened h may =
      let x2 = with_at at_target.transaction s (Alive (begun st.rows)) s in
      subst (λ (a : Answer). Counting (left_by (acted at_target s requests.TakeSnapshot a)) c 0) (sym (began answer may given))
      (record {
        whole = whole_again there c x.source x2 h;
        draft = draft_begun;
        sees = laid_over-none st.rows;
        set = λ table below. absurd (let z : ⊥ = omega (arith, below) in z);
      })

  module _ (draft : Draft there) where
    abbrev granted : (request : Request) → MayTake request → Grants at_target s draft.live request answer
    granted request may = record { crossed = false; live = with_at-same st.transaction s x.target ∙ draft.is; may = may; given = given }

    -- an answer that leaves all but the transaction, on its base
    abbrev draft_left : (Sees : Rows → Type 0) (new : Store) (l : Leaves at_target s draft.live Sees new) → Draft (left_by (settled at_target s (Alive l.live)))
    draft_left Sees new l = record { live = l.live; is = with_at-same at_target.transaction s (Alive l.live); base = l.base ∙ draft.base }

  target_emptied : (table : ℕ) (rows : List Row) → Read there c table rows → MayTake (requests.Run (no_rows_in table)) → Went (leaves (requests.Run (no_rows_in table))) c (Emptying table rows) answer
  target_emptied table rows h may =
      let d = h.copy.draft in
      let new = acted at_target s (requests.Run (no_rows_in table)) answer in
      let l : Leaves at_target s d.live (IsFilled st.tables table rows (length rows) (view_of d.live)) new =
      delete_leaves at_target s table d.live answer rows (granted d (requests.Run (no_rows_in table)) may) in
      let x2 = with_at at_target.transaction s (Alive l.live) s in
      subst (λ (n : Store). Filled (left_by n) c table rows (length rows)) (sym l.left)
      (record {
        few = (let z : length rows ≤ length rows = omega arith in z);
        begun = begun_again there c x.source x2 h.copy.begun;
        base = base_again there c x.source x2 h.copy.base h.copy.base.is;
        draft = draft_left d _ new l;
        before = view_of d.live;
        drafted = drafted_again there c x.source x2 (view_of h.copy.base.live) (view_of d.live) table h.copy.drafted;
        turn = turn_again there c x.source x2 table h.turn;
        read = h.read;
        filled = l.sees;
      })

  target_filled : (table : ℕ) (rows : List Row) (left : ℕ) → AreStoredIn st.tables x.source → Filled there c table rows (suc left) → MayTake (requests.Run (row_into st.tables table (row_in rows left)))
      → Went (leaves (requests.Run (row_into st.tables table (row_in rows left)))) c (Filling table rows left) answer
  target_filled table rows left stored h may =
      let d = h.draft in
      let request = requests.Run (row_into st.tables table (row_in rows left)) in
      let new = acted at_target s request answer in
      let few = h.few in
      let l : Leaves at_target s d.live (IsFilled st.tables table rows left h.before) new =
      next_leaves at_target s table left d.live answer (view_of h.base.live) h.before rows (view_stored st.tables x.source stored h.base.live h.base.is) h.read
      (let z : left < length rows = omega (arith, few) in z) h.filled (granted d request may) in
      let x2 = with_at at_target.transaction s (Alive l.live) s in
      subst (λ (n : Store). Filled (left_by n) c table rows left) (sym l.left)
      (record {
        few = (let z : left ≤ length rows = omega (arith, few) in z);
        begun = begun_again there c x.source x2 h.begun;
        base = base_again there c x.source x2 h.base h.base.is;
        draft = draft_left d _ new l;
        before = h.before;
        drafted = drafted_again there c x.source x2 (view_of h.base.live) h.before table h.drafted;
        turn = turn_again there c x.source x2 table h.turn;
        read = h.read;
        filled = l.sees;
      })

  -- A commit leaves the rows that the transaction saw.

  abbrev committed_to : Rows → Transaction → Scene
  committed_to rows target = record x { tables = st.tables; rows = rows; next = st.next; target = target }

  module _ (h : Copy there c (length st.tables)) (stored : AreStoredIn st.tables x.source) (drawn : AreStoredIn st.tables x.target) where
    abbrev source : Rows
    source = view_of h.base.live

    abbrev view : Rows
    view = view_of h.draft.live

    -- in each table of the stage the source's rows
    all_copied : (q : Place) → is_copied c.quiet c.touched q.table ≡ true → fin.get view q ≡ fin.get source q
    all_copied q chosen = by (is_some (slice_get st.tables q.table)) refl
      where
        by : (t : Bool) → is_some (slice_get st.tables q.table) ≡ t → fin.get view q ≡ fin.get source q
        by true is = h.drafted.copied q (there_within st.tables q.table is) chosen
        by false is =
            none_stored st.tables view (view_stored st.tables x.target drawn h.draft.live h.draft.is) q is
            ∙ sym (none_stored st.tables source (view_stored st.tables x.source stored h.base.live h.base.is) q is)

    -- under quiet that is all; before it, the tables that nobody has touched since
    whole_by : (quiet : Quiet) → c.quiet ≡ quiet → RightBy quiet there source → BegunBy quiet there c → (target : Transaction) → BehindBy quiet (committed_to view target) c
    whole_by Open e right begun target = λ q untouched. all_copied q (ap (λ quiet. is_copied quiet c.touched q.table) e) ∙ right q untouched
    whole_by Copying e right begun target = λ q untouched. all_copied q (ap (λ quiet. is_copied quiet c.touched q.table) e) ∙ right q untouched
    whole_by Asked e right begun target = λ q untouched. all_copied q (ap (λ quiet. is_copied quiet c.touched q.table) e) ∙ right q untouched
    whole_by Entered e right begun target = record { attached = begun.attached; rows = λ q. at q (is_touched c.touched q.table) refl }
      where
        at : (q : Place) (t : Bool) → is_touched c.touched q.table ≡ t → fin.get view q ≡ fin.get x.single q
        at q true is = all_copied q (ap (λ quiet. is_copied quiet c.touched q.table) e ∙ is) ∙ right q
        at q false is = h.drafted.left q (ap (λ quiet. is_copied quiet c.touched q.table) e ∙ is) ∙ begun.rows q (ap (λ k. is_touched k q.table) (sym begun.same) ∙ is)

    target_committed : MayTake requests.Commit → Went (leaves requests.Commit) c Committing answer
    target_committed may =
        let g = granted h.draft requests.Commit may in
        let done : answer ≡ answers.Done = commit_answer at_target s h.draft.live answer g in
        let new = acted at_target s requests.Commit answers.Done in
        let rows : new.rows ≡ view = commit_rows at_target s h.draft.live g.live h.draft.base in
        let next : new.next ≡ st.next = commit_next at_target s in
        subst (λ (a : Answer). Behind (left_by (acted at_target s requests.Commit a)) c) (sym done)
        (subst (λ (rows : Rows). Behind (record x { tables = st.tables; rows = rows; next = new.next; target = new.transaction s }) c) (sym rows)
        (subst (λ (next : ℕ → Option ℤ). Behind (record x { tables = st.tables; rows = view; next = next; target = new.transaction s }) c) (sym next)
        (record { plain = h.begun.plain; apart = h.begun.apart; rows = whole_by c.quiet refl h.base.right h.begun.stage (new.transaction s) })))

  -- The numbers.

  number_locked : (table : ℕ) (n : ℤ) → Number there c table × (x.numbers table ≡ Some n) → MayTake (requests.Lock table) → Went (leaves (requests.Lock table)) c (LockingSerial table n) answer
  number_locked table n h may =
      let d = h.0.counting.draft in
      let new = acted at_target s (requests.Lock table) answer in
      let l : Leaves at_target s d.live (λ view. view ≡ view_of d.live) new = lock_leaves at_target s table d.live answer (granted d (requests.Lock table) may) in
      let x2 = with_at at_target.transaction s (Alive l.live) s in (
        subst (λ (n : Store). Number (left_by n) c table) (sym l.left)
            (record {
              counting = record {
                whole = whole_again there c x.source x2 h.0.counting.whole;
                draft = draft_left d _ new l;
                sees = l.sees ∙ h.0.counting.sees;
                set = h.0.counting.set;
              };
              serial = h.0.serial;
            }),
        h.1,
      )

  abbrev set_at : ℕ → ℤ → ℕ → Option ℤ
  set_at table n = with_at st.next table (Some n)

  abbrev numbered_at : ℕ → ℤ → Transaction → Scene
  numbered_at table n target = record x { tables = st.tables; rows = st.rows; next = set_at table n; target = target }

  module _ (table : ℕ) (n : ℤ) (h : Number there c table) (is : x.numbers table ≡ Some n) where
    plain_set : (o : ℕ) → has_serial (slice_get st.tables o) ≡ false → set_at table n o ≡ None
    plain_set o off =
        with_at-other st.next table (Some n) o (λ same. let z : true ≡ false = sym h.serial ∙ ap (λ k. has_serial (slice_get st.tables k)) (sym same) ∙ off in cc)
        ∙ h.counting.whole.plain o off

    now_set : (o : ℕ) → o < suc table → has_serial (slice_get st.tables o) ≡ true → set_at table n o ≡ x.numbers o
    now_set o below serial = elim (same_or_other o table) [
      | inl same ↦ ap (set_at table n) same ∙ with_at-same st.next table (Some n) ∙ sym is ∙ ap x.numbers (sym same)
      | inr other ↦ with_at-other st.next table (Some n) o other ∙ h.counting.set o (let z : o < table = omega (arith, below, other) in z) serial
    ]

    number_counted : (target : Transaction) → target ≡ Alive h.counting.draft.live → Counting (numbered_at table n target) c (suc table)
    number_counted target at = record {
      whole = record {
        plain = plain_set;
        apart = h.counting.whole.apart;
        entered = h.counting.whole.entered;
        settled = record { attached = h.counting.whole.settled.attached; rows = h.counting.whole.settled.rows };
      };
      draft = record { live = h.counting.draft.live; is = at; base = h.counting.draft.base };
      sees = h.counting.sees;
      set = now_set;
    }

    number_set : MayTake (requests.SetSerial table n) → Went (leaves (requests.SetSerial table n)) c (SettingSerial table n) answer
    number_set may =
        subst (λ (a : Answer). Counting (left_by (acted at_target s (requests.SetSerial table n) a)) c (suc table)) (sym may)
        (number_counted (with_at at_target.transaction s (at_target.transaction s) s)
        (with_at-same at_target.transaction s (at_target.transaction s) ∙ with_at-same st.transaction s x.target ∙ h.counting.draft.is))

  all_numbers : IsPlainThere there → Counting there c (length st.tables) → AllNumbers there
  all_numbers plain h table = by (has_serial (slice_get st.tables table)) refl
    where
      by : (t : Bool) → has_serial (slice_get st.tables table) ≡ t → st.next table ≡ x.numbers table
      by true is = h.set table (there_within st.tables table (serial_there (slice_get st.tables table) is)) is
      by false off = h.whole.plain table off ∙ sym (plain table off)

  numbers_closed : IsPlainThere there → Counting there c (length st.tables) → MayTake requests.Commit → Went (leaves requests.Commit) c ClosingNumbers answer
  numbers_closed plain h may =
      let g = granted h.draft requests.Commit may in
      let done : answer ≡ answers.Done = commit_answer at_target s h.draft.live answer g in
      let new = acted at_target s requests.Commit answers.Done in
      let rows : new.rows ≡ st.rows = commit_rows at_target s h.draft.live g.live h.draft.base ∙ h.sees in
      let next : new.next ≡ st.next = commit_next at_target s in
      subst (λ (a : Answer). IsWhole (left_by (acted at_target s requests.Commit a)) c × AllNumbers (left_by (acted at_target s requests.Commit a))) (sym done)
      (subst (λ (rows : Rows). IsWhole (record x { tables = st.tables; rows = rows; next = new.next; target = new.transaction s }) c
      × AllNumbers (record x { tables = st.tables; rows = rows; next = new.next; target = new.transaction s })) (sym rows)
      (subst (λ (next : ℕ → Option ℤ). IsWhole (record x { tables = st.tables; rows = st.rows; next = next; target = new.transaction s }) c
      × AllNumbers (record x { tables = st.tables; rows = st.rows; next = next; target = new.transaction s })) (sym next)
      (whole_again there c x.source (new.transaction s) h.whole, all_numbers plain h)))

  pub target_acts : (task : Task) → side_of task ≡ Target → AreStoredIn st.tables x.source → AreStoredIn st.tables x.target → IsPlainThere there → Before there c task → MayTake (request_of st.tables task)
      → Went (leaves (request_of st.tables task)) c task answer
  target_acts OpeningTarget side stored drawn plain h may = target_opened h may
  target_acts (Emptying table rows) side stored drawn plain h may = target_emptied table rows h may
  target_acts (Filling table rows left) side stored drawn plain h may = target_filled table rows left stored h may
  target_acts Committing side stored drawn plain h may = target_committed h stored drawn may
  target_acts OpeningNumbers side stored drawn plain h may = numbers_opened h may
  target_acts (LockingSerial table n) side stored drawn plain h may = number_locked table n h may
  target_acts (SettingSerial table n) side stored drawn plain h may = number_set table n h.0 h.1 may
  target_acts ClosingNumbers side stored drawn plain h may = numbers_closed plain h may
  target_acts OpeningSource side stored drawn plain h may = other_side (sym side)
  target_acts (Reading table) side stored drawn plain h may = other_side (sym side)
  target_acts Leaving side stored drawn plain h may = other_side (sym side)
  target_acts (ReadingSerial table) side stored drawn plain h may = other_side (sym side)
