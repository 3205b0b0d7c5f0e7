-- Where an event leads a recovery, what is due next has its facts.
use Rattle.std.proofs.Common.{◌≡◌, ◌≢◌, ◌<◌, ℕ, zero, suc, length, Bool, true, false, List, refl, sym, ap, subst, ◌∙◌, arith, inl, inr, if◌then◌else◌}
use Rattle.std.specs.Prelude.{◌==◌, ◌⊎◌, is_some, slice_get, Option, Some, None}
use Rattle.std.specs.FinMap as fin
use Rattle.std.proofs.lemmas.Bool.Decides.{eqb_tells}
use Rattle.pool_base.specs.Sets.{has}
use Rattle.pool_base.specs.declared.backend_id.BackendId.{BackendId}
use Rattle.pool_base.specs.declared.code.Code.{Code}
use Rattle.schema.specs.declared.catalogue.TableDef.{TableDef}
use Rattle.sql_eval.specs.declared.row.Row.{Row}
use Rattle.backend_trait.specs.declared.answer.Answer.{Answer}
use Rattle.backend_trait.specs.declared.answer.Answer.TheVariants as answers
use Rattle.backend_trait.specs.Keys.{Place}
use Rattle.backend_trait.specs.Store.{Transaction, view_of, is_refusal}
use Rattle.session_machine.specs.Answers.{lowest, is_attached}
use Rattle.session_machine.specs.Rules.{refusal_of}
use Rattle.online_recovery.specs.declared.standing.Quiet.TheVariants.{Copying, Entered}
use Rattle.online_recovery.specs.declared.standing.GateStanding.{GateStanding}
use Rattle.online_recovery.specs.declared.standing.GateStanding.TheVariants.{Out, InSnapshot, Live as IsLive}
use Rattle.online_recovery.specs.declared.standing.Side.{Side}
use Rattle.online_recovery.specs.declared.standing.Side.TheVariants.{Source, Target}
use Rattle.online_recovery.specs.declared.standing.Task.{Task}
use Rattle.online_recovery.specs.declared.standing.Task.TheVariants.{OpeningSource, OpeningTarget, Reading, Emptying, Filling, Committing, Leaving, OpeningNumbers, ReadingSerial, LockingSerial, SettingSerial, ClosingNumbers}
use Rattle.online_recovery.specs.declared.standing.Held.{Held}
use Rattle.online_recovery.specs.declared.standing.Standing.{Standing}
use Rattle.online_recovery.specs.Codes.{lost_on_the_way}
use Rattle.online_recovery.specs.State.{is_shown, is_touched, is_copied, side_of, next_table, next_serial}
use Rattle.online_recovery.specs.Rules.{refused, snapshot_entered, serial_due, numbers_due, copied_again, quiet_entered, source_opened, table_due, rows_read, filled, source_left, serial_read, proceeded, answered, shown}
use Rattle.online_recovery.specs.Runs.{Phase}
use Rattle.online_recovery.proofs.Fitting.{FitsTask, Agrees, Middle}
use Rattle.one_copy_model.proofs.Finding.{is_found}
use Rattle.recovery_laws.specs.Copied.{IsCopied}
use Rattle.recovery_laws.proofs.Filled.{copied}
use Rattle.recovery_laws.proofs.Copying.{AreStoredIn, view_stored}
use Rattle.recovery_laws.proofs.Scenes.{Scene, Course, course_of, Whole, BegunBy, Begun, Base, Copy, Filled, IsHalf, Behind, BehindBy, IsBetween, IsWhole, Counting, IsPlain, IsPlainThere, AreOf, Went, After, Stands, has_serial}
use Rattle.recovery_laws.proofs.Turns.{next_is, none_next, next_serial_is, none_serial, above, below_or_behind, within_there}

-- the transactions are those at the recovery's source and target
abbrev pub seen_by : (ℕ → Transaction) → Scene → Course → Scene
seen_by mine x c = record x { source = mine c.source; target = mine c.target }

-- what is known of a scene beside: rows and numbers have their tables
pub record Known (mine : ℕ → Transaction) (x : Scene) : Type 0 where
  pub there : IsPlainThere x
  pub rows : AreOf x.tables x.rows
  pub stored : (b : ℕ) → AreStoredIn x.tables (mine b)

not_both : {Q : Type 0} (b : Bool) → b ≡ true → b ≡ false → Q
not_both b e f = absurd (let z : true ≡ false = sym e ∙ f in cc)

-- P holds of a target from its Swap to its Attach; there is a scene for each target
module _ (P : ℕ → Type 0) (told : ℕ → Option Answer) (mine : ℕ → Transaction) (scenes : ℕ → Scene) (known : (b : ℕ) → Known mine (scenes b)) where
  abbrev pub Fares : Standing → Type 0
  Fares r = Stands (P r.held.target.number) (seen_by mine (scenes r.held.target.number) (course_of r.held)) told (course_of r.held) r.due

  either : (t : Bool) (a b : Standing) → Fares a → Fares b → Fares (if t then a else b)
  either true a b f g = f
  either false a b f g = g

  abbrev pub IsLaid : Held → Type 0
  IsLaid held = held.layout.tables ≡ (scenes held.target.number).tables

  module _ (held : Held) (laid : IsLaid held) where
    abbrev x : Scene
    x = scenes held.target.number

    abbrev Q : Type 0
    Q = P held.target.number

    abbrev c : Course
    c = course_of held

    abbrev v : Scene
    v = seen_by mine x c

    serial_in : (table : ℕ) → has_serial (slice_get held.layout.tables table) ≡ has_serial (slice_get x.tables table)
    serial_in table = ap (λ (ts : List TableDef). has_serial (slice_get ts table)) laid

    there_in : (table : ℕ) → is_some (slice_get held.layout.tables table) ≡ is_some (slice_get x.tables table)
    there_in table = ap (λ (ts : List TableDef). is_some (slice_get ts table)) laid

    -- The numbers.

    serial_fares : (before table : Option ℕ) → next_serial held before ≡ table → Q → Counting v c (above before) → Fares (serial_due held table)
    serial_fares before None e p h = (
      p,
      record {
        whole = h.whole;
        draft = h.draft;
        sees = h.sees;
        set = λ table below serial. elim (below_or_behind before table) [
          | inl l ↦ h.set table l serial
          | inr behind ↦ not_both (has_serial (slice_get held.layout.tables table)) (serial_in table ∙ serial) (none_serial held before e table behind)
        ];
      },
    )
    serial_fares before (Some t) e p h =
        let n = next_serial_is held before t e in (
          p,
          record {
            counting = record {
              whole = h.whole;
              draft = h.draft;
              sees = h.sees;
              set = λ table below serial. elim (below_or_behind before table) [
                | inl l ↦ h.set table l serial
                | inr behind ↦ not_both (has_serial (slice_get held.layout.tables table)) (serial_in table ∙ serial) (n.first table below behind)
              ];
            };
            serial = sym (serial_in t) ∙ n.serial;
          },
        )

    serial_none : next_serial held None ≡ None → (table : ℕ) → has_serial (slice_get x.tables table) ≡ false
    serial_none e table = sym (serial_in table) ∙ none_serial held None e table refl

    numbers_fares : (table : Option ℕ) → next_serial held None ≡ table → Q → IsWhole v c → Fares (numbers_due held table)
    numbers_fares None e p h = (p, h, λ table. h.plain table (serial_none e table) ∙ sym ((known held.target.number).there table (serial_none e table)))
    numbers_fares (Some t) e p h = (p, h)

    -- where nothing was touched stage two has nothing to copy
    untouched_whole : AreOf x.tables x.single → IsHalf v c → held.quiet ≡ Entered → next_table held None ≡ None → Whole v x.rows
    untouched_whole single half entered e q = by_there (is_some (slice_get x.tables q.table)) refl
      where
        by_there : (t : Bool) → is_some (slice_get x.tables q.table) ≡ t → fin.get x.rows q ≡ fin.get x.single q
        by_there false none = (known held.target.number).rows q none ∙ sym (single q none)
        by_there true there =
            half.rows q
            (ap (λ k. is_touched k q.table) (sym half.same)
            ∙ subst (λ quiet. is_copied quiet held.touched q.table ≡ false) entered (none_next held None e q.table (there_in q.table ∙ there) refl))

    pub again_fares : AreOf x.tables x.single → (table : Option ℕ) → next_table held None ≡ table → held.quiet ≡ Entered → Q → Begun v c → IsHalf v c → Fares (copied_again held table)
    again_fares single None e entered p begun half =
        numbers_fares (next_serial held None) refl p (record {
          plain = begun.plain;
          apart = begun.apart;
          entered = entered;
          settled = record { attached = half.attached; rows = untouched_whole single half entered e };
        })
    again_fares single (Some t) e entered p begun half = (p, begun)

    -- The tables.

    table_fares : (before table : Option ℕ) → next_table held before ≡ table → Q → Copy v c (above before) → Fares (table_due held table)
    table_fares before None e p h = (
      p,
      record {
        begun = h.begun;
        base = h.base;
        draft = h.draft;
        drafted = record {
          copied = λ q below chosen. elim (below_or_behind before q.table) [
            | inl l ↦ h.drafted.copied q l chosen
            | inr behind ↦ not_both (is_copied held.quiet held.touched q.table) chosen
                (none_next held before e q.table (there_in q.table ∙ within_there x.tables q.table below) behind)
          ];
          left = h.drafted.left;
        };
      },
    )
    table_fares before (Some t) e p h =
        let n = next_is held before t e in (
          p,
          (
            record {
              begun = h.begun;
              base = h.base;
              draft = h.draft;
              drafted = record {
                copied = λ q below chosen. elim (below_or_behind before q.table) [
                  | inl l ↦ h.drafted.copied q l chosen
                  | inr behind ↦ not_both (is_copied held.quiet held.touched q.table) chosen (n.first q.table below behind)
                ];
                left = h.drafted.left;
              };
            },
            record { chosen = n.chosen; there = sym (there_in t) ∙ n.there },
          ),
        )

    -- behind its last row a table is copied
    full_copied : (table : ℕ) (rows : List Row) → Filled v c table rows 0 → Copy v c (suc table)
    full_copied table rows h =
        let whole : IsCopied table (view_of h.base.live) h.before (view_of h.draft.live) =
        copied x.tables table (view_of h.base.live) h.before (view_of h.draft.live) rows
        (view_stored x.tables (mine c.source) ((known held.target.number).stored c.source) h.base.live h.base.is) h.read h.filled in
        record {
          begun = h.begun;
          base = h.base;
          draft = h.draft;
          drafted = record {
            copied = λ q below chosen. whole q ∙ in_copied (q.table == table) q below chosen (eqb_tells q.table table) h;
            left = λ q never. whole q ∙ in_left (q.table == table) q never (eqb_tells q.table table) h;
          };
        }
      where
        in_copied : (b : Bool) (q : Place) → q.table < suc table → is_copied held.quiet held.touched q.table ≡ true → ((b ≡ true) × (q.table ≡ table)) ⊎ ((b ≡ false) × (q.table ≢ table))
            → (f : Filled v c table rows 0) → (if b then fin.get (view_of f.base.live) q else fin.get f.before q) ≡ fin.get (view_of f.base.live) q
        in_copied true q below chosen any f = refl
        in_copied false q below chosen (inl both) f = absurd (let z : false ≡ true = both.0 in cc)
        in_copied false q below chosen (inr both) f = let other = both.1 in f.drafted.copied q (let z : q.table < table = omega (arith, below, other) in z) chosen

        in_left : (b : Bool) (q : Place) → is_copied held.quiet held.touched q.table ≡ false → ((b ≡ true) × (q.table ≡ table)) ⊎ ((b ≡ false) × (q.table ≢ table))
            → (f : Filled v c table rows 0) → (if b then fin.get (view_of f.base.live) q else fin.get f.before q) ≡ fin.get x.rows q
        in_left true q never (inl both) f = not_both (is_copied held.quiet held.touched q.table) (ap (is_copied held.quiet held.touched) both.1 ∙ f.turn.chosen) never
        in_left true q never (inr both) f = absurd (let z : true ≡ false = both.0 in cc)
        in_left false q never any f = f.drafted.left q never

    filled_fares : (table : ℕ) (rows : List Row) (left : ℕ) → Q → Filled v c table rows left → Fares (filled held table rows left)
    filled_fares table rows zero p h = table_fares (Some table) (next_table held (Some table)) refl p (full_copied table rows h)
    filled_fares table rows (suc left) p h = (p, h)

    -- Answers.

    opened_fares : (gate : GateStanding) → Q → Begun v c → Base v c → Fares (source_opened held gate)
    opened_fares InSnapshot p h base = (p, h, base)
    opened_fares IsLive p h base = (p, (h, base))
    opened_fares Out p h base = (p, (h, base))

    left_fares : (ph : Phase) (gate : GateStanding) → ph.gate ≡ gate → ph.quiet ≡ held.quiet → Middle ph → Q → Behind v c → Fares (source_left held gate)
    left_fares ph IsLive e a (inl f) p h = (p, record { plain = h.plain; rows = subst (λ quiet. BehindBy quiet v c) (sym a ∙ f.1) h.rows })
    left_fares ph IsLive e a (inr f) p h = let g = f.0 in absurd (cc)
    left_fares ph InSnapshot e a (inl f) p h = let g = f.0 in absurd (cc)
    left_fares ph InSnapshot e a (inr f) p h = let g = f.0 in absurd (cc)
    left_fares ph Out e a (inl f) p h = let g = f.0 in absurd (cc)
    left_fares ph Out e a (inr f) p h =
        numbers_fares (next_serial held None) refl p
        (record { plain = h.plain; apart = h.apart; entered = sym a ∙ f.1; settled = subst (λ quiet. BehindBy quiet v c) (sym a ∙ f.1) h.rows })

    read_fares : (table : ℕ) (answer : Answer) → Q → Went v c (Reading table) answer → Fares (rows_read held table answer)
    read_fares table answer p h = subst (λ (a : Answer). Fares (rows_read held table a)) (sym h.1) (p, h.2)

    number_fares : (table : ℕ) (answer : Answer) → Q → Went v c (ReadingSerial table) answer → Fares (serial_read held table answer)
    number_fares table (answers.Serial n) p h = (p, (h.0, h.1 n refl))
    number_fares table answers.Began p h = tt
    number_fares table (answers.Rows rows) p h = tt
    number_fares table (answers.Count n) p h = tt
    number_fares table answers.Locked p h = tt
    number_fares table answers.Done p h = tt
    number_fares table (answers.Refused code) p h = tt

    -- the source is attached where it is asked
    abbrev pub IsShown : Side → Type 0
    IsShown Source = has x.attached c.source ≡ true
    IsShown Target = Unit {0}

    proceeded_fares : (ph : Phase) (task : Task) (answer : Answer) → Agrees ph held → FitsTask task ph → IsShown (side_of task) → Q → Went v c task answer → Fares (proceeded held task answer)
    proceeded_fares ph OpeningSource answer a f shows p h = opened_fares held.gate p h.0 (h.1 shows)
    proceeded_fares ph OpeningTarget answer a f shows p h = table_fares None (next_table held None) refl p h
    proceeded_fares ph (Reading table) answer a f shows p h = read_fares table answer p h
    proceeded_fares ph (Emptying table rows) answer a f shows p h = filled_fares table rows (length rows) p h
    proceeded_fares ph (Filling table rows left) answer a f shows p h = filled_fares table rows left p h
    proceeded_fares ph Committing answer a f shows p h = (p, h)
    proceeded_fares ph Leaving answer a f shows p h = left_fares ph held.gate a.0 a.1 f p h
    proceeded_fares ph OpeningNumbers answer a f shows p h = serial_fares None (next_serial held None) refl p h
    proceeded_fares ph (ReadingSerial table) answer a f shows p h = number_fares table answer p h
    proceeded_fares ph (LockingSerial table n) answer a f shows p h = (p, h)
    proceeded_fares ph (SettingSerial table n) answer a f shows p h = serial_fares (Some table) (next_serial held (Some table)) refl p h
    proceeded_fares ph ClosingNumbers answer a f shows p h = (p, h.0, h.1)

    no_refusal : (answer : Answer) → refusal_of answer ≡ None → is_refusal answer ≡ false
    no_refusal answers.Began e = refl
    no_refusal (answers.Rows rows) e = refl
    no_refusal (answers.Count n) e = refl
    no_refusal answers.Locked e = refl
    no_refusal answers.Done e = refl
    no_refusal (answers.Serial n) e = refl
    no_refusal (answers.Refused code) e = absurd (let z : Some code ≡ None = e in cc)

    answered_by : (ph : Phase) (task : Task) (answer : Answer) (code : Option Code) → refusal_of answer ≡ code → Agrees ph held → FitsTask task ph → IsShown (side_of task) → Q → After v c task answer
        → Fares (answered held task answer code)
    answered_by ph task answer None e a f shows p h = proceeded_fares ph task answer a f shows p (h (no_refusal answer e))
    answered_by ph task answer (Some code) e a f shows p h = tt

    pub answered_fares : (ph : Phase) (task : Task) (answer : Answer) → Agrees ph held → FitsTask task ph → IsShown (side_of task) → Q → After v c task answer
        → Fares (answered held task answer (refusal_of answer))
    answered_fares ph task answer a f shows p h = answered_by ph task answer (refusal_of answer) refl a f shows p h

    source_shown : (side : Side) → has x.attached c.source ≡ true → IsShown side
    source_shown Source e = e
    source_shown Target e = tt

    pub shown_fares : (ph : Phase) (task : Task) (answer : Answer) → held.view.attached.bits ≡ x.attached → Agrees ph held → FitsTask task ph → Q → After v c task answer → Fares (shown held task answer)
    unfolding shown
    shown_fares ph task answer shows a f p h = by (is_shown held held.source) refl
      where
        by : (t : Bool) → is_shown held held.source ≡ t → Fares (if t then answered held task answer (refusal_of answer) else refused held lost_on_the_way)
        by true e = answered_fares ph task answer a f (source_shown (side_of task) (subst (λ n. has n held.source.number ≡ true) shows e)) p h
        by false e = tt

    -- The beginnings of the stages.

    pub snapshot_fares : (b : Option BackendId) → lowest held.view.attached.bits ≡ b → held.view.attached.bits ≡ x.attached → held.quiet ≡ Copying → has x.attached held.target.number ≡ false
        → Q → IsPlain x → Fares (snapshot_entered held b)
    snapshot_fares None e shows copying free p h = tt
    snapshot_fares (Some b) e shows copying free p h =
        let here : has x.attached b.number ≡ true = subst (λ n. has n b.number ≡ true) shows (is_found (is_attached held.view.attached.bits) b e) in
        let d : Course = course_of (record held { source = b }) in (
          p,
          record {
            plain = h;
            apart = λ same. not_both (has x.attached b.number) here (ap (has x.attached) same ∙ free);
            stage = subst (λ quiet. BegunBy quiet (seen_by mine x d) d) (sym copying) tt;
          },
        )

-- with another source
module _ (P : ℕ → Type 0) (told : ℕ → Option Answer) (mine : ℕ → Transaction) (scenes : ℕ → Scene) (known : (b : ℕ) → Known mine (scenes b)) (held : Held) where
  abbrev y : Scene
  y = scenes held.target.number

  pub quiet_fares : held.layout.tables ≡ y.tables → (b : Option BackendId) → lowest held.view.attached.bits ≡ b → held.view.attached.bits ≡ y.attached → held.quiet ≡ Entered
      → held.touched ≡ y.touched → has y.attached held.target.number ≡ false → ((k : ℕ) → has y.attached k ≡ true → AreOf y.tables y.single)
      → P held.target.number → IsBetween y → Fares P told mine scenes known (quiet_entered held b)
  quiet_fares laid None e shows entered touched free single p h = tt
  quiet_fares laid (Some b) e shows entered touched free single p h =
      let here : has y.attached b.number ≡ true = subst (λ n. has n b.number ≡ true) shows (is_found (is_attached held.view.attached.bits) b e) in
      let n : Held = record held { source = b } in
      let d : Course = course_of n in
      let half : IsHalf (seen_by mine y d) d = record { attached = here; same = touched; rows = h.rows } in
      again_fares P told mine scenes known n laid (single b.number here) (next_table n None) refl entered p
      (record {
        plain = h.plain;
        apart = λ same. not_both (has y.attached b.number) here (ap (has y.attached) same ∙ free);
        stage = subst (λ quiet. BegunBy quiet (seen_by mine y d) d) (sym entered) half;
      })
      half
