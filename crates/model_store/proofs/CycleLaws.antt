-- Cycles of waits: who waits asks for what conflicts, and has not the lock of the table.
use Rattle.std.proofs.Common.{◌≡◌, ◌≢◌, ◌⊎◌, ℕ, ℤ, Bool, true, false, ◌||◌, List, [], ◌∷◌, ◌++◌, map, refl, sym, ap, ◌∙◌, subst, inl, inr, codes}
use Rattle.std.specs.Prelude.{Option, Some, None, Ok, Err, slice_get}
use Rattle.std.specs.List.{AllByRecursion}
use Rattle.std.proofs.lemmas.List.Elements.{recursion_from_All}
use Rattle.std.proofs.lemmas.List.Folds.{list_any-append}
use Rattle.std.proofs.lemmas.Bool.Decides.{eqb_tells}
use Rattle.pool_base.specs.declared.code.Code.{Code}
use Rattle.backend_trait.specs.declared.request.Request.{Request}
use Rattle.backend_trait.specs.declared.request.Request.TheVariants as requests
use Rattle.catalogue.specs.declared.checked.Checked.{Checked}
use Rattle.backend_trait.specs.declared.answer.Answer.TheVariants as answers
use Rattle.pg_values.specs.declared.value.Value.{Value}
use Rattle.sql_eval.specs.declared.effect.Change.{Change}
use Rattle.sql_eval.specs.Walks.{Coded}
use Rattle.sql_eval.specs.Reads.{alone}
use Rattle.sql_eval.specs.Effects as effects
use Rattle.sql_eval.specs.Effects.{Reads, Writes, given_by}
use Rattle.backend_trait.proofs.Tables.{stay_in}
use Rattle.backend_trait.specs.Keys.{Place, place, is_place}
use Rattle.backend_trait.specs.Rows.{Rows}
use Rattle.schema.specs.declared.catalogue.TableDef.{TableDef}
use Rattle.backend_trait.specs.Effect.{Wants, nothing, both_wants, these_places, is_among, has_place, has_lock_of, Conflicts, same_place, same_table, table_left, table_right, place_changed, Given, Fails, Gives, given_as, number_from, effect_of, table_in}
use Rattle.backend_trait.specs.Store.{Store, Live, Transaction, Absent, Alive, Dead, Pending, WhereLive, held_by, table_lock, view_of, next_for, with_places}
use Rattle.backend_trait.specs.Acts.{MayRefuse, MayAnswer, Crosses, IsCrossed, WhereSome, WaitsInRun, WaitsIn, WaitsFor, IsPath, IsInCycle, wants_in, wants_of_run, asked_by, has_lock, may_be_crossed, given_of}
use Rattle.outcomes.specs.declared.change.ChangeSet.{ChangeSet}
use Rattle.model_store.specs.declared.seat.Seat.{Seat}
use Rattle.model_store.specs.Seats.{transaction_in, store_of}
use Rattle.model_store.specs.Conflicts.{held_in, AreApart}
use Rattle.model_store.proofs.ConflictLaws.{one_and_same}
use Rattle.model_store.proofs.VerdictLaws.{held_same}

or_either : (a b : Bool) → (a || b) ≡ true → (a ≡ true) ⊎ (b ≡ true)
or_either true b e = inl refl
or_either false b e = inr e

or_later : (a b : Bool) → b ≡ true → (a || b) ≡ true
or_later true b e = refl
or_later false b e = e

pub conflict_swapped : (a b : Wants) → Conflicts a b → Conflicts b a
conflict_swapped a b (same_place p x y) = same_place p y x
conflict_swapped a b (same_table t x y) = same_table t y x
conflict_swapped a b (table_left p x y) = table_right p y x
conflict_swapped a b (table_right p x y) = table_left p y x

-- a place among two lists is among one of them
among-append : (ps qs : List Place) (p : Place) → is_among (ps ++ qs) p ≡ (is_among ps p || is_among qs p)
among-append ps qs p = list_any-append (is_place p) ps qs

-- what conflicts with two conflicts with one of them
pub conflict_either : (a b c : Wants) → Conflicts (both_wants a b) c → Conflicts a c ⊎ Conflicts b c
conflict_either a b c (same_place p x y) = elim (or_either (is_among a.places p) (is_among b.places p) (sym (among-append a.places b.places p) ∙ x)) [ inl e ↦ inl (same_place p e y) | inr e ↦ inr (same_place p e y) ]
conflict_either a b c (same_table t x y) = elim (or_either (a.tables t) (b.tables t) x) [ inl e ↦ inl (same_table t e y) | inr e ↦ inr (same_table t e y) ]
conflict_either a b c (table_left p x y) = elim (or_either (a.tables p.table) (b.tables p.table) x) [ inl e ↦ inl (table_left p e y) | inr e ↦ inr (table_left p e y) ]
conflict_either a b c (table_right p x y) = elim (or_either (is_among a.places p) (is_among b.places p) (sym (among-append a.places b.places p) ∙ x)) [ inl e ↦ inl (table_right p e y) | inr e ↦ inr (table_right p e y) ]

-- what conflicts with places more conflicts with them, or did before
pub conflict_places : (held : Wants) (places : List Place) (c : Wants) → Conflicts (with_places held places) c → Conflicts (these_places places) c ⊎ Conflicts held c
conflict_places held places c (same_place p x y) = elim (or_either (is_among held.places p) (is_among places p) (sym (among-append held.places places p) ∙ x)) [ inl e ↦ inr (same_place p e y) | inr e ↦ inl (same_place p e y) ]
conflict_places held places c (same_table t x y) = inr (same_table t x y)
conflict_places held places c (table_left p x y) = inr (table_left p x y)
conflict_places held places c (table_right p x y) = elim (or_either (is_among held.places p) (is_among places p) (sym (among-append held.places places p) ∙ x)) [ inl e ↦ inr (table_right p e y) | inr e ↦ inl (table_right p e y) ]

later_among : (b c : Wants) (p : Place) → has_place c p ≡ true → has_place (both_wants b c) p ≡ true
later_among b c p y = among-append b.places c.places p ∙ or_later (is_among b.places p) (is_among c.places p) y

conflict_more : (a b c : Wants) → Conflicts a c → Conflicts a (both_wants b c)
conflict_more a b c (same_place p x y) = same_place p x (later_among b c p y)
conflict_more a b c (same_table t x y) = same_table t x (or_later (b.tables t) (c.tables t) y)
conflict_more a b c (table_left p x y) = table_left p x (later_among b c p y)
conflict_more a b c (table_right p x y) = table_right p x (or_later (b.tables p.table) (c.tables p.table) y)

-- wants of one table
abbrev IsWithin : Wants → ℕ → Type 0
IsWithin wants n = ((p : Place) → has_place wants p ≡ true → p.table ≡ n) × ((t : ℕ) → wants.tables t ≡ true → t ≡ n)

-- who has the lock of a table holds what conflicts with all that others hold there
lock_conflicts : (mine wants held : Wants) (n : ℕ) → mine.tables n ≡ true → IsWithin wants n → Conflicts wants held → Conflicts mine held
lock_conflicts mine wants held n has within (same_place p x y) = table_left p (ap mine.tables (within.0 p x) ∙ has) y
lock_conflicts mine wants held n has within (same_table t x y) = same_table t (ap mine.tables (within.1 t x) ∙ has) y
lock_conflicts mine wants held n has within (table_left p x y) = table_left p (ap mine.tables (within.1 p.table x) ∙ has) y
lock_conflicts mine wants held n has within (table_right p x y) = same_table p.table (ap mine.tables (within.0 p x) ∙ has) y

none_within : (n : ℕ) → IsWithin nothing n
none_within n = (λ p e. absurd (let f : false ≡ true = e in cc), λ t e. absurd (let f : false ≡ true = e in cc))

-- the places of a list of one table
places_within : (ps : List Place) (n : ℕ) → AllByRecursion (λ (p : Place). p.table ≡ n) ps → IsWithin (these_places ps) n
places_within ps n all = (λ p e. go ps all p e, λ t e. absurd (let f : false ≡ true = e in cc))
  where
    go : (qs : List Place) → AllByRecursion (λ (q : Place). q.table ≡ n) qs → (p : Place) → is_among qs p ≡ true → p.table ≡ n
    go [] each p e = absurd (let f : false ≡ true = e in cc)
    go (q ∷ qs) each p e = elim (or_either (is_place p q) (is_among qs p) e) [
      | inl here ↦ ap (λ (r : Place). r.table) (one_and_same p q here) ∙ each.0
      | inr there ↦ go qs each.1 p there
    ]

map_each : {X Y : Type 0} (f : X → Y) (P : Y → Type 0) (xs : List X) → AllByRecursion (λ x. P (f x)) xs → AllByRecursion P (map f xs)
map_each f P [] each = tt
map_each f P (x ∷ xs) each = (each.0, map_each f P xs each.1)

keys_there : (n : ℕ) (keys : List Value) → AllByRecursion (λ (k : Value). (place n k).table ≡ n) keys
keys_there n [] = tt
keys_there n (k ∷ keys) = (refl, keys_there n keys)

some_same : (m n : ℕ) → ◌≡◌ {A = Option ℕ} (Some m) (Some n) → m ≡ n
some_same m n e = cc

changes_there : (cs : List Change) (table : Option ℕ) (n : ℕ) → table ≡ Some n → AllByRecursion (λ (c : Change). Some c.table ≡ table) cs → AllByRecursion (λ (c : Change). (place_changed c).table ≡ n) cs
changes_there [] table n is each = tt
changes_there (c ∷ cs) table n is each = (some_same c.table n (each.0 ∙ is), changes_there cs table n is each.1)

given_within : (table : Option ℕ) (n : ℕ) (given : Coded effects.Given) → table ≡ Some n → ((cs : List Change) → given ≡ Ok (Writes cs) → AllByRecursion (λ (c : Change). Some c.table ≡ table) cs) → IsWithin (wants_in (given_as table given)) n
given_within table n (Err code) is stay = none_within n
given_within None n (Ok (Reads read)) is stay = absurd (cc)
given_within (Some m) n (Ok (Reads read)) is stay =
    subst (λ (k : ℕ). IsWithin (these_places (map (place m) read.keys)) k) (some_same m n is)
    (places_within (map (place m) read.keys) m (map_each (place m) (λ (p : Place). p.table ≡ m) read.keys (keys_there m read.keys)))
given_within table n (Ok (Writes cs)) is stay =
    places_within (map place_changed cs) n (map_each place_changed (λ (p : Place). p.table ≡ n) cs (changes_there cs table n is (stay cs refl)))

run_within : (tables : List TableDef) (statement : Checked) (view : Rows) (next : Option ℤ) (n : ℕ) → table_in statement ≡ Some n → IsWithin (wants_in (effect_of tables statement view next).given) n
unfolding effect_of
run_within tables statement view next n is =
    given_within (table_in statement) n (given_by alone tables statement.body view (number_from next)) is
    (λ cs given. recursion_from_All (λ (c : Change). Some c.table ≡ table_in statement) cs (stay_in alone tables statement.body view (number_from next) cs given))

in_run_conflict : (held : Wants) (t : Live) (given : Given) → WaitsInRun held t given → Conflicts (wants_in given) held
in_run_conflict held t (Fails code) h = absurd h
in_run_conflict held t (Gives result changes places) h = h.1

-- who waits asks for what conflicts
waits_conflict : (st : Store) (s : ℕ) (held : Wants) (request : Request) → WaitsIn st s held request → Conflicts (asked_by st s request) held
waits_conflict st s held requests.TakeSnapshot h = absurd h
waits_conflict st s held (requests.Run statement) h = go (st.transaction s) h
  where
    go : (x : Transaction) → WhereLive x (λ t. WaitsInRun held t (given_of st statement t)) → Conflicts (wants_of_run st statement x) held
    go Absent h = absurd h
    go (Alive t) h = in_run_conflict held t (given_of st statement t) h
    go Dead h = absurd h
waits_conflict st s held (requests.Lock table) h = go (st.transaction s) h
  where
    go : (x : Transaction) → WhereLive x (λ t. Conflicts (table_lock table) held) → Conflicts (table_lock table) held
    go Absent h = absurd h
    go (Alive t) h = h
    go Dead h = absurd h
waits_conflict st s held requests.Commit h = absurd h
waits_conflict st s held requests.Rollback h = absurd h
waits_conflict st s held (requests.ReadSerial table) h = absurd h
waits_conflict st s held (requests.SetSerial table n) h = absurd h

not_true : (b : Bool) → ¬ (b ≡ true) → b ≡ false
not_true true h = absurd (h refl)
not_true false h = refl

lock_within : (n : ℕ) → IsWithin (table_lock n) n
lock_within n = (λ p e. absurd (let f : false ≡ true = e in cc), λ t e. elim (eqb_tells t n) [ inl p ↦ p.1 | inr p ↦ absurd (let f : false ≡ true = sym p.0 ∙ e in cc) ])

wants_within : (st : Store) (statement : Checked) (n : ℕ) (x : Transaction) → table_in statement ≡ Some n → IsWithin (wants_of_run st statement x) n
wants_within st statement n Absent is = none_within n
wants_within st statement n (Alive t) is = run_within st.tables statement (view_of t) (next_for st.next (table_in statement)) n is
wants_within st statement n Dead is = none_within n

-- and has not the lock of its table, since what sessions hold does not conflict
waits_unlocked : (st : Store) (s : ℕ) (held : Wants) (request : Request) → ¬ (Conflicts (held_by (st.transaction s)) held) → WaitsIn st s held request → has_lock st s request ≡ false
waits_unlocked st s held requests.TakeSnapshot apart h = refl
waits_unlocked st s held (requests.Run statement) apart h = by_table (table_in statement) refl
  where
    by_table : (table : Option ℕ) → table_in statement ≡ table → has_lock_of (held_by (st.transaction s)) (table_in statement) ≡ false
    by_table None is = ap (has_lock_of (held_by (st.transaction s))) is
    by_table (Some n) is =
        not_true _ (λ has. apart (lock_conflicts (held_by (st.transaction s)) (wants_of_run st statement (st.transaction s)) held n (sym (ap (has_lock_of (held_by (st.transaction s))) is) ∙ has)
        (wants_within st statement n (st.transaction s) is) (waits_conflict st s held (requests.Run statement) h)))
waits_unlocked st s held (requests.Lock table) apart h =
    not_true (has_lock st s (requests.Lock table)) (λ has. apart (lock_conflicts (held_by (st.transaction s)) (table_lock table) held table has (lock_within table) (waits_conflict st s held (requests.Lock table) h)))
waits_unlocked st s held requests.Commit apart h = refl
waits_unlocked st s held requests.Rollback apart h = refl
waits_unlocked st s held (requests.ReadSerial table) apart h = refl
waits_unlocked st s held (requests.SetSerial table n) apart h = refl

-- a run or a lock alone waits
waits_kind : (st : Store) (s : ℕ) (held : Wants) (request : Request) → WaitsIn st s held request → may_be_crossed request ≡ true
waits_kind st s held requests.TakeSnapshot h = absurd h
waits_kind st s held (requests.Run statement) h = refl
waits_kind st s held (requests.Lock table) h = refl
waits_kind st s held requests.Commit h = absurd h
waits_kind st s held requests.Rollback h = absurd h
waits_kind st s held (requests.ReadSerial table) h = absurd h
waits_kind st s held (requests.SetSerial table n) h = absurd h

-- the first wait of a path, and the last
first_wait : (st : Store) (s : ℕ) (between : List ℕ) (last : ℕ) → IsPath st s between last → (o : ℕ) × WaitsFor st s o
first_wait st s [] last path = (last, path)
first_wait st s (o ∷ between) last path = (o, path.0)

last_wait : (st : Store) (s : ℕ) (between : List ℕ) (last : ℕ) → IsPath st s between last → (o : ℕ) × WaitsFor st o last
last_wait st s [] last path = (s, path)
last_wait st s (o ∷ between) last path = last_wait st o between last path.1

some_there : (P : Pending → Type 0) (x : Option Pending) → WhereSome x P → (p : Pending) × (x ≡ Some p) × P p
some_there P None h = absurd h
some_there P (Some p) h = (p, refl, h)

module _ (st : Store) (apart : (a b : ℕ) → a ≢ b → ¬ (Conflicts (held_by (st.transaction a)) (held_by (st.transaction b)))) (s : ℕ) where
  -- who waits for a session crosses its run or lock
  crosses : (o : ℕ) (request : Request) → may_be_crossed request ≡ true → WaitsFor st o s → Crosses st s request
  crosses o request kind (other, waits) =
      let (its, is, h) = some_there (λ p. WaitsIn st o (held_by (st.transaction s)) p.request) (st.pending o) waits in
      record {
        kind = kind;
        other = o;
        another = λ e. other (sym e);
        its = its;
        waits = is;
        unlocked = waits_unlocked st o (held_by (st.transaction s)) its.request (apart o s (λ e. other (sym e))) h;
        conflict = conflict_more (asked_by st o its.request) (asked_by st s request) (held_by (st.transaction s)) (waits_conflict st o (held_by (st.transaction s)) its.request h);
      }

  refuse_given : (crossed : Type 0) (held : Wants) (t : Live) (table : Option ℕ) (code : Code) (given : Given) → code.bytes ≡ codes "40P01" → crossed → has_lock_of t.held table ≡ false → WaitsInRun held t given → MayRefuse crossed t table code given
  refuse_given crossed held t table code (Fails bytes) is c unlocked h = absurd h
  refuse_given crossed held t table code (Gives result changes places) is c unlocked h = inr (inl (is, c, unlocked))

  refuse_run : (crossed : Type 0) (held : Wants) (statement : Checked) (code : Code) (x : Transaction) → code.bytes ≡ codes "40P01" → crossed → has_lock_of (held_by x) (table_in statement) ≡ false
      → WhereLive x (λ t. WaitsInRun held t (given_of st statement t)) → WhereLive x (λ t. MayRefuse crossed t (table_in statement) code (given_of st statement t))
  refuse_run crossed held statement code Absent is c unlocked h = absurd h
  refuse_run crossed held statement code (Alive t) is c unlocked h = refuse_given crossed held t (table_in statement) code (given_of st statement t) is c unlocked h
  refuse_run crossed held statement code Dead is c unlocked h = absurd h

  refuse_waiting : (request : Request) (o : ℕ) (code : Code) → code.bytes ≡ codes "40P01" → o ≢ s → Crosses st s request → WaitsIn st s (held_by (st.transaction o)) request
      → MayAnswer st s (record { request = request; crossed = false }) (answers.Refused code)
  refuse_waiting requests.TakeSnapshot o code is other c h = absurd h
  refuse_waiting (requests.Run statement) o code is other c h =
      refuse_run (IsCrossed st s (record { request = requests.Run statement; crossed = false })) (held_by (st.transaction o)) statement code (st.transaction s) is (inr c)
      (waits_unlocked st s (held_by (st.transaction o)) (requests.Run statement) (apart s o (λ e. other (sym e))) h) h
  refuse_waiting (requests.Lock table) o code is other c h = (is, inr c)
  refuse_waiting requests.Commit o code is other c h = absurd h
  refuse_waiting requests.Rollback o code is other c h = absurd h
  refuse_waiting (requests.ReadSerial table) o code is other c h = absurd h
  refuse_waiting (requests.SetSerial table n) o code is other c h = absurd h

  -- a request that waits in a cycle may be refused for it
  pub cycle_refused : (request : Request) (code : Code) → code.bytes ≡ codes "40P01" → st.pending s ≡ Some (record { request = request; crossed = false }) → IsInCycle st s
      → MayAnswer st s (record { request = request; crossed = false }) (answers.Refused code)
  cycle_refused request code is pending (between, path) =
      let (next, first) = first_wait st s between s path in
      let (before, last) = last_wait st s between s path in
      let waits : WaitsIn st s (held_by (st.transaction next)) request =
      subst (λ (x : Option Pending). WhereSome x (λ p. WaitsIn st s (held_by (st.transaction next)) p.request)) pending first.1 in
      refuse_waiting request next code is first.0 (crosses before request (waits_kind st s (held_by (st.transaction next)) request waits) last) waits

-- what seats hold is what their transactions hold
pub apart_there : (numbers : ℕ → Option ℤ) (tables : List TableDef) (log : List ChangeSet) (seats : List Seat) (lost : Bool) → AreApart seats → (a b : ℕ) → a ≢ b → ¬ (Conflicts (held_by ((store_of numbers tables log seats lost).transaction a)) (held_by ((store_of numbers tables log seats lost).transaction b)))
apart_there numbers tables log seats lost apart a b other conflict =
    apart a b other (subst (λ (w : Wants). Conflicts w (held_in (slice_get seats b))) (held_same log (slice_get seats a)) (subst (λ (w : Wants). Conflicts (held_by (transaction_in log (slice_get seats a))) w) (held_same log (slice_get seats b)) conflict))
