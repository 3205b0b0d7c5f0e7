-- What statements give and draw, as the law of a result needs it.
use Rattle.std.proofs.Common.{◌≡◌, ◌∙◌, ℕ, ℤ, Bool, true, false, ◌||◌, List, [], ◌∷◌, map, refl, sym, ap, subst, inl, inr}
use Rattle.std.specs.Prelude.{◌⊎◌, cond, is_some, if◌then◌else◌, Option, Some, None, Ok, Err}
use Rattle.std.specs.FinMap as fin
use Rattle.schema.specs.declared.catalogue.TableDef.{TableDef}
use Rattle.catalogue.specs.declared.checked.Checked.{Checked}
use Rattle.catalogue.specs.declared.checked.CheckedBody.{CheckedBody}
use Rattle.catalogue.specs.declared.checked.CheckedBody.TheVariants as body
use Rattle.catalogue.specs.declared.checked.CheckedRead.{CheckedRead}
use Rattle.classifier.specs.Classes.{has_serial, lock_of}
use Rattle.sql_eval.specs.declared.effect.Change.{Change}
use Rattle.sql_eval.specs.declared.effect.ReadEffect.{ReadEffect}
use Rattle.sql_eval.specs.Views.{Entry}
use Rattle.sql_eval.specs.Walks.{Coded, behind, walked, all_of}
use Rattle.sql_eval.specs.Reads.{alone, kept, entries_read, shown, listed, limit_in, cut, counted, reading, keys_wanted, read_in, result_row}
use Rattle.sql_eval.specs.Ordered.{ordered}
use Rattle.sql_eval.specs.Effects as effects
use Rattle.sql_eval.specs.Effects.{Reads, Writes, given_by}
use Rattle.backend_trait.proofs.Walks.{behind_ok, given_is as ok_is}
use Rattle.outcomes.proofs.Giving.{given_is}
use Rattle.backend_trait.proofs.Moved.{IsMovedBy, run_moved}
use Rattle.backend_trait.proofs.Undrawn.{numbers_apart}
use Rattle.backend_trait.specs.Alone.{given_on}
use Rattle.backend_trait.proofs.KeyLaws.{place_total}
use Rattle.backend_trait.proofs.RowLaws.{same_changes, get-joined_changes, change_over}
use Rattle.backend_trait.specs.Keys.{Place, place_order, is_place}
use Rattle.backend_trait.specs.Rows.{Rows, Changes, no_changes, laid_over, joined_changes}
use Rattle.backend_trait.specs.Effect.{nothing, is_among, changed_on, changes_of, place_changed, keys_in, given_as, table_in, number_from, Gives, effect_of}
use Rattle.backend_trait.specs.Store.{Live, Store, IsLocked, drawn_by, view_of, next_for}
use Rattle.backend_trait.specs.Acts.{given_of}
use Rattle.backend_trait.specs.declared.answer.Answer.{Answer}
use Rattle.session_machine.specs.declared.work.Class.TheVariants as classes
use Rattle.session_machine.specs.declared.work.Verb.TheVariants as verbs
use Rattle.session_machine.specs.Classes.{class_in}
use Rattle.one_copy_laws.proofs.ActsHolding.{or_first, or_second}

-- a statement that takes no lock first draws no number
pub no_numbers : (tables : List TableDef) (next : ℕ → Option ℤ) (checked : Checked) → lock_of checked.body ≡ None → drawn_by tables checked next ≡ next
no_numbers tables next checked none =
    let moved : IsMovedBy nothing next (drawn_by tables checked next) = run_moved tables nothing next checked (subst (IsLocked nothing) (sym none) tt) in
    λ i t. moved.same t refl i

-- it gives the same to transactions that see the same, whatever the numbers
pub given_alike : (st there : Store) (checked : Checked) (u k : Live) → st.tables ≡ there.tables → lock_of checked.body ≡ None → u.base ≡ k.base → u.changes ≡ k.changes
    → given_of st checked u ≡ given_of there checked k
given_alike st there checked u k tables plain base changes =
    ap (λ (r : Rows). (effect_of st.tables checked (laid_over u.changes r) (next_for st.next (table_in checked))).given) base
    ∙ ap (λ (c : Changes). (effect_of st.tables checked (laid_over c k.base) (next_for st.next (table_in checked))).given) changes
    ∙ numbers_apart st.tables checked (view_of k) (next_for st.next (table_in checked)) plain
    ∙ ap (λ (ts : List TableDef). given_on ts (view_of k) checked) tables
    ∙ sym (numbers_apart there.tables checked (view_of k) (next_for there.next (table_in checked)) plain)

-- another statement gives the same on the same number of its table
pub given_numbered : (st there : Store) (checked : Checked) (u k : Live) → st.tables ≡ there.tables → next_for st.next (table_in checked) ≡ next_for there.next (table_in checked)
    → u.base ≡ k.base → u.changes ≡ k.changes → given_of st checked u ≡ given_of there checked k
given_numbered st there checked u k tables next base changes =
    ap (λ (r : Rows). (effect_of st.tables checked (laid_over u.changes r) (next_for st.next (table_in checked))).given) base
    ∙ ap (λ (c : Changes). (effect_of st.tables checked (laid_over c k.base) (next_for st.next (table_in checked))).given) changes
    ∙ ap (λ (ts : List TableDef). (effect_of ts checked (view_of k) (next_for st.next (table_in checked))).given) tables
    ∙ ap (λ (n : Option ℤ). (effect_of there.tables checked (view_of k) n).given) next

-- a read that is no locking read wants nothing
keys_of : (read : CheckedRead) (es : List Entry) (r : ReadEffect) (v : Bool) → read.for_update ≡ false
    → (if v then Ok (counted (Rattle.std.specs.Prelude.length es)) else behind (limit_in alone read.limit) (λ limit. listed alone read (cut limit (ordered read.order es)))) ≡ Ok r → r.keys ≡ []
keys_of read es r true plain e = ap (λ (x : ReadEffect). x.keys) (sym (ok_is (counted (Rattle.std.specs.Prelude.length es)) r e))
keys_of read es r false plain e =
    let k = behind_ok (limit_in alone read.limit) (λ limit. listed alone read (cut limit (ordered read.order es))) r e in
    let left : List Entry = cut k.0 (ordered read.order es) in
    let m = behind_ok (all_of (map (λ (x : Entry). result_row alone read.list x.row) left)) (λ rows. Ok (reading read.for_update left rows)) r k.2 in
    ap (λ (x : ReadEffect). x.keys) (sym (ok_is (reading read.for_update left m.0) r m.2)) ∙ ap (λ v. keys_wanted v left) plain

read_keys : (read : CheckedRead) (view : Rows) (r : ReadEffect) → read.for_update ≡ false → read_in alone view read ≡ Ok r → r.keys ≡ []
read_keys read view r plain e =
    let k = behind_ok (walked (kept alone read.filter) (entries_read view read.table)) (shown alone read) r e in
    keys_of read k.0 r read.count plain k.2

plain_read : (v : Bool) → (if v then classes.LockingRead else classes.Read) ≡ classes.Read → v ≡ false
plain_read true e = absurd (cc)
plain_read false e = refl

no_insert : (v : Bool) (table : ℕ) → (if v then classes.SerialInsert table else classes.Write verbs.Insert) ≡ classes.Read → ⊥
no_insert true table e = cc
no_insert false table e = cc

body_keys : (tables : List TableDef) (b : CheckedBody) (view : Rows) (n : ℤ) (g : effects.Given) → class_in b ≡ classes.Read → given_by alone tables b view n ≡ Ok g
    → (r : ReadEffect) × (g ≡ Reads r) × (r.keys ≡ [])
body_keys tables (body.Read read) view n g c e =
    let k = behind_ok (read_in alone view read) (λ a. Ok (Reads a)) g e in
    (k.0, sym (ok_is (Reads k.0) g k.2), read_keys read view k.0 (plain_read read.for_update c) k.1)
body_keys tables (body.Insert insert) view n g c e = absurd (no_insert (has_serial insert.rows) insert.table c)
body_keys tables (body.Change change) view n g c e = absurd (let z : classes.Write verbs.Update ≡ classes.Read = c in cc)
body_keys tables (body.Remove remove) view n g c e = absurd (let z : classes.Write verbs.Delete ≡ classes.Read = c in cc)

none_in : (table : Option ℕ) → keys_in table [] ≡ []
none_in None = refl
none_in (Some table) = refl

pub reads_nothing : (tables : List TableDef) (checked : Checked) (view : Rows) (next : Option ℤ) (answer : Answer) (changes : Changes) (places : List Place) → class_in checked.body ≡ classes.Read
    → (effect_of tables checked view next).given ≡ Gives answer changes places → (changes ≡ no_changes) × (places ≡ [])
reads_nothing tables checked view next answer changes places c e =
    by (given_by alone tables checked.body view (number_from next)) refl (sym (given_is tables checked view next (given_by alone tables checked.body view (number_from next)) refl) ∙ e)
  where
    by : (found : Coded effects.Given) → given_by alone tables checked.body view (number_from next) ≡ found → given_as (table_in checked) found ≡ Gives answer changes places → (changes ≡ no_changes) × (places ≡ [])
    by (Err code) is e = absurd (cc)
    by (Ok (Reads r)) is e =
        let k = body_keys tables checked.body view (number_from next) (Reads r) c is in
        let same : r ≡ k.0 = (let z : Reads r ≡ Reads k.0 = k.1 in let q : r ≡ k.0 = cc in q) in
        let none : no_changes ≡ changes = cc in
        let at : keys_in (table_in checked) r.keys ≡ places = cc in
        (sym none, sym at ∙ ap (λ (x : ReadEffect). keys_in (table_in checked) x.keys) same ∙ ap (keys_in (table_in checked)) k.2 ∙ none_in (table_in checked))
    by (Ok (Writes cs)) is e =
        let k = body_keys tables checked.body view (number_from next) (Writes cs) c is in
        absurd (let z : Writes cs ≡ Reads k.0 = k.1 in cc)

-- what is changed is wanted
changed_in : (cs : List Change) (old : Changes) (q : Place) → is_some (fin.get (changed_on old cs) q) ≡ true → (is_some (fin.get old q) ≡ true) ⊎ (is_among (map place_changed cs) q ≡ true)
changed_in [] old q e = inl e
changed_in (c ∷ cs) old q e = elim (changed_in cs (fin.insert old (place_changed c) c.row) q e) [
  | inl now ↦ by (is_place q (place_changed c)) refl (sym (ap is_some (fin.get-insert place_total old (place_changed c) c.row q)) ∙ now)
  | inr later ↦ inr (or_second (is_place q (place_changed c)) (is_among (map place_changed cs) q) later)
]
  where
    by : (v : Bool) → is_place q (place_changed c) ≡ v → is_some (cond v (Some c.row) (fin.get old q)) ≡ true
        → (is_some (fin.get old q) ≡ true) ⊎ ((is_place q (place_changed c) || is_among (map place_changed cs) q) ≡ true)
    by true is e = inr (or_first (is_place q (place_changed c)) (is_among (map place_changed cs) q) is)
    by false is e = inl e

pub changed_wanted : (tables : List TableDef) (checked : Checked) (view : Rows) (next : Option ℤ) (answer : Answer) (changes : Changes) (places : List Place) (q : Place)
    → (effect_of tables checked view next).given ≡ Gives answer changes places → is_some (fin.get changes q) ≡ true → is_among places q ≡ true
changed_wanted tables checked view next answer changes places q e some =
    by (given_by alone tables checked.body view (number_from next)) (sym (given_is tables checked view next (given_by alone tables checked.body view (number_from next)) refl) ∙ e)
  where
    by : (found : Coded effects.Given) → given_as (table_in checked) found ≡ Gives answer changes places → is_among places q ≡ true
    by (Err code) e = absurd (cc)
    by (Ok (Reads r)) e =
        let none : no_changes ≡ changes = cc in
        absurd (let z : false ≡ true = sym (ap is_some (fin.get-empty place_order q)) ∙ ap (λ (c : Changes). is_some (fin.get c q)) none ∙ some in cc)
    by (Ok (Writes cs)) e =
        let made_of : changes_of cs ≡ changes = cc in
        let at : map place_changed cs ≡ places = cc in
        ap (λ (ps : List Place). is_among ps q) (sym at)
        ∙ elim (changed_in cs no_changes q (ap (λ (c : Changes). is_some (fin.get c q)) made_of ∙ some)) [
          | inl none ↦ absurd (let z : false ≡ true = sym (ap is_some (fin.get-empty place_order q)) ∙ none in cc)
          | inr is ↦ is
        ]

-- no changes over some are those
pub none_joined : (old : Changes) → joined_changes no_changes old ≡ old
none_joined old = same_changes _ _ (λ q. get-joined_changes no_changes old q ∙ ap (λ c. change_over c (fin.get old q)) (fin.get-empty place_order q))
