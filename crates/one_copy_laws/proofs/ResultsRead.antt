-- What a SELECT gives: its rows; and it changes nothing and wants nothing.
use Rattle.std.proofs.Common.{◌≡◌, ℕ, ℤ, List, [], ◌++◌, length, map, refl, sym, ap, ◌∙◌, subst}
use Rattle.std.specs.Prelude.{Bool as Truth, true, false, Option, Some, None, if◌then◌else◌, Ok, Err}
use Rattle.std.proofs.lemmas.List.{append-nil}
use Rattle.std.specs.FinMap as fin
use Rattle.schema.specs.declared.catalogue.TableDef.{TableDef}
use Rattle.catalogue.specs.declared.checked.Checked.{Checked}
use Rattle.catalogue.specs.declared.checked.CheckedBody.{CheckedBody}
use Rattle.catalogue.specs.declared.checked.CheckedBody.TheVariants as body
use Rattle.catalogue.specs.declared.checked.CheckedRead.{CheckedRead}
use Rattle.classifier.specs.Classes.{has_serial}
use Rattle.pg_values.specs.declared.value.Value.{Value}
use Rattle.sql_values.specs.Meaning.{Around}
use Rattle.sql_eval.specs.declared.row.Row.{Row}
use Rattle.sql_eval.specs.declared.effect.ReadEffect.{ReadEffect}
use Rattle.sql_eval.specs.Effects.{Reads, given_by}
use Rattle.sql_eval.specs.Reads.{alone, keys_wanted, reading, listed, shown, limit_in, counted, cut, entries_read, kept, read_in}
use Rattle.sql_eval.specs.Ordered.{ordered}
use Rattle.sql_eval.specs.Views.{View, Entry}
use Rattle.sql_eval.specs.Walks.{Coded, behind, made, walked}
use Rattle.backend_trait.specs.declared.answer.Answer.TheVariants as answers
use Rattle.backend_trait.specs.Keys.{Place, place, place_order}
use Rattle.backend_trait.specs.Rows.{Rows, Changes, no_changes, joined_changes}
use Rattle.backend_trait.specs.Effect.{keys_in, given_as, table_in, number_from, Given, Fails, Gives, effect_of}
use Rattle.backend_trait.specs.Store.{Live, given_to}
use Rattle.backend_trait.proofs.RowLaws.{change_over, get-joined_changes, same_changes}
use Rattle.session_machine.specs.declared.work.Class.TheVariants as classes
use Rattle.session_machine.specs.declared.work.Verb.TheVariants as verbs
use Rattle.session_machine.specs.Classes.{class_in}

abbrev HasNoKeys : Coded ReadEffect → Type 0
HasNoKeys (Ok read) = read.keys ≡ []
HasNoKeys (Err code) = Unit {0}

behind_none : {A : Type 0} (o : Coded A) (f : A → Coded ReadEffect) → ((a : A) → HasNoKeys (f a)) → HasNoKeys (behind o f)
behind_none (Ok a) f h = h a
behind_none (Err code) f h = tt

reading_none : (for_update : Truth) (es : List Entry) (o : Coded (List Row)) → for_update ≡ false → HasNoKeys (made (reading for_update es) o)
reading_none for_update es (Ok rows) e = ap (λ v. keys_wanted v es) e
reading_none for_update es (Err code) e = tt

shown_none : (around : Around) (read : CheckedRead) (es : List Entry) → read.for_update ≡ false → HasNoKeys (shown around read es)
shown_none around read es e = by read.count
  where
    by : (v : Truth) → HasNoKeys (if v then Ok (counted (length es)) else behind (limit_in around read.limit) (λ limit. listed around read (cut limit (ordered read.order es))))
    by true = refl
    by false = behind_none (limit_in around read.limit) (λ limit. listed around read (cut limit (ordered read.order es))) (λ limit. reading_none read.for_update (cut limit (ordered read.order es)) _ e)

read_none : (around : Around) (view : View) (read : CheckedRead) → read.for_update ≡ false → HasNoKeys (read_in around view read)
read_none around view read e = behind_none (walked (kept around read.filter) (entries_read view read.table)) (shown around read) (λ es. shown_none around read es e)

-- a statement of the class of reads
no_update : (v : Truth) → (if v then classes.LockingRead else classes.Read) ≡ classes.Read → v ≡ false
no_update true e = absurd (cc)
no_update false e = refl

no_insert : (v : Truth) (table : ℕ) → (if v then classes.SerialInsert table else classes.Write verbs.Insert) ≡ classes.Read → ⊥
no_insert true table e = cc
no_insert false table e = cc

read_body : (b : CheckedBody) → class_in b ≡ classes.Read → (read : CheckedRead) × (b ≡ body.Read read) × (read.for_update ≡ false)
read_body (body.Read read) e = (read, refl, no_update read.for_update e)
read_body (body.Insert insert) e = absurd (no_insert (has_serial insert.rows) insert.table e)
read_body (body.Change change) e = absurd (cc)
read_body (body.Remove remove) e = absurd (cc)

abbrev pub OnlyReads : Given → Type 0
OnlyReads (Fails code) = Unit {0}
OnlyReads (Gives answer changes places) = (rows : List Row) × (answer ≡ answers.Rows rows) × (changes ≡ no_changes) × (places ≡ [])

keys_none : (table : Option ℕ) (keys : List Value) → keys ≡ [] → keys_in table keys ≡ []
keys_none None keys e = refl
keys_none (Some table) keys e = ap (map (place table)) e

found_reads : (table : Option ℕ) (o : Coded ReadEffect) → HasNoKeys o → OnlyReads (given_as table (made Reads o))
found_reads table (Ok read) e = (read.rows, refl, refl, keys_none table read.keys e)
found_reads table (Err code) e = tt

pub only_reads : (tables : List TableDef) (checked : Checked) (view : Rows) (next : Option ℤ) → class_in checked.body ≡ classes.Read → OnlyReads (effect_of tables checked view next).given
unfolding effect_of
only_reads tables checked view next e =
    let c = read_body checked.body e in
    subst (λ (b : CheckedBody). OnlyReads (given_as (table_in checked) (given_by alone tables b view (number_from next)))) (sym c.1)
    (found_reads (table_in checked) (read_in alone view c.0) (read_none alone view c.0 c.2))

-- it leaves the transaction as it is
joined_none : (old : Changes) → joined_changes no_changes old ≡ old
joined_none old = same_changes (joined_changes no_changes old) old (λ q. get-joined_changes no_changes old q ∙ ap (λ c. change_over c (fin.get old q)) (fin.get-empty place_order q))

pub read_leaves : (g : Given) (u : Live) → OnlyReads g → given_to g u ≡ u
read_leaves (Fails code) u h = refl
read_leaves (Gives answer changes places) u h =
    ap (λ (c : Changes). given_to (Gives answer c places) u) h.2
    ∙ ap (λ (ps : List Place). given_to (Gives answer no_changes ps) u) h.3
    ∙ ap (λ (c : Changes). record { base = u.base; changes = c; held = record { places = u.held.places ++ []; tables = u.held.tables }; stale = u.stale }) (joined_none u.changes)
    ∙ ap (λ (ps : List Place). record { base = u.base; changes = u.changes; held = record { places = ps; tables = u.held.tables }; stale = u.stale }) (append-nil u.held.places)
