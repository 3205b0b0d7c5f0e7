-- A store keeps a number of each serial column, whatever an honest one answers.
use Rattle.std.proofs.Common.{◌≡◌, ℕ, ℤ, Bool, true, false, List, refl, sym, ap, ◌∙◌, subst, inl, inr}
use Rattle.std.specs.Prelude.{Option, Some, None, is_some, slice_get, if◌then◌else◌}
use Rattle.std.proofs.lemmas.Bool.Decides.{eqb_tells}
use Rattle.schema.specs.declared.catalogue.TableDef.{TableDef}
use Rattle.backend_trait.specs.declared.request.Request.{Request}
use Rattle.backend_trait.specs.declared.request.Request.TheVariants as requests
use Rattle.backend_trait.specs.declared.answer.Polled.{Polled}
use Rattle.backend_trait.specs.declared.answer.Polled.TheVariants as polls
use Rattle.backend_trait.specs.Effect.{table_in, draws_of}
use Rattle.backend_trait.specs.Rows.{with_at}
use Rattle.backend_trait.specs.Store.{Store, Transaction, Absent, Alive, Dead, prepared, first_of, first_number, numbered, next_for, with_draws, drawn, refused, committed_by, answered, is_refusal}
use Rattle.backend_trait.specs.Acts.{Acts}
use Rattle.backend_rolls.specs.Known.{Counts, is_numbered, has_serial}

-- Before the first request.

first_some : (serial : Option ℕ) → is_some serial ≡ true → is_some (first_of serial) ≡ true
first_some None is = absurd (let never : false ≡ true = is in cc)
first_some (Some column) is = refl

numbered_first : (table : Option TableDef) → is_numbered table ≡ true → is_some (first_number table) ≡ true
numbered_first None is = absurd (let never : false ≡ true = is in cc)
numbered_first (Some table) is = first_some table.serial is

pub counts_first : (tables : List TableDef) → Counts tables (prepared tables)
counts_first tables table is = numbered_first (slice_get tables table) is

-- The same numbers, and those of a store that is lost.

pub counts_same : (tables : List TableDef) (old new : Store) → new.next ≡ old.next → Counts tables old → Counts tables new
counts_same tables old new same counts = subst (λ (next : ℕ → Option ℤ). (table : ℕ) → has_serial tables table ≡ true → is_some (next table) ≡ true) (sym same) counts

-- An answer.

numbered_some : (draws : ℕ) (next : Option ℤ) → is_some next ≡ true → is_some (numbered draws next) ≡ true
numbered_some draws None is = absurd (let never : false ≡ true = is in cc)
numbered_some draws (Some n) is = refl

put_at : (next : ℕ → Option ℤ) (at table : ℕ) (number : Option ℤ) → (table ≡ at → is_some number ≡ true) → is_some (next table) ≡ true → is_some (with_at next at number table) ≡ true
put_at next at table number here is = elim (eqb_tells table at) [
  | inl p ↦ ap (λ (c : Bool). is_some (if c then number else next table)) p.0 ∙ here p.1
  | inr p ↦ ap (λ (c : Bool). is_some (if c then number else next table)) p.0 ∙ is
]

draws_some : (next : ℕ → Option ℤ) (of : Option ℕ) (draws table : ℕ) → is_some (next table) ≡ true → is_some (with_draws next of draws table) ≡ true
draws_some next None draws table is = is
draws_some next (Some at) draws table is =
    put_at next at table (numbered draws (next at)) (λ same. numbered_some draws (next at) (subst (λ (t : ℕ). is_some (next t) ≡ true) same is)) is

drawn_some : (tables : List TableDef) (next : ℕ → Option ℤ) (request : Request) (table : ℕ) → is_some (next table) ≡ true → is_some (drawn tables next request table) ≡ true
drawn_some tables next requests.TakeSnapshot table is = is
drawn_some tables next (requests.Run checked) table is = draws_some next (table_in checked) (draws_of tables checked (next_for next (table_in checked))) table is
drawn_some tables next (requests.Lock locked) table is = is
drawn_some tables next requests.Commit table is = is
drawn_some tables next requests.Rollback table is = is
drawn_some tables next (requests.ReadSerial read) table is = is
drawn_some tables next (requests.SetSerial set n) table is = is

committed_some : (st : Store) (s : ℕ) (transaction : Transaction) (table : ℕ) → is_some (st.next table) ≡ true → is_some ((committed_by st s transaction).next table) ≡ true
committed_some st s Absent table is = is
committed_some st s (Alive t) table is = is
committed_some st s Dead table is = is

answered_some : (st : Store) (s : ℕ) (request : Request) (table : ℕ) → is_some (st.next table) ≡ true → is_some ((answered st s request).next table) ≡ true
answered_some st s requests.TakeSnapshot table is = is
answered_some st s (requests.Run checked) table is = drawn_some st.tables st.next (requests.Run checked) table is
answered_some st s (requests.Lock locked) table is = is
answered_some st s requests.Commit table is = committed_some st s (st.transaction s) table is
answered_some st s requests.Rollback table is = is
answered_some st s (requests.ReadSerial read) table is = is
answered_some st s (requests.SetSerial set n) table is = put_at st.next set table (Some n) (λ same. refl) is

acted_some : (st : Store) (s : ℕ) (request : Request) (table : ℕ) (b : Bool) → is_some (st.next table) ≡ true → is_some ((if b then refused st s request else answered st s request).next table) ≡ true
acted_some st s request table true is = drawn_some st.tables st.next request table is
acted_some st s request table false is = answered_some st s request table is

-- What an honest one does at a poll.
pub counts_acts : (tables : List TableDef) (old new : Store) (s : ℕ) (polled : Polled) → Acts old s polled new → Counts tables old → Counts tables new
counts_acts tables old new s (polls.Answered answer) acts counts table is =
    subst (λ (st : Store). is_some (st.next table) ≡ true) (sym acts.leaves) (acted_some old s acts.pending.request table (is_refusal answer) (counts table is))
counts_acts tables old new s polls.NotYet acts counts table is = subst (λ (st : Store). is_some (st.next table) ≡ true) (sym acts) (counts table is)
counts_acts tables old new s polls.Lost acts counts table is = subst (λ (st : Store). is_some (st.next table) ≡ true) (sym acts) (counts table is)
counts_acts tables old new s polls.NoMemory acts counts table is = subst (λ (st : Store). is_some (st.next table) ≡ true) (sym acts) (counts table is)
