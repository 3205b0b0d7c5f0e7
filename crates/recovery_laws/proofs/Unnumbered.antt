-- In the single run a table without a serial column has no next number.
use Rattle.std.proofs.Common.{◌≡◌, ℕ, Bool, true, false, List, [], ◌∷◌, refl, sym, ap, subst, ◌∙◌, if◌then◌else◌}
use Rattle.std.specs.Prelude.{ℤ, is_some, slice_get, Option, Some, None}
use Rattle.schema.specs.declared.catalogue.TableDef.{TableDef}
use Rattle.backend_trait.specs.declared.request.Request.{Request}
use Rattle.backend_trait.specs.declared.request.Request.TheVariants as requests
use Rattle.backend_trait.specs.declared.answer.Answer.{Answer}
use Rattle.backend_trait.specs.Rows.{with_at}
use Rattle.backend_trait.specs.Effect.{table_in, draws_of}
use Rattle.backend_trait.specs.Store.{Transaction, Absent, Alive, Dead, Pending, Store, WhereLive, MaySetIn, MayPost, first_of, first_number, numbered, with_draws, next_for, drawn, posted, settled, committed_by, answered, refused, is_refusal, acted, request_in}
use Rattle.backend_trait.specs.Acting.{acted_by, drawn_waiting, died}
use Rattle.one_copy_model.specs.declared.deed.Deed.{Deed}
use Rattle.one_copy_model.specs.declared.deed.Deed.TheVariants.{Asks, Gets, Falls}
use Rattle.one_copy_model.specs.declared.deed.Entry.{Entry}
use Rattle.one_copy_model.specs.Marks.{with_mark, marked}
use Rattle.one_copy_model.specs.SingleRun.{done_by, store_after, MayDo, IsRun}
use Rattle.one_copy_model.proofs.Places.{each_at}
use Rattle.recovery_laws.proofs.Scenes.{has_serial}

first_none : (column : Option ℕ) → is_some column ≡ false → first_of column ≡ None
first_none None f = refl
first_none (Some n) f = absurd (let z : true ≡ false = f in cc)

pub plain_first : (x : Option TableDef) → has_serial x ≡ false → first_number x ≡ None
plain_first None e = refl
plain_first (Some table) e = first_none table.serial e

-- no draw makes a number where there is none
pub plain_drawn : (next : ℕ → Option ℤ) (drawing : Option ℕ) (draws table : ℕ) → next table ≡ None → with_draws next drawing draws table ≡ None
plain_drawn next None draws table none = none
plain_drawn next (Some t) draws table none =
    each_at (λ o x. next o ≡ None → x ≡ None) next t (numbered draws (next t)) (λ e. ap (numbered draws) e) (λ o other e. e) table none

plain_asked : (tables : List TableDef) (next : ℕ → Option ℤ) (request : Request) (table : ℕ) → next table ≡ None → drawn tables next request table ≡ None
plain_asked tables next requests.TakeSnapshot table none = none
plain_asked tables next (requests.Run checked) table none = plain_drawn next (table_in checked) (draws_of tables checked (next_for next (table_in checked))) table none
plain_asked tables next (requests.Lock t) table none = none
plain_asked tables next requests.Commit table none = none
plain_asked tables next requests.Rollback table none = none
plain_asked tables next (requests.ReadSerial t) table none = none
plain_asked tables next (requests.SetSerial t n) table none = none

-- a table without a number, whose number nobody sets
abbrev Sets : ℕ → Option Pending → Type 0
Sets table None = ⊥
Sets table (Some p) = (n : ℤ) × (p.request ≡ requests.SetSerial table n)

record IsPlainAt (table : ℕ) (st : Store) : Type 0 where
  next : st.next table ≡ None
  asks : (s : ℕ) → Sets table (st.pending s) → ⊥

marked_plain : (table : ℕ) (st : Store) → IsPlainAt table st → IsPlainAt table (marked st)
marked_plain table st h = record { next = h.next; asks = λ s. by s (st.pending s) (h.asks s) }
  where
    by : (s : ℕ) (p : Option Pending) → (Sets table p → ⊥) → Sets table (with_mark st s p) → ⊥
    by s None never e = e
    by s (Some p) never e = never e

-- a request may be posted that sets no number where there is none
post_sets : (st : Store) (s table : ℕ) (n : ℤ) (x : Transaction) → st.next table ≡ None → WhereLive x (MaySetIn st table n) → ⊥
post_sets st s table n Absent none may = may
post_sets st s table n (Alive l) none may = let z : false ≡ true = sym (ap is_some none) ∙ may.counted in cc
post_sets st s table n Dead none may = may

module _ (table : ℕ) (st : Store) (s : ℕ) (h : IsPlainAt table st) where
  never_sets : (request : Request) → MayPost st s request → (n : ℤ) → request ≡ requests.SetSerial table n → ⊥
  never_sets request may n e = post_sets st s table n (st.transaction s) h.next (subst (MayPost st s) e may)

  posted_plain : (request : Request) → MayPost st s request → IsPlainAt table (posted st s request)
  posted_plain request may = record {
    next = h.next;
    asks = each_at (λ o p. Sets table p → ⊥) st.pending s (Some (record { request = request; crossed = false })) (λ e. never_sets request may e.0 e.1) (λ o other. h.asks o);
  }

  -- nothing of the session waits any more
  settled_plain : (x : Transaction) (next : ℕ → Option ℤ) → next table ≡ None → IsPlainAt table (record (settled st s x) { next = next })
  settled_plain x next none = record { next = none; asks = each_at (λ o p. Sets table p → ⊥) st.pending s None (λ e. e) (λ o other. h.asks o) }

  commit_plain : (x : Transaction) → IsPlainAt table (committed_by st s x)
  commit_plain Absent = settled_plain Absent st.next h.next
  commit_plain Dead = settled_plain Absent st.next h.next
  commit_plain (Alive l) = record { next = h.next; asks = each_at (λ o p. Sets table p → ⊥) st.pending s None (λ e. e) (λ o other. h.asks o) }

  answered_plain : (request : Request) → ((n : ℤ) → request ≡ requests.SetSerial table n → ⊥) → IsPlainAt table (answered st s request)
  answered_plain requests.TakeSnapshot never = settled_plain _ st.next h.next
  answered_plain (requests.Run checked) never = settled_plain _ (drawn st.tables st.next (requests.Run checked)) (plain_asked st.tables st.next (requests.Run checked) table h.next)
  answered_plain (requests.Lock t) never = settled_plain _ st.next h.next
  answered_plain requests.Commit never = commit_plain (st.transaction s)
  answered_plain requests.Rollback never = settled_plain Absent st.next h.next
  answered_plain (requests.ReadSerial t) never = settled_plain (st.transaction s) st.next h.next
  answered_plain (requests.SetSerial t n) never =
      settled_plain (st.transaction s) (with_at st.next t (Some n))
      (each_at (λ o x. ((o ≡ t) → ⊥) → st.next o ≡ None → x ≡ None) st.next t (Some n) (λ other. absurd (other refl)) (λ o other never e. e) table
      (λ same. never n (ap (λ k. requests.SetSerial k n) (sym same))) h.next)

  acted_plain : (request : Request) (answer : Answer) → ((n : ℤ) → request ≡ requests.SetSerial table n → ⊥) → IsPlainAt table (acted st s request answer)
  acted_plain request answer never = by (is_refusal answer)
    where
      by : (v : Bool) → IsPlainAt table (if v then refused st s request else answered st s request)
      by true = settled_plain Dead (drawn st.tables st.next request) (plain_asked st.tables st.next request table h.next)
      by false = answered_plain request never

  answer_plain : (answer : Answer) (p : Option Pending) → (Sets table p → ⊥) → IsPlainAt table (acted_by st s answer p)
  answer_plain answer None never = h
  answer_plain answer (Some p) never = acted_plain p.request answer (λ n e. never (n, e))

  waiting_plain : (request : Option Request) → drawn_waiting st.tables st.next request table ≡ None
  waiting_plain None = h.next
  waiting_plain (Some request) = plain_asked st.tables st.next request table h.next

  done_plain : (deed : Deed) → MayDo st s deed → IsPlainAt table (done_by st s deed)
  done_plain (Asks request) may = marked_plain table (posted st s request) (posted_plain request may.0)
  done_plain (Gets answer) may = marked_plain table (acted_by st s answer (st.pending s)) (answer_plain answer (st.pending s) (h.asks s))
  done_plain (Falls code) may = marked_plain table (died st s) (settled_plain Absent (drawn_waiting st.tables st.next (request_in (st.pending s))) (waiting_plain (request_in (st.pending s))))

run_plain : (tables : List TableDef) (history : List Entry) (table : ℕ) → has_serial (slice_get tables table) ≡ false → IsRun tables history → IsPlainAt table (store_after tables history)
run_plain tables [] table off run = record { next = plain_first (slice_get tables table) off; asks = λ s e. e }
run_plain tables (e ∷ es) table off run = done_plain table (store_after tables es) e.session (run_plain tables es table off run.1) e.deed run.0

pub plain_there : (tables : List TableDef) (history : List Entry) → IsRun tables history → (table : ℕ) → has_serial (slice_get tables table) ≡ false → (store_after tables history).next table ≡ None
plain_there tables history run table off = (run_plain tables history table off run).next
