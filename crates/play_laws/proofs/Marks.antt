-- Without marks a store does what it does with them.
use Rattle.std.proofs.Common.{◌≡◌, ◌==◌, ℕ, ℤ, Bool, true, false, refl, ap}
use Rattle.std.specs.Prelude.{if◌then◌else◌, Option, Some, None}
use Rattle.backend_trait.specs.declared.request.Request.{Request}
use Rattle.backend_trait.specs.declared.request.Request.TheVariants as requests
use Rattle.backend_trait.specs.declared.answer.Answer.{Answer}
use Rattle.backend_trait.specs.Rows.{with_at}
use Rattle.backend_trait.specs.Store.{Transaction, Absent, Alive, Dead, Pending, Store, is_refusal, posted, settled, drawn, committed_by, refused, answered, acted}
use Rattle.one_copy_model.specs.Marks.{with_mark, marked}
use Rattle.play_laws.specs.Unmarked.{unmark, unmarked}

-- what waits

unmark_mark : (st : Store) (s : ℕ) (p : Option Pending) → unmark (with_mark st s p) ≡ unmark p
unmark_mark st s None = refl
unmark_mark st s (Some p) = refl

unmark_one : (t : Bool) (x y : Option Pending) → unmark (if t then x else y) ≡ (if t then unmark x else unmark y)
unmark_one true x y = refl
unmark_one false x y = refl

unmark_at : (f : ℕ → Option Pending) (s : ℕ) (x : Option Pending) → (λ (o : ℕ). unmark (with_at f s x o)) ≡ with_at (λ (o : ℕ). unmark (f o)) s (unmark x)
unmark_at f s x = λ i. λ o. unmark_one (o == s) x (f o) i

-- a store with this in place of what waits
abbrev waiting : Store → (ℕ → Option Pending) → Store
waiting st pending = record st { pending = pending }

pub unmarked_marked : (st : Store) → unmarked (marked st) ≡ unmarked st
unmarked_marked st = λ i. waiting st (λ s. unmark_mark st s (st.pending s) i)

pub unmarked_posted : (st : Store) (s : ℕ) (request : Request) → unmarked (posted st s request) ≡ posted (unmarked st) s request
unmarked_posted st s request = ap (waiting st) (unmark_at st.pending s (Some (record { request = request; crossed = false })))

-- an answer takes away what waits, and reads no mark

unmarked_settled : (st : Store) (s : ℕ) (transaction : Transaction) → unmarked (settled st s transaction) ≡ settled (unmarked st) s transaction
unmarked_settled st s transaction = ap (waiting (settled st s transaction)) (unmark_at st.pending s None)

unmarked_numbered : (st : Store) (s : ℕ) (transaction : Transaction) (next : ℕ → Option ℤ)
    → unmarked (record (settled st s transaction) { next = next }) ≡ record (settled (unmarked st) s transaction) { next = next }
unmarked_numbered st s transaction next = ap (waiting (record (settled st s transaction) { next = next })) (unmark_at st.pending s None)

unmarked_committed : (st : Store) (s : ℕ) (transaction : Transaction) → unmarked (committed_by st s transaction) ≡ committed_by (unmarked st) s transaction
unmarked_committed st s Absent = unmarked_settled st s Absent
unmarked_committed st s Dead = unmarked_settled st s Absent
unmarked_committed st s (Alive t) = ap (waiting (committed_by st s (Alive t))) (unmark_at st.pending s None)

unmarked_answered : (st : Store) (s : ℕ) (request : Request) → unmarked (answered st s request) ≡ answered (unmarked st) s request
unmarked_answered st s requests.TakeSnapshot = ap (waiting (answered st s requests.TakeSnapshot)) (unmark_at st.pending s None)
unmarked_answered st s (requests.Run checked) = ap (waiting (answered st s (requests.Run checked))) (unmark_at st.pending s None)
unmarked_answered st s (requests.Lock table) = ap (waiting (answered st s (requests.Lock table))) (unmark_at st.pending s None)
unmarked_answered st s requests.Commit = unmarked_committed st s (st.transaction s)
unmarked_answered st s requests.Rollback = unmarked_settled st s Absent
unmarked_answered st s (requests.ReadSerial table) = unmarked_settled st s (st.transaction s)
unmarked_answered st s (requests.SetSerial table n) = ap (waiting (answered st s (requests.SetSerial table n))) (unmark_at st.pending s None)

unmarked_either : (t : Bool) (x y u v : Store) → unmarked x ≡ u → unmarked y ≡ v → unmarked (if t then x else y) ≡ (if t then u else v)
unmarked_either true x y u v a b = a
unmarked_either false x y u v a b = b

pub unmarked_acted : (st : Store) (s : ℕ) (request : Request) (answer : Answer) → unmarked (acted st s request answer) ≡ acted (unmarked st) s request answer
unmarked_acted st s request answer =
    unmarked_either (is_refusal answer) (refused st s request) (answered st s request) (refused (unmarked st) s request) (answered (unmarked st) s request)
    (unmarked_numbered st s Dead (drawn st.tables st.next request)) (unmarked_answered st s request)

-- the stores of a world and of a play, each without its marks, where one of them has changed
pub changed_alike : (w p : ℕ → Store) (b : ℕ) (x y : Store) → ((k : ℕ) → unmarked (w k) ≡ p k) → unmarked x ≡ y → (k : ℕ) → unmarked (with_at w b x k) ≡ with_at p b y k
changed_alike w p b x y all own k = unmarked_either (k == b) x (w k) y (p k) own (all k)
