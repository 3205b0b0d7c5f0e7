-- In the single run whoever is crossed is marked.
use Rattle.std.proofs.Common.{◌≡◌, ℕ, Bool, true, false, ◌||◌, List, [], ◌∷◌, refl, sym, ap, ◌∙◌, subst, inr}
use Rattle.std.specs.Prelude.{Option, Some, None}
use Rattle.schema.specs.declared.catalogue.TableDef.{TableDef}
use Rattle.backend_trait.specs.declared.request.Request.{Request}
use Rattle.backend_trait.specs.declared.request.Request.TheVariants as requests
use Rattle.backend_trait.specs.Effect.{Conflicts, both_wants}
use Rattle.backend_trait.specs.Store.{held_by, Transaction, Absent, Alive, Dead, Pending, Store, posted}
use Rattle.backend_trait.specs.Acts.{Crosses, asked_by, has_lock, wants_of_run}
use Rattle.session_machine.specs.declared.machine.Point.{Point}
use Rattle.one_copy_model.specs.declared.deed.Deed.{Deed}
use Rattle.one_copy_model.specs.declared.deed.Deed.TheVariants.{Asks, Gets, Falls}
use Rattle.one_copy_model.specs.declared.deed.Entry.{Entry}
use Rattle.one_copy_model.specs.Marks.{is_crossed, with_mark, marked, AsksWithin}
use Rattle.one_copy_model.specs.SingleRun.{after_answer, after_death, done_by, store_after}
use Rattle.one_copy_model.specs.Deaths.{stage_at}
use Rattle.one_copy_model.specs.Tracking.{Tracked, single}
use Rattle.one_copy_model.specs.Invariant.{Invariant, wants_of}
use Rattle.one_copy_model.proofs.MarkLaws.{marked_all}
use Rattle.one_copy_model.proofs.Livings.{clear_idle}

-- a store that has marked its crossings: whoever is crossed has a mark
asked_marked : (x : Store) (s : ℕ) (request : Request) → asked_by (marked x) s request ≡ asked_by x s request
asked_marked x s requests.TakeSnapshot = refl
asked_marked x s (requests.Run checked) = by (x.transaction s)
  where
    by : (y : Transaction) → wants_of_run (marked x) checked y ≡ wants_of_run x checked y
    by Absent = refl
    by (Alive t) = refl
    by Dead = refl
asked_marked x s (requests.Lock table) = refl
asked_marked x s requests.Commit = refl
asked_marked x s requests.Rollback = refl
asked_marked x s (requests.ReadSerial table) = refl
asked_marked x s (requests.SetSerial table n) = refl

lock_marked : (x : Store) (s : ℕ) (request : Request) → has_lock (marked x) s request ≡ has_lock x s request
lock_marked x s requests.TakeSnapshot = refl
lock_marked x s (requests.Run checked) = refl
lock_marked x s (requests.Lock table) = refl
lock_marked x s requests.Commit = refl
lock_marked x s requests.Rollback = refl
lock_marked x s (requests.ReadSerial table) = refl
lock_marked x s (requests.SetSerial table n) = refl

abbrev with_it : Store → ℕ → Pending → Pending
with_it x s p = record { request = p.request; crossed = p.crossed || is_crossed x s p.request }

some_is : (a b : Pending) → Some a ≡ Some b → a ≡ b
some_is a b e = cc

was_waiting : (x : Store) (s : ℕ) (was : Option Pending) (q : Pending) → with_mark x s was ≡ Some q → (p : Pending) × (was ≡ Some p) × (with_it x s p ≡ q)
was_waiting x s None q e = absurd (let z : None ≡ Some q = e in cc)
was_waiting x s (Some p) q e = (p, refl, some_is (with_it x s p) q e)

none_waiting : (x : Store) (s : ℕ) (was : Option Pending) → with_mark x s was ≡ None → was ≡ None
none_waiting x s None e = refl
none_waiting x s (Some p) e = absurd (let z : Some (with_it x s p) ≡ None = e in cc)

unmarked : (x : Store) (s : ℕ) (request : Request) → Crosses (marked x) s request → Crosses x s request
unmarked x s request c =
    let w = was_waiting x c.other (x.pending c.other) c.its c.waits in
    let same : c.its.request ≡ w.0.request = ap (λ (p : Pending). p.request) (sym w.2) in
    record {
      kind = c.kind;
      other = c.other;
      another = c.another;
      its = w.0;
      waits = w.1;
      unlocked = ap (has_lock x c.other) (sym same) ∙ sym (lock_marked x c.other c.its.request) ∙ c.unlocked;
      conflict =
          subst (λ r. Conflicts (asked_by x c.other r) (both_wants (asked_by x s request) (held_by (x.transaction s)))) same
          (subst (λ v. Conflicts v (both_wants (asked_by x s request) (held_by (x.transaction s)))) (asked_marked x c.other c.its.request)
          (subst (λ v. Conflicts (asked_by (marked x) c.other c.its.request) (both_wants v (held_by (x.transaction s)))) (asked_marked x s request) c.conflict));
    }

or_right : (a b : Bool) → b ≡ true → (a || b) ≡ true
or_right true b e = refl
or_right false b e = e

pub full_at : (x : Store) → AsksWithin (marked x) → (s : ℕ) (q : Pending) → (marked x).pending s ≡ Some q → Crosses (marked x) s q.request → q.crossed ≡ true
full_at x within s q e c =
    let w = was_waiting x s (x.pending s) q e in
    let request : q.request ≡ w.0.request = ap (λ (p : Pending). p.request) (sym w.2) in
    let crossed : is_crossed x s w.0.request ≡ true = marked_all x s w.0.request (λ o far. none_waiting x o (x.pending o) (within o far)) (subst (Crosses x s) request (unmarked x s q.request c)) in
    sym (ap (λ (p : Pending). p.crossed) w.2) ∙ or_right w.0.crossed (is_crossed x s w.0.request) crossed

pub full : (tables : List TableDef) → (history : List Entry) → AsksWithin (store_after tables history) → (s : ℕ) (q : Pending) → (store_after tables history).pending s ≡ Some q → Crosses (store_after tables history) s q.request → q.crossed ≡ true
full tables [] within s q e c = absurd (let z : None ≡ Some q = e in cc)
full tables (e ∷ es) within s q f c = by (store_after tables es) e.deed within f c
  where
    by : (st : Store) (deed : Deed) → AsksWithin (done_by st e.session deed) → (done_by st e.session deed).pending s ≡ Some q → Crosses (done_by st e.session deed) s q.request → q.crossed ≡ true
    by st (Asks request) within f c = full_at (posted st e.session request) within s q f c
    by st (Gets answer) within f c = full_at (after_answer st e.session answer) within s q f c
    by st (Falls code) within f c = full_at (after_death st e.session) within s q f c

-- numbers that no session has ask nothing there
pub within_there : (t : Tracked) → Invariant t → AsksWithin (single t)
within_there t h o far = clear_idle t h o (ap (λ (p : Point). wants_of p (stage_at p)) (h.strangers o (inr far)).point)

pub marked_there : (t : Tracked) (s : ℕ) (q : Pending) → Invariant t → (single t).pending s ≡ Some q → Crosses (single t) s q.request → q.crossed ≡ true
marked_there t s q h e c = full t.world.tables t.history (within_there t h) s q e c
