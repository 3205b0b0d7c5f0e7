-- The transaction of a session ends in the single run: by a rollback, by a commit without changes, by a death.
use Rattle.std.proofs.Common.{◌≡◌, ◌≢◌, ℕ, ◌≤◌, false, ◌||◌, List, ◌∷◌, length, refl, sym, ap, ◌∙◌, subst, arith}
use Rattle.std.specs.Prelude.{is_some, Option, Some, None}
use Rattle.std.specs.FinMap as fin
use Rattle.schema.specs.declared.catalogue.TableDef.{TableDef}
use Rattle.backend_trait.specs.declared.request.Request.{Request}
use Rattle.backend_trait.specs.declared.request.Request.TheVariants as requests
use Rattle.backend_trait.specs.declared.answer.Answer.{Answer}
use Rattle.backend_trait.specs.declared.answer.Answer.TheVariants as answers
use Rattle.sql_eval.specs.declared.row.Row.{Row}
use Rattle.backend_trait.specs.Keys.{Place, place_order}
use Rattle.backend_trait.specs.Rows.{Changes, no_changes, with_at, laid_over}
use Rattle.backend_trait.specs.Store.{Live, Transaction, Absent, Alive, Dead, Pending, Store, WhereLive, where_live, made_stale, posted, settled, committed_by}
use Rattle.backend_trait.specs.Acts.{MayAnswer, WhereSome}
use Rattle.backend_trait.proofs.RowLaws.{laid_over-none}
use Rattle.one_copy_model.specs.declared.deed.Deed.TheVariants.{Asks, Gets}
use Rattle.one_copy_model.specs.declared.deed.Entry.{Entry}
use Rattle.one_copy_model.specs.Marks.{is_crossed, with_mark, marked}
use Rattle.one_copy_model.specs.SingleRun.{after_answer, store_after, IsRun, MayDo}
use Rattle.one_copy_model.specs.Places.{commits, rolls_back}
use Rattle.one_copy_model.specs.Deaths.{recorded}
use Rattle.one_copy_model.proofs.Places.{with_at-same, with_at-other}
use Rattle.one_copy_model.proofs.Passing.{Passes, passes_trans, passes_same}
use Rattle.one_copy_model.proofs.Deeds.{entry, deed_passes, gets_is, asked_waits}

pub record Ends (tables : List TableDef) (s : ℕ) (old new : List Entry) : Type 0 where
  pub passes : (o : ℕ) → o ≢ s → Passes tables o old new
  pub rows : (store_after tables new).rows ≡ (store_after tables old).rows
  pub next : (store_after tables new).next ≡ (store_after tables old).next
  pub none : (store_after tables new).transaction s ≡ Absent
  pub clear : (store_after tables new).pending s ≡ None
  pub run : IsRun tables new
  pub longer : length old ≤ length new

-- nothing to end
pub ends_none : (tables : List TableDef) → (s : ℕ) (h : List Entry) → (store_after tables h).transaction s ≡ Absent → (store_after tables h).pending s ≡ None → IsRun tables h → Ends tables s h h
ends_none tables s h none clear run =
    let least : length h ≤ length h = omega arith in
    record { passes = λ o other. passes_same tables o h least; rows = refl; next = refl; none = none; clear = clear; run = run; longer = least }

module _ (tables : List TableDef) (s : ℕ) (h : List Entry) (request : Request) where
  abbrev pub asked : List Entry
  asked = entry s (Asks request) ∷ h

  pub asked_passes : (o : ℕ) → o ≢ s → Passes tables o h asked
  asked_passes o other =
      deed_passes tables s o other (Asks request) h (posted (store_after tables h) s request) refl refl refl refl
      (with_at-other (store_after tables h).pending s (Some (record { request = request; crossed = false })) o other)

  abbrev pub its : Pending
  its = record { request = request; crossed = is_crossed (posted (store_after tables h) s request) s request }

  pub waits : (store_after tables asked).pending s ≡ Some its
  waits = asked_waits (store_after tables h) s request

  -- an answer that settles it, and changes no rows
  module _ (answer : Answer) (x : Store) (is : after_answer (store_after tables asked) s answer ≡ x)
      (rows : x.rows ≡ (store_after tables h).rows) (next : x.next ≡ (store_after tables h).next)
      (others : (o : ℕ) → o ≢ s → x.transaction o ≡ (store_after tables h).transaction o)
      (mine : x.transaction s ≡ Absent)
      (pending : x.pending ≡ with_at (store_after tables asked).pending s None) where
    pub answered_ends : IsRun tables h → MayDo (store_after tables h) s (Asks request) → MayDo (store_after tables asked) s (Gets answer)
        → Ends tables s h (entry s (Gets answer) ∷ asked)
    answered_ends run may_ask may_get = record {
      passes = λ o other. passes_trans tables o h asked (entry s (Gets answer) ∷ asked) (asked_passes o other)
          (deed_passes tables s o other (Gets answer) asked x (ap marked is) rows next (others o other)
          (ap (λ (f : ℕ → Option Pending). f o) pending ∙ with_at-other (store_after tables asked).pending s None o other));
      rows = ap (λ (y : Store). y.rows) is ∙ rows;
      next = ap (λ (y : Store). y.next) is ∙ next;
      none = ap (λ (y : Store). y.transaction s) is ∙ mine;
      clear = ap (λ (y : Store). with_mark y s (y.pending s)) is ∙ ap (with_mark x s) (ap (λ (f : ℕ → Option Pending). f s) pending ∙ with_at-same (store_after tables asked).pending s None);
      run = (may_get, (may_ask, run));
      longer = (let z : length h ≤ length (entry s (Gets answer) ∷ asked) = omega arith in z);
    }

-- a rollback
pub rolled_back : (tables : List TableDef) → (s : ℕ) (h : List Entry) → IsRun tables h → Ends tables s h (recorded s rolls_back h)
rolled_back tables s h run =
    answered_ends tables s h requests.Rollback answers.Done (settled (store_after tables (asked tables s h requests.Rollback)) s Absent)
    (gets_is (store_after tables (asked tables s h requests.Rollback)) s answers.Done (its tables s h requests.Rollback) (waits tables s h requests.Rollback))
    refl refl
    (λ o other. with_at-other (store_after tables h).transaction s Absent o other)
    (with_at-same (store_after tables h).transaction s Absent) refl run (tt, tt)
    (subst (λ (x : Option Pending). WhereSome x (λ p. MayAnswer (store_after tables (asked tables s h requests.Rollback)) s p answers.Done)) (sym (waits tables s h requests.Rollback)) refl)

-- no changes make nothing stale
stale_none : (t : Live) → made_stale no_changes t ≡ t
stale_none t = ap (λ f. record { base = t.base; changes = t.changes; held = t.held; stale = f }) (λ i p. same p i)
  where
    same : (p : Place) → (is_some (fin.get no_changes p) || t.stale p) ≡ t.stale p
    same p = ap (λ (x : Option (Option Row)). is_some x || t.stale p) (fin.get-empty place_order p)

pub unstaled : (x : Transaction) → where_live (made_stale no_changes) x ≡ x
unstaled Absent = refl
unstaled (Alive t) = ap Alive (stale_none t)
unstaled Dead = refl

-- a commit of a transaction without changes
module _ (tables : List TableDef) (s : ℕ) (h : List Entry) (u : Live) (is : (store_after tables h).transaction s ≡ Alive u) (none : u.changes ≡ no_changes) where
  abbrev st : Store
  st = store_after tables (asked tables s h requests.Commit)

  pub committed : (store_after tables h).pending s ≡ None → IsRun tables h → Ends tables s h (recorded s commits h)
  committed clear run =
      answered_ends tables s h requests.Commit answers.Done (committed_by st s (Alive u))
      (gets_is st s answers.Done (its tables s h requests.Commit) (waits tables s h requests.Commit) ∙ ap (committed_by st s) is)
      (ap (λ (c : Changes). laid_over c (store_after tables h).rows) none ∙ laid_over-none (store_after tables h).rows) refl
      (λ o other. with_at-other (λ o. where_live (made_stale u.changes) ((store_after tables h).transaction o)) s Absent o other
      ∙ ap (λ (c : Changes). where_live (made_stale c) ((store_after tables h).transaction o)) none ∙ unstaled ((store_after tables h).transaction o))
      (with_at-same (λ o. where_live (made_stale u.changes) ((store_after tables h).transaction o)) s Absent) refl run
      (subst (λ (x : Transaction). WhereLive x (λ t. Unit {0})) (sym is) tt, clear)
      (subst (λ (x : Option Pending). WhereSome x (λ p. MayAnswer st s p answers.Done)) (sym (waits tables s h requests.Commit))
      (subst (λ (x : Transaction). WhereLive x (λ t. answers.Done ≡ answers.Done)) (sym is) refl))
