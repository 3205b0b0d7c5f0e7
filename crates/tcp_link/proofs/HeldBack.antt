-- An end has one answer, and nothing waits with it. One of a block that has changed nothing changes nothing.
use Rattle.std.proofs.Common.{◌≡◌, ◌∙◌, ℕ, refl, ap, subst}
use Rattle.std.specs.Prelude.{◌||◌, is_some, Bool, false, Option, None}
use Rattle.std.proofs.Math.Path.{fun_ext}
use Rattle.std.specs.FinMap as fin
use Rattle.backend_trait.specs.declared.answer.Answer.{Answer}
use Rattle.backend_trait.specs.declared.answer.Answer.TheVariants.{Done}
use Rattle.backend_trait.specs.declared.request.Request.{Request}
use Rattle.backend_trait.specs.declared.request.Request.TheVariants as requests
use Rattle.backend_trait.specs.Acts.{IsDone, MayAnswer, MustWait}
use Rattle.backend_trait.specs.Keys.{Place, place_order}
use Rattle.backend_trait.specs.Rows.{Changes, no_changes, laid_over, with_at}
use Rattle.backend_trait.specs.Store.{Absent, Alive, Dead, Live, Pending, Store, Transaction, WhereLive, acted, committed_by, made_stale, settled, where_live}
use Rattle.backend_trait.proofs.RowLaws.{laid_over-none}
use Rattle.postgres_talk.specs.declared.spelled.Ending.{Ending}
use Rattle.postgres_talk.specs.declared.spelled.Ending.TheVariants as ending
use Rattle.tcp_link.specs.Debts.{ends_by}

where_done : (x : Transaction) (P : Type 0) → WhereLive x (λ t. P) → P
where_done Absent P h = absurd h
where_done (Alive t) P h = h
where_done Dead P h = absurd h

abbrev pending_as : (request : Request) (crossed : Bool) → Pending
pending_as request crossed = record { request = request; crossed = crossed }

of_end : (st : Store) (s : ℕ) (crossed : Bool) (answer : Answer) (ending : Ending) → MayAnswer st s (pending_as (ends_by ending) crossed) answer → answer ≡ Done
of_end st s crossed answer ending.Commit may = where_done (st.transaction s) (IsDone answer) may
of_end st s crossed answer ending.Rollback may = may

pub one_answer : (st : Store) (s : ℕ) (p : Pending) (answer : Answer) (ending : Ending) → p.request ≡ ends_by ending → MayAnswer st s p answer → answer ≡ Done
one_answer st s p answer ending is may =
    of_end st s p.crossed answer ending (subst (λ (request : Request). MayAnswer st s (pending_as request p.crossed) answer) is may)

pub no_wait : (st : Store) (s : ℕ) (ending : Ending) → MustWait st s (ends_by ending) → ⊥
no_wait st s ending.Commit waits = waits
no_wait st s ending.Rollback waits = waits

is_some-none : {X : Type 0} (c : Option X) → c ≡ None → is_some c ≡ false
is_some-none {X} c none = ap (λ (d : Option X). is_some d) none

stale_same : (t : Live) → made_stale no_changes t ≡ t
stale_same t = λ i. record {
  base = t.base;
  changes = t.changes;
  held = t.held;
  stale = fun_ext (λ (p : Place). ap (λ (b : Bool). b || t.stale p) (is_some-none (fin.get no_changes p) (fin.get-empty place_order p))) i;
}

live_same : (x : Transaction) → where_live (made_stale no_changes) x ≡ x
live_same Absent = refl
live_same (Alive t) = ap Alive (stale_same t)
live_same Dead = refl

committed_same : (st : Store) (s : ℕ) (t : Live) → t.changes ≡ no_changes → committed_by st s (Alive t) ≡ settled st s Absent
committed_same st s t none = λ i. record {
  tables = st.tables;
  rows = (ap (λ (c : Changes). laid_over c st.rows) none ∙ laid_over-none st.rows) i;
  next = st.next;
  transaction =
      with_at (fun_ext (λ (o : ℕ). ap (λ (c : Changes). where_live (made_stale c) (st.transaction o)) none ∙ live_same (st.transaction o)) i) s Absent;
  pending = with_at st.pending s None;
  lost = st.lost;
}

pub same_end : (st : Store) (s : ℕ) (t : Live) → st.transaction s ≡ Alive t → t.changes ≡ no_changes → acted st s requests.Commit Done ≡ acted st s requests.Rollback Done
same_end st s t there none = ap (λ (x : Transaction). committed_by st s x) there ∙ committed_same st s t none
