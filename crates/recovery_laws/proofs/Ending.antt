-- Where the transactions of a copy begin and end, and its locks and numbers.
use Rattle.std.proofs.Common.{◌≡◌, ◌∙◌, ℕ, ℤ, refl, sym, ap, subst}
use Rattle.std.specs.Prelude.{◌==◌, Bool as Truth, true, false, Some, if◌then◌else◌}
use Rattle.std.proofs.lemmas.Bool.{eq-eqb}
use Rattle.backend_trait.specs.declared.request.Request.TheVariants.{Commit, Lock, ReadSerial, SetSerial, TakeSnapshot}
use Rattle.backend_trait.specs.declared.answer.Answer.{Answer}
use Rattle.backend_trait.specs.declared.answer.Answer.TheVariants as answers
use Rattle.backend_trait.specs.Effect.{both_wants}
use Rattle.backend_trait.specs.Rows.{Rows, laid_over, with_at}
use Rattle.backend_trait.specs.Store.{Absent, Alive, Dead, Live, Store, Transaction, WhereLive, acted, answered, begun, committed_by, is_refusal, made_stale, refused, settled, table_lock, view_of, where_live}
use Rattle.backend_trait.specs.Acts.{IsDone}
use Rattle.backend_trait.proofs.RowLaws.{laid_over-none}
use Rattle.recovery_laws.specs.Copied.{Grants, Leaves}

pub snapshot_sees : (rows : Rows) → view_of (begun rows) ≡ rows
snapshot_sees = laid_over-none

pub snapshot_left : (st : Store) (s : ℕ) → acted st s TakeSnapshot answers.Began ≡ settled st s (Alive (begun st.rows))
snapshot_left st s = refl

pub commit_answer : (st : Store) (s : ℕ) (t : Live) (answer : Answer) → Grants st s t Commit answer → answer ≡ answers.Done
commit_answer st s t answer g = subst (λ (r : Transaction). WhereLive r (λ u. IsDone answer)) g.live g.may

pub commit_rows : (st : Store) (s : ℕ) (t : Live) → st.transaction s ≡ Alive t → t.base ≡ st.rows → (acted st s Commit answers.Done).rows ≡ view_of t
commit_rows st s t live base =
    let committed : (committed_by st s (st.transaction s)).rows ≡ laid_over t.changes st.rows = ap (λ (r : Transaction). (committed_by st s r).rows) live in
    committed ∙ ap (laid_over t.changes) (sym base)

next_stays : (st : Store) (s : ℕ) (r : Transaction) → (committed_by st s r).next ≡ st.next
next_stays st s Absent = refl
next_stays st s (Alive t) = refl
next_stays st s Dead = refl

pub commit_next : (st : Store) (s : ℕ) → (acted st s Commit answers.Done).next ≡ st.next
commit_next st s = next_stays st s (st.transaction s)

is_over : (f : ℕ → Transaction) (s : ℕ) → (if s == s then Absent else f s) ≡ Absent
is_over f s = ap (λ (b : Truth). if b then Absent else f s) (eq-eqb s s refl)

ends : (st : Store) (s : ℕ) (r : Transaction) → (committed_by st s r).transaction s ≡ Absent
ends st s Absent = is_over st.transaction s
ends st s (Alive t) = is_over (λ o. where_live (made_stale t.changes) (st.transaction o)) s
ends st s Dead = is_over st.transaction s

pub commit_ends : (st : Store) (s : ℕ) → (acted st s Commit answers.Done).transaction s ≡ Absent
commit_ends st s = ends st s (st.transaction s)

or_absent : (b : Truth) (r : Transaction) → r ≡ Absent → (if b then Absent else r) ≡ Absent
or_absent true r is = refl
or_absent false r is = is

others : (st : Store) (s o : ℕ) (r : Transaction) → st.transaction o ≡ Absent → (committed_by st s r).transaction o ≡ Absent
others st s o Absent is = or_absent (o == s) (st.transaction o) is
others st s o (Alive t) is = or_absent (o == s) (where_live (made_stale t.changes) (st.transaction o)) (ap (where_live (made_stale t.changes)) is)
others st s o Dead is = or_absent (o == s) (st.transaction o) is

pub commit_others : (st : Store) (s o : ℕ) → st.transaction o ≡ Absent → (acted st s Commit answers.Done).transaction o ≡ Absent
commit_others st s o is = others st s o (st.transaction s) is

pub read_next : (st : Store) (s table : ℕ) (answer : Answer) → (acted st s (ReadSerial table) answer).next ≡ st.next
read_next st s table answer = either (is_refusal answer)
  where
    either : (b : Truth) → (if b then refused st s (ReadSerial table) else answered st s (ReadSerial table)).next ≡ st.next
    either true = refl
    either false = refl

abbrev locking : ℕ → Live → Live
locking table t = record t { held = both_wants (table_lock table) t.held }

pub lock_leaves : (st : Store) (s table : ℕ) (t : Live) (answer : Answer) → Grants st s t (Lock table) answer
    → Leaves st s t (λ view. view ≡ view_of t) (acted st s (Lock table) answer)
lock_leaves st s table t answer g = record {
  live = locking table t;
  left = ap (λ (b : Truth). if b then refused st s (Lock table) else answered st s (Lock table)) g.given
      ∙ ap (λ (r : Transaction). settled st s (where_live (locking table) r)) g.live;
  base = refl;
  sees = refl;
}

pub number_set : (st : Store) (s table : ℕ) (number : ℤ)
    → acted st s (SetSerial table number) answers.Done ≡ record (settled st s (st.transaction s)) { next = with_at st.next table (Some number) }
number_set st s table number = refl
