-- An answer that is granted leaves each session's standing, locks and request as its form says.
use Rattle.std.proofs.Common.{◌≡◌, ◌≢◌, ℕ, true, ◌||◌, ◌==◌, if◌then◌else◌, refl, sym, ap, ◌∙◌, inl, inr}
use Rattle.std.specs.Prelude.{None}
use Rattle.std.proofs.lemmas.Bool.Decides.{eqb_tells}
use Rattle.backend_trait.specs.Rows.{with_at}
use Rattle.backend_trait.specs.Effect.{Given, Fails, Gives}
use Rattle.backend_trait.specs.Acts.{given_of}
use Rattle.backend_trait.specs.Store.{Live, Transaction, Absent, Alive, Dead, Store, WhereLive, Line, HasNone, IsLive, line_of, line_answered, idle_line, no_locks, standing_of, request_in, held_by, settled, begun, given_to, made_stale, where_live, committed_by, answered}
use Rattle.model_store.specs.declared.phase.Waiting.{Waiting}
use Rattle.model_store.specs.declared.phase.Waiting.TheVariants as waits
use Rattle.model_store.specs.Phases.{request_of, with_lock}
use Rattle.model_store.proofs.VerdictLaws.{wants_live}

pub with_at-same : {A : Type 0} (f : ℕ → A) (i : ℕ) (x : A) → with_at f i x i ≡ x
with_at-same f i x = elim (eqb_tells i i) [ inl p ↦ ap (λ b. if b then x else f i) p.0 | inr p ↦ absurd (p.1 refl) ]

pub with_at-other : {A : Type 0} (f : ℕ → A) (i : ℕ) (x : A) (j : ℕ) → j ≢ i → with_at f i x j ≡ f j
with_at-other f i x j other = elim (eqb_tells j i) [ inl p ↦ absurd (other p.1) | inr p ↦ ap (λ b. if b then x else f j) p.0 ]

abbrev pub line_by : Transaction → Line
line_by x = idle_line (standing_of x) (held_by x).tables

-- the session's line is that of its new transaction, and the others stay
lines_by : (old new : Store) (s : ℕ) (x : Transaction) (line : Line) → new.transaction s ≡ x → new.pending s ≡ None → line_by x ≡ line
    → ((o : ℕ) → o ≢ s → line_of new o ≡ line_of old o) → (o : ℕ) → line_of new o ≡ with_at (line_of old) s line o
lines_by old new s x line own none is others o = elim (eqb_tells o s) [
  | inl p ↦
      let here : line_of new s ≡ line_by x = λ i. record { standing = standing_of (own i); locks = (held_by (own i)).tables; waits = request_in (none i) } in
      ap (line_of new) p.1 ∙ here ∙ is ∙ sym (ap (λ b. if b then line else line_of old o) p.0)
  | inr p ↦ others o p.1 ∙ sym (ap (λ b. if b then line else line_of old o) p.0)
]

pub settled_lines : (st : Store) (s : ℕ) (x : Transaction) (line : Line) → line_by x ≡ line → (o : ℕ) → line_of (settled st s x) o ≡ with_at (line_of st) s line o
settled_lines st s x line is =
    lines_by st (settled st s x) s x line (with_at-same st.transaction s x) (with_at-same st.pending s None) is
    (λ o other i. record {
      standing = standing_of (with_at-other st.transaction s x o other i);
      locks = (held_by (with_at-other st.transaction s x o other i)).tables;
      waits = request_in (with_at-other st.pending s None o other i);
    })

stale_line : (f : Live → Live) → ((t : Live) → (f t).held.tables ≡ t.held.tables) → (x : Transaction) → line_by (where_live f x) ≡ line_by x
stale_line f same Absent = refl
stale_line f same (Alive t) = ap (idle_line IsLive) (same t)
stale_line f same Dead = refl

committed_lines : (st : Store) (s : ℕ) (t : Live) (o : ℕ) → line_of (committed_by st s (Alive t)) o ≡ with_at (line_of st) s (idle_line HasNone no_locks) o
committed_lines st s t =
    let g : ℕ → Transaction = λ o. where_live (made_stale t.changes) (st.transaction o) in
    lines_by st (committed_by st s (Alive t)) s Absent (idle_line HasNone no_locks) (with_at-same g s Absent) (with_at-same st.pending s None) refl
    (λ o other.
    let stay : line_by (with_at g s Absent o) ≡ line_by (st.transaction o) = ap line_by (with_at-other g s Absent o other) ∙ stale_line (made_stale t.changes) (λ u. refl) (st.transaction o) in
    λ i. record { standing = (stay i).standing; locks = (stay i).locks; waits = request_in (with_at-other st.pending s None o other i) })

given_tables : (given : Given) (t : Live) → (given_to given t).held.tables ≡ t.held.tables
given_tables (Fails code) t = refl
given_tables (Gives answer changes places) t = refl

lock_line : (table : ℕ) (x : Transaction) (P : Live → Type 0) → WhereLive x P → line_by (where_live (with_lock table) x) ≡ idle_line (standing_of x) (λ n. (n == table) || (held_by x).tables n)
lock_line table Absent P h = absurd h
lock_line table (Alive t) P h = refl
lock_line table Dead P h = absurd h

live_is : (x : Transaction) (P : Live → Type 0) → WhereLive x P → (t : Live) × (x ≡ Alive t)
live_is Absent P h = absurd h
live_is (Alive t) P h = (t, refl)
live_is Dead P h = absurd h

pub granted_lines : (st : Store) (s : ℕ) (waiting : Waiting) → (wants_live waiting ≡ true → WhereLive (st.transaction s) (λ t. Unit {0}))
    → (o : ℕ) → line_of (answered st s (request_of waiting)) o ≡ with_at (line_of st) s (line_answered (line_of st s) (request_of waiting)) o
granted_lines st s waits.Snapshot live = settled_lines st s (Alive (begun st.rows)) (idle_line IsLive no_locks) refl
granted_lines st s (waits.Run run) live =
    let f : Live → Live = λ t. given_to (given_of st run.statement t) t in
    settled_lines st s (where_live f (st.transaction s)) (line_by (st.transaction s)) (stale_line f (λ t. given_tables (given_of st run.statement t) t) (st.transaction s))
granted_lines st s (waits.Lock table) live =
    settled_lines st s (where_live (with_lock table) (st.transaction s)) (idle_line (standing_of (st.transaction s)) (λ n. (n == table) || (held_by (st.transaction s)).tables n)) (lock_line table (st.transaction s) (λ t. Unit {0}) (live refl))
granted_lines st s waits.Commit live =
    let there = live_is (st.transaction s) (λ t. Unit {0}) (live refl) in
    λ o. ap (λ (x : Transaction). line_of (committed_by st s x) o) there.1 ∙ committed_lines st s there.0 o
granted_lines st s waits.Rollback live = settled_lines st s Absent (idle_line HasNone no_locks) refl
granted_lines st s (waits.ReadSerial table) live = settled_lines st s (st.transaction s) (line_by (st.transaction s)) refl
granted_lines st s (waits.SetSerial table n) live = settled_lines st s (st.transaction s) (line_by (st.transaction s)) refl
