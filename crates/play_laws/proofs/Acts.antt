-- What an answer leaves of two stores, one of which has more of others.
use Rattle.std.proofs.Common.{◌≡◌, ◌≢◌, ℕ, ℤ, Bool, true, false, refl, sym, ap, ◌∙◌, subst, inl, inr}
use Rattle.std.specs.Prelude.{◌⊎◌, if◌then◌else◌, Option, Some, None}
use Rattle.catalogue.specs.declared.checked.Checked.{Checked}
use Rattle.backend_trait.specs.declared.request.Request.{Request}
use Rattle.backend_trait.specs.declared.request.Request.TheVariants as requests
use Rattle.backend_trait.specs.declared.answer.Answer.{Answer}
use Rattle.backend_trait.specs.Rows.{Changes, with_at, joined_changes}
use Rattle.backend_trait.specs.Effect.{Wants, both_wants, Given, Fails, Gives, effect_of, table_in}
use Rattle.backend_trait.specs.Store.{Live, Transaction, Absent, Alive, Dead, Pending, Store, view_of, next_for, begun, given_to, with_places, made_stale, where_live, table_lock, settled, committed_by, drawn, answered, is_refusal, refused, acted}
use Rattle.one_copy_model.proofs.Places.{with_at-same, with_at-other}
use Rattle.play_laws.specs.Joined.{SameLive, SameOwn}

pub same_live : (t : Live) → SameLive t t
same_live t = record { base = refl; changes = refl; held = refl; stale = λ q e. e }

pub same_own : (x : Transaction) → SameOwn x x
same_own Absent = refl
same_own (Alive t) = (t, refl, same_live t)
same_own Dead = refl

pub is_same : (x y : Transaction) → x ≡ y → SameOwn x y
is_same x y e = subst (SameOwn x) e (same_own x)

-- both are left with transactions of others that were not touched, or in which the same places have become stale
pub record ActsAlike (was : Bool) (s : ℕ) (T U : ℕ → Transaction) (P Q : ℕ → Option Pending) (more less : Store) : Type 0 where
  pub rest : more ≡ record less { transaction = more.transaction; pending = more.pending }
  pub own : SameOwn (more.transaction s) (less.transaction s)
  pub exact : T s ≡ U s → more.transaction s ≡ less.transaction s
  pub others : ((o : ℕ) → o ≢ s → (more.transaction o ≡ T o) × (less.transaction o ≡ U o))
      ⊎ ((c : Changes) × ((o : ℕ) → o ≢ s → (more.transaction o ≡ where_live (made_stale c) (T o)) × (less.transaction o ≡ where_live (made_stale c) (U o))))
  pub more_waits : more.pending ≡ with_at P s None
  pub less_waits : less.pending ≡ with_at Q s None
  pub lost : less.lost ≡ was

module _ (base : Store) (T U : ℕ → Transaction) (P Q : ℕ → Option Pending) (s : ℕ) where
  abbrev from : Store
  from = record base { transaction = T; pending = P }

  abbrev to : Store
  to = record base { transaction = U; pending = Q }

  settled_alike : (x y : Transaction) (next : ℕ → Option ℤ) → SameOwn x y → (T s ≡ U s → x ≡ y) → ActsAlike base.lost s T U P Q (record (settled from s x) { next = next }) (record (settled to s y) { next = next })
  settled_alike x y next same exact = record {
    rest = refl;
    own = subst (λ (z : Transaction). SameOwn z (with_at U s y s)) (sym (with_at-same T s x)) (subst (SameOwn x) (sym (with_at-same U s y)) same);
    exact = λ e. with_at-same T s x ∙ (exact e ∙ sym (with_at-same U s y));
    others = inl (λ o other. (with_at-other T s x o other, with_at-other U s y o other));
    more_waits = refl;
    less_waits = refl;
    lost = refl;
  }

  -- a statement's result
  given_same : (given : Given) (t u : Live) → SameLive t u → SameLive (given_to given t) (given_to given u)
  given_same (Fails code) t u same = same
  given_same (Gives answer changes places) t u same = record {
    base = same.base;
    changes = ap (joined_changes changes) same.changes;
    held = ap (λ (w : Wants). with_places w places) same.held;
    stale = same.stale;
  }

  abbrev result_of : Checked → Live → Live
  result_of checked t = given_to (effect_of base.tables checked (view_of t) (next_for base.next (table_in checked))).given t

  result_same : (checked : Checked) (t u : Live) → SameLive t u → SameLive (result_of checked t) (result_of checked u)
  result_same checked t u same =
      let given : Live → Given = λ x. (effect_of base.tables checked (view_of x) (next_for base.next (table_in checked))).given in
      let alike : given t ≡ given u = ap given (λ i. record { base = sym same.base i; changes = sym same.changes i; held = u.held; stale = u.stale }) in
      subst (λ (g : Given). SameLive (given_to (given t) t) (given_to g u)) alike (given_same (given t) t u same)

  live_same : (f : Live → Live) → ((t u : Live) → SameLive t u → SameLive (f t) (f u)) → (x y : Transaction) → SameOwn x y → SameOwn (where_live f x) (where_live f y)
  live_same f keeps Absent y same = ap (where_live f) same
  live_same f keeps (Alive t) y same = (f same.0, ap (where_live f) same.1, keeps t same.0 same.2)
  live_same f keeps Dead y same = ap (where_live f) same

  lock_same : (table : ℕ) (t u : Live) → SameLive t u → SameLive (record t { held = both_wants (table_lock table) t.held }) (record u { held = both_wants (table_lock table) u.held })
  lock_same table t u same = record { base = same.base; changes = same.changes; held = ap (both_wants (table_lock table)) same.held; stale = same.stale }

  -- a commit
  committed_alike : (x y : Transaction) → SameOwn x y → ActsAlike base.lost s T U P Q (committed_by from s x) (committed_by to s y)
  committed_alike Absent y same = subst (λ (z : Transaction). ActsAlike base.lost s T U P Q (settled from s Absent) (committed_by to s z)) (sym same) (settled_alike Absent Absent base.next refl (λ e. refl))
  committed_alike Dead y same = subst (λ (z : Transaction). ActsAlike base.lost s T U P Q (settled from s Absent) (committed_by to s z)) (sym same) (settled_alike Absent Absent base.next refl (λ e. refl))
  committed_alike (Alive t) y same =
      let u = same.0 in
      subst (λ (z : Transaction). ActsAlike base.lost s T U P Q (committed_by from s (Alive t)) (committed_by to s z)) (sym same.1)
      (subst (λ (c : Changes). ActsAlike base.lost s T U P Q (committed_by from s (Alive t)) (committed_by to s (Alive (record u { changes = c })))) (sym same.2.changes) (record {
        rest = refl;
        own =
            subst (λ (z : Transaction). SameOwn z (with_at (λ o. where_live (made_stale t.changes) (U o)) s Absent s)) (sym (with_at-same (λ o. where_live (made_stale t.changes) (T o)) s Absent))
            (with_at-same (λ o. where_live (made_stale t.changes) (U o)) s Absent);
        exact = λ e. with_at-same (λ o. where_live (made_stale t.changes) (T o)) s Absent ∙ sym (with_at-same (λ o. where_live (made_stale t.changes) (U o)) s Absent);
        others = inr (
          t.changes,
          λ o other. (
            with_at-other (λ k. where_live (made_stale t.changes) (T k)) s Absent o other,
            with_at-other (λ k. where_live (made_stale t.changes) (U k)) s Absent o other,
          ),
        );
        more_waits = refl;
        less_waits = refl;
        lost = refl;
      }))

  module _ (own : SameOwn (T s) (U s)) where
    answered_alike : (request : Request) → ActsAlike base.lost s T U P Q (answered from s request) (answered to s request)
    answered_alike requests.TakeSnapshot = settled_alike (Alive (begun base.rows)) (Alive (begun base.rows)) base.next (same_own (Alive (begun base.rows))) (λ e. refl)
    answered_alike (requests.Run checked) =
        settled_alike (where_live (result_of checked) (T s)) (where_live (result_of checked) (U s)) (drawn base.tables base.next (requests.Run checked))
        (live_same (result_of checked) (result_same checked) (T s) (U s) own) (ap (where_live (result_of checked)))
    answered_alike (requests.Lock table) =
        let locks : Live → Live = λ t. record t { held = both_wants (table_lock table) t.held } in
        settled_alike (where_live locks (T s)) (where_live locks (U s)) base.next (live_same locks (lock_same table) (T s) (U s) own) (ap (where_live locks))
    answered_alike requests.Commit = committed_alike (T s) (U s) own
    answered_alike requests.Rollback = settled_alike Absent Absent base.next refl (λ e. refl)
    answered_alike (requests.ReadSerial table) = settled_alike (T s) (U s) base.next own (λ e. e)
    answered_alike (requests.SetSerial table n) = settled_alike (T s) (U s) (with_at base.next table (Some n)) own (λ e. e)

    pub acted_alike : (request : Request) (answer : Answer) → ActsAlike base.lost s T U P Q (acted from s request answer) (acted to s request answer)
    acted_alike request answer = by (is_refusal answer)
      where
        by : (v : Bool) → ActsAlike base.lost s T U P Q (if v then refused from s request else answered from s request) (if v then refused to s request else answered to s request)
        by true = settled_alike Dead Dead (drawn base.tables base.next request) refl (λ e. refl)
        by false = answered_alike request

-- what an answer leaves of one store
pub record LeftBy (own : Store) (s : ℕ) (new : Store) : Type 0 where
  pub pending : new.pending ≡ with_at own.pending s None
  pub none : (o : ℕ) → o ≢ s → own.transaction o ≡ Absent → new.transaction o ≡ Absent

pub left_by : (own : Store) (s : ℕ) (request : Request) (answer : Answer) → LeftBy own s (acted own s request answer)
left_by own s request answer =
    let a = acted_alike own own.transaction own.transaction own.pending own.pending s (same_own (own.transaction s)) request answer in
    record {
      pending = a.less_waits;
      none = λ o other none. elim a.others [
        | inl f ↦ (f o other).1 ∙ none
        | inr f ↦ (f.1 o other).1 ∙ ap (where_live (made_stale f.0)) none
      ];
    }
