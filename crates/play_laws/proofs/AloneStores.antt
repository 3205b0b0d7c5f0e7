-- A store in which one session alone works: nobody crosses it, nothing that it sees is stale.
use Rattle.std.proofs.Common.{◌≡◌, ◌≢◌, ◌==◌, ℕ, ℤ, zero, suc, Bool, true, false, ◌||◌, List, [], ◌∷◌, refl, sym, ap, ◌∙◌, subst, inl, inr}
use Rattle.std.specs.Prelude.{◌&&◌, not, if◌then◌else◌, Option, Some, None}
use Rattle.std.proofs.lemmas.Bool.Decides.{eqb_tells}
use Rattle.schema.specs.declared.catalogue.TableDef.{TableDef}
use Rattle.backend_trait.specs.declared.request.Request.{Request}
use Rattle.backend_trait.specs.declared.request.Request.TheVariants as requests
use Rattle.backend_trait.specs.declared.answer.Answer.{Answer}
use Rattle.backend_trait.specs.Keys.{Place}
use Rattle.backend_trait.specs.Rows.{Rows, with_at}
use Rattle.backend_trait.specs.Effect.{Given, Fails, Gives, effect_of, table_in, both_wants}
use Rattle.backend_trait.specs.Store.{Live, Transaction, Absent, Alive, Dead, Pending, Store, prepared, view_of, next_for, table_lock, posted, begun, given_to, made_stale, where_live, settled, committed_by, drawn, answered, is_refusal, refused, acted}
use Rattle.backend_trait.specs.Acts.{may_be_crossed}
use Rattle.backend_trait.specs.Acting.{acted_by, acted_at, died}
use Rattle.one_copy_model.specs.Numbers.{some_below}
use Rattle.one_copy_model.specs.Marks.{crosses_by, crosses_from, is_crossed, with_mark, marked}
use Rattle.one_copy_model.specs.declared.deed.Deed.{Deed}
use Rattle.one_copy_model.specs.declared.deed.Deed.TheVariants.{Asks, Gets, Falls}
use Rattle.one_copy_model.specs.declared.deed.Entry.{Entry}
use Rattle.one_copy_model.specs.SingleRun.{done_by, store_after}
use Rattle.one_copy_model.proofs.Places.{same_or_other, with_at-same, with_at-other}
use Rattle.play_laws.specs.Alone.{AreOf}

-- a transaction of that session: it began on the rows that are committed, and nothing that it sees is stale
pub record Own (rows : Rows) (x : Transaction) : Type 0 where
  pub fresh : (t : Live) → x ≡ Alive t → (p : Place) → t.stale p ≡ false
  pub base : (t : Live) → x ≡ Alive t → t.base ≡ rows

pub record Lone (s : ℕ) (st : Store) : Type 0 where
  pub others : (o : ℕ) → o ≢ s → st.transaction o ≡ Absent
  pub idle : (o : ℕ) → o ≢ s → st.pending o ≡ None
  pub uncrossed : (p : Pending) → st.pending s ≡ Some p → p.crossed ≡ false
  pub own : Own st.rows (st.transaction s)

own_absent : (rows : Rows) → Own rows Absent
own_absent rows = record { fresh = λ t e p. absurd (cc); base = λ t e. absurd (cc) }

own_dead : (rows : Rows) → Own rows Dead
own_dead rows = record { fresh = λ t e p. absurd (cc); base = λ t e. absurd (cc) }

own_alive : (rows : Rows) (t : Live) → ((p : Place) → t.stale p ≡ false) → t.base ≡ rows → Own rows (Alive t)
own_alive rows t fresh base = record {
  fresh = λ u e p. subst (λ (x : Live). x.stale p ≡ false) (let z : t ≡ u = cc in z) (fresh p);
  base = λ u e. subst (λ (x : Live). x.base ≡ rows) (let z : t ≡ u = cc in z) base;
}

-- what keeps the rows that it began on and what is stale keeps this
own_led : (rows : Rows) (f : Live → Live) → ((t : Live) (p : Place) → (f t).stale p ≡ t.stale p) → ((t : Live) → (f t).base ≡ t.base) → (x : Transaction) → Own rows x → Own rows (where_live f x)
own_led rows f stale base Absent own = own
own_led rows f stale base Dead own = own
own_led rows f stale base (Alive t) own = own_alive rows (f t) (λ p. stale t p ∙ own.fresh t refl p) (base t ∙ own.base t refl)

gives_stale : (g : Given) (t : Live) (p : Place) → (given_to g t).stale p ≡ t.stale p
gives_stale (Fails code) t p = refl
gives_stale (Gives answer changes places) t p = refl

gives_base : (g : Given) (t : Live) → (given_to g t).base ≡ t.base
gives_base (Fails code) t = refl
gives_base (Gives answer changes places) t = refl

-- Steps.

pub lone_prepared : (tables : List TableDef) (s : ℕ) → Lone s (prepared tables)
lone_prepared tables s = record {
  others = λ o other. refl;
  idle = λ o other. refl;
  uncrossed = λ p e. absurd (cc);
  own = own_absent (prepared tables).rows;
}

pub lone_posted : (s : ℕ) (st : Store) (request : Request) → Lone s st → Lone s (posted st s request)
lone_posted s st request h =
    let p : Pending = record { request = request; crossed = false } in
    let here = with_at-same st.pending s (Some p) in
    record {
      others = h.others;
      idle = λ o other. with_at-other st.pending s (Some p) o other ∙ h.idle o other;
      uncrossed = λ q e. let same : Some p ≡ Some q = sym here ∙ e in let z : p ≡ q = cc in subst (λ (x : Pending). x.crossed ≡ false) z refl;
      own = h.own;
    }

-- an answer takes away what waits
module _ (s : ℕ) (st : Store) (h : Lone s st) where
  none_waits : (p : Pending) → with_at st.pending s None s ≡ Some p → p.crossed ≡ false
  none_waits p e = let z : None ≡ Some p = sym (with_at-same st.pending s None) ∙ e in absurd (cc)

  idle_behind : (o : ℕ) → o ≢ s → with_at st.pending s None o ≡ None
  idle_behind o other = with_at-other st.pending s None o other ∙ h.idle o other

  pub lone_settled : (x : Transaction) (next : ℕ → Option ℤ) → Own st.rows x → Lone s (record (settled st s x) { next = next })
  lone_settled x next own = record {
    others = λ o other. with_at-other st.transaction s x o other ∙ h.others o other;
    idle = idle_behind;
    uncrossed = none_waits;
    own = subst (Own st.rows) (sym (with_at-same st.transaction s x)) own;
  }

  lone_committed : (x : Transaction) → Lone s (committed_by st s x)
  lone_committed Absent = lone_settled Absent st.next (own_absent st.rows)
  lone_committed Dead = lone_settled Absent st.next (own_absent st.rows)
  lone_committed (Alive t) =
      let f : ℕ → Transaction = λ o. where_live (made_stale t.changes) (st.transaction o) in
      let rows : Rows = (committed_by st s (Alive t)).rows in
      record {
        others = λ o other. with_at-other f s Absent o other ∙ ap (where_live (made_stale t.changes)) (h.others o other);
        idle = idle_behind;
        uncrossed = none_waits;
        own = subst (Own rows) (sym (with_at-same f s Absent)) (own_absent rows);
      }

  lone_answered : (request : Request) → Lone s (answered st s request)
  lone_answered requests.TakeSnapshot = lone_settled (Alive (begun st.rows)) st.next (own_alive st.rows (begun st.rows) (λ p. refl) refl)
  lone_answered (requests.Run checked) =
      let f : Live → Live = λ t. given_to (effect_of st.tables checked (view_of t) (next_for st.next (table_in checked))).given t in
      lone_settled (where_live f (st.transaction s)) (drawn st.tables st.next (requests.Run checked))
      (own_led st.rows f
      (λ t p. gives_stale (effect_of st.tables checked (view_of t) (next_for st.next (table_in checked))).given t p)
      (λ t. gives_base (effect_of st.tables checked (view_of t) (next_for st.next (table_in checked))).given t)
      (st.transaction s) h.own)
  lone_answered (requests.Lock table) =
      let f : Live → Live = λ t. record t { held = both_wants (table_lock table) t.held } in
      lone_settled (where_live f (st.transaction s)) st.next (own_led st.rows f (λ t p. refl) (λ t. refl) (st.transaction s) h.own)
  lone_answered requests.Commit = lone_committed (st.transaction s)
  lone_answered requests.Rollback = lone_settled Absent st.next (own_absent st.rows)
  lone_answered (requests.ReadSerial table) = lone_settled (st.transaction s) st.next h.own
  lone_answered (requests.SetSerial table n) = lone_settled (st.transaction s) (with_at st.next table (Some n)) h.own

  lone_either : (refuses : Bool) (request : Request) → Lone s (if refuses then refused st s request else answered st s request)
  lone_either true request = lone_settled Dead (drawn st.tables st.next request) (own_dead st.rows)
  lone_either false request = lone_answered request

  pub lone_acted : (request : Request) (answer : Answer) → Lone s (acted st s request answer)
  lone_acted request answer = lone_either (is_refusal answer) request

  lone_acted_by : (answer : Answer) (p : Option Pending) → Lone s (acted_by st s answer p)
  lone_acted_by answer None = h
  lone_acted_by answer (Some p) = lone_acted p.request answer

-- Nobody crosses it.

none_below : (p : ℕ → Bool) → ((o : ℕ) → p o ≡ false) → (n : ℕ) → some_below p n ≡ false
none_below p none zero = refl
none_below p none (suc n) = ap (λ (b : Bool). b || some_below p n) (none n) ∙ none_below p none n

and_none : (b : Bool) → (b && false) ≡ false
and_none true = refl
and_none false = refl

eq_self : (s : ℕ) → (s == s) ≡ true
eq_self s = elim (eqb_tells s s) [ inl p ↦ p.0 | inr p ↦ absurd (p.1 refl) ]

module _ (s : ℕ) (st : Store) (h : Lone s st) where
  crosses_none : (request : Request) (o : ℕ) → crosses_from st s request o ≡ false
  crosses_none request o = elim (same_or_other o s) [
    | inl e ↦ subst (λ (k : ℕ). (not (k == s) && crosses_by st s request k (st.pending k)) ≡ false) (sym e) (ap (λ (b : Bool). not b && crosses_by st s request s (st.pending s)) (eq_self s))
    | inr other ↦ ap (λ (x : Option Pending). not (o == s) && crosses_by st s request o x) (h.idle o other) ∙ and_none (not (o == s))
  ]

  uncrossed_at : (request : Request) → is_crossed st s request ≡ false
  unfolding is_crossed
  uncrossed_at request = ap (λ (b : Bool). may_be_crossed request && b) (none_below (crosses_from st s request) (crosses_none request) 65) ∙ and_none (may_be_crossed request)

  unmarked_at : (x : Option Pending) → st.pending s ≡ x → (p : Pending) → with_mark st s x ≡ Some p → p.crossed ≡ false
  unmarked_at None at p e = absurd (cc)
  unmarked_at (Some q) at p e =
      let m : Pending = record { request = q.request; crossed = q.crossed || is_crossed st s q.request } in
      let same : Some m ≡ Some p = e in
      let z : m ≡ p = cc in
      subst (λ (x : Pending). x.crossed ≡ false) z (ap (λ (b : Bool). b || is_crossed st s q.request) (h.uncrossed q at) ∙ uncrossed_at q.request)

  pub lone_marked : Lone s (marked st)
  lone_marked = record {
    others = h.others;
    idle = λ o other. ap (with_mark st o) (h.idle o other);
    uncrossed = λ p e. unmarked_at (st.pending s) refl p e;
    own = h.own;
  }

-- a deed
pub lone_done : (s : ℕ) (st : Store) (deed : Deed) → Lone s st → Lone s (done_by st s deed)
lone_done s st (Asks request) h = lone_marked s (posted st s request) (lone_posted s st request h)
lone_done s st (Gets answer) h = lone_marked s (acted_at st s answer) (lone_acted_by s st h answer (st.pending s))
lone_done s st (Falls code) h = lone_marked s (died st s) (lone_settled s st h Absent (died st s).next (own_absent st.rows))

pub lone_after : (tables : List TableDef) (s : ℕ) (history : List Entry) → AreOf s history → Lone s (store_after tables history)
lone_after tables s [] all = lone_prepared tables s
lone_after tables s (e ∷ es) all =
    subst (λ (k : ℕ). Lone s (done_by (store_after tables es) k e.deed)) (sym all.0) (lone_done s (store_after tables es) e.deed (lone_after tables s es all.1))
