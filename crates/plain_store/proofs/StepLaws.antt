-- What posts and answers leave of the store that the program's data mean.
use Rattle.std.proofs.Common.{◌≡◌, ◌≢◌, ℕ, zero, suc, ◌<◌, Bool, true, false, ◌||◌, ◌==◌, List, [], ◌∷◌, ◌++◌, length, map, refl, sym, ap, ◌∙◌, arith, inl, inr}
use Rattle.std.specs.Prelude.{ℤ, Option, Some, None, slice_get, slice_set, if◌then◌else◌}
use Rattle.std.proofs.lemmas.Bool.Decides.{eqb_tells}
use Rattle.std.proofs.lemmas.List.{map-append}
use Rattle.schema.specs.declared.catalogue.TableDef.{TableDef}
use Rattle.sql_eval.specs.declared.effect.Change.{Change}
use Rattle.backend_trait.specs.declared.request.Request.{Request}
use Rattle.backend_trait.specs.declared.request.Request.TheVariants as requests
use Rattle.backend_trait.specs.declared.answer.Answer.{Answer}
use Rattle.backend_trait.specs.Keys.{Place}
use Rattle.backend_trait.specs.Rows.{Rows, Changes, no_rows, laid_over, with_at}
use Rattle.backend_trait.specs.Effect.{Given, Gives, changes_of}
use Rattle.backend_trait.specs.Store.{Live, Transaction, Absent, Alive, Dead, Store, begun, given_to, posted, settled, made_stale, where_live, committed_by}
use Rattle.outcomes.specs.declared.change.ChangeSet.{ChangeSet}
use Rattle.outcomes.specs.declared.spot.Spot.{Spot}
use Rattle.outcomes.specs.Log.{rows_of, rows_on, is_changed, has_changed}
use Rattle.outcomes.specs.Spots.{place_of}
use Rattle.outcomes.proofs.LogLaws.{rows_on-snoc, has_changed-snoc, changes_joined}
use Rattle.plain_store.specs.declared.data.Work.{Work}
use Rattle.plain_store.specs.declared.data.Phase.{Phase}
use Rattle.plain_store.specs.declared.data.Phase.TheVariants as phases
use Rattle.plain_store.specs.declared.data.Database.{Database}
use Rattle.plain_store.specs.Phases.{changes_in, has_table, live_of, transaction_of, transaction_in, mark_in, request_at, pending_of}
use Rattle.plain_store.specs.Meaning.{store_in, store_of}
use Rattle.plain_store.specs.Steps.{locked, IsSetIn}

pub set_same : {A : Type 0} (xs : List A) (b : ℕ) (x : A) → b < length xs → slice_get (slice_set xs b x) b ≡ Some x
set_same [] b x below = absurd (omega arith)
set_same (z ∷ xs) zero x below = refl
set_same (z ∷ xs) (suc b) x below = set_same xs b x (omega arith)

pub set_other : {A : Type 0} (xs : List A) (b j : ℕ) (x : A) → j ≢ b → slice_get (slice_set xs b x) j ≡ slice_get xs j
set_other [] b j x other = refl
set_other (z ∷ xs) zero zero x other = absurd (other refl)
set_other (z ∷ xs) zero (suc j) x other = refl
set_other (z ∷ xs) (suc b) zero x other = refl
set_other (z ∷ xs) (suc b) (suc j) x other = set_other xs b j x (λ e. other (ap suc e))

-- what is read at each number, where one is new
at_set : {A B : Type 0} (f : Option A → B) (g : ℕ → B) (xs : List A) (at : ℕ) (x : A) (y : B) → at < length xs → f (Some x) ≡ y → ((o : ℕ) → o ≢ at → f (slice_get xs o) ≡ g o)
    → (o : ℕ) → f (slice_get (slice_set xs at x) o) ≡ with_at g at y o
at_set f g xs at x y below is same o = elim (eqb_tells o at) [
  | inl p ↦ ap (λ k. f (slice_get (slice_set xs at x) k)) p.1 ∙ ap f (set_same xs at x below) ∙ is ∙ sym (ap (λ b. if b then y else g o) p.0)
  | inr p ↦ ap f (set_other xs at o x p.1) ∙ same o p.1 ∙ sym (ap (λ b. if b then y else g o) p.0)
]

-- what is there already
there_already : {B : Type 0} (g : ℕ → B) (at o : ℕ) → g o ≡ with_at g at (g at) o
there_already g at o = elim (eqb_tells o at) [
  | inl p ↦ ap g p.1 ∙ sym (ap (λ b. if b then g at else g o) p.0)
  | inr p ↦ sym (ap (λ b. if b then g at else g o) p.0)
]

module _ (next : ℕ → Option ℤ) (tables : List TableDef) (log : List ChangeSet) (all : List Phase) (asked : List (Option Request)) (marks : List Bool) (lost : Bool) where
  abbrev here : Store
  here = store_in next tables log all asked marks lost

  none_asked : (s : ℕ) → s < length asked → (o : ℕ) → pending_of (request_at (slice_get (slice_set asked s None) o)) (mark_in (slice_get marks o)) ≡ with_at here.pending s None o
  none_asked s below o = elim (eqb_tells o s) [
    | inl p ↦ ap (λ k. pending_of (request_at (slice_get (slice_set asked s None) k)) (mark_in (slice_get marks o))) p.1 ∙ ap (λ (x : Option (Option Request)). pending_of (request_at x) (mark_in (slice_get marks o))) (set_same asked s None below)
        ∙ sym (ap (λ b. if b then None else here.pending o) p.0)
    | inr p ↦ ap (λ (x : Option (Option Request)). pending_of (request_at x) (mark_in (slice_get marks o))) (set_other asked s o None p.1) ∙ sym (ap (λ b. if b then None else here.pending o) p.0)
  ]

  pub settled_is : (s : ℕ) (phase : Phase) → s < length all → s < length asked → store_in next tables log (slice_set all s phase) (slice_set asked s None) marks lost ≡ settled here s (transaction_of phase)
  settled_is s phase seated below = λ i. record {
    tables = tables;
    rows = rows_of log;
    next = next;
    transaction = λ o. at_set transaction_in here.transaction all s phase (transaction_of phase) seated refl (λ k other. refl) o i;
    pending = λ o. none_asked s below o i;
    lost = lost;
  }

  pub unasked_is : (s : ℕ) → s < length asked → store_in next tables log all (slice_set asked s None) marks lost ≡ settled here s (here.transaction s)
  unasked_is s below = λ i. record {
    tables = tables;
    rows = rows_of log;
    next = next;
    transaction = λ o. there_already here.transaction s o i;
    pending = λ o. none_asked s below o i;
    lost = lost;
  }

  asked_now : (s : ℕ) (request : Request) → s < length asked → s < length marks → (o : ℕ)
      → pending_of (request_at (slice_get (slice_set asked s (Some request)) o)) (mark_in (slice_get (slice_set marks s false) o)) ≡ with_at here.pending s (Some (record { request = request; crossed = false })) o
  asked_now s request below marked o = elim (eqb_tells o s) [
    | inl p ↦ ap (λ k. pending_of (request_at (slice_get (slice_set asked s (Some request)) k)) (mark_in (slice_get (slice_set marks s false) k))) p.1
        ∙ ap (λ (x : Option (Option Request)). pending_of (request_at x) (mark_in (slice_get (slice_set marks s false) s))) (set_same asked s (Some request) below)
        ∙ ap (λ (x : Option Bool). pending_of (Some request) (mark_in x)) (set_same marks s false marked)
        ∙ sym (ap (λ b. if b then Some (record { request = request; crossed = false }) else here.pending o) p.0)
    | inr p ↦ ap (λ (x : Option (Option Request)). pending_of (request_at x) (mark_in (slice_get (slice_set marks s false) o))) (set_other asked s o (Some request) p.1)
        ∙ ap (λ (x : Option Bool). pending_of (request_at (slice_get asked o)) (mark_in x)) (set_other marks s o false p.1)
        ∙ sym (ap (λ b. if b then Some (record { request = request; crossed = false }) else here.pending o) p.0)
  ]

  pub posted_is : (s : ℕ) (request : Request) → s < length asked → s < length marks → store_in next tables log all (slice_set asked s (Some request)) (slice_set marks s false) lost ≡ posted here s request
  posted_is s request below marked = λ i. record {
    tables = tables;
    rows = rows_of log;
    next = next;
    transaction = here.transaction;
    pending = λ o. asked_now s request below marked o i;
    lost = lost;
  }

-- a live transaction by its parts
abbrev pub live_by : List ChangeSet → List Change → List Spot → List ℕ → List ChangeSet → Live
live_by base changes held tables stale = record {
  base = rows_of base;
  changes = changes_of changes;
  held = record { places = map place_of held; tables = has_table tables };
  stale = has_changed stale;
}

-- sets with the same changes leave the same rows, and the same stale places
rows_same : (rows : Rows) (xs ys : List ChangeSet) → map changes_in xs ≡ map changes_in ys → rows_on rows xs ≡ rows_on rows ys
rows_same rows [] [] e = refl
rows_same rows [] (y ∷ ys) e = absurd (cc)
rows_same rows (x ∷ xs) [] e = absurd (cc)
rows_same rows (x ∷ xs) (y ∷ ys) e =
    let head : changes_in x ≡ changes_in y = cc in
    let tail : map changes_in xs ≡ map changes_in ys = cc in
    ap (λ (cs : List Change). rows_on (laid_over (changes_of cs) rows) xs) head ∙ rows_same (laid_over (changes_of (changes_in y)) rows) xs ys tail

changed_same : (xs ys : List ChangeSet) (p : Place) → map changes_in xs ≡ map changes_in ys → has_changed xs p ≡ has_changed ys p
changed_same [] [] p e = refl
changed_same [] (y ∷ ys) p e = absurd (cc)
changed_same (x ∷ xs) [] p e = absurd (cc)
changed_same (x ∷ xs) (y ∷ ys) p e =
    let head : changes_in x ≡ changes_in y = cc in
    let tail : map changes_in xs ≡ map changes_in ys = cc in
    ap (λ (cs : List Change). is_changed cs p || has_changed xs p) head ∙ ap (λ b. is_changed (changes_in y) p || b) (changed_same xs ys p tail)

-- a copy
pub copied_live : (base base' : List ChangeSet) (own own' : List Change) (held held' : List Spot) (tables tables' : List ℕ) (stale stale' : List ChangeSet)
    → map changes_in base ≡ map changes_in base' → own ≡ own' → held ≡ held' → tables ≡ tables' → map changes_in stale ≡ map changes_in stale'
    → live_by base own held tables stale ≡ live_by base' own' held' tables' stale'
copied_live base base' own own' held held' tables tables' stale stale' a b c d e = λ i. record {
  base = rows_same no_rows base base' a i;
  changes = changes_of (b i);
  held = record { places = map place_of (c i); tables = has_table (d i) };
  stale = λ p. changed_same stale stale' p e i;
}

-- a transaction that has just begun
pub begun_live : (base log : List ChangeSet) (own : List Change) (held : List Spot) (tables : List ℕ) (stale : List ChangeSet)
    → map changes_in base ≡ map changes_in log → own ≡ [] → held ≡ [] → tables ≡ [] → stale ≡ [] → live_by base own held tables stale ≡ begun (rows_of log)
begun_live base log own held tables stale a b c d e = λ i. record {
  base = rows_same no_rows base log a i;
  changes = changes_of (b i);
  held = record { places = map place_of (c i); tables = has_table (d i) };
  stale = has_changed (e i);
}

-- it has run a statement that gives changes and places more
pub given_live : (base : List ChangeSet) (own more : List Change) (held places : List Spot) (tables : List ℕ) (stale : List ChangeSet) (answer : Answer)
    → live_by base (own ++ more) (held ++ places) tables stale ≡ given_to (Gives answer (changes_of more) (map place_of places)) (live_by base own held tables stale)
given_live base own more held places tables stale answer = λ i. record {
  base = rows_of base;
  changes = changes_joined own more i;
  held = record { places = map-append place_of held places i; tables = has_table tables };
  stale = has_changed stale;
}

pub given_live_by : (base : List ChangeSet) (own more own' : List Change) (held places held' : List Spot) (tables : List ℕ) (stale : List ChangeSet) (answer : Answer) → own' ≡ own ++ more → held' ≡ held ++ places
    → live_by base own' held' tables stale ≡ given_to (Gives answer (changes_of more) (map place_of places)) (live_by base own held tables stale)
given_live_by base own more own' held places held' tables stale answer a b =
    ap (λ (cs : List Change). live_by base cs held' tables stale) a
    ∙ (ap (λ (xs : List Spot). live_by base (own ++ more) xs tables stale) b ∙ given_live base own more held places tables stale answer)

or_turned : (a b c : Bool) → (a || (b || c)) ≡ (b || (a || c))
or_turned true true c = refl
or_turned true false c = refl
or_turned false b c = refl

table_snoc : (tables : List ℕ) (t u : ℕ) → has_table (tables ++ t ∷ []) u ≡ (u == t || has_table tables u)
table_snoc [] t u = refl
table_snoc (x ∷ xs) t u = ap (λ b. u == x || b) (table_snoc xs t u) ∙ or_turned (u == x) (u == t) (has_table xs u)

-- it has locked a table more
pub locked_live : (base : List ChangeSet) (own : List Change) (held : List Spot) (tables : List ℕ) (stale : List ChangeSet) (table : ℕ)
    → live_by base own held (tables ++ table ∷ []) stale ≡ locked table (live_by base own held tables stale)
locked_live base own held tables stale table = λ i. record {
  base = rows_of base;
  changes = changes_of own;
  held = record { places = map place_of held; tables = λ u. table_snoc tables table u i };
  stale = has_changed stale;
}

pub locked_live_by : (base : List ChangeSet) (own : List Change) (held : List Spot) (tables tables' : List ℕ) (stale : List ChangeSet) (table : ℕ) → tables' ≡ tables ++ table ∷ []
    → live_by base own held tables' stale ≡ locked table (live_by base own held tables stale)
locked_live_by base own held tables tables' stale table a = ap (λ (ts : List ℕ). live_by base own held ts stale) a ∙ locked_live base own held tables stale table

-- another has committed a set more
pub stale_live : (base : List ChangeSet) (own : List Change) (held : List Spot) (tables : List ℕ) (stale : List ChangeSet) (set : ChangeSet)
    → live_by base own held tables (stale ++ set ∷ []) ≡ made_stale (changes_of set.changes.items) (live_by base own held tables stale)
stale_live base own held tables stale set = λ i. record {
  base = rows_of base;
  changes = changes_of own;
  held = record { places = map place_of held; tables = has_table tables };
  stale = λ p. has_changed-snoc stale set p i;
}

pub stale_live_by : (base : List ChangeSet) (own : List Change) (held : List Spot) (tables : List ℕ) (stale stale' : List ChangeSet) (set : ChangeSet) → stale' ≡ stale ++ set ∷ []
    → live_by base own held tables stale' ≡ made_stale (changes_of set.changes.items) (live_by base own held tables stale)
stale_live_by base own held tables stale stale' set a = ap (λ (xs : List ChangeSet). live_by base own held tables xs) a ∙ stale_live base own held tables stale set

-- each transaction but that of the session
pub stale_at : (changes : Changes) (xs ys : List Phase) → map transaction_of ys ≡ map (λ (phase : Phase). where_live (made_stale changes) (transaction_of phase)) xs
    → (o : ℕ) → transaction_in (slice_get ys o) ≡ where_live (made_stale changes) (transaction_in (slice_get xs o))
stale_at changes [] [] e o = refl
stale_at changes [] (y ∷ ys) e o = absurd (cc)
stale_at changes (x ∷ xs) [] e o = absurd (cc)
stale_at changes (x ∷ xs) (y ∷ ys) e zero = (let head : transaction_of y ≡ where_live (made_stale changes) (transaction_of x) = cc in head)
stale_at changes (x ∷ xs) (y ∷ ys) e (suc o) =
    stale_at changes xs ys (let tail : map transaction_of ys ≡ map (λ (phase : Phase). where_live (made_stale changes) (transaction_of phase)) xs = cc in tail) o

pub committed_is : (next : ℕ → Option ℤ) (tables : List TableDef) (log : List ChangeSet) (all later : List Phase) (asked : List (Option Request)) (marks : List Bool) (lost : Bool) (s : ℕ) (set : ChangeSet) (t : Live)
    → map transaction_of later ≡ map (λ (phase : Phase). where_live (made_stale (changes_of set.changes.items)) (transaction_of phase)) all → t.changes ≡ changes_of set.changes.items
    → settled (store_in next tables (log ++ set ∷ []) later asked marks lost) s Absent ≡ committed_by (store_in next tables log all asked marks lost) s (Alive t)
committed_is next tables log all later asked marks lost s set t stale is = λ i. record {
  tables = tables;
  rows = (rows_on-snoc no_rows log set ∙ ap (λ (c : Changes). laid_over c (rows_of log)) (sym is)) i;
  next = next;
  transaction = with_at (λ o. (stale_at (changes_of set.changes.items) all later stale o ∙ ap (λ (c : Changes). where_live (made_stale c) (transaction_in (slice_get all o))) (sym is)) i) s Absent;
  pending = with_at (store_in next tables log all asked marks lost).pending s None;
  lost = lost;
}

-- what a session has to commit
pub committed_some : (st new : Store) (s : ℕ) (phase : Phase) (set : ChangeSet) → st.transaction s ≡ transaction_of phase → IsSetIn phase (Some set)
    → ((t : Live) → t.changes ≡ changes_of set.changes.items → new ≡ committed_by st s (Alive t)) → new ≡ committed_by st s (st.transaction s)
committed_some st new s phases.Absent set is some h = absurd (cc)
committed_some st new s (phases.Alive work) set is some h = h (live_of work) (ap changes_of (sym some)) ∙ sym (ap (committed_by st s) is)
committed_some st new s phases.Dead set is some h = absurd (cc)

pub committed_none : (st new : Store) (s : ℕ) (phase : Phase) → st.transaction s ≡ transaction_of phase → IsSetIn phase None → new ≡ settled st s Absent → new ≡ committed_by st s (st.transaction s)
committed_none st new s phases.Absent is none h = h ∙ sym (ap (committed_by st s) is)
committed_none st new s (phases.Alive work) is none h = absurd none
committed_none st new s phases.Dead is none h = h ∙ sym (ap (committed_by st s) is)
