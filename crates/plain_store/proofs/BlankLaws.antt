-- A new store has its tables, without rows.
use Rattle.std.proofs.Common.{◌≡◌, ℕ, zero, suc, Bool, false, List, [], ◌∷◌, ◌++◌, refl, sym, ap, ◌∙◌, subst}
use Rattle.std.specs.Prelude.{ℤ, Option, Some, None, slice_get}
use Rattle.schema.specs.declared.catalogue.TableDef.{TableDef}
use Rattle.schema.specs.Allowed.{AreAllowed}
use Rattle.backend_trait.specs.Typed.{AreAllStored}
use Rattle.backend_trait.specs.declared.request.Request.{Request}
use Rattle.backend_trait.specs.Store.{Transaction, Absent, Pending, prepared}
use Rattle.outcomes.specs.declared.change.ChangeSet.{ChangeSet}
use Rattle.outcomes.specs.Log.{rows_of}
use Rattle.outcomes.proofs.Shaped.{rows_shaped}
use Rattle.plain_store.specs.declared.data.Phase.{Phase}
use Rattle.plain_store.specs.declared.data.Phase.TheVariants as phases
use Rattle.plain_store.specs.Blanks.{AllAre}
use Rattle.plain_store.specs.Phases.{transaction_in, transaction_of, request_at, mark_in, pending_of}
use Rattle.plain_store.specs.Meaning.{store_in}
use Rattle.plain_store.specs.Kept.{IsKept, AreKept, IsStoredIn, AreSeenIn, KeepsRows}
use Rattle.plain_store.proofs.KeptLaws.{none_stored}

pub all_snoc : {A : Type 0} (x : A) (ys : List A) (y : A) → AllAre x ys → y ≡ x → AllAre x (ys ++ y ∷ [])
all_snoc x [] y all is = (is, tt)
all_snoc x (z ∷ zs) y all is = (all.0, all_snoc x zs y all.1 is)

absent_at : (all : List Phase) → AllAre phases.Absent all → (s : ℕ) → transaction_in (slice_get all s) ≡ Absent
absent_at [] h s = refl
absent_at (x ∷ xs) h zero = ap transaction_of h.0
absent_at (x ∷ xs) h (suc s) = absent_at xs h.1 s

idle_at : (asked : List (Option Request)) → AllAre None asked → (s : ℕ) → request_at (slice_get asked s) ≡ None
idle_at [] h s = refl
idle_at (x ∷ xs) h zero = h.0
idle_at (x ∷ xs) h (suc s) = idle_at xs h.1 s

pub blank_is : (next : ℕ → Option ℤ) (tables : List TableDef) (log : List ChangeSet) (all : List Phase) (asked : List (Option Request)) (marks : List Bool) → next ≡ (prepared tables).next → log ≡ [] → AllAre phases.Absent all → AllAre None asked
    → store_in next tables log all asked marks false ≡ prepared tables
blank_is next tables log all asked marks first a b c = λ i. record {
  tables = tables;
  rows = rows_of (a i);
  next = first i;
  transaction = λ s. absent_at all b s i;
  pending = λ s. ap (λ (x : Option Request). pending_of x (mark_in (slice_get marks s))) (idle_at asked c s) i;
  lost = false;
}

-- what a new store keeps
pub blank_kept : (tables : List TableDef) (asked : List (Option Request)) → AllAre None asked → AreKept tables asked
blank_kept tables asked none s = subst (IsKept tables) (sym (idle_at asked none s)) tt

pub blank_stored : (tables : List TableDef) (all : List Phase) → AllAre phases.Absent all → AreSeenIn tables all
blank_stored tables all absent s = subst (IsStoredIn tables) (sym (absent_at all absent s)) tt

pub blank_committed : (tables : List TableDef) (log : List ChangeSet) → log ≡ [] → AreAllStored tables (rows_of log)
blank_committed tables log none = subst (λ (sets : List ChangeSet). AreAllStored tables (rows_of sets)) (sym none) (none_stored tables)

pub allowed_keep : (tables : List TableDef) → AreAllowed tables → KeepsRows tables
allowed_keep tables allowed = λ checked view next answer changes places runnable stored gives. rows_shaped tables checked view runnable stored allowed next answer changes places gives
