-- Seats that nobody has taken.
use Rattle.std.proofs.Common.{◌≡◌, ℕ, zero, suc, ◌≤◌, List, [], ◌∷◌, ◌++◌, refl, sym, ap, ◌∙◌, subst, arith}
use Rattle.std.specs.Prelude.{ℤ, Option, None, false, slice_get}
use Rattle.backend_trait.specs.Store.{Absent, blank, prepared}
use Rattle.outcomes.specs.declared.change.ChangeSet.{ChangeSet}
use Rattle.std.specs.Str.{IsUtf8}
use Rattle.schema.specs.declared.catalogue.TableDef.{TableDef}
use Rattle.schema.specs.Reading.{Says}
use Rattle.schema.specs.Allowed.{AreAllowed}
use Rattle.schema_print.proofs.Again.{says_again}
use Rattle.model_store.specs.declared.phase.Phase.TheVariants as phases
use Rattle.model_store.specs.declared.phase.Waiting.{Waiting}
use Rattle.model_store.specs.declared.seat.Seat.{Seat}
use Rattle.model_store.specs.Phases.{transaction_of, pending_of, mark_of, owed, IsGivenAt}
use Rattle.model_store.specs.Stored.{AreStoredIn, AreStoredAt}
use Rattle.outcomes.specs.Log.{rows_of}
use Rattle.model_store.specs.Seats.{transaction_in, pending_in, store_of, mark_in, all_owed, AreGiven}

-- no text says no tables, and a schema can have them
pub none_allowed : AreAllowed []
none_allowed = (omega arith, tt)

pub says_none : IsUtf8 [] → Says [] []
says_none valid = says_again [] [] valid refl none_allowed

abbrev pub AreAbsent : List Seat → Type 0
AreAbsent [] = Unit {0}
AreAbsent (x ∷ xs) = (x.phase ≡ phases.Absent) × (x.waiting ≡ None) × AreAbsent xs

pub absent_snoc : (xs : List Seat) (x : Seat) → AreAbsent xs → x.phase ≡ phases.Absent → x.waiting ≡ None → AreAbsent (xs ++ x ∷ [])
absent_snoc [] x all phase waiting = (phase, waiting, tt)
absent_snoc (y ∷ xs) x all phase waiting = (all.0, all.1, absent_snoc xs x all.2 phase waiting)

pub absent_owed : (xs : List Seat) → AreAbsent xs → all_owed xs ≡ 0
absent_owed [] all = refl
absent_owed (x ∷ xs) all =
    let own : owed x.phase x.waiting ≡ 0 = (λ i. owed (all.0 i) (all.1 i)) in
    omega (arith, own, absent_owed xs all.2)

pub absent_mark : (xs : List Seat) (n : ℕ) → AreAbsent xs → (s : ℕ) → mark_in (slice_get xs s) ≤ n
absent_mark [] n all s = omega arith
absent_mark (x ∷ xs) n all zero = let e : mark_of x.phase ≡ 0 = ap mark_of all.0 in omega (arith, e)
absent_mark (x ∷ xs) n all (suc s) = absent_mark xs n all.2 s

absent_transaction : (log : List ChangeSet) (xs : List Seat) → AreAbsent xs → (s : ℕ) → transaction_in log (slice_get xs s) ≡ Absent
absent_transaction log [] all s = refl
absent_transaction log (x ∷ xs) all zero = ap (transaction_of log) all.0
absent_transaction log (x ∷ xs) all (suc s) = absent_transaction log xs all.2 s

absent_pending : (xs : List Seat) → AreAbsent xs → (s : ℕ) → pending_in (slice_get xs s) ≡ None
absent_pending [] all s = refl
absent_pending (x ∷ xs) all zero = ap pending_of all.1
absent_pending (x ∷ xs) all (suc s) = absent_pending xs all.2 s

-- a new store is blank
pub absent_blank : (numbers : ℕ → Option ℤ) (tables : List TableDef) (log : List ChangeSet) (xs : List Seat) → numbers ≡ (prepared tables).next → tables ≡ [] → log ≡ [] → AreAbsent xs → store_of numbers tables log xs false ≡ blank
absent_blank numbers tables log xs first no_tables none all = λ i. record {
  tables = no_tables i;
  rows = rows_of (none i);
  next = (first ∙ ap (λ (ts : List TableDef). (prepared ts).next) no_tables) i;
  transaction = λ s. absent_transaction log xs all s i;
  pending = λ s. absent_pending xs all s i;
  lost = false;
}

-- no transaction has anything of its own, and no statement waits
pub absent_stored : (tables : List TableDef) (xs : List Seat) → AreAbsent xs → (s : ℕ) → AreStoredAt tables (slice_get xs s)
absent_stored tables [] all s = tt
absent_stored tables (x ∷ xs) all zero = subst (AreStoredIn tables) (sym all.0) tt
absent_stored tables (x ∷ xs) all (suc s) = absent_stored tables xs all.2 s

pub absent_given : (numbers : ℕ → Option ℤ) (tables : List TableDef) (log : List ChangeSet) (xs : List Seat) → AreAbsent xs → AreGiven numbers tables log xs
absent_given numbers tables log [] all s = tt
absent_given numbers tables log (x ∷ xs) all zero =
    subst (λ (w : Option Waiting). IsGivenAt numbers tables log x.phase w) (sym all.1) tt
absent_given numbers tables log (x ∷ xs) all (suc s) = absent_given numbers tables log xs all.2 s
