-- The steps of a live transaction.
use Rattle.std.proofs.Common.{◌≡◌, ℕ, zero, suc, ◌<◌, Bool, true, false, ◌||◌, ◌==◌, List, [], ◌++◌, length, map, take, drop, get_or, replicate, set, refl, sym, ap, ◌∙◌, arith, inl, inr}
use Rattle.std.proofs.lemmas.Bool.Decides.{eqb_tells}
use Rattle.std.proofs.lemmas.List.{get_or-set_same, get_or-set_other, take_all, drop_all, map-append}
use Rattle.sql_eval.specs.declared.effect.Change.{Change}
use Rattle.backend_trait.specs.Effect.{changes_of}
use Rattle.backend_trait.specs.Store.{Live, begun}
use Rattle.outcomes.specs.declared.change.ChangeSet.{ChangeSet}
use Rattle.outcomes.specs.declared.spot.Spot.{Spot}
use Rattle.outcomes.specs.Log.{rows_of, has_changed}
use Rattle.outcomes.specs.Spots.{place_of}
use Rattle.model_store.specs.declared.phase.Work.{Work}
use Rattle.model_store.specs.Phases.{live_of, live_after, with_lock}
use Rattle.outcomes.proofs.LogLaws.{changes_joined}

-- a live transaction by its parts
abbrev pub live_by : List ChangeSet → ℕ → List Change → List Spot → List Bool → Live
live_by log mark items held locks = record {
  base = rows_of (take mark log);
  changes = changes_of items;
  held = record { places = map place_of held; tables = λ t. get_or locks t false };
  stale = has_changed (drop mark log);
}

-- a transaction whose changes and places are the same
pub same_live : (log : List ChangeSet) (work : Work) (items : List Change) (held : List Spot) → items ≡ work.own.changes.items → held ≡ work.held.items → live_by log work.mark items held work.locks ≡ live_of log work
same_live log work items held items_are held_are = λ i. record {
  base = rows_of (take work.mark log);
  changes = changes_of (items_are i);
  held = record { places = map place_of (held_are i); tables = λ t. get_or work.locks t false };
  stale = has_changed (drop work.mark log);
}

-- a transaction with changes and places more
pub with_changes_live : (log : List ChangeSet) (before : Work) (more : List Change) (places : List Spot) (items : List Change) (held : List Spot)
    → items ≡ before.own.changes.items ++ more → held ≡ before.held.items ++ places
    → live_by log before.mark items held before.locks ≡ live_after more (map place_of places) (live_of log before)
with_changes_live log before more places items held items_are held_are =
    let changes = ap changes_of items_are ∙ changes_joined before.own.changes.items more in
    let there = ap (map place_of) held_are ∙ map-append place_of before.held.items places in
    λ i. record {
      base = rows_of (take before.mark log);
      changes = changes i;
      held = record { places = there i; tables = λ t. get_or before.locks t false };
      stale = has_changed (drop before.mark log);
    }

lock_at : (locks : List Bool) (n t : ℕ) → n < length locks → get_or (set locks n true) t false ≡ ((t == n) || get_or locks t false)
lock_at locks n t below = elim (eqb_tells t n) [
  | inl p ↦ ap (λ j. get_or (set locks n true) j false) p.1 ∙ get_or-set_same locks n true false below ∙ sym (ap (λ b. b || get_or locks t false) p.0)
  | inr p ↦ get_or-set_other locks n t true false p.1 ∙ sym (ap (λ b. b || get_or locks t false) p.0)
]

-- a transaction with one lock more
with_lock_live : (log : List ChangeSet) (before : Work) (n : ℕ) → n < length before.locks → live_by log before.mark before.own.changes.items before.held.items (set before.locks n true) ≡ with_lock n (live_of log before)
with_lock_live log before n below = λ i. record {
  base = rows_of (take before.mark log);
  changes = changes_of before.own.changes.items;
  held = record { places = map place_of before.held.items; tables = λ t. lock_at before.locks n t below i };
  stale = has_changed (drop before.mark log);
}

pub with_lock_live_at : (log : List ChangeSet) (before : Work) (at n : ℕ) → at ≡ n → n < length before.locks → live_by log before.mark before.own.changes.items before.held.items (set before.locks at true) ≡ with_lock n (live_of log before)
with_lock_live_at log before at n same below = ap (λ j. live_by log before.mark before.own.changes.items before.held.items (set before.locks j true)) same ∙ with_lock_live log before n below

pub none_at : (n t : ℕ) → get_or (replicate n false) t false ≡ false
none_at zero t = refl
none_at (suc n) zero = refl
none_at (suc n) (suc t) = none_at n t

-- a transaction that has just begun
pub begun_live : (log : List ChangeSet) (items : List Change) (held : List Spot) (locks : ℕ) → items ≡ [] → held ≡ [] → live_by log (length log) items held (replicate locks false) ≡ begun (rows_of log)
begun_live log items held locks none no_places =
    let base : rows_of (take (length log) log) ≡ rows_of log = ap rows_of (take_all (length log) log (omega arith)) in
    let stale : drop (length log) log ≡ [] = drop_all (length log) log (omega arith) in
    λ i. record {
      base = base i;
      changes = changes_of (none i);
      held = record { places = map place_of (no_places i); tables = λ t. none_at locks t i };
      stale = has_changed (stale i);
    }
