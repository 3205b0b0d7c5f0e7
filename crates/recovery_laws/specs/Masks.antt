-- What the masks of the sessions and the gate's touched tables say of what the single run's transactions have changed.
use Rattle.std.specs.Prelude.{◌≡◌, ℕ, true, is_some, List, [], ◌∷◌}
use Rattle.std.specs.FinMap as fin
use Rattle.backend_trait.specs.Keys.{Place}
use Rattle.backend_trait.specs.Store.{Live, Transaction, Alive}
use Rattle.session_machine.specs.Rules.{tables_of}
use Rattle.online_recovery.specs.State.{is_touched}
use Rattle.one_copy_model.specs.Tracking.{Tracked, single}
use Rattle.recovery_laws.specs.declared.step.Step.{Step}
use Rattle.recovery_laws.specs.Pool.{Pool, after}

-- what a transaction has changed is in tables of the mask, each of which is one of the 64 that a mask can have
abbrev pub IsWithin : ℕ → Transaction → Type 0
IsWithin mask x = (u : Live) (q : Place) → x ≡ Alive u → is_some (fin.get u.changes q) ≡ true → is_touched mask q.table ≡ true

-- what a live transaction of the single run has changed is in tables of its session's mask
pub record Masked (t : Tracked) : Type 0 where
  pub within : (s : ℕ) → IsWithin (tables_of (t.world.machine s).session.gate) ((single t).transaction s)

-- at each of the steps some recovery has the gate's quiet
abbrev pub IsQuietAlong : Pool → List Step → Type 0
IsQuietAlong p [] = Unit {0}
IsQuietAlong p (e ∷ es) = (¬ (p.gate.quiet ≡ 0)) × IsQuietAlong (after p e) es
