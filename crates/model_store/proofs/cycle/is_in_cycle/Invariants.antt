use Rattle.std.proofs.Common.{◌≡◌, ℕ, not, false, List, length}
use Rattle.std.specs.Prelude.{ℤ, Option}
use Rattle.std.specs.List.{count_by}
use Rattle.schema.specs.declared.catalogue.TableDef.{TableDef}
use Rattle.model_store.specs.Seats.{store_of, AreGiven}
use Rattle.model_store.proofs.WalkLaws.{IsWalked}
use Rattle.model_store.proofs.cycle.is_in_cycle.Given as goal

abbrev pub invariant-walk : goal.invariant-walk
invariant-walk l = record {
  all : length l.followed ≡ 65;
  walked : (numbers : ℕ → Option ℤ) (tables : List TableDef) → AreGiven numbers tables l.log l.seats → IsWalked (store_of numbers tables l.log l.seats false) l.at l.found l.followed;
}

abbrev pub decreases-walk : goal.decreases-walk
decreases-walk l = count_by not l.followed
