use Rattle.std.proofs.Common.{◌≡◌, drop, map}
use Rattle.std.specs.Prelude.{◌==◌}
use Rattle.std.specs.List.{list_any}
use Rattle.sql_eval.specs.Views.{Place}
use Rattle.outcomes.specs.Spots.{place_of}
use Rattle.outcomes.proofs.spot.has_spot_in.Given as goal

abbrev pub invariant-loop-place : goal.invariant-loop-place
invariant-loop-place l =
    list_any (λ (p : Place). p.table == l.table) (map place_of (drop l.place-index l.places))
    ≡ list_any (λ (p : Place). p.table == l.table) (map place_of l.places)
