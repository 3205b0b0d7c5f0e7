use Rattle.std.proofs.Common.{◌≡◌, ◌++◌, length, map, option_map}
use Rattle.serve_base.specs.Start.{standing_at_start}
use Rattle.serve_base.proofs.start.status_at_start.Given as goal

abbrev pub invariant-loop-left : goal.invariant-loop-left
invariant-loop-left l = l.all ++ map (standing_at_start (option_map (λ f. f.now) l.file) l.now) l.left
    ≡ map (standing_at_start (option_map (λ f. f.now) l.file) l.now) l.nodes

abbrev pub decreases-loop-left : goal.decreases-loop-left
decreases-loop-left l = length l.left
