use Rattle.std.proofs.Common.{◌≡◌, take}
use Rattle.std.specs.Prelude.{true}
use Rattle.std.specs.List.{list_all}
use Rattle.postgres_talk.specs.Forms.{is_small}
use Rattle.postgres_talk.proofs.size.are_small.Given as goal

abbrev pub invariant-loop-row : goal.invariant-loop-row
invariant-loop-row l = list_all is_small (take l.row-index l.rows) ≡ true
