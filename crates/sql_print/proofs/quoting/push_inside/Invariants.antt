use Rattle.std.proofs.Common.{◌≡◌, ◌++◌, length}
use denote.Text.{Utf8}
use denote.Shadow.{shadow}
use Rattle.std.specs.Prelude.{string_bytes}
use Rattle.std.specs.List.{flat_map}
use Rattle.sql_print.specs.Spelling.{inside}
use Rattle.sql_print.proofs.quoting.push_inside.Given as goal

abbrev pub invariant-loop-front : goal.invariant-loop-front
invariant-loop-front l = shadow (Utf8 l.rest)
    × (string_bytes l.onto ++ flat_map (inside l.quote) l.rest ≡ string_bytes l.fn.onto ++ flat_map (inside l.quote) l.text)

abbrev pub decreases-loop-front : goal.decreases-loop-front
decreases-loop-front l = length l.rest
